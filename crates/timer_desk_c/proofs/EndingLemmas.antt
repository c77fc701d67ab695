-- Clients whose words are ended one after the other, and looks at their lines.
use Rattle.std.proofs.Common.{◌≡◌, ◌<◌, ◌≤◌, ◌+◌, ◌++◌, ◌==◌, ℕ, List, [], ◌∷◌, length, get_or, refl, sym, ◌∙◌, ap, subst, inl, inr, arith, ne_of_lt}
use borrow.Author.Count.{below_more}
use Rattle.std.specs.Prelude.{Option, None, slice_set}
use Rattle.std.proofs.lemmas.Bool.{cases_eq}
use Rattle.std.proofs.lemmas.List.{get_or-set_same, get_or-set_other, get_or_push, get_or_append_left, length_push, length-set}
use Rattle.timer_base.proofs.Basics.{either}
use Rattle.timer_facility.specs.State.{FacilityState, pending_of}
use Rattle.timer_desk_c.specs.Types.{RingInlet, CLine}
use Rattle.timer_desk.specs.Backlog.{BacklogState, empty_backlog}
use Rattle.timer_desk.specs.Desk.{clients_of, backlog_at}
use Rattle.timer_desk.specs.RingEnds.{line_of_inlet, got_of, given_of}
use Rattle.timer_desk.specs.WindingUp.{KeepsLines, IsWaiting}
use Rattle.timer_desk_c.specs.declared.ending.Unended.{Unended}
use Rattle.timer_desk_c.specs.declared.status.TheConstants.{OK}
use Rattle.timer_desk_c.specs.DeskSlots.{RingDesk}
use Rattle.timer_desk_c.specs.Desks.{WhyNotSettled}
use Rattle.timer_desk_c.specs.Frames.{with_line, is_own}
use Rattle.timer_desk_c.specs.Lines.{submitted_on}
use Rattle.timer_desk_c.specs.Ending.{IsLeft, OnlySettles, WhyNotEnded, IsEndedAt, IsTriedAt, first_left, next_left, AllTried}
use Rattle.timer_desk.specs.Settlement.{HasLooked}
use Rattle.timer_desk_c.specs.Freed.{OnlyLooks}

-- A desk of which more is known.

-- two looks at the line of a client, one after the other
looked_then : (a b d : RingInlet) → HasLooked a b → HasLooked b d → HasLooked a d
looked_then a b d p q = grind arith

pub looks_then : (c : ℕ) (a b d : RingDesk) → OnlyLooks c a b → OnlyLooks c b d → OnlyLooks c a d
looks_then c a b d p q = grind (arith, looked_then)

keeps_nothing : (d : RingDesk) → KeepsLines d d
keeps_nothing d = grind arith

-- what depends on a client's inlet alone, and is the same for the client that was settled, is the same for each
same_at : {X : Type 0} (f : RingInlet → X) (k c : ℕ) (i : RingInlet) (y z : RingDesk) → OnlySettles k y z
    → f (get_or z.inlets k i) ≡ f (get_or y.inlets k i) → f (get_or z.inlets c i) ≡ f (get_or y.inlets c i)
same_at f k c i y z s here = elim (cases_eq c k) [
  | inl e ↦ subst (λ n. f (get_or z.inlets n i) ≡ f (get_or y.inlets n i)) (sym e) here
  | inr e ↦ ap f (s.others c i e)
]

keeps_more : (k : ℕ) (d y z : RingDesk) → KeepsLines d y → OnlySettles k y z → KeepsLines d z
keeps_more k d y z was s = record {
  same_clients = s.same_clients ∙ was.same_clients;
  same_facility = s.same_facility ∙ was.same_facility;
  same_backlogs = s.same_backlogs ∙ was.same_backlogs;
  same_lines = λ c i low. same_at line_of_inlet k c i y z s (s.same_line i) ∙ was.same_lines c i low;
  same_got = λ c i low. same_at got_of k c i y z s (s.same_got i) ∙ was.same_got c i low;
  same_given = λ c i low. same_at given_of k c i y z s (s.same_given i) ∙ was.same_given c i low;
}

-- The first that was left.

first_left-more : (c status : ℕ) (statuses : List ℕ)
    → first_left c (statuses ++ status ∷ []) ≡ next_left (first_left c statuses) (c + length statuses) status
first_left-more c status [] = let e : c ≡ c + 0 = omega arith in ap (λ n. first_left n (status ∷ [])) e
first_left-more c status (s ∷ statuses) = elim (either (s == OK)) [
  | inl k ↦
      let e : c + 1 + length statuses ≡ c + length (s ∷ statuses) = omega arith in
      rw k (first_left-more (c + 1) status statuses ∙ ap (λ n. next_left (first_left (c + 1) statuses) n status) e)
  | inr k ↦ rw k refl
]

-- In one life of the desk's struct.

module _ (lives : ℕ) where
  -- client c was tried at the desk y, at which more is known of the lines of others than at d
  module _ (c : ℕ) (d y : RingDesk) (u v : CLine) (was : KeepsLines d y) (low : c < clients_of d) where
    ended_before : IsEndedAt lives c y u v → IsEndedAt lives c d u v
    ended_before h = record {
      held = h.held;
      own = h.own;
      ended = record {
        client_in_range = low;
        gone = record {
          idle = record { outbox_empty = cc; none_held = cc };
          none_pending = cc;
          all_got = λ i. h.ended.gone.all_got i ∙ was.same_got c i low;
        };
        ended = h.ended.ended;
        all = λ i. h.ended.all i ∙ was.same_given c i low;
        counted = h.ended.counted;
        same_received = h.ended.same_received;
        same_submitted = h.ended.same_submitted;
        same_rings = h.ended.same_rings;
      };
    }

    is_left_before : IsLeft c y (submitted_on u.slot.state) → IsLeft c d (submitted_on u.slot.state)
    is_left_before (inl waits) = inl (λ i. subst (λ (bs : List BacklogState). IsWaiting (get_or bs c (empty_backlog 0))
        (got_of (get_or d.inlets c i)) (submitted_on u.slot.state)) was.same_backlogs
        (subst (λ got. IsWaiting (backlog_at y c) got (submitted_on u.slot.state)) (was.same_got c i low) (waits i)))
    is_left_before (inr pending) = inr (subst (λ (s : FacilityState). 0 < pending_of s c) was.same_facility pending)

    why_before : (status : ℕ) → WhyNotEnded c (is_own c lives u) y u.slot.state status → WhyNotEnded c (is_own c lives u) d u.slot.state status
    why_before status (inl why) = inl (subst (λ n. WhyNotSettled c n (is_own c lives u) u.slot.state status) was.same_clients why)
    why_before status (inr why) = inr (why.0, low, why.2, is_left_before why.3)

    tried_before : (status : ℕ) (i j : RingInlet) → IsTriedAt lives c status y i j u v → IsTriedAt lives c status d i j u v
    tried_before status i j h = record {
      over = λ ok. elim (h.over ok) [ inl freed ↦ inl freed | inr ended ↦ inr (ended_before ended) ];
      left = λ more. elim (h.left more) [
        | inl back ↦ inl (record { held = back.held; why = why_before status back.why; as_before = back.as_before })
        | inr away ↦ inr away
      ];
      same_inlet = h.same_inlet;
      looked = h.looked;
      still_gone = h.still_gone;
    }

  -- The clients that were tried.

  -- each client below k was tried, and the others' lines are as they were
  pub record IsEnding (k : ℕ) (left : Option Unended) (d y : RingDesk) (old now : List CLine) : Type 0 where
    pub keeps : KeepsLines d y
    pub as_many : length now ≡ length old
    pub statuses : List ℕ
    pub one_each : length statuses ≡ k
    pub each : (c : ℕ) (i : RingInlet) (x : CLine) → c < k → IsTriedAt lives c (get_or statuses c OK) d
        (get_or d.inlets c i) (get_or y.inlets c i) (get_or old c x) (get_or now c x)
    pub only : (c : ℕ) (x : CLine) → c < k → get_or now c x ≡ with_line (get_or old c x) (get_or now c x).slot.state
    pub later : (c : ℕ) (x : CLine) → k ≤ c → get_or now c x ≡ get_or old c x
    pub later_inlets : (c : ℕ) (i : RingInlet) → k ≤ c → get_or y.inlets c i ≡ get_or d.inlets c i
    pub left_is : left ≡ first_left 0 statuses

  pub ending_nothing : (d : RingDesk) (lines : List CLine) → IsEnding 0 None d d lines lines
  ending_nothing d lines = record {
    keeps = keeps_nothing d;
    as_many = refl;
    statuses = [];
    one_each = refl;
    each = λ c i x low. absurd (omega arith);
    only = λ c x low. absurd (omega arith);
    later = λ c x high. refl;
    later_inlets = λ c i high. refl;
    left_is = refl;
  }

  -- what holds of each line below k, and of the new one, holds of each below k + 1
  up_to : (P : ℕ → CLine → CLine → Type 0) (k : ℕ) (x line : CLine) (old now : List CLine) → k < length now
      → ((c : ℕ) → c < k → P c (get_or old c x) (get_or now c x)) → P k (get_or old k x) line
      → (c : ℕ) → c < k + 1 → P c (get_or old c x) (get_or (slice_set now k line) c x)
  up_to P k x line old now low was new = below_more (λ n. P n (get_or old n x) (get_or (slice_set now k line) n x)) k
      (λ c under. rw (get_or-set_other now k c line x (ne_of_lt under)) (was c under)) (rw (get_or-set_same now k line x low) new)

  pub ending_more : (k status : ℕ) (left result : Option Unended) (d y z : RingDesk) (old now : List CLine) (line new : CLine)
      → IsEnding k left d y old now → k < length now → length old ≡ clients_of d
      → ((x : CLine) → line ≡ get_or now k x)
      → ((i : RingInlet) → IsTriedAt lives k status y (get_or y.inlets k i) (get_or z.inlets k i) line new)
      → OnlySettles k y z → new ≡ with_line line new.slot.state → result ≡ next_left left k status
      → IsEnding (k + 1) result d z old (slice_set now k new)
  ending_more k status left result d y z old now line new was low clients is tried settles only next =
      let many = was.as_many in
      let statuses : List ℕ = was.statuses ++ status ∷ [] in
      let client : k < clients_of d = omega (arith, low, clients, many) in
      let at : k ≡ 0 + length was.statuses = let n = was.one_each in omega (arith, n) in
      let same : (x : CLine) → line ≡ get_or old k x = λ x. is x ∙ was.later k x (omega arith) in record {
        keeps = keeps_more k d y z was.keeps settles;
        as_many = length-set now k new ∙ was.as_many;
        statuses = statuses;
        one_each = length_push was.statuses status ∙ ap (λ n. n + 1) was.one_each;
        each = λ c i x. up_to (λ n u v. IsTriedAt lives n (get_or statuses n OK) d (get_or d.inlets n i) (get_or z.inlets n i) u v)
            k x new old now low
            (λ c under. rw (
              get_or_append_left was.statuses (status ∷ []) OK c (let n = was.one_each in omega (arith, n, under)),
              settles.others c i (ne_of_lt under),
            ) (was.each c i x under))
            (rw (get_or_push was.statuses status OK k was.one_each, sym (was.later_inlets k i (omega arith)), sym (same x))
            (tried_before k d y line new was.keeps client status (get_or y.inlets k i) (get_or z.inlets k i) (tried i))) c;
        only = λ c x. up_to (λ n u v. v ≡ with_line u v.slot.state) k x new old now low (λ c. was.only c x)
            (subst (λ v. new ≡ with_line v new.slot.state) (same x) only) c;
        later = λ c x high. get_or-set_other now k c new x (λ e. absurd (omega arith)) ∙ was.later c x (omega (arith, high));
        later_inlets = λ c i high. settles.others c i (λ e. absurd (omega arith)) ∙ was.later_inlets c i (omega (arith, high));
        left_is = next ∙ ap (λ o. next_left o k status) was.left_is
            ∙ ap (λ n. next_left (first_left 0 was.statuses) n status) at ∙ sym (first_left-more 0 status was.statuses);
      }

  pub ending_done : (k : ℕ) (left : Option Unended) (d y : RingDesk) (old now : List CLine) → IsEnding k left d y old now
      → k ≡ length old → length old ≡ clients_of d → AllTried lives left d y old now
  ending_done k left d y old now h all many = record {
    as_many = many;
    statuses = h.statuses;
    one_each = h.one_each ∙ all ∙ many;
    each = λ c i x low. h.each c i x (omega (arith, all, many, low));
    left_is = h.left_is;
  }
