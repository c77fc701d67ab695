-- The laws of reports, each proved once by induction over the chain of members.
use Rattle.std.proofs.Common.{◌≡◌, ℕ, ◌+◌, ◌-◌, ◌<◌, ◌≤◌, Bool, true, false, List, [], ◌∷◌, ◌++◌, length, get_or, refl, sym, subst, ◌∙◌, ap, inl, inr, append_assoc, append-nil, length-append, arith}
use Rattle.std.specs.Prelude.{take, drop, if◌then◌else◌, Option, Some, None}
use Rattle.std.proofs.Math.Seq.{take-length, take-append_seam}
use Rattle.timer_base.proofs.Basics.{either}
use Rattle.timer_desk.specs.Types.{Notice, Out, Numbered, Word, Served, Done}
use Rattle.timer_facility.specs.State.{FacilityState, pending_of}
use Rattle.timer_facility.specs.Step.{StepResult, step}
use Rattle.timer_facility.specs.Run.{PlacedEvent, HistoryEntry, run, history, state_after, outs_of, notices, notices_in}
use Rattle.timer_facility.specs.Owed.{owed}
use Rattle.timer_facility.specs.Facility.{FacilityView, with_nothing_waiting}
use Rattle.timer_desk.specs.declared.report.Served.TheVariants.{Idle, NoRoom, NoMemory, Did}
use Rattle.timer_desk.specs.Inlet.{LineKind}
use Rattle.timer_desk.specs.Backlog.{BacklogState, notices_for}
use Rattle.timer_desk.specs.Extends.{Extends, Extends-refl, Extends-front, Extends-is, Extends-trans}
use Rattle.timer_desk.specs.Forward.{RanOutOfMemory}
use Rattle.timer_desk.specs.Report.{Account, got_but_held, held_list, requests_left, HeldIsLast, IsAccount, ClientAccount, Runs, asked, words, flushed, events, outs, asked_in, words_in, flushed_in, events_in, outs_in}
use Rattle.timer_desk.specs.Member.{Moment, ServeRespectsRoom, FacilityMember, IsRight, waiting_outs, is_notice, hands_out, is_any, account_then, IsKept, Member, Members}
use Rattle.timer_desk.specs.Laws.{IsNeeded, outbox_after, pending_after, RespectsRoom, HasNoticesInTime}
use Rattle.timer_desk.specs.Desk.{DeskState, clients_of, at_rest, account_at, ReportHolds, NoticesFollow, IsOwed, AreOwed}

-- One client.

-- dropping an appended list from the end gives the list before
without_end : {X : Type 0} (xs ys : List X) → take (length (xs ++ ys) - length ys) (xs ++ ys) ≡ xs
without_end xs ys =
    let n : length (xs ++ ys) - length ys ≡ length xs = let l = length-append xs ys in omega arith in
    ap (λ k. take k (xs ++ ys)) n ∙ take-append_seam xs ys

-- if what was got ends in what is held, the rest is what was got without it
got_but_held_is : (a : Account) (xs : List Numbered) → xs ++ held_list a.backlog.held ≡ a.got → got_but_held a ≡ xs
got_but_held_is a xs h =
    ap (λ got. take (length got - length (held_list a.backlog.held)) got) (sym h) ∙ without_end xs (held_list a.backlog.held)

pub held_last : (a : Account) (xs : List Numbered) → xs ++ held_list a.backlog.held ≡ a.got → HeldIsLast a
held_last a xs h = ap (λ ys. ys ++ held_list a.backlog.held) (got_but_held_is a xs h) ∙ h

Extends-behind : {X : Type 0} (xs ys zs : List X) → Extends ys zs → Extends (xs ++ ys) (xs ++ zs)
Extends-behind xs ys zs h =
    ap (take (length (xs ++ ys))) (ap (λ us. xs ++ us) (Extends-is ys zs h) ∙ sym (append_assoc xs ys (drop (length ys) zs)))
    ∙ Extends-front (xs ++ ys) (drop (length ys) zs)

IsAccount-joined : (rs qs : List Numbered) (ws vs : List Word) (n m : ℕ) (x y z : Account) → IsAccount rs ws n x y
    → IsAccount qs vs m y z → IsAccount (rs ++ qs) (ws ++ vs) (n + m) x z
IsAccount-joined rs qs ws vs n m x y z f g =
    let held : List Numbered = held_list z.backlog.held in
    let between : got_but_held y ≡ got_but_held x ++ rs = got_but_held_is y (got_but_held x ++ rs) f.asked_are in record {
      held_first = subst (Extends (held_list x.backlog.held)) (sym (append_assoc rs qs held))
          (Extends-trans (held_list x.backlog.held) (rs ++ held_list y.backlog.held) (rs ++ (qs ++ held)) f.held_first
          (Extends-behind rs (held_list y.backlog.held) (qs ++ held) g.held_first));
      asked_are = ap (λ xs. xs ++ held) (sym (append_assoc (got_but_held x) rs qs)) ∙ ap (λ xs. xs ++ qs ++ held) (sym between)
          ∙ g.asked_are;
      words_are = g.words_are ∙ ap (λ xs. xs ++ vs) f.words_are ∙ append_assoc (x.given ++ x.backlog.outbox) ws vs;
      flushed_are = let a = f.flushed_are in let b = g.flushed_are in omega arith;
      fewer_left = let e = length-append rs qs in let a = f.fewer_left in let b = g.fewer_left in omega arith;
      same_room = g.same_room ∙ f.same_room;
    }

pub IsAccount-nothing : (x : Account) → HeldIsLast x → IsAccount [] [] 0 x x
IsAccount-nothing x last = record {
  held_first = Extends-refl (held_list x.backlog.held);
  asked_are = ap (λ xs. xs ++ held_list x.backlog.held) (append-nil (got_but_held x)) ∙ last;
  words_are = sym (append-nil (x.given ++ x.backlog.outbox));
  flushed_are = omega arith;
  fewer_left = omega arith;
  same_room = refl;
}

-- the outbox has the length that the words and the flushes give
outbox_is : (c : ℕ) (report : List Done) (a b : Account) → ClientAccount c report a b → outbox_after c a report ≡ length b.backlog.outbox
outbox_is c report a b t =
    let w = ap (λ xs. length xs) t.words_are in
    let wa = length-append (a.given ++ a.backlog.outbox) (words c report) in
    let wb = length-append b.given b.backlog.outbox in
    let wc = length-append a.given a.backlog.outbox in
    let f = t.flushed_are in
    omega arith

-- Runs.

state-append : (s : FacilityState) (xs ys : List PlacedEvent) → state_after s (xs ++ ys) ≡ state_after (state_after s xs) ys
state-append s [] ys = refl
state-append s (x ∷ xs) ys = state-append (step s x.event x.place).state xs ys

outs-append : (s : FacilityState) (xs ys : List PlacedEvent) → outs_of (history s (xs ++ ys))
    ≡ outs_of (history s xs) ++ outs_of (history (state_after s xs) ys)
outs-append s [] ys = refl
outs-append s (x ∷ xs) ys =
    let st : StepResult = step s x.event x.place in
    ap (λ os. st.outs ++ os) (outs-append st.state xs ys) ∙ sym
    (append_assoc st.outs (outs_of (history st.state xs)) (outs_of (history (state_after st.state xs) ys)))

-- the members make a run over their events: what waited and its outs are their outs and what waits then
record AreRun (report : List Done) (f g : FacilityView) : Type 0 where
  outs_are : waiting_outs f ++ (run f.state (events report)).outs ≡ outs report ++ waiting_outs g
  state_is : g.state ≡ (run f.state (events report)).state

AreRun-more : (d : Done) (r : List Done) (f m g : FacilityView) → FacilityMember d f m → AreRun r m g → AreRun (d ∷ r) f g
AreRun-more d r f m g one rest =
    let before : List Out = (run f.state (events_in d)).outs in record {
      outs_are =
          ap (λ os. waiting_outs f ++ os) (outs-append f.state (events_in d) (events r))
          ∙ sym (append_assoc (waiting_outs f) before (run (state_after f.state (events_in d)) (events r)).outs)
          ∙ ap (λ os. os ++ (run (state_after f.state (events_in d)) (events r)).outs) one.outs_are
          ∙ ap (λ s. (outs_in d ++ waiting_outs m) ++ (run s (events r)).outs) (sym one.state_is)
          ∙ append_assoc (outs_in d) (waiting_outs m) (run m.state (events r)).outs
          ∙ ap (λ os. outs_in d ++ os) rest.outs_are
          ∙ sym (append_assoc (outs_in d) (outs r) (waiting_outs g));
      state_is = rest.state_is ∙ ap (λ s. state_after s (events r)) one.state_is ∙ sym (state-append f.state (events_in d) (events r));
    }

none_of : (ns : List Notice) → is_any ns ≡ false → ns ≡ []
none_of [] h = refl
none_of (n ∷ ns) h = absurd (cc)

-- Chains.

module _ {I : Type 0} (kind : LineKind I) where
  pub members_append : (r q : List Done) (x y z : Moment I) → Members kind x r y → Members kind y q z → Members kind x (r ++ q) z
  members_append [] q x y z h k = subst (λ m. Members kind m q z) h.0 k
  members_append (d ∷ r) q x y z h k = (h.0, h.1, h.2, members_append r q h.0 y z h.3 k)

  -- a chain is kept at its start and at its end
  pub kept_at_start : (r : List Done) (x z : Moment I) → Members kind x r z → IsKept kind x
  kept_at_start [] x z h = h.1
  kept_at_start (d ∷ r) x z h = h.1

  pub kept_at_end : (r : List Done) (x z : Moment I) → Members kind x r z → IsKept kind z
  kept_at_end [] x z h = subst (IsKept kind) (sym h.0) h.1
  kept_at_end (d ∷ r) x z h = kept_at_end r h.0 z h.3

  pub members_clients : (r : List Done) (x z : Moment I) → Members kind x r z → length z.inlets ≡ length x.inlets
  members_clients [] x z h = ap (λ (m : Moment I). length m.inlets) h.0
  members_clients (d ∷ r) x z h = members_clients r h.0 z h.3 ∙ h.2.same_clients

  pub members_lines : (r : List Done) (x z : Moment I) → Members kind x r z → (c : ℕ) (i : I) → c < length x.inlets
      → kind.same (get_or x.inlets c i) (get_or z.inlets c i)
  members_lines [] x z h c i low = rw h.0 (kind.reflexive (get_or x.inlets c i))
  members_lines (d ∷ r) x z h c i low = kind.transitive (get_or x.inlets c i) (get_or h.0.inlets c i) (get_or z.inlets c i)
      (h.2.lines c i low) (members_lines r h.0 z h.3 c i (let e = h.2.same_clients in omega arith))

  members_account : (r : List Done) (x z : Moment I) → Members kind x r z → (c : ℕ) (i : I) (b : BacklogState) → c < length x.inlets
      → ClientAccount c r (account_then kind x c i b) (account_then kind z c i b)
  members_account [] x z h c i b low = rw h.0 (IsAccount-nothing (account_then kind x c i b) (h.1.held c i b low))
  members_account (d ∷ r) x z h c i b low =
      IsAccount-joined (asked_in c d) (asked c r) (words_in c d) (words c r) (flushed_in c d) (flushed c r) (account_then kind x c i b)
      (account_then kind h.0 c i b) (account_then kind z c i b)
      (h.2.clients c i b low).account (members_account r h.0 z h.3 c i b (let e = h.2.same_clients in omega arith))

  members_run : (r : List Done) (x z : Moment I) → Members kind x r z → AreRun r x.facility z.facility
  members_run [] x z h = rw h.0 (record { outs_are = append-nil (waiting_outs x.facility); state_is = refl })
  members_run (d ∷ r) x z h = AreRun-more d r x.facility h.0.facility z.facility h.2.facility (members_run r h.0 z h.3)

  notices_follow : (r : List Done) (x z : Moment I) (allowed : Bool) → Members kind x r z → (is_any x.facility.waiting ≡ true → allowed ≡ true)
      → NoticesFollow allowed r
  notices_follow [] x z allowed h k = tt
  notices_follow (d ∷ r) x z allowed h k =
      let one = h.2.facility in (
        λ e. k (sym one.in_turn ∙ e),
        notices_follow r h.0 z (if is_notice d then allowed else hands_out d) h.3 (λ e. elim (either (is_notice d)) [
          | inl is ↦ rw is (k (sym one.in_turn ∙ is))
          | inr isnt ↦ rw isnt (elim (either (hands_out d)) [
            | inl hands ↦ hands
            | inr none ↦ absurd (let n = ap is_any (one.none_left none) in cc)
          ])
        ]),
      )

  -- a chain that is cut before one of its members
  record IsCut (x : Moment I) (past : List Done) (done : Done) (later : List Done) (z : Moment I) : Type 0 where
    before : Moment I
    after : Moment I
    past_are : Members kind x past before
    kept : IsKept kind before
    member : Member kind before done after
    later_are : Members kind after later z

  cut : (past : List Done) (done : Done) (later : List Done) (x z : Moment I) → Members kind x (past ++ done ∷ later) z
      → IsCut x past done later z
  cut [] done later x z h = record { before = x; after = h.0; past_are = (refl, h.1); kept = h.1; member = h.2; later_are = h.3 }
  cut (d ∷ past) done later x z h =
      let c = cut past done later h.0 z h.3 in record {
        before = c.before;
        after = c.after;
        past_are = (h.0, h.1, h.2, c.past_are);
        kept = c.kept;
        member = c.member;
        later_are = c.later_are;
      }

-- Reports.

-- the lemma on every run, at a run's end
abbrev pub IsLaw : FacilityState → Type 0
IsLaw s = (placed : List PlacedEvent) (k : ℕ) → notices (take k (history s placed)) ≡ owed s (take k (history s placed))

owed_so_far : (s : FacilityState) → IsLaw s → (past : List Done) → outs past ≡ (run s (events past)).outs → IsOwed s past
owed_so_far s law past h =
    let hs : List HistoryEntry = history s (events past) in
    ap notices_in h ∙ subst (λ gs. notices gs ≡ owed s gs) (take-length hs) (law (events past) (length hs))

-- no fewer requests are left than are known, so a serve that was right by those is right by these
by_fewer_left : (room len left left' p : ℕ) (served : Served) → left' ≤ left → ServeRespectsRoom room len left p served
    → ServeRespectsRoom room len left' p served
by_fewer_left room len left left' p NoRoom b h = h
by_fewer_left room len left left' p Idle b h = let l = h.1 in (h.0, omega arith)
by_fewer_left room len left left' p NoMemory b h = h
by_fewer_left room len left left' p (Did numbered word) b h = h

needed_first : (refuses : Bool) (c : ℕ) (s : FacilityState) (held : Option Numbered) → RanOutOfMemory refuses c s held
    → IsNeeded refuses c s (held_list held)
needed_first refuses c s (Some numbered) h = inr h.1
needed_first refuses c s None h = h

needed_longer : (may_refuse : Bool) (c : ℕ) (s : FacilityState) (xs ys : List Numbered) → Extends xs ys → IsNeeded may_refuse c s xs
    → IsNeeded may_refuse c s ys
needed_longer may_refuse c s [] [] e h = h
needed_longer may_refuse c s [] (y ∷ ys) e h = inl h
needed_longer may_refuse c s (x ∷ xs) [] e h = absurd (cc)
needed_longer may_refuse c s (x ∷ xs) (y ∷ ys) e h = let same : y ≡ x = cc in rw same h

module _ {I : Type 0} (kind : LineKind I) where
  -- the desk is one desk, and its report that of nothing
  pub ReportHolds-nothing : (x : DeskState I) → IsKept kind (at_rest x) → ReportHolds kind [] x x
  ReportHolds-nothing x kept = record {
    members = (refl, kept);
    same_clients = refl;
    lines = λ c i low. kind.reflexive (get_or x.inlets c i);
  }

  pub joined_reports : (r q : List Done) (x y z : DeskState I) → ReportHolds kind r x y → ReportHolds kind q y z
      → ReportHolds kind (r ++ q) x z
  joined_reports r q x y z f g = record {
    members = members_append kind r q (at_rest x) (at_rest y) (at_rest z) f.members g.members;
    same_clients = g.same_clients ∙ f.same_clients;
    lines = λ c i low. kind.transitive (get_or x.inlets c i) (get_or y.inlets c i) (get_or z.inlets c i) (f.lines c i low)
        (g.lines c i (let e = f.same_clients in omega arith));
  }

  module _ (report : List Done) (x z : DeskState I) (h : ReportHolds kind report x z) where
    pub account_is : (c : ℕ) (i : I) (b : BacklogState) → c < clients_of x
        → ClientAccount c report (account_at kind x c i b) (account_at kind z c i b)
    account_is = members_account kind report (at_rest x) (at_rest z) h.members

    pub makes_run : Runs report x.facility z.facility
    makes_run =
        let all = members_run kind report (at_rest x) (at_rest z) h.members in
        record { outs_are = sym (append-nil (outs report)) ∙ sym all.outs_are; state_is = all.state_is }

    pub follow : NoticesFollow false report
    follow = notices_follow kind report (at_rest x) (at_rest z) false h.members (λ e. absurd (cc))

    module _ (past : List Done) (done : Done) (later : List Done) (is : report ≡ past ++ done ∷ later) where
      there : IsCut kind (at_rest x) past done later (at_rest z)
      there = cut kind past done later (at_rest x) (at_rest z) (subst (λ r. Members kind (at_rest x) r (at_rest z)) is h.members)

      run_before : AreRun past (with_nothing_waiting x.facility) there.before.facility
      run_before = members_run kind past (at_rest x) there.before there.past_are

      pub in_time : HasNoticesInTime x.facility past done
      in_time = record {
        outs_are = λ isnt.
            let none : there.before.facility.waiting ≡ [] =
            none_of there.before.facility.waiting (sym there.member.facility.in_turn ∙ isnt) in
            sym (append-nil (outs past))
            ∙ ap (λ (ns : List Notice). outs past ++ waiting_outs (record { state = x.facility; waiting = ns })) (sym none)
            ∙ sym run_before.outs_are;
        right = subst (λ s. IsRight s done) run_before.state_is there.member.facility.right;
      }

      module _ (c : ℕ) (i : I) (b : BacklogState) (low : c < clients_of x) where
        abbrev a : Account
        a = account_at kind x c i b

        abbrev z' : Account
        z' = account_at kind z c i b

        within : c < length there.before.inlets
        within = let e = members_clients kind past (at_rest x) there.before there.past_are in omega arith

        account_before : ClientAccount c past a (account_then kind there.before c i b)
        account_before = members_account kind past (at_rest x) there.before there.past_are c i b low

        pending_before : pending_of there.before.facility.state c ≡ pending_after c x.facility past
        pending_before = ap (λ s. pending_of s c) run_before.state_is

        kept_after : IsKept kind there.after
        kept_after = kept_at_start kind later there.after (at_rest z) there.later_are

        past_and_done : Members kind (at_rest x) (past ++ done ∷ []) there.after
        past_and_done = members_append kind past (done ∷ []) (at_rest x) there.before there.after there.past_are
            (there.after, there.kept, there.member, (refl, kept_after))

        pub respects_room : RespectsRoom kind.take_may_refuse c x.facility a z' past done later
        respects_room = record {
          served = λ result e.
              let one = (there.member.clients c i b within).serve result e in
              let few = account_before.fewer_left in
              rw (sym account_before.same_room, outbox_is c past a (account_then kind there.before c i b) account_before, sym pending_before)
              (by_fewer_left (get_or there.before.backlogs c b).room (length (get_or there.before.backlogs c b).outbox)
              (requests_left (account_then kind there.before c i b)) (requests_left a - length (asked c past))
              (pending_of there.before.facility.state c) result (omega arith) one.room);
          needed = λ e.
              let one = (there.member.clients c i b within).serve NoMemory e in
              let held : List Numbered = held_list (get_or there.after.backlogs c b).held in
              let more = (members_account kind later there.after (at_rest z) there.later_are c i b
              (let k = there.member.same_clients in let w = within in omega arith)).held_first in
              subst (λ s. IsNeeded kind.take_may_refuse c s (asked c later ++ held_list z'.backlog.held)) run_before.state_is
              (needed_longer kind.take_may_refuse c there.before.facility.state held (asked c later ++ held_list z'.backlog.held) more
              (needed_first kind.take_may_refuse c there.before.facility.state (get_or there.after.backlogs c b).held one.holds.1));
          room =
              let account = members_account kind (past ++ done ∷ []) (at_rest x) there.after past_and_done c i b low in
              let clients = members_clients kind (past ++ done ∷ []) (at_rest x) there.after past_and_done in
              let many = kept_after.as_many in
              let fits : length (get_or there.after.backlogs c b).outbox + pending_of there.after.facility.state c
              + notices_for c there.after.facility.waiting ≤ (get_or there.after.backlogs c b).room =
              kept_after.room c b (omega (arith, clients, many, low)) in
              let len = outbox_is c (past ++ done ∷ []) a (account_then kind there.after c i b) account in
              let state : pending_of there.after.facility.state c ≡ pending_after c x.facility (past ++ done ∷ []) =
              ap (λ s. pending_of s c) (members_run kind (past ++ done ∷ []) (at_rest x) there.after past_and_done).state_is in
              let room = account.same_room in
              omega (arith, fits, len, state, room);
        }

    pub are_owed : IsLaw x.facility → AreOwed x.facility report
    are_owed law = record {
      before = λ past done later is isnt. owed_so_far x.facility law past ((in_time past done later is).outs_are isnt);
      at_end = owed_so_far x.facility law report makes_run.outs_are;
    }
