-- The members of one call, and the invariant of the desk after it.
use Rattle.std.proofs.Common.{◌≡◌, ◌≢◌, ℕ, ◌+◌, ◌<◌, ◌≤◌, ◌==◌, Bool, true, false, List, [], ◌∷◌, ◌++◌, length, get_or, map, refl, sym, ◌∙◌, ap, subst, ⊎_elim, arith, append-nil, append_assoc, length-append}
use Rattle.std.specs.Prelude.{take, drop, slice_set, if◌then◌else◌}
use Rattle.std.proofs.lemmas.Bool.{cases_eq}
use Rattle.std.proofs.lemmas.Bool.Decides.{nat_tests}
use Rattle.std.proofs.lemmas.List.{get_or-set_same, get_or-set_other, get_or_default, length-set, take-append-drop, length-take-le}
use Rattle.timer_desk.specs.Types.{Notice, Word, Served, Done, Step}
use Rattle.timer_facility.specs.declared.event.Out.TheVariants as Outs
use Rattle.timer_facility.specs.State.{FacilityState, pending_of}
use Rattle.timer_facility.specs.Run.{run}
use Rattle.timer_facility.specs.Facility.{FacilityView, with_nothing_waiting}
use Rattle.timer_desk.specs.declared.word.Word.TheVariants as Words
use Rattle.timer_desk.specs.declared.report.Done.TheVariants as Dones
use Rattle.timer_desk.specs.Inlet.{LineKind}
use Rattle.timer_desk.specs.Flush.{IsGiven, without_words, FlushesClient}
use Rattle.timer_desk.specs.Extends.{Extends-refl}
use Rattle.timer_desk.specs.Backlog.{BacklogState, empty_backlog, with_word, with_words, client_of, with_notice, with_notices, notices_for, HoldsAtMostOneMore}
use Rattle.timer_desk.specs.Report.{Account, account_of, got_but_held, held_list, HeldIsLast, IsAccount, request_in, word_in, asked_in, words_in, events_in, outs_in, step_in, steps_of}
use Rattle.timer_desk.specs.Member.{Moment, IsServe, ClientMember, FacilityMember, IsRight, IsKept, Member, Members, waiting_outs, is_notice, hands_out, is_any}
use Rattle.timer_desk.specs.Event.{IsSilent, IsEvent}
use Rattle.timer_desk.specs.Desk.{DeskState, notices_of, event_report, IsDesk, ReportHolds, AddsStep}
use Rattle.timer_desk.proofs.Members.{held_last, kept_at_end, members_clients, members_lines, IsAccount-nothing}

pub not_same : (m n : ℕ) → n ≢ m → (m == n) ≡ false
not_same m n h = grind (arith, nat_tests)

pub same_is : (n : ℕ) → (n == n) ≡ true
same_is n = grind (arith, nat_tests)

-- the desk state and the moment of these parts
abbrev pub desk_of : {I : Type 0} → FacilityView → List I → List BacklogState → DeskState I
desk_of f inlets bs = record { facility = f.state; inlets = inlets; backlogs = bs }

abbrev moment : {I : Type 0} → FacilityView → List I → List BacklogState → Moment I
moment f inlets bs = record { facility = f; inlets = inlets; backlogs = bs }

pub still : (f : FacilityView) → f.waiting ≡ [] → f ≡ with_nothing_waiting f.state
still f quiet = ap (λ (ns : List Notice). let v : FacilityView = record { state = f.state; waiting = ns } in v) quiet

module _ {I : Type 0} (kind : LineKind I) where
  -- members between two moments at which nothing waits are a report
  report_of : (report : List Done) (f f' : FacilityView) (inlets inlets' : List I) (bs bs' : List BacklogState) → f.waiting ≡ []
      → f'.waiting ≡ [] → Members kind (moment f inlets bs) report (moment f' inlets' bs')
      → ReportHolds kind report (desk_of f inlets bs) (desk_of f' inlets' bs')
  report_of report f f' inlets inlets' bs bs' quiet quiet' members = record {
    members = subst (λ (v : FacilityView). Members kind (moment v inlets bs) report (moment (with_nothing_waiting f'.state) inlets' bs'))
        (still f quiet)
        (subst (λ (v : FacilityView). Members kind (moment f inlets bs) report (moment v inlets' bs')) (still f' quiet') members);
    same_clients = members_clients kind report (moment f inlets bs) (moment f' inlets' bs') members;
    lines = members_lines kind report (moment f inlets bs) (moment f' inlets' bs') members;
  }

-- A client that a member says nothing of.

ClientMember-silent : (refuses : Bool) (c : ℕ) (s : FacilityState) (a : Account) (done : Done) → IsSilent c done → HeldIsLast a
    → ClientMember refuses c s a done a
ClientMember-silent refuses c s a done o last = record {
  account = rw (o.no_request, o.no_word, o.none_flushed) (IsAccount-nothing a last);
  serve = λ served is. absurd (o.no_serve served is);
  no_serve = λ none. record { same_got = refl; same_standing = refl; same_held = refl };
}

-- A member of one client.

-- a member of the facility, if no notice waited before it
pub quiet_member : (done : Done) (f g : FacilityView) → f.waiting ≡ []
    → (run f.state (events_in done)).outs ≡ outs_in done ++ waiting_outs g → g.state ≡ (run f.state (events_in done)).state
    → is_notice done ≡ false → (hands_out done ≡ false → g.waiting ≡ []) → IsRight f.state done → FacilityMember done f g
quiet_member done f g quiet outs state isnt left right = record {
  outs_are = ap (λ (ns : List Notice). map (λ (n : Notice). Outs.Notice n) ns ++ (run f.state (events_in done)).outs) quiet ∙ outs;
  state_is = state;
  in_turn = isnt ∙ ap is_any (sym quiet);
  none_left = left;
  right = right;
}

module _ {I : Type 0} (kind : LineKind I) (c : ℕ) (inlets : List I) (bs : List BacklogState) (i i' : I) (b b' : BacklogState)
    (as_many : length bs ≡ length inlets) (low : c < length inlets) (is_i : i ≡ get_or inlets c i) (is_b : b ≡ get_or bs c b) where
  -- a fact of each client, if client c has another line and another backlog
  at_each : (fact : ℕ → I → BacklogState → I → BacklogState → Type 0) → fact c i b i' b'
      → ((k : ℕ) (j : I) (e : BacklogState) → k < length inlets → k ≢ c
      → fact k (get_or inlets k j) (get_or bs k e) (get_or inlets k j) (get_or bs k e))
      → (k : ℕ) (j : I) (e : BacklogState) → k < length inlets
      → fact k (get_or inlets k j) (get_or bs k e) (get_or (slice_set inlets c i') k j) (get_or (slice_set bs c b') k e)
  at_each fact here other k j e l = ⊎_elim
      (λ (is : k ≡ c).
      let within : c < length bs = omega (arith, as_many, low) in
      rw (
        is,
        get_or-set_same inlets c i' j low,
        get_or-set_same bs c b' e within,
        sym (is_i ∙ get_or_default inlets c i j low),
        sym (is_b ∙ get_or_default bs c b e within),
      ) here)
      (λ (apart : k ≢ c). rw (get_or-set_other inlets c k i' j apart, get_or-set_other bs c k b' e apart) (other k j e l apart))
      (cases_eq k c)

-- no notice waits, so nothing but the pending timers needs room
pub none_for : (c : ℕ) (f : FacilityView) → f.waiting ≡ [] → notices_for c f.waiting ≡ 0
none_for c f quiet = ap (notices_for c) quiet

-- what a call for client c gives: its line and backlog, and the facility, before and after its member of a report
pub record IsClientCall {I : Type 0} (kind : LineKind I) (c : ℕ) (done : Done) (f f' : FacilityView) (i i' : I)
    (b b' : BacklogState) : Type 0 where
  pub others : (k : ℕ) → k ≢ c → IsSilent k done
  pub line : kind.same i i'
  pub facility : FacilityMember done f f'
  pub client : ClientMember kind.take_may_refuse c f.state (account_of kind i b) done (account_of kind i' b')
  pub notices : f'.waiting ≡ notices_of f.state done
  pub same_numbers : length f'.state.numbers ≡ length f.state.numbers
  pub room : length b'.outbox + pending_of f'.state c + notices_for c f'.waiting ≤ b'.room
  pub adds : (k : ℕ) → pending_of f'.state k + notices_for k f'.waiting ≤ pending_of f.state k + (if c == k then 1 else 0)

module _ {I : Type 0} (kind : LineKind I) (c : ℕ) (done : Done) (f f' : FacilityView) (inlets : List I) (bs : List BacklogState)
    (i i' : I) (b b' : BacklogState) (call : IsClientCall kind c done f f' i i' b b') (d : IsDesk kind f inlets bs) (low : c < length inlets)
    (is_i : i ≡ get_or inlets c i) (is_b : b ≡ get_or bs c b) where
  pub kept_client : IsKept kind (moment f' (slice_set inlets c i') (slice_set bs c b'))
  kept_client = record {
    as_many = length-set bs c b' ∙ d.kept.as_many ∙ sym (length-set inlets c i');
    room = λ k e l. at_each kind c inlets bs i i' b b' d.kept.as_many low is_i is_b
        (λ n x y x' y'. length y'.outbox + pending_of f'.state n + notices_for n f'.waiting ≤ y'.room)
        call.room
        (λ n j e' l' other.
        let more : pending_of f'.state n + notices_for n f'.waiting ≤ pending_of f.state n + 0 =
        subst (λ (v : Bool). pending_of f'.state n + notices_for n f'.waiting ≤ pending_of f.state n + (if v then 1 else 0))
        (not_same c n other) (call.adds n) in
        let m = d.kept.as_many in
        let was : length (get_or bs n e').outbox + pending_of f.state n + notices_for n f.waiting ≤ (get_or bs n e').room =
        d.kept.room n e' (omega arith) in
        omega arith)
        k i e (let m = length-set bs c b' in let m' = d.kept.as_many in omega arith);
    held = λ k j e l. at_each kind c inlets bs i i' b b' d.kept.as_many low is_i is_b
        (λ n x y x' y'. HeldIsLast (account_of kind x' y'))
        (held_last (account_of kind i' b') (got_but_held (account_of kind i b) ++ asked_in c done) call.client.account.asked_are)
        (λ n j' e' l' other. d.kept.held n j' e' l')
        k j e (let m = length-set inlets c i' in omega arith);
  }

  pub client_member : Member kind (moment f inlets bs) done (moment f' (slice_set inlets c i') (slice_set bs c b'))
  client_member = record {
    same_clients = length-set inlets c i';
    lines = λ k j l. at_each kind c inlets bs i i' b b' d.kept.as_many low is_i is_b (λ n x y x' y'. kind.same x x') call.line
        (λ n j' e' l' other. kind.reflexive (get_or inlets n j')) k j b l;
    facility = call.facility;
    clients = λ k j e l. at_each kind c inlets bs i i' b b' d.kept.as_many low is_i is_b
        (λ n x y x' y'. ClientMember kind.take_may_refuse n f.state (account_of kind x y) done (account_of kind x' y')) call.client
        (λ n j' e' l' other. ClientMember-silent kind.take_may_refuse n f.state (account_of kind (get_or inlets n j') (get_or bs n e'))
        done (call.others n other) (d.kept.held n j' e' l')) k j e l;
  }

-- The two calls for one client.

-- a serve, by what the contract of the backlog's call gives
pub serve_call : {I : Type 0} (kind : LineKind I) (c : ℕ) (served : Served) (f f' : FacilityView) (i i' : I) (b b' : BacklogState)
    → kind.same i i' → IsAccount (request_in served) (word_in served) 0 (account_of kind i b) (account_of kind i' b')
    → IsServe kind.take_may_refuse c f.state (account_of kind i b) served (account_of kind i' b')
    → FacilityMember (Dones.Served c served) f f' → f'.waiting ≡ notices_of f.state (Dones.Served c served)
    → length f'.state.numbers ≡ length f.state.numbers
    → length b'.outbox + pending_of f'.state c + notices_for c f'.waiting ≤ b'.room → HoldsAtMostOneMore c f f'
    → IsClientCall kind c (Dones.Served c served) f f' i i' b b'
serve_call kind c served f f' i i' b b' line account serve member notices numbers room adds = record {
  others = λ k other. record {
    no_request = rw (not_same c k other) refl;
    no_word = rw (not_same c k other) refl;
    none_flushed = refl;
    no_serve = λ result is. absurd (other (cc));
  };
  line = line;
  facility = member;
  client = record {
    account = rw (same_is c) account;
    serve = λ result is. let same : served ≡ result = cc in
        subst (λ r. IsServe kind.take_may_refuse c f.state (account_of kind i b) r (account_of kind i' b')) same serve;
    no_serve = λ none. absurd (none served refl);
  };
  notices = notices;
  same_numbers = numbers;
  room = room;
  adds = adds.of_client;
}

-- a flush, by what the contract of the backlog's call gives
pub flush_call : {I : Type 0} (kind : LineKind I) (c count : ℕ) (f : FacilityView) (inlets : List I) (bs : List BacklogState) (i i' : I)
    (b b' : BacklogState) → IsDesk kind f inlets bs → c < length inlets → i ≡ get_or inlets c i → b ≡ get_or bs c b
    → IsGiven kind count b.outbox i i' → b' ≡ without_words count b → IsClientCall kind c (Dones.Flushed c count) f f i i' b b'
flush_call kind c count f inlets bs i i' b b' d low is_i is_b given left =
    let quiet : f.waiting ≡ [] = d.nothing_waits in
    let last : HeldIsLast (account_of kind i b) = rw (sym is_i, sym is_b) at (d.kept.held c i b low) in
    let was : length b.outbox + pending_of f.state c + notices_for c f.waiting ≤ b.room =
    rw (sym is_b) at (d.kept.room c b (omega (arith, d.kept.as_many, low))) in
    let put : List Word = take count b.outbox in
    let rest : List Word = drop count b.outbox in
    let split : put ++ rest ≡ b.outbox = take-append-drop count b.outbox in
    let long : length put ≡ count = length-take-le count b.outbox given.at_most in
    let before : List Word = (kind.state i).given in
    rw left (record {
      others = λ k other. record {
        no_request = refl;
        no_word = refl;
        none_flushed = rw (not_same c k other) refl;
        no_serve = λ result is. absurd (cc);
      };
      line = given.same_line;
      facility = quiet_member (Dones.Flushed c count) f f quiet
          (ap (λ (ns : List Notice). map (λ (n : Notice). Outs.Notice n) ns) (sym quiet)) refl refl (λ e. quiet) tt;
      client = rw given.state (record {
        account = record {
          held_first = Extends-refl (held_list b.held);
          asked_are = ap (λ xs. xs ++ held_list b.held) (append-nil (got_but_held (account_of kind i b))) ∙ last;
          words_are = append_assoc before put rest ∙ ap (λ xs. before ++ xs) split ∙ sym (append-nil (before ++ b.outbox));
          flushed_are = length-append before put ∙ ap (λ n. length before + n) long
              ∙ ap (λ v. length before + (if v then count else 0)) (sym (same_is c));
          fewer_left = omega arith;
          same_room = refl;
        };
        serve = λ served is. absurd (cc);
        no_serve = λ none. record { same_got = refl; same_standing = refl; same_held = refl };
      });
      notices = quiet;
      same_numbers = refl;
      room = let few = ap (λ xs. length xs) split in let all = length-append put rest in omega arith;
      adds = λ k. let none = none_for k f quiet in omega arith;
    })

-- the desk of which the client's outbox was flushed
pub FlushesClient-one : {I : Type 0} (kind : LineKind I) (c count : ℕ) (f : FacilityView) (inlets : List I) (backlogs : List BacklogState)
    (i i' : I) (b b' : BacklogState)
    → length backlogs ≡ length inlets → c < length inlets → i ≡ get_or inlets c i → b ≡ get_or backlogs c b
    → IsGiven kind count b.outbox i i' → b' ≡ without_words count b
    → FlushesClient kind c count (desk_of f inlets backlogs) (desk_of f (slice_set inlets c i') (slice_set backlogs c b'))
FlushesClient-one kind c count f inlets backlogs i i' b b' as_many low is_i is_b given left =
    let backlog : b ≡ get_or backlogs c (empty_backlog 0) = is_b
    ∙ get_or_default backlogs c b (empty_backlog 0) (omega (arith, as_many, low)) in record {
      line = i';
      given = λ j. rw (sym (is_i ∙ get_or_default inlets c i j low), sym backlog) given;
      desk = ap (λ (x : BacklogState). desk_of f (slice_set inlets c i') (slice_set backlogs c x)) (left
          ∙ ap (without_words count) backlog);
    }

-- Notices.

at_notice : (n : Notice) (bs : List BacklogState) (c : ℕ) (d : BacklogState) → c < length bs
    → get_or (with_notice n bs) c d ≡ with_words (words_in c (Dones.Noticed n)) (get_or bs c d)
at_notice n bs c d l =
    let k : ℕ = client_of n in
    let noted : BacklogState = with_word (Words.Notice n) (get_or bs k (empty_backlog 0)) in ⊎_elim
    (λ (is : c ≡ k).
    let low : k < length bs = omega (arith, is, l) in
    rw (is, same_is k, get_or-set_same bs k noted d low, get_or_default bs k (empty_backlog 0) d low) refl)
    (λ (apart : c ≢ k).
    rw (get_or-set_other bs k c noted d apart, not_same k c apart, append-nil (get_or bs c d).outbox) refl)
    (cases_eq c k)

-- a notice for the client takes one place in its outbox
notices_more : (c : ℕ) (n : Notice) (ns : List Notice)
    → notices_for c (n ∷ ns) ≡ length (words_in c (Dones.Noticed n)) + notices_for c ns
notices_more c n ns = ap (λ k. k + notices_for c ns) (one (client_of n == c))
  where
    one : (b : Bool) → (if b then 1 else 0) ≡ length (if b then Words.Notice n ∷ [] else [])
    one true = refl
    one false = refl

IsAccount-noted : (ws : List Word) (a : Account) → HeldIsLast a → IsAccount [] ws 0 a (record a { backlog = with_words ws a.backlog })
IsAccount-noted ws a last = record {
  held_first = Extends-refl (held_list a.backlog.held);
  asked_are = ap (λ xs. xs ++ held_list a.backlog.held) (append-nil (got_but_held a)) ∙ last;
  words_are = sym (append_assoc a.given a.backlog.outbox ws);
  flushed_are = omega arith;
  fewer_left = omega arith;
  same_room = refl;
}

module _ {I : Type 0} (kind : LineKind I) where
  kept_noted : (n : Notice) (ns : List Notice) (s : FacilityState) (inlets : List I) (bs : List BacklogState)
      → IsKept kind (moment (record { state = s; waiting = n ∷ ns }) inlets bs)
      → IsKept kind (moment (record { state = s; waiting = ns }) inlets (with_notice n bs))
  kept_noted n ns s inlets bs k =
      let long : length (with_notice n bs) ≡ length bs =
      length-set bs (client_of n) (with_word (Words.Notice n) (get_or bs (client_of n) (empty_backlog 0))) in record {
        as_many = long ∙ k.as_many;
        room = λ c b l.
            let low : c < length bs = omega (arith, l, long) in
            let is = at_notice n bs c b low in
            let len : length (get_or (with_notice n bs) c b).outbox ≡ length (get_or bs c b).outbox
            + length (words_in c (Dones.Noticed n)) =
            ap (λ (x : BacklogState). length x.outbox) is ∙ length-append (get_or bs c b).outbox (words_in c (Dones.Noticed n)) in
            let room : (get_or (with_notice n bs) c b).room ≡ (get_or bs c b).room = ap (λ (x : BacklogState). x.room) is in
            let was : length (get_or bs c b).outbox + pending_of s c + notices_for c (n ∷ ns) ≤ (get_or bs c b).room = k.room c b low in
            let more = notices_more c n ns in
            omega (arith, len, room, was, more);
        held = λ c i b l.
            let low : c < length bs = let m = k.as_many in omega arith in
            rw (at_notice n bs c b low) (k.held c i b l);
      }

  -- what waits is handed out, notice after notice
  handed_out : (ns : List Notice) (s : FacilityState) (inlets : List I) (bs : List BacklogState)
      → IsKept kind (moment (record { state = s; waiting = ns }) inlets bs)
      → Members kind (moment (record { state = s; waiting = ns }) inlets bs) (map Dones.Noticed ns)
      (moment (with_nothing_waiting s) inlets (with_notices ns bs))
  handed_out [] s inlets bs k = (refl, k)
  handed_out (n ∷ ns) s inlets bs k = (
    moment (record { state = s; waiting = ns }) inlets (with_notice n bs),
    k,
    record {
      same_clients = refl;
      lines = λ c i l. kind.reflexive (get_or inlets c i);
      facility = record {
        outs_are = append-nil (Outs.Notice n ∷ map (λ (m : Notice). Outs.Notice m) ns);
        state_is = refl;
        in_turn = refl;
        none_left = λ e. absurd (cc);
        right = tt;
      };
      clients = λ c i b l.
          let low : c < length bs = let m = k.as_many in omega arith in
          rw (at_notice n bs c b low) (record {
            account = IsAccount-noted (words_in c (Dones.Noticed n)) (account_of kind (get_or inlets c i) (get_or bs c b)) (k.held c i b l);
            serve = λ served is. absurd (cc);
            no_serve = λ none. record { same_got = refl; same_standing = refl; same_held = refl };
          });
    },
    handed_out ns s inlets (with_notice n bs) (kept_noted n ns s inlets bs k),
  )

  -- what waits after an event of the owner was pending, so there is room for it
  pub kept_event : (first : Done) (f g : FacilityView) (inlets : List I) (bs : List BacklogState) → IsEvent first f g → IsDesk kind f inlets bs
      → IsKept kind (moment g inlets bs)
  kept_event first f g inlets bs event d = record {
    as_many = d.kept.as_many;
    room = λ c b l.
        let was : length (get_or bs c b).outbox + pending_of f.state c + notices_for c f.waiting ≤ (get_or bs c b).room =
        d.kept.room c b l in
        let hands = event.of_client c in
        omega (arith, was, hands);
    held = d.kept.held;
  }

-- A member, and the notices that wait after it.

-- what was done first led from a desk at rest to g, the lines and the backlogs; then all that waited was handed out
pub record IsHandedOut {I : Type 0} (kind : LineKind I) (first : Done) (f g f' : FacilityView) (inlets inlets' : List I)
    (bs between bs' : List BacklogState) : Type 0 where
  pub before : IsDesk kind f inlets bs
  pub member : Member kind (moment f inlets bs) first (moment g inlets' between)
  pub kept : IsKept kind (moment g inlets' between)
  pub notices : g.waiting ≡ notices_of f.state first
  pub same_numbers : length g.state.numbers ≡ length f.state.numbers
  pub left : f' ≡ with_nothing_waiting g.state
  pub noted : bs' ≡ with_notices g.waiting between

module _ {I : Type 0} (kind : LineKind I) (first : Done) (f g f' : FacilityView) (inlets inlets' : List I)
    (bs between bs' : List BacklogState) (h : IsHandedOut kind first f g f' inlets inlets' bs between bs') where
  members_handed : Members kind (moment f inlets bs) (event_report f.state first) (moment f' inlets' bs')
  members_handed =
      subst (λ (ns : List Notice). Members kind (moment f inlets bs) (first ∷ map Dones.Noticed ns) (moment f' inlets' bs')) h.notices (
        moment g inlets' between,
        h.before.kept,
        h.member,
        rw (h.left, h.noted) (handed_out kind g.waiting g.state inlets' between h.kept),
      )

  pub report_handed : ReportHolds kind (event_report f.state first) (desk_of f inlets bs) (desk_of f' inlets' bs')
  report_handed = report_of kind (event_report f.state first) f f' inlets inlets' bs bs' h.before.nothing_waits
      (ap (λ (v : FacilityView). v.waiting) h.left) members_handed

  pub desk_handed : IsDesk kind f' inlets' bs'
  desk_handed = record {
    nothing_waits = ap (λ (v : FacilityView). v.waiting) h.left;
    clients = h.member.same_clients ∙ h.before.clients
        ∙ sym (ap (λ (v : FacilityView). length v.state.numbers) h.left ∙ h.same_numbers);
    kept = kept_at_end kind (event_report f.state first) (moment f inlets bs) (moment f' inlets' bs') members_handed;
  }

  pub adds_handed : (taken : Step) (before after : List Done) → step_in first ≡ taken ∷ []
      → after ≡ (before ++ first ∷ []) ++ map Dones.Noticed g.waiting
      → AddsStep kind taken before after (desk_of f inlets bs) (desk_of f' inlets' bs')
  adds_handed taken before after is added = record {
    more = event_report f.state first;
    added = added ∙ append_assoc before (first ∷ []) (map Dones.Noticed g.waiting)
        ∙ ap (λ (ns : List Notice). before ++ first ∷ map Dones.Noticed ns) h.notices;
    step = ap (λ xs. step_in first ++ xs) (no_steps (notices_of f.state first)) ∙ ap (λ xs. xs ++ []) is;
    holds = report_handed;
  }
    where
      no_steps : (ns : List Notice) → steps_of (map Dones.Noticed ns) ≡ []
      no_steps [] = refl
      no_steps (n ∷ ns) = no_steps ns

-- an event of the owner
pub event_handed : {I : Type 0} (kind : LineKind I) (first : Done) (f g f' : FacilityView) (inlets : List I) (bs bs' : List BacklogState)
    → IsEvent first f g → IsDesk kind f inlets bs → f' ≡ with_nothing_waiting g.state → bs' ≡ with_notices g.waiting bs
    → IsHandedOut kind first f g f' inlets inlets bs bs bs'
event_handed kind first f g f' inlets bs bs' event d left noted = record {
  before = d;
  member = record {
    same_clients = refl;
    lines = λ c i l. kind.reflexive (get_or inlets c i);
    facility = event.member;
    clients = λ c i b l. ClientMember-silent kind.take_may_refuse c f.state (account_of kind (get_or inlets c i) (get_or bs c b))
        first (event.silent c) (d.kept.held c i b l);
  };
  kept = kept_event kind first f g inlets bs event d;
  notices = event.notices;
  same_numbers = event.same_numbers;
  left = left;
  noted = noted;
}

-- a call for client c
pub client_handed : {I : Type 0} (kind : LineKind I) (c : ℕ) (done : Done) (f g f' : FacilityView) (inlets : List I)
    (bs bs' : List BacklogState) (i i' : I) (b b' : BacklogState) → IsClientCall kind c done f g i i' b b' → IsDesk kind f inlets bs
    → c < length inlets → i ≡ get_or inlets c i → b ≡ get_or bs c b → f' ≡ with_nothing_waiting g.state
    → bs' ≡ with_notices g.waiting (slice_set bs c b')
    → IsHandedOut kind done f g f' inlets (slice_set inlets c i') bs (slice_set bs c b') bs'
client_handed kind c done f g f' inlets bs bs' i i' b b' call d low is_i is_b left noted = record {
  before = d;
  member = client_member kind c done f g inlets bs i i' b b' call d low is_i is_b;
  kept = kept_client kind c done f g inlets bs i i' b b' call d low is_i is_b;
  notices = call.notices;
  same_numbers = call.same_numbers;
  left = left;
  noted = noted;
}

-- one after which nothing waits
pub client_quiet : {I : Type 0} (kind : LineKind I) (c : ℕ) (done : Done) (f g : FacilityView) (inlets : List I)
    (bs : List BacklogState) (i i' : I) (b b' : BacklogState) → IsClientCall kind c done f g i i' b b' → IsDesk kind f inlets bs
    → c < length inlets → i ≡ get_or inlets c i → b ≡ get_or bs c b → g.waiting ≡ []
    → IsHandedOut kind done f g g inlets (slice_set inlets c i') bs (slice_set bs c b') (slice_set bs c b')
client_quiet kind c done f g inlets bs i i' b b' call d low is_i is_b quiet =
    client_handed kind c done f g g inlets bs (slice_set bs c b') i i' b b' call d low is_i is_b (still g quiet)
    (sym (ap (λ ns. with_notices ns (slice_set bs c b')) quiet))

module _ {I : Type 0} (kind : LineKind I) (first : Done) (f g f' : FacilityView) (inlets : List I) (bs bs' : List BacklogState)
    (event : IsEvent first f g) (d : IsDesk kind f inlets bs) (left : f' ≡ with_nothing_waiting g.state)
    (noted : bs' ≡ with_notices g.waiting bs) where
  handed : IsHandedOut kind first f g f' inlets inlets bs bs bs'
  handed = event_handed kind first f g f' inlets bs bs' event d left noted

  pub report_event : ReportHolds kind (event_report f.state first) (desk_of f inlets bs) (desk_of f' inlets bs')
  report_event = report_handed kind first f g f' inlets inlets bs bs bs' handed

  pub desk_event : IsDesk kind f' inlets bs'
  desk_event = desk_handed kind first f g f' inlets inlets bs bs bs' handed

  pub adds_event : (taken : Step) (before after : List Done) → step_in first ≡ taken ∷ []
      → after ≡ (before ++ first ∷ []) ++ map Dones.Noticed g.waiting
      → AddsStep kind taken before after (desk_of f inlets bs) (desk_of f' inlets bs')
  adds_event = adds_handed kind first f g f' inlets inlets bs bs bs' handed
