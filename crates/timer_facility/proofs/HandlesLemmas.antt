-- The handles that a player keeps, and the pending entries.
use Rattle.std.proofs.Common.{◌≡◌, ◌<◌, ◌+◌, ℕ, zero, suc, Bool, true, false, ◌==◌, ◌&&◌, List, [], ◌∷◌, ◌++◌, refl, sym, ◌∙◌, ap, subst, arith, inl, inr, ◌≤◌, length, get_or, Result, Ok, Err}
use Rattle.std.specs.Prelude.{filter, nat_lt, if◌then◌else◌, is_some, Option, Some, None, MatchResult}
use Rattle.std.specs.List.{AllByRecursion}
use Rattle.std.proofs.lemmas.Bool.{and_right, eq-eqb, eqb-true, cases_lt}
use Rattle.std.proofs.lemmas.Bool.Decides.{nat_tests}
use Rattle.timer_facility.specs.Types.{Timer, Handle, TickFault, Request, Answer, Out, Started, Stopped, Restarted, Refused}
use Rattle.timer_base.proofs.Basics.{either}
use Rattle.timer_base.proofs.OrderLaws.{All-append, All-filter, All-weaken}
use Rattle.timer_base.specs.Pending.{Entry, put, has_handle, has_serial, first_timer}
use Rattle.timer_facility.specs.declared.request.NotTaken.TheVariants as NotTakens
use Rattle.timer_facility.specs.declared.request.Request.TheVariants as Requests
use Rattle.timer_facility.specs.declared.event.Out.TheVariants as Outs
use Rattle.timer_facility.specs.State.{FacilityState, ByHandle, BySerial, ModelRequest, Start, Stop, Restart, Asked, Tick}
use Rattle.timer_facility.specs.Verdict.{tick_refusal, not_taken, of_client, timer_named}
use Rattle.timer_facility.specs.Step.{StepResult, with_number, timer_stopped, timer_started, handle_of, answer_to, put_later, without_timer, with_timer, after_request, step, step_of_tick}
use Rattle.timer_facility.specs.Run.{state_after}
use Rattle.timer_facility.specs.Ticked.{ticks, AreTicked}
use Rattle.timer_facility.specs.Facility.{FacilityView, model_of, place_in, IsTaken, IsStart, MakesTimer, WhyNotTaken}
use Rattle.timer_facility.specs.Handles.{HandleList, place_at, AreSorted, IsRecorded, with_answer, AddsHandle, AreRecorded}
use Rattle.timer_facility.proofs.StepLemmas.{by_verdict, started-new}
use Rattle.std.specs.List.Sorted.{IsSearchInRange, IsBinarySearchResult, IsNonDecreasingBy}
use Rattle.std.specs.Ordering.{nat_cmp, ordering_index}
use Rattle.std.proofs.lemmas.Cmp.{ranked}
use Rattle.std.proofs.lemmas.List.Elements.{All-from_recursion, All-get_or}
use Rattle.std.proofs.lemmas.List.Sorted.{IsNonDecreasingBy-from_default}

-- the pending entries that a test keeps are recorded too
each_kept : {handles : HandleList} {s : FacilityState} (test : Entry → Bool) → AreRecorded handles s
    → AllByRecursion (IsRecorded handles) (filter test s.pending)
each_kept {handles} {s} test a = All-filter (IsRecorded handles) (IsRecorded handles) test s.pending (λ e _ r. r) a.each

-- a tick removes entries, and adds none
recorded_tick : (handles : HandleList) (s : FacilityState) (refusal : Option TickFault) → AreRecorded handles s
    → AreRecorded handles (step_of_tick s refusal).state
recorded_tick handles s (Some fault) a = a
recorded_tick handles s None a = record { sorted = a.sorted; used = a.used; each = each_kept _ a }

AreRecorded-run : (handles : HandleList) (n : ℕ) (s : FacilityState) → AreRecorded handles s → AreRecorded handles (state_after s (ticks n))
AreRecorded-run handles zero s a = a
AreRecorded-run handles (suc n) s a = AreRecorded-run handles n (step s Tick 0).state (recorded_tick handles s (tick_refusal s) a)

pub AreRecorded-ticks : {handles : HandleList} {limit passed : ℕ} {s : FacilityState} {v : FacilityView} → AreTicked limit passed s v
    → AreRecorded handles s → AreRecorded handles v.state
AreRecorded-ticks {handles} {passed = passed} {s = s} t a = subst (λ (u : FacilityView). AreRecorded handles u.state) (sym t.ticked)
    (AreRecorded-run handles passed s a)

All-put : (P : Entry → Type 0) (e : Entry) (es : List Entry) → P e → AllByRecursion P es → AllByRecursion P (put e es)
All-put P e [] p a = (p, tt)
All-put P e (x ∷ xs) p a = elim (either (nat_lt e.timer.deadline x.timer.deadline)) [
  | inl k ↦ rw k (p, a)
  | inr k ↦ rw k (a.0, All-put P e xs p a.1)
]

-- a place that is found among some handles is found among more
place_at-more : (hs : HandleList) (h : Handle) (serial place : ℕ) → place_at serial hs ≡ Some place
    → place_at serial (hs ++ h ∷ []) ≡ Some place
place_at-more [] h serial place e = absurd cc
place_at-more (x ∷ xs) h serial place e = elim (either (x.serial == serial)) [
  | inl k ↦ rw k (rw k at e)
  | inr k ↦ rw k (place_at-more xs h serial place (rw k at e))
]

pub is_less : (m n : ℕ) → m < n → (m == n) ≡ false
is_less m n l = grind (arith, nat_tests)

-- the last handle is found by its serial, if the others have lower ones
place_at-last : (hs : HandleList) (h : Handle) (serial : ℕ) → h.serial ≡ serial → AllByRecursion (λ k. k.serial < serial) hs
    → place_at serial (hs ++ h ∷ []) ≡ Some h.place
place_at-last [] h serial e a = rw (eq-eqb h.serial serial e) refl
place_at-last (x ∷ xs) h serial e a = rw (is_less x.serial serial a.0) (place_at-last xs h serial e a.1)

AreSorted-last : (hs : HandleList) (h : Handle) → AreSorted hs → AllByRecursion (λ k. k.serial < h.serial) hs → AreSorted (hs ++ h ∷ [])
AreSorted-last [] h a b = (tt, tt)
AreSorted-last (x ∷ xs) h a b = (All-append (λ k. x.serial < k.serial) xs (h ∷ []) a.0 (b.0, tt), AreSorted-last xs h a.1 b.1)

AreRecorded-stop : {handles : HandleList} {s : FacilityState} (old : Option Timer) → AreRecorded handles s
    → AreRecorded handles (without_timer old s)
AreRecorded-stop None a = a
AreRecorded-stop (Some t) a = record { sorted = a.sorted; used = a.used; each = each_kept _ a }

All-put_later : (P : Entry → Type 0) (now : ℕ) (e : Entry) (es : List Entry) → P e → AllByRecursion P es
    → AllByRecursion P (put_later now e es)
All-put_later P now e es p a = elim (either (nat_lt now e.timer.deadline)) [ inl h ↦ rw h (All-put P e es p a) | inr h ↦ rw h a ]

pub AreRecorded-start : {handles : HandleList} {s : FacilityState} (place : ℕ) (t : Timer) → t.serial ≡ s.next_serial
    → AreRecorded handles s → AreRecorded (handles ++ handle_of place t ∷ []) (with_timer (Some t) place s)
AreRecorded-start {handles} {s} place t n a =
    let h : Handle = handle_of place t in
    let below : AllByRecursion (λ k. k.serial < t.serial) handles = subst (λ m. AllByRecursion (λ k. k.serial < m) handles) (sym n) a.used
    in
    record {
      sorted = AreSorted-last handles h a.sorted below;
      used = All-append (λ k. k.serial < s.next_serial + 1) handles (h ∷ [])
          (All-weaken (λ k. k.serial < s.next_serial) _ handles (λ k l. omega (arith, l)) a.used) (omega (arith, n), tt);
      each = All-put_later (IsRecorded (handles ++ h ∷ [])) s.now (record { place = place; timer = t }) s.pending
          (place_at-last handles h t.serial refl below)
          (All-weaken (IsRecorded handles) (IsRecorded (handles ++ h ∷ [])) s.pending
          (λ e r. place_at-more handles h e.timer.serial e.place r) a.each);
    }

recorded_numbered : {handles : HandleList} {s : FacilityState} (client number : ℕ) → AreRecorded handles s
    → AreRecorded handles (with_number client number s)
recorded_numbered client number a = record { sorted = a.sorted; used = a.used; each = a.each }

-- an accepted request
recorded_request : {handles : HandleList} {s : FacilityState} (place : ℕ) (old new : Option Timer)
    → ((t : Timer) → new ≡ Some t → t.serial ≡ s.next_serial) → AreRecorded handles s
    → AreRecorded (with_answer (answer_to old new place) handles) (after_request old new place s)
recorded_request place None None n a = a
recorded_request place (Some old) None n a = AreRecorded-stop (Some old) a
recorded_request place None (Some t) n a = AreRecorded-start place t (n t refl) a
recorded_request place (Some old) (Some t) n a = AreRecorded-start place t (n t refl) (AreRecorded-stop (Some old) a)

-- the handles with that of the answer, if the step has this answer
abbrev WithAnswer : HandleList → ℕ → ℕ → Answer → StepResult → Type 0
WithAnswer handles client number answer st = (later : List Out)
    → st.outs ≡ Outs.Answered client number answer ∷ later → AreRecorded (with_answer answer handles) st.state

-- the answer in the first out of a request
answer_is : {c n c' n' : ℕ} {x y : Answer} {later later' : List Out} → Outs.Answered c n x ∷ later ≡ Outs.Answered c' n' y ∷ later' → x ≡ y
answer_is h = cc

recorded_asked : (handles : HandleList) (s : FacilityState) (client number : ℕ) (request : ModelRequest) (place : ℕ) (answer : Answer)
    → AreRecorded handles s → WithAnswer handles client number answer (step s (Asked client number request) place)
recorded_asked handles s client number request place answer a =
    by_verdict (WithAnswer handles client number answer) s client number request place
    (λ reason later h. absurd (cc))
    (λ reason taken later h. subst (λ x. AreRecorded (with_answer x handles) (with_number client number s)) (answer_is h)
    (recorded_numbered client number a))
    (λ taken ok later h.
    let old : Option Timer = timer_stopped s client request in
    let new : Option Timer = timer_started s client number request in
    subst (λ x. AreRecorded (with_answer x handles) (with_number client number (after_request old new place s))) (answer_is h)
    (recorded_numbered client number (recorded_request place old new (λ t e. (started-new s client number request t e).serial_is) a)))

-- after a request that is taken, the handles with that of its answer are still those of the pending timers
pub recorded-taken : {s : FacilityState} {new : FacilityView} {handles : HandleList} {client number : ℕ} {request : Request}
    {answer : Answer} → AreRecorded handles s → IsTaken s client number request answer new
    → AreRecorded (with_answer answer handles) new.state
recorded-taken {s} {new} {handles} {client} {number} {request} {answer} a h =
    subst (λ (v : FacilityView). AreRecorded (with_answer answer handles) v.state) (sym h.left)
    (recorded_asked handles s client number (model_of request) (place_in answer) answer a _ h.answered)

made : (old new : Option Timer) (place : ℕ) → AddsHandle (answer_to old new place) → is_some new ≡ true
made old (Some new) place adds = refl
made None None place adds = absurd adds
made (Some old) None place adds = absurd adds

-- a request whose answer has a handle makes a timer
pub makes-answered : {s : FacilityState} {new : FacilityView} {client number : ℕ} {request : Request} {answer : Answer}
    → IsTaken s client number request answer new → AddsHandle answer → MakesTimer s client number (model_of request)
makes-answered {s} {new} {client} {number} {request} {answer} h adds =
    by_verdict (λ (st : StepResult). (later : List Out) → st.outs ≡ Outs.Answered client number answer ∷ later
    → MakesTimer s client number (model_of request))
    s client number (model_of request) (place_in answer)
    (λ reason later e. absurd (cc))
    (λ reason taken later e. absurd (subst AddsHandle (sym (answer_is e)) adds))
    (λ taken ok later e. (
      taken,
      ok,
      made (timer_stopped s client (model_of request)) (timer_started s client number (model_of request)) (place_in answer)
          (subst AddsHandle (sym (answer_is e)) adds),
    )) _ h.answered

makes-start : (s : FacilityState) (client number : ℕ) (request : ModelRequest) → IsStart request
    → is_some (timer_started s client number request) ≡ true
makes-start s client number (Start deadline action) h = refl
makes-start s client number (Stop name) h = absurd h
makes-start s client number (Restart name deadline action) h = absurd h

never_memory : (s : FacilityState) (client number : ℕ) → not_taken s client number ≡ Some NotTakens.OutOfMemory → ⊥
unfolding not_taken
never_memory s client number h = grind arith

-- only a request that makes a timer is not taken for want of memory
pub makes-unplaced : (s : FacilityState) (client number : ℕ) (request : Request)
    → WhyNotTaken s client number request NotTakens.OutOfMemory → MakesTimer s client number (model_of request)
makes-unplaced s client number request (inl h) = absurd (never_memory s client number h)
makes-unplaced s client number request (inr h) = (h.1.0, h.1.1, makes-start s client number (model_of request) h.1.2)

pub no_stop_makes : (s : FacilityState) (client number : ℕ) (handle : Handle)
    → MakesTimer s client number (model_of (Requests.Stop handle)) → ⊥
no_stop_makes s client number handle makes = let none : false ≡ true = makes.2 in absurd (cc)

without_handle : (answer : Answer) (handles : HandleList) → (AddsHandle answer → ⊥) → with_answer answer handles ≡ handles
without_handle (Started handle deadline) handles none = absurd (none tt)
without_handle (Stopped serial) handles none = refl
without_handle (Restarted handle deadline old) handles none = absurd (none tt)
without_handle (Refused reason) handles none = refl

-- the same of a stop, which adds no handle
pub recorded-stopped : {s : FacilityState} {new : FacilityView} {handles : HandleList} {client number : ℕ} {handle : Handle}
    {answer : Answer} → AreRecorded handles s → IsTaken s client number (Requests.Stop handle) answer new
    → AreRecorded handles new.state
recorded-stopped {s} {new} {handles} {client} {number} {handle} {answer} a h =
    subst (λ (hs : HandleList). AreRecorded hs new.state)
    (without_handle answer handles (λ adds. no_stop_makes s client number handle (makes-answered h adds)))
    (recorded-taken a h)

-- the handle is the recorded one of this serial, if there is one
pub record IsHandleOf (handles : HandleList) (serial : ℕ) (handle : Handle) : Type 0 where
  pub same_serial : handle.serial ≡ serial
  pub same_place : (place : ℕ) → place_at serial handles ≡ Some place → handle.place ≡ place

pub both_true : (p q r t : ℕ) → p ≡ q → r ≡ t → (p == q && r == t) ≡ true
both_true p q r t h k = grind (arith, nat_tests)

-- for a recorded entry, a test of the recorded handle is one of the serial alone
same_test : (handles : HandleList) (serial : ℕ) (handle : Handle) (e : Entry) → IsHandleOf handles serial handle → IsRecorded handles e
    → has_handle handle e ≡ has_serial serial e.timer
same_test handles serial handle e h r = elim (either (e.timer.serial == serial)) [
  | inl k ↦
      let is : e.timer.serial ≡ serial = eqb-true e.timer.serial serial k in
      let at : place_at serial handles ≡ Some e.place = subst (λ n. place_at n handles ≡ Some e.place) is r in
      both_true e.place handle.place e.timer.serial handle.serial (sym (h.same_place e.place at)) (is ∙ sym h.same_serial) ∙ sym k
  | inr k ↦ and_right (e.place == handle.place) (e.timer.serial == handle.serial) (ap (λ n. e.timer.serial == n) h.same_serial ∙ k)
      ∙ sym k
]

first_timer_same : (p q : Entry → Bool) (es : List Entry) → AllByRecursion (λ e. p e ≡ q e) es → first_timer p es ≡ first_timer q es
first_timer_same p q [] a = refl
first_timer_same p q (e ∷ es) a = rw a.0 (ap (λ o. if q e then Some e.timer else o) (first_timer_same p q es a.1))

-- so the recorded handle names the timer that its serial names
pub named-recorded : (handles : HandleList) (s : FacilityState) (client serial : ℕ) (handle : Handle) → AreRecorded handles s
    → IsHandleOf handles serial handle
    → timer_named s client (ByHandle handle) ≡ timer_named s client (BySerial serial)
named-recorded handles s client serial handle a h =
    ap (of_client client) (first_timer_same (has_handle handle) (λ e. has_serial serial e.timer) s.pending
    (All-weaken (IsRecorded handles) (λ e. has_handle handle e ≡ has_serial serial e.timer) s.pending
    (λ e r. same_test handles serial handle e h r) a.each))

-- A binary search by serial finds the place under it.

-- what stands for a handle past the end of a list
abbrev nobody : Handle
nobody = record { place = 0; serial = 0 }

all_at : (P : Handle → Type 0) (hs : HandleList) (i : ℕ) → AllByRecursion P hs → i < length hs → P (get_or hs i nobody)
all_at P hs i a l = All-get_or P hs i nobody l (All-from_recursion P hs a)

serials_rise : (hs : HandleList) (i j : ℕ) → AreSorted hs → i < j → j < length hs
    → (get_or hs i nobody).serial < (get_or hs j nobody).serial
serials_rise [] i j a l m = absurd (omega arith)
serials_rise (x ∷ xs) i zero a l m = absurd (omega arith)
serials_rise (x ∷ xs) zero (suc j) a l m = all_at (λ k. x.serial < k.serial) xs j a.0 (omega arith)
serials_rise (x ∷ xs) (suc i) (suc j) a l m = serials_rise xs i j a.1 (omega arith) (omega arith)

pub place_present : (hs : HandleList) (k i : ℕ) → AreSorted hs → i < length hs → (get_or hs i nobody).serial ≡ k
    → place_at k hs ≡ Some (get_or hs i nobody).place
place_present [] k i a l e = absurd (omega arith)
place_present (x ∷ xs) k zero a l e = rw (eq-eqb x.serial k e) refl
place_present (x ∷ xs) k (suc i) a l e =
    let inside : i < length xs = omega arith in
    let less : x.serial < (get_or xs i nobody).serial = all_at (λ k. x.serial < k.serial) xs i a.0 inside in
    let other : (x.serial == k) ≡ false = is_less x.serial k (subst (λ n. x.serial < n) e less) in
    rw other (place_present xs k i a.1 inside e)

place_absent : (hs : HandleList) (k : ℕ) → ((i : ℕ) → i < length hs → (get_or hs i nobody).serial ≡ k → ⊥)
    → place_at k hs ≡ None
place_absent [] k none = refl
place_absent (x ∷ xs) k none = elim (either (x.serial == k)) [
  | inl e ↦ absurd (none 0 (omega arith) (eqb-true x.serial k e))
  | inr e ↦ rw e (place_absent xs k (λ i l h. none (suc i) (omega arith) h))
]

comparisons_rise : (hs : HandleList) (k : ℕ) → AreSorted hs → IsNonDecreasingBy (λ (h : Handle). ordering_index (nat_cmp h.serial k)) hs
comparisons_rise hs k a = IsNonDecreasingBy-from_default (λ (h : Handle). ordering_index (nat_cmp h.serial k)) hs nobody (λ i j le within.
    let rise : (get_or hs i nobody).serial ≤ (get_or hs j nobody).serial =
    grind (
      arith,
      (λ (l : i < j). serials_rise hs i j a l within),
      (λ (same : i ≡ j). ap (λ n. (get_or hs n nobody).serial) same),
    ) in
    grind (arith, nat_tests))

-- the result of a search by serial
pub searched : (hs : HandleList) (k : ℕ) (r : Result ℕ ℕ) → AreSorted hs → IsSearchInRange r (length hs)
    → IsBinarySearchResult (λ (h : Handle). nat_cmp h.serial k) hs r
    → MatchResult r (λ i. place_at k hs ≡ Some (get_or hs i nobody).place) (λ _. place_at k hs ≡ None)
searched hs k (Ok i) a within found = place_present hs k i a within (ranked _ k _ (sym (found nobody)))
searched hs k (Err i) a within parted =
    let parts = parted (comparisons_rise hs k a) in
    place_absent hs k (λ j l e. elim (cases_lt j i) [
      | inl before ↦ let h = ranked (get_or hs j nobody).serial k _ (sym (parts.0 j nobody (omega arith) before)) in omega arith
      | inr after ↦ let h = ranked (get_or hs j nobody).serial k _ (sym (parts.1 j nobody after l)) in omega arith
    ])
