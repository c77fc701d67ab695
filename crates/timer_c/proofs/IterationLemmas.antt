-- Lemmas for iterations: what is held all the time is found exactly once.
use Rattle.std.proofs.Common.{ℕ, ◌≡◌, ◌≢◌, ◌+◌, ◌<◌, ◌≤◌, ◌⊎◌, ◌==◌, ◌&&◌, Bool, true, false, List, [], ◌∷◌, Option, Some, None, IsSome, length, filter, refl, sym, ◌∙◌, ap, subst, inl, inr, arith}
use Rattle.std.specs.List.{AllByRecursion}
use Rattle.std.proofs.lemmas.Bool.{cases_eq, eq-eqb, ne_eqb, eqb-true, and_parts}
use Rattle.timer_base.proofs.Basics.{some_same, none_some, either}
use Rattle.timer_base.specs.declared.timer.Handle.{Handle}
use Rattle.timer_base.specs.declared.timer.Timer.{Timer}
use Rattle.timer_base.specs.Pending.{Entry, has_handle, first_timer, first_found}
use Rattle.timer_base.specs.WheelState.{WheelState, timer_at, held_at}
use Rattle.timer_wheels.specs.HeldPlaces.{IsHeld, IsAlone}
use Rattle.timer_c.specs.declared.layout.CHandle.{CHandle}
use Rattle.timer_c.specs.declared.layout.Expired.{Expired}
use Rattle.timer_c.specs.Outcomes.{base_handle, told}
use Rattle.timer_c.specs.Iteration.{Visit, AreVisits, IsOccupied, IsHeldThroughout, IsOccupiedThroughout, found_under, found_at}

-- The entry of a held timer.

-- the entry of the timer with this handle, of which this holds
record EntryOf (P : Entry → Type 0) (handle : Handle) (t : Timer) : Type 0 where
  pub entry : Entry
  pub place : entry.place ≡ handle.place
  pub timer : entry.timer ≡ t
  pub serial : t.serial ≡ handle.serial
  pub holds : P entry

entry_in : (P : Entry → Type 0) (handle : Handle) (t : Timer) (es : List Entry) → first_timer (has_handle handle) es ≡ Some t
    → AllByRecursion P es → EntryOf P handle t
entry_in P handle t [] e a = absurd (none_some t e)
entry_in P handle t (x ∷ xs) e a = elim (either (has_handle handle x)) [
  | inl h ↦
      let same : x.timer ≡ t = some_same x.timer t (rw h at e) in
      let parts = and_parts (x.place == handle.place) (x.timer.serial == handle.serial) h in
      record {
        entry = x;
        place = eqb-true x.place handle.place parts.0;
        timer = same;
        serial = ap (λ (u : Timer). u.serial) (sym same) ∙ eqb-true x.timer.serial handle.serial parts.1;
        holds = a.0;
      }
  | inr h ↦ entry_in P handle t xs (rw h at e) a.1
]

entry_in_either : (P : Entry → Type 0) (handle : Handle) (t : Timer) (o : Option Timer) (es ds : List Entry)
    → first_timer (has_handle handle) es ≡ o → first_found o (first_timer (has_handle handle) ds) ≡ Some t
    → AllByRecursion P es → AllByRecursion P ds → EntryOf P handle t
entry_in_either P handle t None es ds k e a b = entry_in P handle t ds e b
entry_in_either P handle t (Some u) es ds k e a b = entry_in P handle t es (k ∙ e) a

-- what holds of all entries holds of that of a held timer
entry_of : (P : Entry → Type 0) (handle : Handle) (t : Timer) (w : WheelState) → held_at handle w ≡ Some t
    → AllByRecursion P w.pending → AllByRecursion P w.due → EntryOf P handle t
entry_of P handle t w e a b = entry_in_either P handle t (timer_at handle w) w.pending w.due refl e a b

some_of : (o : Option Timer) → IsSome o → (t : Timer) × (o ≡ Some t)
some_of None h = absurd (cc)
some_of (Some t) h = (t, refl)

none_told : (out : Expired) → told None ≡ Some out → ⊥
none_told out e = cc

told_some : (o : Option Timer) (out : Expired) → told o ≡ Some out → (t : Timer) × (o ≡ Some t)
told_some None out e = absurd (none_told out e)
told_some (Some t) out e = (t, refl)

-- what holds of each place where a timer stands holds of an occupied one
at_occupied : (Q : ℕ → Type 0) (place : ℕ) (w : WheelState) → IsOccupied place w → AllByRecursion (λ entry. Q entry.place) w.pending
    → AllByRecursion (λ entry. Q entry.place) w.due → Q place
at_occupied Q place w occupied a b =
    let handle : Handle = record { place = place; serial = occupied.0 } in
    let t = some_of (held_at handle w) occupied.1 in
    let x = entry_of (λ entry. Q entry.place) handle t.0 w t.1 a b in
    subst Q x.place x.holds

-- two handles with one place, of which one is alone there, have one serial
one_serial : (own other : Handle) (t : Timer) (w : WheelState) → held_at own w ≡ Some t → IsAlone own w → IsHeld other w
    → own.place ≡ other.place → own.serial ≡ other.serial
one_serial own other t w e alone held same =
    let u = some_of (held_at other w) held in
    let P : Entry → Type 0 = λ entry. entry.place ≡ own.place → entry.timer ≡ t in
    let mine = entry_of P own t w e (alone t e).0 (alone t e).1 in
    let theirs = entry_of P other u.0 w u.1 (alone t e).0 (alone t e).1 in
    let one : u.0 ≡ t = sym theirs.timer ∙ theirs.holds (theirs.place ∙ sym same) in
    sym mine.serial ∙ (ap (λ (x : Timer). x.serial) (sym one) ∙ theirs.serial)

-- Visits that satisfy a test, which is true only of visits at a place.

module _ (test : Visit → Bool) (place : ℕ) (others : (v : Visit) → v.handle.place ≢ place → test v ≡ false) where
  none_found : (from : ℕ) (visits : List Visit) (last : WheelState) → place < from → AreVisits from visits last
      → filter test visits ≡ []
  none_found from [] last h a = refl
  none_found from (v ∷ later) last h a =
      let on : from ≤ v.handle.place = a.1.0 in
      let next : a.0 ≡ v.handle.place + 1 = a.1.1 in
      let n : v.handle.place ≢ place = λ q. absurd (omega arith) in
      rw (others v n) (none_found a.0 later last (omega arith) a.3)

  -- of visits at which the place is occupied, and where those at the place satisfy the test
  module _ (P : WheelState → Type 0) (occupied : (w : WheelState) → P w → IsOccupied place w)
      (own : (v : Visit) (t : Timer) → P v.wheel → held_at (base_handle v.handle) v.wheel ≡ Some t
      → IsAlone (base_handle v.handle) v.wheel → v.handle.place ≡ place → test v ≡ true) where
    one_found : (from : ℕ) (visits : List Visit) (last : WheelState) → from ≤ place → AreVisits from visits last
        → AllByRecursion (λ v. P v.wheel) visits → P last → length (filter test visits) ≡ 1
    one_found from [] last h a all at_last =
        let below : place < from = at_occupied (λ p. p < from) place last (occupied last at_last) a.0 a.1 in
        absurd (omega arith)
    one_found from (v ∷ later) last h a all at_last = elim (cases_eq v.handle.place place) [
      | inl e ↦
          let t = told_some (held_at (base_handle v.handle) v.wheel) v.out a.1.2 in
          let next : a.0 ≡ v.handle.place + 1 = a.1.1 in
          rw (own v t.0 all.0 t.1 a.2 e, none_found a.0 later last (omega arith) a.3) refl
      | inr n ↦
          let next : a.0 ≡ v.handle.place + 1 = a.1.1 in
          let either_side : (place < from) ⊎ (v.handle.place ≤ place) =
          at_occupied (λ p. (p < from) ⊎ (v.handle.place ≤ p)) place v.wheel (occupied v.wheel all.0) a.1.3 a.1.4 in
          rw (others v n) (one_found a.0 later last (omega arith) a.3 all.1 at_last)
    ]

-- The laws.

pub found_once : (visits : List Visit) (last : WheelState) (handle : CHandle) → AreVisits 0 visits last
    → IsHeldThroughout handle visits last → length (found_under handle visits) ≡ 1
found_once visits last handle a held =
    let test : Visit → Bool = λ v. v.handle.place == handle.place && v.handle.serial == handle.serial in
    let others : (v : Visit) → v.handle.place ≢ handle.place → test v ≡ false = λ v n. rw (ne_eqb v.handle.place handle.place n) refl in
    let own : (v : Visit) (t : Timer) → IsHeld (base_handle handle) v.wheel → held_at (base_handle v.handle) v.wheel ≡ Some t
    → IsAlone (base_handle v.handle) v.wheel → v.handle.place ≡ handle.place → test v ≡ true = λ v t h e alone same.
    rw (eq-eqb v.handle.place handle.place same)
    (eq-eqb v.handle.serial handle.serial (one_serial (base_handle v.handle) (base_handle handle) t v.wheel e alone h same)) in
    one_found test handle.place others (IsHeld (base_handle handle)) (λ w h. (handle.serial, h)) own 0 visits last (omega arith) a held.0 held.1

pub found_once_at : (visits : List Visit) (last : WheelState) (place : ℕ) → AreVisits 0 visits last
    → IsOccupiedThroughout place visits last → length (found_at place visits) ≡ 1
found_once_at visits last place a occupied =
    one_found (λ v. v.handle.place == place) place (λ v n. ne_eqb v.handle.place place n) (IsOccupied place) (λ w h. h)
    (λ v t h e alone same. eq-eqb v.handle.place place same) 0 visits last (omega arith) a occupied.0 occupied.1
