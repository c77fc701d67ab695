-- The handles that a sweep leaves: those of pending timers.
use Rattle.std.proofs.Common.{◌≡◌, ◌<◌, ◌≤◌, ℕ, Bool, true, false, ◌==◌, ◌||◌, List, [], ◌∷◌, length, filter, map, refl, sym, ◌∙◌, ap, subst, arith, inl, inr, IsSome, nat_eq}
use Rattle.std.specs.Prelude.{Some, is_some}
use Rattle.std.specs.List.{AllByRecursion, list_any, IsDistinct}
use Rattle.std.specs.Map.{lookup}
use Rattle.std.specs.Cmp.{nat_eq_equiv}
use Rattle.std.proofs.lemmas.Bool.{eqb-true, ne_eqb}
use Rattle.std.proofs.lemmas.List.{length-map}
use Rattle.std.proofs.lemmas.Map.Steps.{length-le_from_keys}
use Rattle.std.proofs.lemmas.Bool.Decides.{nat_tests}
use Rattle.timer_facility.specs.Types.{Handle}
use Rattle.timer_base.proofs.Basics.{either}
use Rattle.timer_base.proofs.OrderLaws.{All-filter, All-weaken}
use Rattle.timer_base.specs.Pending.{Entry, has_handle, first_timer}
use Rattle.timer_facility.specs.State.{FacilityState}
use Rattle.timer_facility.specs.Handles.{HandleList, place_at, AreSorted, is_pending, IsRecorded, AreRecorded, AreFew}
use Rattle.timer_facility.proofs.HandlesLemmas.{both_true}

-- a place that is found is that of a handle in the list, so a filter that keeps the handle keeps it
place_at-filter : (p : Handle → Bool) (hs : HandleList) (serial place : ℕ) → p (record { place = place; serial = serial }) ≡ true
    → place_at serial hs ≡ Some place → place_at serial (filter p hs) ≡ Some place
place_at-filter p [] serial place pass e = absurd cc
place_at-filter p (x ∷ xs) serial place pass e = elim (either (x.serial == serial)) [
  | inl k ↦
      let same_serial : x.serial ≡ serial = eqb-true x.serial serial k in
      let found : Some x.place ≡ Some place = rw k at e in
      let same_place : x.place ≡ place = cc in
      let passes : p x ≡ true = ap (λ m. p (record { place = m; serial = x.serial })) same_place
      ∙ ap (λ n. p (record { place = place; serial = n })) same_serial ∙ pass in
      rw passes (rw k found)
  | inr k ↦
      let later : place_at serial (filter p xs) ≡ Some place = place_at-filter p xs serial place pass
      (rw k at e) in
      elim (either (p x)) [
        | inl good ↦ rw good (rw k later)
        | inr fails ↦ rw fails later
      ]
]

-- of pending entries each is found
finds : (e : Entry) → has_handle (record { place = e.place; serial = e.timer.serial }) e ≡ true
finds e = both_true e.place e.place e.timer.serial e.timer.serial refl refl

found_more : (h : Handle) (x : Entry) (xs : List Entry) → is_some (first_timer (has_handle h) xs) ≡ true
    → is_some (first_timer (has_handle h) (x ∷ xs)) ≡ true
found_more h x xs e = elim (either (has_handle h x)) [
  | inl k ↦ rw k refl
  | inr k ↦ rw k e
]

all_found : (es : List Entry) → AllByRecursion (λ e. is_some (first_timer
    (has_handle (record { place = e.place; serial = e.timer.serial })) es) ≡ true) es
all_found [] = tt
all_found (x ∷ xs) = (
  rw (finds x) refl,
  All-weaken (λ e. is_some (first_timer (has_handle (record { place = e.place; serial = e.timer.serial })) xs)
      ≡ true) (λ e. is_some (first_timer (has_handle (record { place = e.place; serial = e.timer.serial })) (x ∷ xs)) ≡ true) xs
      (λ e h. found_more (record { place = e.place; serial = e.timer.serial }) x xs h) (all_found xs),
)

all_stay : (p : Handle → Bool) (handles : HandleList) (es : List Entry)
    → AllByRecursion (λ e. p (record { place = e.place; serial = e.timer.serial }) ≡ true) es → AllByRecursion (IsRecorded handles) es
    → AllByRecursion (IsRecorded (filter p handles)) es
all_stay p handles [] a b = tt
all_stay p handles (e ∷ es) a b = (place_at-filter p handles e.timer.serial e.place a.0 b.0, all_stay p handles es a.1 b.1)

AreSorted-filter : (p : Handle → Bool) (hs : HandleList) → AreSorted hs → AreSorted (filter p hs)
AreSorted-filter p [] a = tt
AreSorted-filter p (x ∷ xs) a = elim (either (p x)) [
  | inl k ↦ rw k (All-filter (λ h. x.serial < h.serial) (λ h. x.serial < h.serial) p xs (λ h _ l. l) a.0, AreSorted-filter p xs a.1)
  | inr k ↦ rw k (AreSorted-filter p xs a.1)
]

pub recorded_swept : (handles : HandleList) (s : FacilityState) → AreRecorded handles s → AreRecorded (filter (is_pending s) handles) s
recorded_swept handles s a = record {
  sorted = AreSorted-filter (is_pending s) handles a.sorted;
  used = All-filter (λ h. h.serial < s.next_serial) (λ h. h.serial < s.next_serial) (is_pending s) handles (λ h _ l. l) a.used;
  each = all_stay (is_pending s) handles s.pending (all_found s.pending) a.each;
}

-- ---- at most as many handles as pending timers

-- the pending entries by serial
abbrev by_serial : List Entry → List (ℕ × ℕ)
by_serial es = map (λ e. (e.timer.serial, e.place)) es

abbrev serials : HandleList → List ℕ
serials hs = map (λ h. h.serial) hs

all_apart : (n : ℕ) (hs : HandleList) → AllByRecursion (λ k. n < k.serial) hs → AllByRecursion (λ y. nat_eq n y ≡ false) (serials hs)
all_apart n [] a = tt
all_apart n (x ∷ xs) a = (let l : n < x.serial = a.0 in ne_eqb n x.serial (λ e. omega (arith, e)), all_apart n xs a.1)

distinct : (hs : HandleList) → AreSorted hs → IsDistinct nat_eq (serials hs)
unfolding IsDistinct
distinct [] a = tt
distinct (x ∷ xs) a = (all_apart x.serial xs a.0, distinct xs a.1)

serial_of_handle : (h : Handle) (e : Entry) → has_handle h e ≡ true → nat_eq h.serial e.timer.serial ≡ true
serial_of_handle h e k = grind (arith, nat_tests)

pending_some : (h : Handle) (es : List Entry) → is_some (first_timer (has_handle h) es) ≡ true
    → IsSome (lookup (nat_eq h.serial) (by_serial es))
pending_some h [] e = absurd cc
pending_some h (x ∷ xs) e = elim (either (has_handle h x)) [
  | inl k ↦ rw (serial_of_handle h x k) refl
  | inr k ↦ elim (either (nat_eq h.serial x.timer.serial)) [
    | inl m ↦ rw m refl
    | inr m ↦ rw m (pending_some h xs (rw k at e))
  ]
]

some_pending : (s : FacilityState) (hs : HandleList) (q : ℕ) → list_any (nat_eq q) (serials (filter (is_pending s) hs)) ≡ true
    → IsSome (lookup (nat_eq q) (by_serial s.pending))
some_pending s [] q e = absurd cc
some_pending s (x ∷ xs) q e = elim (either (is_pending s x)) [
  | inl k ↦
      let e' : (nat_eq q x.serial || list_any (nat_eq q) (serials (filter (is_pending s) xs))) ≡ true = rw k at e in
      elim (either (nat_eq q x.serial)) [
        | inl m ↦ subst (λ n. IsSome (lookup (nat_eq n) (by_serial s.pending))) (sym (eqb-true q x.serial m))
            (pending_some x s.pending k)
        | inr m ↦ some_pending s xs q (rw m at e')
      ]
  | inr k ↦ some_pending s xs q (rw k at e)
]

pub few_swept : (handles : HandleList) (s : FacilityState) → AreSorted handles → AreFew (filter (is_pending s) handles) s
few_swept handles s a =
    let kept : HandleList = filter (is_pending s) handles in
    let few : length (serials kept) ≤ length (by_serial s.pending) =
    length-le_from_keys nat_eq_equiv (serials kept) (by_serial s.pending) (distinct kept (AreSorted-filter (is_pending s) handles a))
    (some_pending s handles) in
    omega (
      arith,
      few,
      length-map kept (λ (h : Handle). h.serial),
      length-map {B = ℕ × ℕ} s.pending (λ e. (e.timer.serial, e.place)),
    )
