-- Lemmas: the order of distinct timers is unique, so the result of a sort is the timers in order.
use Rattle.std.proofs.Common.{sym, ◌∙◌, ap, subst, inl, inr, arith, ◌≡◌, ◌≢◌, ◌≤◌, ◌+◌, ℕ, suc, false, ◌==◌, if◌then◌else◌, List, [], ◌∷◌, get_or, map, refl}
use Rattle.std.specs.List.{AllByRecursion, sum_by}
use Rattle.std.specs.List.Sorted.{IsPermutation, IsSortedBy, IsSortedByKey}
use Rattle.std.specs.Ordering.{nat_cmp, ordering_then, is_lt}
use Rattle.std.proofs.lemmas.Bool.{eqb-true, eqb-false}
use Rattle.std.proofs.lemmas.Bool.Decides.{nat_tests}
use Rattle.std.proofs.lemmas.List.Elements.{All-from_recursion, recursion_from_All}
use Rattle.std.proofs.lemmas.List.Sorted.{IsPermutation-refl, IsPermutation-sym, All-permutation, sum_by-IsPermutation}
use Rattle.std.proofs.lemmas.List.Sums.{sum_by-cons}
use Rattle.timer_base.proofs.Basics.{either}
use Rattle.timer_base.proofs.OrderLaws.{All-weaken, All-in_order, IsFirst-weaken, IsOrdered-in_order, AreDistinct-in_order}
use Rattle.timer_base.specs.Types.{Timer}
use Rattle.timer_base.specs.Order.{is_before, insert_in_order, in_order, itself, IsFirst, IsOrdered, IsNotAmong, AreDistinct, IsMember}
pub use Rattle.timer_base.specs.WellFormed.{map-itself}

-- each member of xs is one of ys, and each of ys is one of xs
pub record HaveSameMembers {X : Type 0} (xs ys : List X) : Type 0 where
  pub into : AllByRecursion (λ z. IsMember z ys) xs
  pub back : AllByRecursion (λ z. IsMember z xs) ys

-- What holds of every member holds of a given one.

from_first : {X : Type 0} (timer : X → Timer) (t : Timer) (z : X) (ys : List X) → IsFirst t (map timer ys)
    → IsMember z ys
    → is_before (timer z) t ≡ false
from_first timer t z [] f m = absurd m
from_first {X} timer t z (y ∷ ys) f (inl e) = let P : X → Type 0 = λ w. is_before (timer w) t ≡ false
    in subst P e f.0
from_first timer t z (y ∷ ys) f (inr m) = from_first timer t z ys f.1 m

from_others : {X : Type 0} (timer : X → Timer) (s : ℕ) (z : X) (ys : List X) → IsNotAmong s (map timer ys)
    → IsMember z ys → (timer z).serial ≢ s
from_others timer s z [] n m = absurd m
from_others {X} timer s z (y ∷ ys) n (inl e) = let P : X → Type 0 = λ w. (timer w).serial ≢ s in subst P e n.0
from_others timer s z (y ∷ ys) n (inr m) = from_others timer s z ys n.1 m

neither : (a b : Timer) → a.serial ≢ b.serial → is_before a b ≡ false → is_before b a ≡ false → ⊥
neither a b n h k = grind (arith, nat_tests)

-- Two ordered lists of the same distinct members are equal.

same_heads : {X : Type 0} (timer : X → Timer) (x y : X) (xs ys : List X) → IsFirst (timer x) (map timer xs)
    → IsFirst (timer y) (map timer ys) → IsNotAmong (timer y).serial (map timer ys) → IsMember x (y ∷ ys)
    → IsMember y (x ∷ xs) → x ≡ y
same_heads timer x y xs ys f g n (inl e) m = sym e
same_heads timer x y xs ys f g n (inr l) (inl e) = e
same_heads timer x y xs ys f g n (inr l) (inr m) =
    absurd (neither (timer x) (timer y) (from_others timer (timer y).serial x ys n l)
    (from_first timer (timer y) x ys g l) (from_first timer (timer x) y xs f m))

not_the_head : {X : Type 0} (timer : X → Timer) (x y z : X) (ys : List X) → x ≡ y
    → (timer z).serial ≢ (timer x).serial
    → IsMember z (y ∷ ys) → IsMember z ys
not_the_head timer x y z ys e n (inl h) = absurd (n (ap (λ w. (timer w).serial) (sym (e ∙ h))))
not_the_head timer x y z ys e n (inr m) = m

without_head : {X : Type 0} (timer : X → Timer) (x y : X) (xs ys : List X) → x ≡ y
    → IsNotAmong (timer x).serial (map timer xs)
    → AllByRecursion (λ z. IsMember z (y ∷ ys)) xs → AllByRecursion (λ z. IsMember z ys) xs
without_head timer x y [] ys e n a = tt
without_head timer x y (z ∷ zs) ys e n a = (
  not_the_head timer x y z ys e n.0 a.0,
  without_head timer x y zs ys e n.1 a.1,
)

one_order : {X : Type 0} (timer : X → Timer) (xs ys : List X) → IsOrdered (map timer xs)
    → IsOrdered (map timer ys)
    → AreDistinct (map timer xs) → AreDistinct (map timer ys)
    → AllByRecursion (λ z. IsMember z ys) xs → AllByRecursion (λ z. IsMember z xs) ys → xs ≡ ys
one_order timer [] [] o p d e a b = refl
one_order timer [] (y ∷ ys) o p d e a b = absurd b.0
one_order timer (x ∷ xs) [] o p d e a b = absurd a.0
one_order timer (x ∷ xs) (y ∷ ys) o p d e a b =
    let head : x ≡ y = same_heads timer x y xs ys o.0 p.0 e.0 a.0 b.0 in
    let tail : xs ≡ ys = one_order timer xs ys o.1 p.1 d.1 e.1 (without_head timer x y xs ys head d.0 a.1)
    (without_head timer y x ys xs (sym head) e.0 b.1) in
    cc

-- The members of a list, of that list in order, and of a permutation.

pub each_is_member : {X : Type 0} (xs : List X) → AllByRecursion (λ z. IsMember z xs) xs
each_is_member [] = tt
each_is_member (x ∷ xs) = (
  inl refl,
  All-weaken (λ z. IsMember z xs) (λ z. IsMember z (x ∷ xs)) xs
      (λ z m. inr m) (each_is_member xs),
)

inserted_is_member : {X : Type 0} (timer : X → Timer) (x : X) (ys : List X)
    → IsMember x (insert_in_order timer x ys)
inserted_is_member timer x [] = inl refl
inserted_is_member timer x (y ∷ ys) = elim (either (is_before (timer x) (timer y))) [
  | inl k ↦ rw k (inl refl)
  | inr k ↦ rw k (inr (inserted_is_member timer x ys))
]

rest_is_member : {X : Type 0} (timer : X → Timer) (x z y : X) (ys : List X)
    → (IsMember z ys → IsMember z (insert_in_order timer x ys))
    → IsMember z (y ∷ ys) → IsMember z (y ∷ insert_in_order timer x ys)
rest_is_member timer x z y ys ih (inl e) = inl e
rest_is_member timer x z y ys ih (inr m) = inr (ih m)

IsMember-insert_in_order : {X : Type 0} (timer : X → Timer) (x z : X) (ys : List X) → IsMember z ys
    → IsMember z (insert_in_order timer x ys)
IsMember-insert_in_order timer x z [] m = absurd m
IsMember-insert_in_order timer x z (y ∷ ys) m = elim (either (is_before (timer x) (timer y))) [
  | inl k ↦ rw k (inr m)
  | inr k ↦ rw k (rest_is_member timer x z y ys (IsMember-insert_in_order timer x z ys) m)
]

pub IsMember-in_order : {X : Type 0} (timer : X → Timer) (z : X) (xs : List X) → IsMember z xs
    → IsMember z (in_order timer xs)
IsMember-in_order timer z [] m = absurd m
IsMember-in_order {X} timer z (x ∷ xs) (inl e) =
    let P : X → Type 0 = λ w. IsMember w (insert_in_order timer x (in_order timer xs)) in
    subst P e (inserted_is_member timer x (in_order timer xs))
IsMember-in_order timer z (x ∷ xs) (inr m) = IsMember-insert_in_order timer x z (in_order timer xs)
    (IsMember-in_order timer z xs m)

each_is_among : {X : Type 0} (xs ys : List X) → IsPermutation xs ys → AllByRecursion (λ z. IsMember z xs) ys
each_is_among xs ys p =
    recursion_from_All (λ z. IsMember z xs) ys
    (All-permutation (λ z. IsMember z xs) xs ys p (All-from_recursion (λ z. IsMember z xs) xs
    (each_is_member xs)))

pub same_members : {X : Type 0} (xs ys : List X) → IsPermutation xs ys → HaveSameMembers xs ys
same_members xs ys p = record {
  into = each_is_among ys xs (IsPermutation-sym xs ys p);
  back = each_is_among xs ys p;
}

-- A permutation of distinct timers is distinct: each serial occurs in it as often.

abbrev pub one_at : ℕ → ℕ → ℕ
one_at k n = if n == k then 1 else 0

abbrev pub times_of : {X : Type 0} → (X → Timer) → ℕ → List X → ℕ
times_of timer k xs = sum_by (λ z. one_at k (timer z).serial) xs

pub one_same : (k n : ℕ) → n ≡ k → one_at k n ≡ 1
one_same k n h = grind (arith, nat_tests)

pub one_other : (k n : ℕ) → n ≢ k → one_at k n ≡ 0
one_other k n h = grind (arith, nat_tests)

pub times-cons : {X : Type 0} (timer : X → Timer) (k : ℕ) (x : X) (xs : List X)
    → times_of timer k (x ∷ xs) ≡ one_at k (timer x).serial + times_of timer k xs
times-cons timer k x xs = sum_by-cons (λ z. one_at k (timer z).serial) x xs

pub no_times : {X : Type 0} (timer : X → Timer) (k : ℕ) (xs : List X) → IsNotAmong k (map timer xs)
    → times_of timer k xs ≡ 0
no_times timer k [] n = refl
no_times timer k (x ∷ xs) n = omega (
  arith,
  times-cons timer k x xs,
  one_other k (timer x).serial n.0,
  no_times timer k xs n.1,
)

pub once_at_most : {X : Type 0} (timer : X → Timer) (k : ℕ) (xs : List X) → AreDistinct (map timer xs)
    → times_of timer k xs ≤ 1
once_at_most timer k [] d = omega arith
once_at_most timer k (x ∷ xs) d = elim (either ((timer x).serial == k)) [
  | inl h ↦ let e : (timer x).serial ≡ k = eqb-true (timer x).serial k h in
      let none : times_of timer (timer x).serial xs ≡ 0 = no_times timer (timer x).serial xs d.0 in
      let none_k : times_of timer k xs ≡ 0 = ap (λ s. times_of timer s xs) (sym e) ∙ none in
      omega (arith, times-cons timer k x xs, one_same k (timer x).serial e, none_k)
  | inr h ↦ omega (
    arith,
    times-cons timer k x xs,
    one_other k (timer x).serial (eqb-false (timer x).serial k h),
    once_at_most timer k xs d.1,
  )
]

pub not_among_from : {X : Type 0} (timer : X → Timer) (k : ℕ) (xs : List X) → times_of timer k xs ≡ 0
    → IsNotAmong k (map timer xs)
not_among_from timer k [] z = tt
not_among_from timer k (x ∷ xs) z = (
  (λ e. omega (arith, z, times-cons timer k x xs, one_same k (timer x).serial e)),
  not_among_from timer k xs (omega (arith, z, times-cons timer k x xs)),
)

pub distinct_from : {X : Type 0} (timer : X → Timer) (xs : List X) → ((k : ℕ) → times_of timer k xs ≤ 1)
    → AreDistinct (map timer xs)
distinct_from timer [] a = tt
distinct_from timer (x ∷ xs) a = (
  not_among_from timer (timer x).serial xs
      (omega (
        arith,
        a (timer x).serial,
        times-cons timer (timer x).serial x xs,
        one_same (timer x).serial (timer x).serial refl,
      )),
  distinct_from timer xs (λ k. omega (arith, a k, times-cons timer k x xs)),
)

pub AreDistinct-permuted : {X : Type 0} (timer : X → Timer) (xs ys : List X) → IsPermutation xs ys
    → AreDistinct (map timer xs)
    → AreDistinct (map timer ys)
AreDistinct-permuted timer xs ys p d =
    distinct_from timer ys (λ k. omega (
      arith,
      sum_by-IsPermutation (λ z. one_at k (timer z).serial) xs ys p,
      once_at_most timer k xs d,
    ))

-- The laws.

-- two ordered lists of the same distinct timers are equal
pub the_order_is_one : (xs ys : List Timer) → IsPermutation xs ys → AreDistinct xs → IsOrdered xs → IsOrdered ys → xs ≡ ys
the_order_is_one xs ys p d o q =
    let m = same_members xs ys p in
    let apart : AreDistinct (map itself xs) = rw (map-itself xs) d in
    one_order itself xs ys (rw (map-itself xs) o) (rw (map-itself ys) q) apart (AreDistinct-permuted itself xs ys p apart) m.into m.back

-- what is ordered and a permutation of distinct timers is those in order
pub ordered_is_in_order : {X : Type 0} (timer : X → Timer) (xs ys : List X) → IsPermutation xs ys
    → AreDistinct (map timer xs)
    → IsOrdered (map timer ys) → ys ≡ in_order timer xs
ordered_is_in_order timer xs ys p d o =
    let m = same_members xs ys p in
    one_order timer ys (in_order timer xs) o (IsOrdered-in_order timer xs)
    (AreDistinct-permuted timer xs ys p d) (AreDistinct-in_order timer xs d)
    (All-weaken (λ z. IsMember z xs) (λ z. IsMember z (in_order timer xs)) ys
    (λ z i. IsMember-in_order timer z xs i) m.back)
    (All-in_order timer (λ z. IsMember z ys) xs m.into)

-- an ordered list of distinct timers is in order already
pub in_order-ordered : {X : Type 0} (timer : X → Timer) (xs : List X) → AreDistinct (map timer xs)
    → IsOrdered (map timer xs) → in_order timer xs ≡ xs
in_order-ordered timer xs d o = sym (ordered_is_in_order timer xs xs (IsPermutation-refl xs) d o)

-- A sort by deadline and serial.

-- the sort key
abbrev pub key_of : Timer → ℕ × ℕ
key_of t = (t.deadline, t.serial)

key_is_before : (a b : Timer) → is_lt (ordering_then (nat_cmp a.deadline b.deadline) (nat_cmp a.serial b.serial)) ≡ is_before a b
key_is_before a b = grind (arith, nat_tests)

sorted_tail : (t : Timer) (ts : List Timer) → IsSortedBy is_before (t ∷ ts) → IsSortedBy is_before ts
sorted_tail t ts s = λ k d l h. let e : suc k + 1 ≡ suc (k + 1) = omega arith in rw e at (s (suc k) d (omega arith) (omega arith))

sorted_is_ordered : (ts : List Timer) → IsSortedBy is_before ts → IsOrdered ts
sorted_is_ordered [] s = tt
sorted_is_ordered (t ∷ []) s = (tt, tt)
sorted_is_ordered (t ∷ u ∷ us) s =
    let front : is_before u t ≡ false = s 0 t (omega arith) (omega arith) in
    let rest : IsOrdered (u ∷ us) = sorted_is_ordered (u ∷ us) (sorted_tail t (u ∷ us) s) in
    ((front, IsFirst-weaken t u us front rest.0), rest)

-- the result of a sort of distinct timers
pub sorted_in_order : (old new : List Timer) → IsPermutation old new → AreDistinct old
    → IsSortedByKey key_of (λ x y. ordering_then (nat_cmp x.0 y.0) (nat_cmp x.1 y.1)) new → new ≡ in_order itself old
sorted_in_order old new p d s = ordered_is_in_order itself old new p (rw (map-itself old) d)
    (rw (map-itself new) (sorted_is_ordered new
    (λ k e l h. sym (key_is_before (get_or new (k + 1) e) (get_or new k e)) ∙ s k e l h)))
