-- Sums over rows: of one list, and of the first n lists.
use Rattle.std.proofs.Common.{◌≡◌, ◌<◌, ◌≤◌, ◌+◌, ℕ, zero, suc, [], ◌∷◌, ◌++◌, length, ◌∙◌, refl, sym, ap, inl, inr, arith, Bool, filter, slice_set, get_or-set_same, get_or-set_other}
use Rattle.std.specs.List.{AllByRecursion}
use Rattle.std.proofs.lemmas.Bool.{cases_eq, cases_lt}
use Rattle.timer_base.proofs.Basics.{either}
use Rattle.timer_links.specs.Lists.{with_row}
use Rattle.timer_wheels.specs.Types.{list_at, KeyedLists, Row, Rows}
use Rattle.timer_wheels.specs.lazy.Filed.{sum_of, sum_below}

sum-append : (f : Row → ℕ) (xs ys : Rows) → sum_of f (xs ++ ys) ≡ sum_of f xs + sum_of f ys
sum-append f [] ys = omega arith
sum-append f (x ∷ xs) ys = omega (arith, sum-append f xs ys)

-- where another row stands
sum-put : (f : Row → ℕ) (front rest : Rows) (row was : Row) → sum_of f (front ++ row ∷ rest) ≤ sum_of f (front ++ was ∷ rest) + f row
sum-put f front rest row was = omega (arith, sum-append f front (row ∷ rest), sum-append f front (was ∷ rest))

pub sum-filter : (f : Row → ℕ) (p : Row → Bool) (xs : Rows) → sum_of f (filter p xs) ≤ sum_of f xs
sum-filter f p [] = omega arith
sum-filter f p (x ∷ xs) = elim (either (p x)) [
  | inl k ↦ rw k (omega (arith, sum-filter f p xs))
  | inr k ↦ rw k (omega (arith, sum-filter f p xs))
]

pub sum-mono : (f g : Row → ℕ) (xs : Rows) → AllByRecursion (λ row. g row ≤ f row) xs → sum_of g xs ≤ sum_of f xs
sum-mono f g [] a = omega arith
sum-mono f g (x ∷ xs) a = omega (arith, a.0, sum-mono f g xs a.1)

-- each list has no more than before
pub sums-mono : (f g : ℕ → Row → ℕ) (n : ℕ) (old new : KeyedLists)
    → ((s : ℕ) → s < n → sum_of (g s) (list_at s new) ≤ sum_of (f s) (list_at s old)) → sum_below g n new ≤ sum_below f n old
sums-mono f g zero old new h = omega arith
sums-mono f g (suc n) old new h = omega (arith, sums-mono f g n old new (λ s k. h s (omega arith)), h n (omega arith))

pub sums-none : (f : ℕ → Row → ℕ) (n : ℕ) (lists : KeyedLists) → ((s : ℕ) → s < n → list_at s lists ≡ []) → sum_below f n lists ≡ 0
sums-none f zero lists h = refl
sums-none f (suc n) lists h = omega (arith, sums-none f n lists (λ s k. h s (omega arith)), ap (sum_of (f n)) (h n (omega arith)))

-- one list changes
pub sums-above : (f : ℕ → Row → ℕ) (n s : ℕ) (rows : Rows) (lists : KeyedLists) → n ≤ s
    → sum_below f n (slice_set lists s rows) ≡ sum_below f n lists
sums-above f zero s rows lists h = refl
sums-above f (suc n) s rows lists h =
    omega (arith, sums-above f n s rows lists (omega arith), ap (sum_of (f n)) (get_or-set_other lists s n rows [] (λ (q : n ≡ s). omega arith)))

pub sums-set : (f : ℕ → Row → ℕ) (n s : ℕ) (rows : Rows) (lists : KeyedLists) → s < n → s < length lists
    → sum_below f n (slice_set lists s rows) + sum_of (f s) (list_at s lists) ≡ sum_below f n lists + sum_of (f s) rows
sums-set f zero s rows lists h b = absurd (omega arith)
sums-set f (suc n) s rows lists h b = elim (cases_eq s n) [
  | inl e ↦
      let new : sum_of (f n) (list_at n (slice_set lists s rows)) ≡ sum_of (f s) rows =
      ap (λ (x : ℕ). sum_of (f x) (list_at x (slice_set lists s rows))) (sym e) ∙ ap (sum_of (f s)) (get_or-set_same lists s rows [] b) in
      let was : sum_of (f n) (list_at n lists) ≡ sum_of (f s) (list_at s lists) = ap (λ (x : ℕ). sum_of (f x) (list_at x lists)) (sym e) in
      omega (arith, sums-above f n s rows lists (omega arith))
  | inr x ↦ omega (
    arith,
    sums-set f n s rows lists (omega arith) b,
    ap (sum_of (f n)) (get_or-set_other lists s n rows [] (λ (q : n ≡ s). absurd (x (sym q)))),
  )
]

-- another row comes to where one stood
pub sums-put : (f : ℕ → Row → ℕ) (n s : ℕ) (lists : KeyedLists) (front rest : Rows) (row was : Row) → s < length lists
    → list_at s lists ≡ front ++ was ∷ rest → sum_below f n (slice_set lists s (front ++ row ∷ rest)) ≤ sum_below f n lists + f s row
sums-put f n s lists front rest row was b at = elim (cases_lt s n) [
  | inl k ↦ omega (
    arith,
    sums-set f n s (front ++ row ∷ rest) lists k b,
    ap (sum_of (f s)) at,
    sum-put (f s) front rest row was,
  )
  | inr k ↦ omega (arith, sums-above f n s (front ++ row ∷ rest) lists k)
]

-- a row comes to the back of a list
pub sums-push : (f : ℕ → Row → ℕ) (n s : ℕ) (row : Row) (lists : KeyedLists) → s < length lists
    → sum_below f n (with_row s row lists) ≤ sum_below f n lists + f s row
sums-push f n s row lists b = elim (cases_lt s n) [
  | inl k ↦ omega (
    arith,
    sums-set f n s (list_at s lists ++ row ∷ []) lists k b,
    sum-append (f s) (list_at s lists) (row ∷ []),
  )
  | inr k ↦ omega (arith, sums-above f n s (list_at s lists ++ row ∷ []) lists k)
]
