-- Small facts that lemmas of several crates use: of Booleans, options, lists, and of one timer and a tick.
use Rattle.std.proofs.Common.{arith, ◌≡◌, ◌≢◌, ◌<◌, ◌≤◌, ℕ, min, Bool, true, false, List, [], ◌∷◌, length, filter, Some, None, refl}
use Rattle.std.proofs.lemmas.Bool.Decides.{nat_tests}
use Rattle.std.proofs.lemmas.List.Sums.{length-filter, count_by-le-length}
use Rattle.timer_base.specs.Types.{Timer}
use Rattle.timer_base.specs.Order.{is_before}
use Rattle.timer_base.specs.Pending.{is_due_at}
pub use Rattle.timer_base.specs.WellFormed.{either}

pub some_same : {X : Type 0} (x y : X) → Some x ≡ Some y → x ≡ y
some_same x y e = cc

pub some_none : {X : Type 0} (x : X) → Some x ≡ None → ⊥
some_none x e = cc

pub none_some : {X : Type 0} (x : X) → None ≡ Some x → ⊥
none_some x e = cc

pub empty_when : {X : Type 0} (xs : List X) → length xs ≤ 0 → xs ≡ []
empty_when [] h = refl
empty_when (x ∷ xs) h = absurd (omega arith)

pub filter_no_longer : {X : Type 0} (p : X → Bool) (xs : List X) → length (filter p xs) ≤ length xs
filter_no_longer p xs = omega (arith, length-filter p xs, count_by-le-length p xs)

pub is_due : (tick : ℕ) (t : Timer) → t.deadline ≡ tick → is_due_at tick t ≡ true
is_due tick t e = grind (arith, nat_tests)

pub is_not_due : (tick : ℕ) (t : Timer) → t.deadline ≢ tick → is_due_at tick t ≡ false
is_not_due tick t n = grind (arith, nat_tests)

pub not_due_before : (tick : ℕ) (t : Timer) → tick < t.deadline → is_due_at tick t ≡ false
not_due_before tick t h = grind (arith, nat_tests)

pub later_if_not_due : (tick : ℕ) (t : Timer) → tick ≤ t.deadline → is_due_at tick t ≡ false → tick < t.deadline
later_if_not_due tick t h k = grind (arith, nat_tests)

pub least_if_before : (t u : Timer) → is_before t u ≡ true → t.deadline ≡ min t.deadline u.deadline
least_if_before t u h = grind (arith, nat_tests)

pub least_if_after : (t u : Timer) → is_before t u ≡ false → u.deadline ≡ min t.deadline u.deadline
least_if_after t u h = grind (arith, nat_tests)
