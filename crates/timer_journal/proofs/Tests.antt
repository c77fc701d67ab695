-- Tests on numbers and options, and what follows from them.
use Rattle.std.proofs.Common.{◌≡◌, ◌≢◌, ◌⊎◌, inl, inr, ℕ, ◌<◌, ◌≤◌, Bool, true, false, cond, ◌&&◌, ◌||◌, ◌==◌, nat_le, Option, Some, None, refl, arith}
use Rattle.std.proofs.lemmas.Bool.Decides.{nat_tests}

pub le_holds : (m n : ℕ) → nat_le m n ≡ true → m ≤ n
le_holds m n is = grind (arith, nat_tests)

pub le_test : (m n : ℕ) → m ≤ n → nat_le m n ≡ true
le_test m n le = grind (arith, nat_tests)

pub le_fails : (m n : ℕ) → n < m → nat_le m n ≡ false
le_fails m n lt = grind (arith, nat_tests)

pub eq_holds : (m n : ℕ) → (m == n) ≡ true → m ≡ n
eq_holds m n is = grind (arith, nat_tests)

pub eq_test : (m n : ℕ) → m ≡ n → (m == n) ≡ true
eq_test m n is = grind (arith, nat_tests)

pub eq_fails : (m n : ℕ) → m ≢ n → (m == n) ≡ false
eq_fails m n isnt = grind (arith, nat_tests)

pub both : (a b : Bool) → a ≡ true → b ≡ true → (a && b) ≡ true
both true b x y = y
both false b x y = absurd cc

pub both_hold : (a b : Bool) → (a && b) ≡ true → (a ≡ true) × (b ≡ true)
both_hold true b is = (refl, is)
both_hold false b is = absurd cc

pub no_second : (a : Bool) → (a && false) ≡ false
no_second true = refl
no_second false = refl

pub second : (a b : Bool) → b ≡ true → (a || b) ≡ true
second true b is = refl
second false b is = is

pub one_holds : (a b : Bool) → (a || b) ≡ true → (a ≡ true) ⊎ (b ≡ true)
one_holds true b is = inl refl
one_holds false b is = inr is

pub found : {A : Type 0} (b : Bool) (x y : A) → cond b (Some x) None ≡ Some y → (b ≡ true) × (x ≡ y)
found true x y is = (refl, cc)
found false x y is = absurd cc

pub not_found : {A : Type 0} (b : Bool) (x : A) → cond b (Some x) None ≡ None → b ≡ false
not_found true x is = absurd cc
not_found false x is = refl

pub some_or_none : {A : Type 0} (o : Option A) → (o ≡ None) ⊎ ((x : A) × (o ≡ Some x))
some_or_none None = inl refl
some_or_none (Some x) = inr (x, refl)
