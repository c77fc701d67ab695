-- Results that are handed on, tests, and lists.
use Rattle.std.proofs.Common.{◌≡◌, ◌==◌, ◌≤◌, Bool, true, false, List, [], ◌∷◌, ◌++◌, length, ap, sym, subst, arith, eqb-true, Result, Ok, Err, OnErr, IfErr, IsErrAnd}
use Rattle.std.proofs.lemmas.List.{nil_from_length}
use Rattle.std.specs.List.{AllByRecursion}

-- an error that is passed on
pub passed_on : {A E : Type 0} (result : Result A E) (fault : E) → IsErrAnd result (λ e. e ≡ fault) → result ≡ Err fault
passed_on (Ok x) fault h = absurd h
passed_on (Err e) fault h = ap Err h

-- and what holds of it
pub handed_on : {A E : Type 0} (P : E → Type 0) (result : Result A E) (fault : E) → IsErrAnd result (λ e. e ≡ fault) → P fault
    → IfErr result P
handed_on P (Ok x) fault h p = absurd h
handed_on P (Err e) fault h p = subst P (sym h) p

-- what holds holds of a failure
pub on_err : {A E B : Type 0} (result : Result A E) → B → OnErr result B
on_err (Ok x) b = tt
on_err (Err e) b = b

pub true_false : (b : Bool) → b ≡ true → b ≡ false → ⊥
true_false b h k = cc

-- whether a list is empty, as it is tested
pub emptied : {A : Type 0} (xs : List A) → (length xs == 0) ≡ true → xs ≡ []
emptied xs e = nil_from_length xs (eqb-true (length xs) 0 e)

pub not_emptied : {A : Type 0} (xs : List A) → (length xs == 0) ≡ false → 1 ≤ length xs
not_emptied [] e = absurd cc
not_emptied (x ∷ xs) e = omega arith

-- what holds of the elements of two lists
pub all_append : {A : Type 0} (P : A → Type 0) (xs ys : List A) → AllByRecursion P xs → AllByRecursion P ys → AllByRecursion P (xs ++ ys)
all_append P [] ys a b = b
all_append P (x ∷ xs) ys a b = (a.0, all_append P xs ys a.1 b)
