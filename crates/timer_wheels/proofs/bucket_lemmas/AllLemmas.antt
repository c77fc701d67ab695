-- Facts of every member of a list: of two facts a third, of what a function makes of the members, and what passes a test.
use Rattle.std.proofs.Common.{◌≡◌, List, [], ◌∷◌, map, filter, Bool, false, not, refl, ap}
use Rattle.std.specs.List.{AllByRecursion}
pub use Rattle.timer_base.proofs.OrderLaws.{filter_none, filter_all as filter_each}

pub all-both : {X : Type 0} (P Q R : X → Type 0) (xs : List X) → ((x : X) → P x → Q x → R x) → AllByRecursion P xs → AllByRecursion Q xs
    → AllByRecursion R xs
all-both P Q R [] f a b = tt
all-both P Q R (x ∷ xs) f a b = (f x a.0 b.0, all-both P Q R xs f a.1 b.1)

pub all-map : {X Y : Type 0} (f : X → Y) (P : Y → Type 0) (xs : List X) → AllByRecursion (λ x. P (f x)) xs → AllByRecursion P (map f xs)
all-map f P [] a = tt
all-map f P (x ∷ xs) a = (a.0, all-map f P xs a.1)

pub all-of_map : {X Y : Type 0} (f : X → Y) (P : Y → Type 0) (xs : List X) → AllByRecursion P (map f xs) → AllByRecursion (λ x. P (f x)) xs
all-of_map f P [] a = tt
all-of_map f P (x ∷ xs) a = (a.0, all-of_map f P xs a.1)

pub filter_rest : {X : Type 0} (p : X → Bool) (xs : List X) → AllByRecursion (λ x. p x ≡ false) xs → filter (λ x. not (p x)) xs ≡ xs
filter_rest p [] a = refl
filter_rest p (x ∷ xs) a = rw a.0 (ap (λ rest. x ∷ rest) (filter_rest p xs a.1))
