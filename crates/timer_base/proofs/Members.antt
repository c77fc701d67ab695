-- The members of a list: of two lists joined, and what holds of all holds of each.
use Rattle.std.proofs.Common.{◌≡◌, ◌⊎◌, List, [], ◌∷◌, ◌++◌, subst, inl, inr}
use Rattle.std.specs.List.{AllByRecursion}
use Rattle.timer_base.specs.Order.{IsMember}

pub in_left : {X : Type 0} (x : X) (xs ys : List X) → IsMember x xs → IsMember x (xs ++ ys)
in_left x [] ys a = absurd a
in_left x (y ∷ xs) ys a = elim a [ inl h ↦ inl h | inr h ↦ inr (in_left x xs ys h) ]

pub in_right : {X : Type 0} (x : X) (xs ys : List X) → IsMember x ys → IsMember x (xs ++ ys)
in_right x [] ys a = a
in_right x (y ∷ xs) ys a = inr (in_right x xs ys a)

pub in_either : {X : Type 0} (x : X) (xs ys : List X) → IsMember x (xs ++ ys) → IsMember x xs ⊎ IsMember x ys
in_either x [] ys m = inr m
in_either x (y ∷ xs) ys (inl h) = inl (inl h)
in_either x (y ∷ xs) ys (inr m) = elim (in_either x xs ys m) [ inl a ↦ inl (inr a) | inr b ↦ inr b ]

-- what holds of all holds of one of them
pub at_member : {X : Type 0} (P : X → Type 0) (x : X) (ys : List X) → AllByRecursion P ys → IsMember x ys → P x
at_member P x [] a m = absurd m
at_member P x (y ∷ ys) a m = elim m [ inl h ↦ subst P h a.0 | inr h ↦ at_member P x ys a.1 h ]
