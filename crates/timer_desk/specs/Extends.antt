-- Lists that only grow at their end.
use Rattle.std.specs.Prelude.{◌≡◌, List, ◌++◌, length, take, drop}
use Rattle.std.proofs.Common.{◌∙◌, ap, sym, append_assoc}
use Rattle.std.proofs.lemmas.List.{take-append-drop}
use Rattle.std.proofs.Math.Seq.{take-length, take-append_seam}

-- the second list begins with the first
abbrev pub Extends : {X : Type 0} → List X → List X → Type 0
Extends xs ys = take (length xs) ys ≡ xs

pub Extends-refl : {X : Type 0} (xs : List X) → Extends xs xs
Extends-refl xs = take-length xs

pub Extends-front : {X : Type 0} (xs ys : List X) → Extends xs (xs ++ ys)
Extends-front xs ys = take-append_seam xs ys

-- a list that extends another is that list and more
pub Extends-is : {X : Type 0} (xs ys : List X) → Extends xs ys → ys ≡ xs ++ drop (length xs) ys
Extends-is xs ys h = sym (take-append-drop (length xs) ys) ∙ ap (λ zs. zs ++ drop (length xs) ys) h

pub Extends-trans : {X : Type 0} (xs ys zs : List X) → Extends xs ys → Extends ys zs → Extends xs zs
Extends-trans xs ys zs h k =
    ap (take (length xs))
    (Extends-is ys zs k ∙ ap (λ us. us ++ drop (length ys) zs) (Extends-is xs ys h)
    ∙ append_assoc xs (drop (length xs) ys) (drop (length ys) zs))
    ∙ Extends-front xs (drop (length xs) ys ++ drop (length ys) zs)
