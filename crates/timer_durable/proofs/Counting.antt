-- Lines of a text that grew.
use Rattle.std.proofs.Common.{◌≡◌, ℕ, zero, suc, ◌+◌, ◌-◌, ◌^◌, ◌<◌, ◌≤◌, ◌==◌, Bool, true, false, cond, List, [], ◌∷◌, ◌++◌, Option, None, Some, refl, sym, ap, ◌∙◌, arith}
use Rattle.timer_durable.specs.Types.{LAST, Beginning, KeepFault}
use Rattle.timer_durable.specs.declared.fault.KeepFault.TheVariants as faults
use Rattle.timer_durable.specs.Answers.{lines_in, after_lines, unseen_of, counted, IsFaultInSeen, WhyNotGreeted}

either : (b : Bool) (m n k : ℕ) → (m ≡ n + k) → cond b (suc m) m ≡ cond b (suc n) n + k
either true m n k is = omega (arith, is)
either false m n k is = is

pub lines_in-append : (a b : List ℕ) → lines_in (a ++ b) ≡ lines_in a + lines_in b
lines_in-append [] b = omega arith
lines_in-append (x ∷ a) b = either (x == 10) (lines_in (a ++ b)) (lines_in a) (lines_in b) (lines_in-append a b)

no_line_less : (k : ℕ) → 0 - k ≡ 0
no_line_less k = omega arith

one_line_less : (n k : ℕ) → n - k ≡ suc n - suc k
one_line_less n k = omega arith

all_left : (n : ℕ) → n ≡ n - 0
all_left n = omega arith

one_byte : (fed : Bool) (n k : ℕ) (b p q p' q' : List ℕ) → p ≡ p' ++ after_lines (n - k) b → q ≡ q' ++ after_lines (suc n - k) b
    → cond fed p q ≡ cond fed p' q' ++ after_lines (suc n - cond fed (suc k) k) b
one_byte true n k b p q p' q' one other = one ∙ ap (λ m. p' ++ after_lines m b) (one_line_less n k)
one_byte false n k b p q p' q' one other = other

pub after_lines-append : (n : ℕ) (a b : List ℕ) → after_lines n (a ++ b) ≡ after_lines n a ++ after_lines (n - lines_in a) b
after_lines-append zero a b = ap (λ m. a ++ after_lines m b) (sym (no_line_less (lines_in a)))
after_lines-append (suc n) [] b = ap (λ m. after_lines m b) (all_left (suc n))
after_lines-append (suc n) (x ∷ a) b =
    one_byte (x == 10) n (lines_in a) b (after_lines n (a ++ b)) (after_lines (suc n) (a ++ b)) (after_lines n a) (after_lines (suc n) a)
    (after_lines-append n a b) (after_lines-append (suc n) a b)

pub nothing_after : (n : ℕ) → [] ≡ after_lines n []
nothing_after zero = refl
nothing_after (suc n) = refl

pub nothing_unseen : (before : ℕ) (seen : Option ℕ) → [] ≡ unseen_of before seen []
nothing_unseen before None = refl
nothing_unseen before (Some seen) = nothing_after (seen - before)

pub counted_nothing : (count : ℕ) → count < 2 ^ 64 → count ≡ counted count []
counted_nothing count fits = omega arith

pub counted_more : (start : ℕ) (a b : List ℕ) → counted (counted start a) b ≡ counted start (a ++ b)
counted_more start a b = omega (arith, lines_in-append a b)

-- a count that is not at its greatest value is exact
pub counted_all : (start count : ℕ) (text : List ℕ) → count ≡ counted start text → count ≤ LAST → count ≡ start + lines_in text
counted_all start count text is small = omega arith
