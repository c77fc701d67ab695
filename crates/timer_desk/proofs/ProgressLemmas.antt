-- How much is left to do, when one client makes progress.
use Rattle.std.proofs.Common.{◌≡◌, ◌<◌, ◌+◌, ◌∙◌, ℕ, Bool, true, false, List, Vec, [], ◌∷◌, length, vec_len, get_or, take, refl, ap, arith, append-nil}
use Rattle.std.specs.Prelude.{slice_set}
use Rattle.std.proofs.lemmas.List.{take_more, set-get_or}
use Rattle.std.proofs.lemmas.List.Sums.{sum_by-set}
use Rattle.timer_desk.specs.Types.{Progress, Done}
use Rattle.timer_desk.specs.Driver.{left_for, all_left, HasCounted}
use Rattle.timer_desk.specs.Report.{asked, asked_in, flushed, flushed_in}
use Rattle.timer_desk.proofs.DriverLemmas.{asked_sum, flushed_sum}

pub all_left-at : {Z : Type 0} (goal : ℕ) (all : Vec Progress Z) (c : ℕ) (x new : Progress) → c < vec_len all → x ≡ get_or all.items c x
    → all_left goal (slice_set all.items c new) + left_for goal x ≡ all_left goal all.items + left_for goal new
all_left-at goal all c x new l h =
    let at = sum_by-set (left_for goal) all.items c new x (omega (arith, l, all.ok)) in
    let is = ap (left_for goal) h in
    omega (arith, at, is)

-- the count that is set is the one that stood there
pub nothing_set : (ps : List Progress) (c : ℕ) (x new : Progress) → x ≡ get_or ps c x → new ≡ x → slice_set ps c new ≡ ps
nothing_set ps c x new there same = ap (λ p. slice_set ps c p) (same ∙ there) ∙ set-get_or ps c x

-- less is left than at the start, whether or not something was counted before
pub fewer_left : (goal : ℕ) (passed : Bool) (start old new : List Progress) → (passed ≡ true → all_left goal old < all_left goal start)
    → (passed ≡ false → old ≡ start) → all_left goal new < all_left goal old → all_left goal new < all_left goal start
fewer_left goal true start old new fewer same more = let f = fewer refl in omega arith
fewer_left goal false start old new fewer same more = let e = ap (all_left goal) (same refl) in omega arith

-- one more member
pub counted_one_more : (goal c : ℕ) (report : List Done) (n : ℕ) (d : Done) (x y z : Progress) → n < length report
    → HasCounted goal (length (asked c (take n report))) (flushed c (take n report)) x y
    → HasCounted goal (length (asked_in c (get_or report n d))) (flushed_in c (get_or report n d)) y z
    → HasCounted goal (length (asked c (take (n + 1) report))) (flushed c (take (n + 1) report)) x z
counted_one_more goal c report n d x y z l h k =
    let member : Done = get_or report n d in
    let split = take_more report n d l in
    let a = ap (λ r. length (asked c r)) split ∙ asked_sum c (take n report) (member ∷ []) in
    let b = ap (flushed c) split ∙ flushed_sum c (take n report) (member ∷ []) in
    let one = ap (λ xs. length xs) (append-nil (asked_in c member)) in
    let h0 = h.served in
    let h1 = h.flushed in
    let k0 = k.served in
    let k1 = k.flushed in
    record { served = omega arith; flushed = omega arith }
