-- Expired timers that are taken one after another into an array.
use Rattle.std.proofs.Common.{ℕ, zero, suc, ◌≡◌, ◌+◌, ◌<◌, ◌≤◌, List, [], ◌∷◌, ◌++◌, length, refl, ap, ◌∙◌, sym, arith, add-one}
use Rattle.std.specs.Prelude.{Option, Some, None, map, take, drop, slice_get, slice_set}
use Rattle.timer_base.specs.declared.timer.Timer.{Timer}
use Rattle.timer_base.specs.Pending.{Entry, timers_of}
use Rattle.timer_base.specs.WheelState.{first_due, after_expiry}
use Rattle.timer_total.specs.TimersState.{TimersState, with_wheel}
use Rattle.timer_c.specs.declared.layout.Expired.{Expired}
use Rattle.timer_c.specs.Outcomes.{tell, after_expiries}

-- this many were taken, and are written over the front of the array
pub record AreTaken (count : ℕ) (out : List Expired) (old : TimersState) (out' : List Expired) (new : TimersState) : Type 0 where
  pub some : count ≤ length old.wheel.due
  pub told : out' ≡ map tell (take count (timers_of old.wheel.due)) ++ drop count out
  pub rest : new ≡ with_wheel (after_expiries count old.wheel) old

abbrev no_timer : Option Timer
no_timer = None

none_some : (t : Timer) → no_timer ≡ Some t → ⊥
none_some t e = cc

same : (x t : Timer) → Some x ≡ Some t → x ≡ t
same x t e = cc

-- the next one that is due is written after those before it
next : (n : ℕ) (due : List Entry) (out : List Expired) (t : Timer) → slice_get (timers_of (drop n due)) 0 ≡ Some t → n < length out
    → slice_set (map tell (take n (timers_of due)) ++ drop n out) n (tell t) ≡ map tell (take (suc n) (timers_of due)) ++ drop (suc n) out
next zero [] out t e h = absurd (none_some t e)
next (suc n) [] out t e h = absurd (none_some t e)
next n (x ∷ due) [] t e h = absurd (omega arith)
next zero (x ∷ due) (y ∷ out) t e h = ap (λ (u : Timer). tell u ∷ out) (sym (same x.timer t e))
next (suc n) (x ∷ due) (y ∷ out) t e h = ap (λ (r : List Expired). tell x.timer ∷ r) (next n due out t e (omega arith))

drop_next : (n : ℕ) (due : List Entry) → drop 1 (drop n due) ≡ drop (suc n) due
drop_next zero due = refl
drop_next (suc n) [] = refl
drop_next (suc n) (x ∷ due) = drop_next n due

is_there : (n : ℕ) (due : List Entry) (t : Timer) → slice_get (timers_of (drop n due)) 0 ≡ Some t → n < length due
is_there zero [] t e = absurd (none_some t e)
is_there (suc n) [] t e = absurd (none_some t e)
is_there zero (x ∷ due) t e = omega arith
is_there (suc n) (x ∷ due) t e = let h : n < length due = is_there n due t e in omega arith

abbrev with_due : TimersState → List Entry → TimersState
with_due s due = with_wheel (record s.wheel { due = due }) s

pub taken_none : (out : List Expired) (w : TimersState) → AreTaken 0 out w out w
taken_none out w = record { some = omega arith; told = refl; rest = refl }

-- one more
pub taken_next : (n : ℕ) (out out' : List Expired) (old here new : TimersState) (t : Timer) → AreTaken n out old out' here
    → first_due here.wheel ≡ Some t → n < length out
    → new ≡ with_wheel (after_expiry here.wheel) here → AreTaken (n + 1) out old (slice_set out' n (tell t)) new
taken_next n out out' old here new t taken first room e =
    let due = old.wheel.due in
    let at : slice_get (timers_of (drop n due)) 0 ≡ Some t =
    sym (ap (λ (s : TimersState). slice_get (timers_of s.wheel.due) 0) taken.rest) ∙ first in
    let below : n < length due = is_there n due t at in
    let written : slice_set out' n (tell t) ≡ map tell (take (suc n) (timers_of due)) ++ drop (suc n) out =
    ap (λ (o : List Expired). slice_set o n (tell t)) taken.told ∙ next n due out t at room in
    let left : new ≡ with_wheel (after_expiries (suc n) old.wheel) old =
    e ∙ (ap (λ (s : TimersState). with_wheel (after_expiry s.wheel) s) taken.rest ∙ ap (with_due old) (drop_next n due)) in
    let one : suc n ≡ n + 1 = sym (add-one n) in
    record {
      some = omega arith;
      told = written ∙ ap (λ (k : ℕ). map tell (take k (timers_of due)) ++ drop k out) one;
      rest = left ∙ ap (λ (k : ℕ). with_wheel (after_expiries k old.wheel) old) one;
    }
