-- Lemmas for `tiered`: ticks within the clock are not `NEVER`.
use Rattle.std.proofs.Common.{◌≡◌, ◌≢◌, ◌<◌, ◌≤◌, ℕ, List, [], ◌∷◌, length, refl, arith, Some}
use Rattle.std.specs.List.{AllByRecursion}
use Rattle.std.proofs.lemmas.Bool.{ne_eqb}
use Rattle.timer_base.specs.Pending.{timers_of}
use Rattle.timer_base.specs.WakeUps.{IsWakeUp}
use Rattle.timer_base.specs.WheelState.{IsPending, IsWellFormed}
use Rattle.timer_wheels.specs.Types.{LAST, Entry, WheelState}
use Rattle.timer_wheels.specs.TieredWheel.{option_of}
use Rattle.timer_wheels.specs.declared.tiered.TheConstants.{NEVER}

pub some_tick : (tick : ℕ) → tick ≤ LAST → option_of tick ≡ Some tick
some_tick tick h = rw (ne_eqb tick NEVER (let n : tick ≢ NEVER = omega arith in n)) refl

pub wake_in_clock : (w : WheelState) (tick : ℕ) → IsWellFormed w → IsWakeUp tick w.now w.pending → tick ≤ LAST
wake_in_clock w tick f u = of_first w.pending f.each u.some u.in_time where
  of_first : (es : List Entry) → AllByRecursion (IsPending w.last_tick w.now w.last_serial) (timers_of es) → 0 < length es
      → AllByRecursion (λ entry. tick ≤ entry.timer.deadline) es → tick ≤ LAST
  of_first [] a z t = absurd (omega arith)
  of_first (x ∷ xs) a z t =
      let l : tick ≤ x.timer.deadline = t.0 in
      let r : x.timer.deadline ≤ w.last_tick = a.0.in_range in
      omega (arith, f.last_in_range)
