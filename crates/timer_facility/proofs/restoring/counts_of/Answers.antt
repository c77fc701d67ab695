use Rattle.std.proofs.Common.{◌<◌, ◌+◌, ℕ, List, length, take, get_or, sym, ap, subst, arith}
use Rattle.std.specs.Prelude.{slice_index, slice_set}
use Rattle.std.proofs.lemmas.List.{length-take-le}
use Rattle.timer_facility.specs.Facility.{AreCounted}
use Rattle.timer_facility.specs.Types.{Timer}
use Rattle.timer_facility.proofs.FacilityCounts.{counted-none, count_in_range}
use Rattle.timer_facility.proofs.RestoredLemmas.{all_at, counted_next}
use Rattle.timer_facility.proofs.restoring.counts_of.Goals as goal

abbrev none : Timer
none = record { serial = 0; client = 0; number = 0; deadline = 0; action = 0 }

pub loop-timer-init : goal.loop-timer-init
loop-timer-init c = counted-none 64

pub overflow_add-counts : goal.overflow_add-counts
overflow_add-counts c =
    let i = c.loop-timer.timer-index in
    let ts : List Timer = c.args.saved.now.saved.timers in
    let client : ℕ = (get_or c.timers-timer-items.result.now i none).client in
    let within : i < length ts = omega (arith, c.loop-timer-test.true, ap length c.timers-timer-items.ensures.timers) in
    omega (
      arith,
      c.loop-timer.invariant.each client,
      count_in_range client (take i ts),
      length-take-le i ts (omega (arith, within)),
      within,
      c.timers-timer-items.ensures.read.few_timers,
      c.requires.capacity,
    )

pub loop-timer-preserved : goal.loop-timer-preserved
loop-timer-preserved c =
    let i = c.loop-timer.timer-index in
    let counts : List ℕ = c.loop-timer.counts in
    let ts : List Timer = c.args.saved.now.saved.timers in
    let within : i < length ts = omega (arith, c.loop-timer-test.true, ap length c.timers-timer-items.ensures.timers) in
    let read = c.timers-timer-items.ensures.read in
    let one = all_at _ i ts none read.each within in
    subst (λ (us : List Timer). AreCounted 64
    (slice_set counts (get_or us i none).client (slice_index counts (get_or us i none).client + 1)) (take (i + 1) ts))
    (sym c.timers-timer-items.ensures.timers)
    (counted_next ts i none c.loop-timer.invariant within (omega (arith, one.owned, read.few_clients, c.requires.clients)))
