use Rattle.std.proofs.Common.{◌≡◌, ◌<◌, List, length, get_or, sym, ◌∙◌, ap, subst, arith}
use Rattle.std.proofs.lemmas.List.{take_more}
use Rattle.timer_base.specs.WheelState.{after_held_start}
use Rattle.timer_facility.specs.Types.{Timer}
use Rattle.timer_facility.proofs.RestoredLemmas.{all_at, below_next, above, started_more}
use Rattle.timer_facility.proofs.restoring.start_all.Goals as goal

abbrev none : Timer
none = record { serial = 0; client = 0; number = 0; deadline = 0; action = 0 }

pub start-requires-clause-fresh : goal.start-requires-clause-fresh
start-requires-clause-fresh g c =
    let i = c.loop-timer.timer-index in
    let ts : List Timer = c.args.saved.now.saved.timers in
    let within : i < length ts = omega (arith, c.loop-timer-test.true, ap length c.timers-timer-items.ensures.timers) in
    let rising = c.timers-timer-items.ensures.read.rising in
    subst (λ (us : List Timer). (g.W.Wheel.state c.loop-timer.wheel).last_serial < (get_or us i none).serial)
    (sym c.timers-timer-items.ensures.timers)
    (c.loop-timer.invariant.unused (get_or ts i none).serial (above 0 i ts none rising within) (below_next 0 i ts none rising within))

pub loop-timer-preserved : goal.loop-timer-preserved
loop-timer-preserved g c =
    let i = c.loop-timer.timer-index in
    let ts : List Timer = c.args.saved.now.saved.timers in
    let t : Timer = get_or ts i none in
    let within : i < length ts = omega (arith, c.loop-timer-test.true, ap length c.timers-timer-items.ensures.timers) in
    let read = c.timers-timer-items.ensures.read in
    let one = all_at _ i ts none read.each within in
    let same : get_or c.timers-timer-items.result.now i none ≡ t = ap (λ (us : List Timer). get_or us i none) c.timers-timer-items.ensures.timers in
    rw (take_more ts i none within, c.in_ok-push.ensures.items)
    (started_more t c.in_ok-handle.handle c.loop-timer.invariant (below_next 0 i ts none read.rising within) (above 0 i ts none read.rising within)
    (omega (arith, one.later, c.requires.now)) (c.in_ok-handle.ensures.named ∙ ap (λ (u : Timer). u.serial) same)
    (subst (λ (u : Timer). g.W.Wheel.state c.start.new.self ≡ after_held_start c.in_ok-handle.handle.place u (g.W.Wheel.state c.loop-timer.wheel)) same c.in_ok-handle.ensures.started))
