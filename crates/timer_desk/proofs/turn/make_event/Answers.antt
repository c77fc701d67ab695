use Rattle.timer_desk.proofs.EventLemmas.{event_of_tick, event_of_ticks, event_of_close, HasClosed}
use Rattle.timer_desk.proofs.turn.make_event.Goals as goal

pub returns-in-Tick-clause-event : goal.returns-in-Tick-clause-event
returns-in-Tick-clause-event g c =
    event_of_tick c.args.facility.now c.tick.new.self c.tick.result c.requires.quiet c.tick.ensures.ticked c.tick.ensures.fault

pub returns-in-Ticks-clause-event : goal.returns-in-Ticks-clause-event
returns-in-Ticks-clause-event g c =
    let e = c.ticks.ensures in
    event_of_ticks c.in-Ticks.limit c.args.facility.now c.ticks.new.self c.ticks.result c.requires.quiet
    (record { ticked = e.ticked; fault = e.fault; unchanged = e.err })

pub returns-in-Close-clause-event : goal.returns-in-Close-clause-event
returns-in-Close-clause-event g c =
    let e = c.close.ensures in
    let closed : HasClosed c.args.facility.now c.close.new.self c.close.result =
    record { count = e.count; open_before = e.open; closed = e.closed; fault = e.fault; room = e.room; unchanged = e.err } in
    event_of_close c.args.facility.now c.close.new.self c.close.result c.requires.quiet closed
