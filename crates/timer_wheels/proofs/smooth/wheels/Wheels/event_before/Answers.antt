use Rattle.std.proofs.Common.{◌≡◌, ◌≤◌, arith, min}
use Rattle.timer_wheels.specs.smooth.WakeUps.{event_tick}
use Rattle.timer_wheels.specs.Tables.{radices}
use Rattle.timer_wheels.specs.declared.table.Table.TheVariants.{Wide}
use Rattle.timer_wheels.proofs.smooth_lemmas.WakeUps.{events_some, events_without, event_later}
use Rattle.timer_wheels.proofs.smooth.wheels.Wheels.event_before.Goals as goal

pub returns-in-Some-clause-later : goal.returns-in-Some-clause-later
returns-in-Some-clause-later g c =
    let w = c.args.self.now in
    let e : c.min.result ≡ min c.args.event c.event_of.result = c.min.ensures in
    omega (
      arith,
      c.event_of.ensures,
      c.requires.later,
      event_later Wide w.buckets w.filled w.wheels c.args.wheel c.in-Some.slot c.requires.wheel c.in-Some.ensures.first c.requires.open,
    )

pub returns-in-Some-clause-events : goal.returns-in-Some-clause-events
returns-in-Some-clause-events g c =
    let w = c.args.self.now in
    let e : c.min.result ≡ min c.args.event c.event_of.result = c.min.ensures in
    let less : c.min.result ≤ event_tick (radices Wide) c.args.wheel c.in-Some.slot = omega (arith, c.event_of.ensures) in
    events_some Wide w.buckets w.filled w.wheels c.args.event c.min.result c.args.wheel c.in-Some.slot c.requires.wheel
    c.in-Some.ensures.first (omega arith) less c.requires.below

pub returns-in-None-clause-events : goal.returns-in-None-clause-events
returns-in-None-clause-events g c =
    let w = c.args.self.now in
    events_without Wide w.buckets w.filled w.wheels c.args.event c.args.wheel c.requires.wheel c.in-None.ensures.first c.requires.below
