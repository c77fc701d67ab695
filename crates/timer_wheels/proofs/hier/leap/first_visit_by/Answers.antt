use Rattle.std.proofs.Common.{◌≡◌}
use Rattle.timer_wheels.specs.hier.Leap.{list_visit}
use Rattle.timer_wheels.specs.Tables.{radices}
use Rattle.timer_wheels.proofs.hier_lemmas.Leaps.{first_in_range, first_wakes, none_wakes}
use Rattle.timer_wheels.proofs.hier_lemmas.NextVisitLemmas.{first_next}
use Rattle.timer_wheels.proofs.bucket_lemmas.DeadlineLemmas.{visit_is_first, none_visited}
use Rattle.timer_wheels.proofs.bucket_lemmas.WheelUpdates.{up_to_last_of}
use Rattle.timer_wheels.proofs.hier.leap.first_visit_by.Given.{Over}
use Rattle.timer_wheels.proofs.hier.leap.first_visit_by.Goals as goal

pub visit_of-requires-clause-list : goal.visit_of-requires-clause-list
visit_of-requires-clause-list g c = rw c.requires (first_in_range c.args.wheels.now.hier c.in-Some.list c.in-Some.ensures)

pub visit_of-requires-clause-now : goal.visit_of-requires-clause-now
visit_of-requires-clause-now g c =
    let b = c.args.wheels.now.buckets in
    rw c.requires (up_to_last_of c.args.wheels.now.hier b.tick b.sound.tick_in_range)

-- the visit, by the table of the wheels
visit : (g : Over) (c : goal.After-visit_of g) → c.visit_of.result ≡ list_visit (radices c.args.wheels.now.table) c.in-Some.list c.args.wheels.now.buckets.tick
visit g c = rw (← c.requires) c.visit_of.ensures

pub returns-in-Some-clause-quiet : goal.returns-in-Some-clause-quiet
returns-in-Some-clause-quiet g c =
    first_wakes c.args.wheels.now.hier c.in-Some.list c.visit_of.result (visit g c) c.in-Some.ensures

pub returns-in-Some-clause-next : goal.returns-in-Some-clause-next
returns-in-Some-clause-next g c =
    first_next c.args.wheels.now.hier c.in-Some.list c.visit_of.result (visit g c) c.in-Some.ensures

pub returns-in-Some-clause-exact : goal.returns-in-Some-clause-exact
returns-in-Some-clause-exact g c =
    visit_is_first c.args.wheels.now.hier c.in-Some.list c.in-Some.ensures c.visit_of.result (visit g c)

pub returns-in-None-clause-quiet : goal.returns-in-None-clause-quiet
returns-in-None-clause-quiet g c = none_wakes c.args.wheels.now.hier c.in-None.ensures

pub returns-in-None-clause-exact : goal.returns-in-None-clause-exact
returns-in-None-clause-exact g c = none_visited c.args.wheels.now.hier c.in-None.ensures
