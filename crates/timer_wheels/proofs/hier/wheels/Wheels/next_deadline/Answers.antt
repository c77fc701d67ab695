use Rattle.timer_wheels.proofs.bucket_lemmas.DeadlineLemmas.{none_is_next, first_is_next, visit_is_next}
use Rattle.timer_wheels.proofs.hier.wheels.Wheels.next_deadline.Goals as goal

pub returns-in_default : goal.returns-in_default
returns-in_default g c = none_is_next c.args.self.now.hier c.in_default.ensures

pub returns-in-Some-lowest_visit : goal.returns-in-Some-lowest_visit
returns-in-Some-lowest_visit g c = visit_is_next c.args.self.now.hier c.in-Some.list c.in-Some.ensures c.in-Some-lowest_visit.visit
    c.in-Some-lowest_visit.ensures.some.1 c.in-Some-lowest_visit.ensures.some.0

pub returns-in-None : goal.returns-in-None
returns-in-None g c = first_is_next c.args.self.now.hier c.in-Some.list c.in-Some.ensures c.least_in.result c.least_in.ensures
