use Rattle.timer_facility.proofs.facility.Facility.answer.Goals as goal

pub returns-in-Stop-clause-answered : goal.returns-in-Stop-clause-answered
returns-in-Stop-clause-answered g c = rw c.in-Stop.is (c.take_stop.ensures c.args.number)
