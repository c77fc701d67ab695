use Rattle.timer_facility.proofs.facility.Facility.makes_timer.Goals as goal

pub returns-in-Ok : goal.returns-in-Ok
returns-in-Ok g c =
    let accepts = c.accepts_timer.ensures c.args.number in
    (λ yes. (c.in-Ok.ensures.verdict, (accepts.0 yes).0, (accepts.0 yes).1), λ makes. accepts.1 (makes.1, makes.2))
