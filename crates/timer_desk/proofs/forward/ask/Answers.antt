use Rattle.timer_desk.proofs.ForwardLemmas.{needs_memory}
use Rattle.timer_desk.proofs.forward.ask.Goals as goal

pub returns-in-OutOfMemory-clause-memory : goal.returns-in-OutOfMemory-clause-memory
returns-in-OutOfMemory-clause-memory g c _ =
    let needs = needs_memory c.args.facility.now.state c.args.client c.args.numbered.number c.args.numbered.request
    c.in-Err.reason c.in-OutOfMemory.is c.in-Err.ensures.taken.why in
    (needs.1, needs.0)
