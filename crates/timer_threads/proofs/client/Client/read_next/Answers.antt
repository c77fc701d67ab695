use Rattle.std.proofs.Common.{subst, sym}
use Rattle.timer_threads.specs.Client.{IsAtWork}
use Rattle.timer_threads.proofs.ClientLemmas.{IsAtWork-read}
use Rattle.timer_threads.proofs.client.Client.read_next.Goals as goal

pub returns-clause-at_work : goal.returns-clause-at_work
returns-clause-at_work c = λ start h. subst (IsAtWork start) (sym c.check.ensures.counted)
    (IsAtWork-read start c.args.self.now c.receive.new.self c.in-Some.word c.receive.ensures.line c.receive.ensures.found c.receive.ensures.sent.0
    c.receive.ensures.sent.1 c.in-Some.ensures.some c.requires.good h)
