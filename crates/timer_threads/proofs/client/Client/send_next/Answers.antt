use Rattle.std.proofs.Common.{refl, subst, sym, ◌∙◌}
use Rattle.timer_threads.proofs.ClientLemmas.{IsAtWork-sent}
use Rattle.timer_threads.proofs.client.Client.send_next.Goals as goal

pub returns-in-Ok-clause-at_work : goal.returns-in-Ok-clause-at_work
returns-in-Ok-clause-at_work g c =
    let sent = c.in-Ok.ensures in
    λ start h. IsAtWork-sent start c.args.self.now _ c.in-Ok.number sent.line sent.found sent.received.0 sent.ok.0 sent.ok.2 sent.ok.3 h

pub returns-in-Ok-clause-asked : goal.returns-in-Ok-clause-asked
returns-in-Ok-clause-asked g c = subst (λ n. g.G.Gate.lets_go n c.args.self.now.expired)
    (c.next_number.ensures ∙ sym c.in-Ok.ensures.ok.0) (c.if-not-may_send.ensures.lets_go refl)
