use Rattle.std.proofs.Common.{[], ◌∷◌, ◌++◌, ◌∙◌, ap}
use Rattle.timer_threads.specs.Types.{Turn, Log}
use Rattle.timer_threads.specs.Client.{turns_by}
use Rattle.timer_threads.proofs.TurnLemmas.{AreLetGo-more}
use Rattle.timer_threads.proofs.ClientLemmas.{IsLetGo-counted}
use Rattle.timer_threads.proofs.client.Client.work_once.Goals as goal

pub returns-clause-asked : goal.returns-clause-asked
returns-clause-asked g c = λ start h recorded was.
    let turn : Turn = record { sent = c.send_next-sent.result; received = c.read_next-received.result } in
    let same = c.read_next-received.ensures.same.1 ∙ c.send_next-sent.ensures.same.1 in
    AreLetGo-more g.G.Gate.lets_go (turns_by c.args.self.now) c.and-self.result.items turn
    (c.and-self.ensures ∙ ap (λ (l : Log Turn). l.items ++ turn ∷ []) same) was
    (IsLetGo-counted g.G.Gate.lets_go start c.args.self.now turn h recorded c.send_next-sent.ensures.asked)
