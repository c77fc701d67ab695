use Rattle.std.proofs.Common.{◌≡◌, ◌||◌, [], ◌∷◌, ◌++◌, not, sym, ◌∙◌, ap}
use Rattle.std.proofs.lemmas.Option.{IfSome_then}
use Rattle.timer_threads.specs.Client.{is_complete}
use Rattle.timer_threads.proofs.ClientLemmas.{HasWorked-finished}
use Rattle.timer_threads.proofs.client.Client.finish.Goals as goal
use Rattle.timer_threads.proofs.client.Client.finish.Goals.{then-self, else-self}

pub returns-clause-worked : goal.returns-clause-worked
returns-clause-worked c =
    let self = c.args.self in
    let failed : c.if-self.failed ≡ self.failed || not (is_complete self) =
    elim c.if-self.branch [
      | then-self w ↦ w.failed-is ∙ w.if-self.true ∙ sym (ap (λ b. b || not (is_complete self)) w.if-self.true)
      | else-self w ↦ w.failed-is ∙ ap not w.is_complete.ensures ∙ sym (ap (λ b. b || not (is_complete self)) w.if-self.false)
    ] in
    λ start limit h recorded taken idle gave_up. HasWorked-finished start limit self _ _ _ _ c.and-last.result c.requires h recorded taken idle
    (c.and-last.ensures ∙ ap (λ ends. ends ++ self.end ∷ []) c.new.ensures)
    (IfSome_then c.finish-ended.result.0 c.finish-ended.ensures.ended (λ e both. both.1))
    c.finish-ended.ensures.reader.1 c.finish-ended.ensures.found failed gave_up
