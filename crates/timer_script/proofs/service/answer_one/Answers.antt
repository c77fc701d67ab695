use Rattle.std.proofs.Common.{List, [], ◌∷◌, ◌∙◌, ap, inl, inr, refl, sym, subst, append-nil, rules}
use Rattle.timer_script.specs.Types.{Event}
use Rattle.timer_script.specs.Decorator.{HasGrownAfter}
use Rattle.timer_script.specs.Service.{HasAnsweredPart, GrowsBy}
use Rattle.timer_script.proofs.Results.{on_err}
use Rattle.timer_script.proofs.StepLemmas.{cut_back}
use Rattle.timer_script.proofs.ServicePieces.{answered_none, answered_one, part_of}
use Rattle.timer_script.proofs.service.answer_one.Goals as goal

pub returns-in_err-play-clause-part : goal.returns-in_err-play-clause-part
returns-in_err-play-clause-part g c =
    let A = g.D.Decorator.adds c.args.decorator.now in
    let s = c.args.session.now.player in
    let old = c.args.text.now.items in
    let part : (later : List Event) → GrowsBy (HasAnsweredPart A s (c.args.event.now ∷ later)) old c.play.new.text.items =
    λ later. ([], c.in_err-play.ensures.nothing ∙ sym (append-nil old), part_of _ _ [] [] refl refl (answered_none A s) (inl refl)) in
    on_err _ part

pub returns-in-Ok-clause-whole : goal.returns-in-Ok-clause-whole
returns-in-Ok-clause-whole g c =
    let A = g.D.Decorator.adds c.args.decorator.now in
    answered_one A _ _ c.args.event.now _ c.play.new.text.items _ c.in_ok-play.ensures.whole
    (subst (λ z. HasGrownAfter A c.args.session.now.player.next_serial z c.play.new.text.items c.decorate.new.text.items)
    c.facility-2.ensures.state (subst (λ n. HasGrownAfter A n c.facility-2.result.now.state c.play.new.text.items c.decorate.new.text.items)
    (c.next_serial-serial.ensures ∙ ap (λ s. s.next_serial) c.facility.ensures.state) c.in-Ok.ensures.added))

pub returns-in-Err-clause-part : goal.returns-in-Err-clause-part
returns-in-Err-clause-part g c = λ later.
    let grown = c.in_ok-play.ensures.whole in
    let cut = cut_back c.play.new.text.items c.decorate.new.text.items c.truncate.new.self.items c.decorate.ensures.kept (search rules) in (
      grown.0,
      cut ∙ grown.1,
      part_of _ _ grown.0 grown.0 refl refl (answered_none (g.D.Decorator.adds c.args.decorator.now) _) (inr (c.args.event.now, later, refl, _, grown.2)),
    )
