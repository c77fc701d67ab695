use Rattle.std.proofs.Common.{◌≡◌, true, false, [], refl, sym, subst, ◌∙◌, ap, append-nil, rules}
use Rattle.std.proofs.lemmas.Result.{on_ok_weaker}
use Rattle.timer_commands.specs.Shows.{is_covered}
use Rattle.timer_commands.specs.Indented.{IsPictureIf}
use Rattle.timer_commands.proofs.verbs.PlacementsDecorator.decorate.Goals as goal

pub returns-then-covers-clause-added : goal.returns-then-covers-clause-added
returns-then-covers-clause-added g c =
    let covered : is_covered c.args.self.now.shows c.args.facility.now.state.now ≡ true =
    ap (is_covered c.args.self.now.shows) (sym c.now.ensures.now) ∙ sym c.covers.ensures ∙ c.if-covers.true in
    on_ok_weaker c.push_shown.result (λ picture. (
      picture.0,
      picture.1,
      subst (λ b. IsPictureIf b c.args.facility.now.state.now picture.0) (sym covered) (search rules),
    )) c.push_shown.ensures.picture

pub returns-else-covers-clause-added : goal.returns-else-covers-clause-added
returns-else-covers-clause-added g c =
    let covered : is_covered c.args.self.now.shows c.args.facility.now.state.now ≡ false =
    ap (is_covered c.args.self.now.shows) (sym c.now.ensures.now) ∙ sym c.covers.ensures ∙ c.if-covers.false in
    ([], sym (append-nil c.args.text.now.items), subst (λ b. IsPictureIf b c.args.facility.now.state.now []) (sym covered) refl)
