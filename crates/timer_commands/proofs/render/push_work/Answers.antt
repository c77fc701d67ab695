use Rattle.std.proofs.Common.{rules, ◌≡◌, ◌++◌, refl, codes, decimal, ap, ◌∙◌}
use Rattle.timer_commands.proofs.IndentedLemmas.{HasGrownByFront, begun, numbered, bare_join, line_ended}
use Rattle.timer_commands.specs.Pictures.{visits_text}
use Rattle.timer_commands.proofs.PictureLemmas.{then, two_numbers, visited, unvisited}
use Rattle.timer_commands.proofs.render.push_work.Goals as goal
use Rattle.timer_commands.proofs.render.push_work.Goals.{in-Some+in_ok-push_number-3, in_default}

pub returns-clause-indented : goal.returns-clause-indented
returns-clause-indented c =
    let starts = begun _ _ (codes " starts ") _ refl c.in_ok-push_number.ensures.text in
    let moves = bare_join _ _ _ starts (numbered _ _ (codes " moves ") _ refl c.in_ok-push_number-2.ensures.text) in
    let front : HasGrownByFront c.args.text.now.items c.match-visits.text.items = elim c.match-visits.branch [
      | in-Some+in_ok-push_number-3 w ↦ bare_join _ _ _ moves
          (numbered _ _ (codes " visits ") _ refl (ap (λ v. v.items) w.text-is ∙ w.in_ok-push_number-3.ensures.text))
      | in_default w ↦ rw (ap (λ v. v.items) w.text-is) moves
    ] in
    line_ended _ _ c.push.new.self.items front c.in_ok-push.ensures.items

pub returns-clause-line : goal.returns-clause-line
returns-clause-line c =
    let both = two_numbers _ _ _ (codes "  starts ") (decimal c.args.starts) (codes " moves ") (decimal c.args.moves)
    c.in_ok-push_number.ensures.text c.in_ok-push_number-2.ensures.text in
    let front : c.match-visits.text.items ≡ c.args.text.now.items
    ++ (((codes "  starts " ++ decimal c.args.starts) ++ (codes " moves " ++ decimal c.args.moves)) ++ visits_text c.args.visits) =
    elim c.match-visits.branch [
      | in-Some+in_ok-push_number-3 w ↦ visited _ _ _ _ w.in-Some.visits c.args.visits (search rules) both
          (ap (λ v. v.items) w.text-is ∙ w.in_ok-push_number-3.ensures.text)
      | in_default w ↦ unvisited _ _ _ c.args.visits (search rules) (ap (λ v. v.items) w.text-is ∙ both)
    ] in
    then _ _ _ _ (codes "\n") front c.in_ok-push.ensures.items
