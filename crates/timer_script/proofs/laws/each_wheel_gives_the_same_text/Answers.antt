use Rattle.std.proofs.Common.{sym, ◌∙◌}
use Rattle.timer_script.proofs.TextLemmas.{same_text}
use Rattle.timer_script.proofs.laws.each_wheel_gives_the_same_text.Goals as goal

pub returns : goal.returns
returns c = λ s t events answer other same a b.
    let (outs, after) = c.players_give_the_same.ensures s t events a.outs b.outs a.after b.after same a.played.runs b.played.runs in
    a.lines ∙ same_text a.outs b.outs a.after b.after outs after ∙ sym b.lines
