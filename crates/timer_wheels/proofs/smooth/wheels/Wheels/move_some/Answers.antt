use Rattle.std.proofs.Common.{ap, ◌∙◌, refl}
use Rattle.timer_wheels.specs.smooth.Wheels.{next_len}
use Rattle.timer_wheels.specs.declared.table.Table.TheVariants.{Wide}
use Rattle.timer_wheels.proofs.smooth.wheels.Wheels.move_some.Goals as goal

pub returns-then-not-move_one-clause-others : goal.returns-then-not-move_one-clause-others
returns-then-not-move_one-clause-others g c = λ early j z l n.
    ap (λ b. next_len Wide b j) (c.if-not-move_one.ensures.same refl)
    ∙ c.loop-moved.invariant.others early j z l n
