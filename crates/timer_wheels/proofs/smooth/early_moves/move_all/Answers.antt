use Rattle.std.proofs.Common.{◌≡◌, arith}
use Rattle.timer_wheels.specs.smooth.Paces.{pace_sum}
use Rattle.timer_wheels.specs.declared.table.Table.TheVariants.{Wide}
use Rattle.timer_wheels.proofs.smooth_lemmas.PaceSums.{none_to_move}
use Rattle.timer_wheels.proofs.smooth.early_moves.move_all.Goals as goal

pub returns-then-sum-eq0-clause-moved : goal.returns-then-sum-eq0-clause-moved
returns-then-sum-eq0-clause-moved g c =
    let e : 0 ≡ pace_sum c.args.paces.now = omega (arith, c.sum.ensures, c.if-sum-eq0.true) in
    λ k z l. none_to_move Wide c.args.wheels.now.buckets c.args.paces.now e k l
