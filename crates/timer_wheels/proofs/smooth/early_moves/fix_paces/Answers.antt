use Rattle.std.proofs.Common.{◌≡◌, ◌%◌, sym, ◌∙◌, true}
use Rattle.std.proofs.lemmas.Bool.{eq-eqb}
use Rattle.timer_wheels.specs.Digits.{lowest_radix}
use Rattle.timer_wheels.specs.Tables.{radices}
use Rattle.timer_wheels.specs.declared.table.Table.TheVariants.{Wide}
use Rattle.timer_wheels.proofs.smooth_lemmas.Totals.{begins_at_rollover}
use Rattle.timer_wheels.proofs.table_lemmas.TableLaws.{of_table}
use Rattle.timer_wheels.proofs.smooth.early_moves.fix_paces.Goals as goal

pub returns-else-is_rollover-clause-begun : goal.returns-else-is_rollover-clause-begun
returns-else-is_rollover-clause-begun g c =
    let t = Wide in
    λ k z l e.
    let r : c.args.wheels.now.buckets.tick % lowest_radix (radices t) ≡ 0 =
    begins_at_rollover (radices t) k c.args.wheels.now.buckets.tick z e (of_table t).some_slots in
    let y : true ≡ c.is_rollover.result = sym (c.is_rollover.ensures ∙ eq-eqb (c.args.wheels.now.buckets.tick % lowest_radix (radices t)) 0 r) in
    absurd (let n = c.if-is_rollover.false in cc)
