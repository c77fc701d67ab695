use Rattle.std.proofs.Common.{◌≡◌, ◌*◌, ◌∙◌, true, inl, inr, arith}
use Rattle.std.proofs.lemmas.Bool.{cases_lt, eq-eqb}
use Rattle.timer_wheels.specs.Digits.{weight}
use Rattle.timer_wheels.specs.smooth.Smooth.{slot_in}
use Rattle.timer_wheels.specs.Tables.{radices}
use Rattle.timer_wheels.specs.declared.table.Table.TheVariants.{Wide}
use Rattle.timer_wheels.proofs.smooth_lemmas.Weights.{begins_below}
use Rattle.timer_wheels.proofs.table_lemmas.TableLaws.{of_table}
use Rattle.timer_wheels.proofs.smooth.early_moves.fix_each.Goals as goal

pub returns-then-not-fix_pace-clause-begun : goal.returns-then-not-fix_pace-clause-begun
returns-then-not-fix_pace-clause-begun g c =
    let t = Wide in
    let tick = c.args.wheels.now.buckets.tick in
    let w = c.loop-wheel.wheel in
    λ k z l e. elim (cases_lt k w) [
      | inl below ↦
          rw (c.fix_pace.ensures.others k (λ same. omega arith)) (c.loop-wheel.invariant.fixed.begun k z below l e)
      | inr above ↦
          let begins : slot_in (radices t) w tick * weight w (radices t) ≡ tick =
          begins_below t w k tick (of_table t).is_table (omega arith) l e in
          let y : c.fix_pace.result ≡ true = c.fix_pace.ensures.begins ∙ eq-eqb (slot_in (radices t) w tick * weight w (radices t)) tick begins in
          absurd (let n = c.if-not-fix_pace.true in cc)
    ]
