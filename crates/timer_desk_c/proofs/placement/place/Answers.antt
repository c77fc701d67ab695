use Rattle.std.proofs.Common.{arith}
use Rattle.std.proofs.lemmas.Grind.{common_steps}
use Rattle.timer_desk_c.proofs.PlacementLemmas.{all_held}
use Rattle.timer_desk_c.proofs.placement.place.Goals as goal

pub returns : goal.returns
returns c = record {
  held = all_held c.args.life c.args.ends.items c.args.lines.now c.loop-end.ends.items c.loop-end.lines c.loop-end.invariant.placed
      (let a = c.in_default.ensures.rest in let b = c.in_default.ensures.variant in let n = c.in_default.ensures.len
      in let ok = c.loop-end.ends.ok in grind (arith, common_steps, a, b, n, ok));
}
