use Rattle.std.proofs.Common.{length, refl, sym, ap, arith}
use Rattle.std.proofs.lemmas.List.{length-take-le, drop-replicate}
use Rattle.timer_facility.proofs.restoring.numbers_of.Goals as goal

pub slice_bounds-numbers-end : goal.slice_bounds-numbers-end
slice_bounds-numbers-end c = omega (arith, ap length c.numbers-old.ensures.numbers, c.numbers-old.ensures.read.few_clients, c.requires)

pub slice_bounds-copy_from_slice-end : goal.slice_bounds-copy_from_slice-end
slice_bounds-copy_from_slice-end c = sym (length-take-le _ _ (omega (
  arith,
  ap length c.numbers-old.ensures.numbers,
  c.numbers-old.ensures.read.few_clients,
  c.requires,
)))

pub copy_from_slice-requires : goal.copy_from_slice-requires
copy_from_slice-requires c = length-take-le _ _ (omega (
  arith,
  ap length c.numbers-old.ensures.numbers,
  c.numbers-old.ensures.read.few_clients,
  c.requires,
))

pub returns : goal.returns
returns c = rw (c.copy_from_slice.ensures.after, drop-replicate (length c.numbers-old.result.now) 64 c.args.first, c.numbers-old.ensures.numbers) refl
