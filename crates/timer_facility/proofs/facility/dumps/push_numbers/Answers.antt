use Rattle.std.proofs.Common.{◌≡◌, length, take, get_or, ◌∙◌, arith}
use Rattle.std.proofs.lemmas.List.{take_more, length-take-le}
use Rattle.timer_facility.specs.declared.saved.StateLine.TheVariants as Lines
use Rattle.timer_facility.specs.Saved.{number_lines}
use Rattle.timer_facility.proofs.StateLines.{numbers_more, dumped-more}
use Rattle.timer_facility.proofs.facility.dumps.push_numbers.Goals as goal

pub loop-client-preserved : goal.loop-client-preserved
loop-client-preserved c =
    let i = c.loop-client.client in
    let numbers = c.args.numbers.now in
    let more = take_more numbers i 0 c.loop-client-test.true in
    let so_far : length (take i numbers) ≡ i = length-take-le i numbers (omega (arith, c.loop-client-test.true)) in
    record {
      items = rw (more, numbers_more (take i numbers) (get_or numbers i 0), so_far, c.push_reserved.ensures.items, c.loop-client.invariant.items)
          (dumped-more c.args.outs.now.items (number_lines 0 (take i numbers)) (Lines.Number i (get_or numbers i 0)));
      len = omega (arith, c.push_reserved.ensures.len, c.loop-client.invariant.len);
      capacity = c.push_reserved.ensures.capacity ∙ c.loop-client.invariant.capacity;
    }
