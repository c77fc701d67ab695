use Rattle.std.proofs.Common.{◌/◌, ◌^◌, ℕ, arith, subst}
use Rattle.timer_wheels.specs.Occupied.{IsLowestSet}
use Rattle.timer_wheels.proofs.bucket_lemmas.OccupiedLemmas.{clear_rest, clear_below, set_below, set_first}
use Rattle.timer_wheels.proofs.occupied.clear_bits.Goals as goal

pub returns-then-rest-eq0-clause-clear : goal.returns-then-rest-eq0-clause-clear
returns-then-rest-eq0-clause-clear c = λ i h l. clear_rest c.args.word c.args.bit (omega (arith, c.if-rest-eq0.true)) i h

pub returns-else-rest-eq0-clause-set : goal.returns-else-rest-eq0-clause-set
returns-else-rest-eq0-clause-set c = λ z. set_first c.args.word c.args.bit
    (subst (λ (x : ℕ). IsLowestSet (c.args.word / 2 ^ c.args.bit) x) z c.lowest_bit.ensures)

pub returns-else-rest-eq0-clause-clear : goal.returns-else-rest-eq0-clause-clear
returns-else-rest-eq0-clause-clear c = clear_below c.args.word c.args.bit c.lowest_bit.result c.lowest_bit.ensures

pub returns-else-rest-eq0-clause-few : goal.returns-else-rest-eq0-clause-few
returns-else-rest-eq0-clause-few c = set_below c.args.word c.args.bit c.lowest_bit.result c.lowest_bit.ensures (omega (arith, c.ranges.word.fits))
