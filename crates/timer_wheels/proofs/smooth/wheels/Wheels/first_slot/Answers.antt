use Rattle.std.proofs.Common.{◌≡◌, ◌-◌, ◌%◌, arith, inl, inr, min}
use Rattle.std.proofs.lemmas.Bool.{cases_lt}
use Rattle.timer_wheels.specs.Occupied.{bit_of}
use Rattle.timer_wheels.specs.smooth.Smooth.{smooth_list}
use Rattle.timer_wheels.specs.Tables.{radices}
use Rattle.timer_wheels.specs.declared.table.Table.TheVariants.{Wide}
use Rattle.timer_wheels.proofs.smooth_lemmas.WakeUps.{begins_in_range, some_by_bit, run_empty}
use Rattle.timer_wheels.proofs.smooth_lemmas.Descent.{few_lists}
use Rattle.timer_wheels.proofs.smooth.wheels.Wheels.first_slot.Goals as goal

pub clear_from-clear-requires : goal.clear_from-clear-requires
clear_from-clear-requires g c = omega (arith, c.list_of_slot.ensures.in_range, few_lists Wide)

pub returns-then-clear-eq0-clause-begins : goal.returns-then-clear-eq0-clause-begins
returns-then-clear-eq0-clause-begins g c =
    let w = c.args.self.now in
    let bit : bit_of w.filled (smooth_list (radices Wide) c.args.wheel c.loop-slot.slot) ≡ 1 =
    rw (← c.list_of_slot.ensures.value) (c.clear_from-clear.ensures.set (omega (arith, c.if-clear-eq0.true))) in
    begins_in_range Wide w.buckets w.filled w.wheels c.args.wheel c.loop-slot.slot c.requires
    (omega (arith, c.slot_of-now.ensures, c.loop-slot.invariant.later))
    (omega (arith, c.slot_of-now.ensures, c.turns_of-turns.ensures.value, c.loop-slot-test.true))
    (some_by_bit Wide w.buckets w.filled w.wheels c.args.wheel c.loop-slot.slot c.requires bit)

pub loop-slot-preserved : goal.loop-slot-preserved
loop-slot-preserved g c =
    let w = c.args.self.now in
    let f = c.loop-slot.invariant in
    let m : c.min-slot.result ≡ min c.clear_from-clear.result (c.turns_of-turns.result - c.loop-slot.slot % c.turns_of-turns.result) =
    c.min-slot.ensures in
    record {
      later = omega (arith, f.later);
      none_before = λ i a b. elim (cases_lt i c.loop-slot.slot) [
        | inl l ↦ f.none_before i a l
        | inr l ↦ run_empty Wide w.buckets w.filled w.wheels c.args.wheel c.loop-slot.slot c.min-slot.result c.clear_from-clear.result
            c.requires (rw (← c.list_of_slot.ensures.value) c.clear_from-clear.ensures.clear) (omega arith)
            (rw (← c.turns_of-turns.ensures.value) (omega arith)) i l b
      ];
    }
