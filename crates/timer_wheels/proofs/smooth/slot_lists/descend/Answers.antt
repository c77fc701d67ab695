use Rattle.std.proofs.Common.{◌≡◌, sym, ◌∙◌, arith, true, false}
use Rattle.timer_wheels.specs.Occupied.{bit_of}
use Rattle.timer_wheels.specs.smooth.Smooth.{is_in_next, next_list}
use Rattle.timer_wheels.specs.Tables.{radices}
use Rattle.timer_wheels.specs.declared.table.Table.TheVariants.{Wide}
use Rattle.timer_wheels.proofs.smooth_lemmas.Descent.{few_lists, descend_stops, descend_full, descend_on}
use Rattle.timer_wheels.proofs.smooth.slot_lists.descend.Goals as goal

pub returns-then-not-is_in_next-clause-value : goal.returns-then-not-is_in_next-clause-value
returns-then-not-is_in_next-clause-value c =
    let a = c.args in
    let e : is_in_next (radices Wide) a.now c.loop-wheel.wheel a.deadline ≡ false =
    sym c.is_in_next.ensures ∙ (let t = c.if-not-is_in_next.true in grind arith) in
    sym (descend_stops (radices Wide) a.now a.filled.now a.deadline c.loop-wheel.wheel e) ∙ c.loop-wheel.invariant.1

pub has-requires : goal.has-requires
has-requires c = omega (arith, c.next_list.ensures.in_range, few_lists Wide)

pub returns-then-has-clause-value : goal.returns-then-has-clause-value
returns-then-has-clause-value c =
    let a = c.args in
    let bit = c.has.ensures.yes (let t = c.if-has.true in t) in
    let e : bit_of a.filled.now (next_list (radices Wide) a.now c.loop-wheel.wheel) ≡ 1 = rw (← c.next_list.ensures.value) bit in
    sym (descend_full (radices Wide) a.now a.filled.now a.deadline c.loop-wheel.wheel e) ∙ c.loop-wheel.invariant.1

pub loop-wheel-preserved : goal.loop-wheel-preserved
loop-wheel-preserved c =
    let a = c.args in
    let in_next : is_in_next (radices Wide) a.now c.loop-wheel.wheel a.deadline ≡ true =
    sym c.is_in_next.ensures ∙ (let t = c.if-not-is_in_next.false in grind arith) in
    let bit = c.has.ensures.no (let t = c.if-has.false in t) in
    let e : bit_of a.filled.now (next_list (radices Wide) a.now c.loop-wheel.wheel) ≡ 0 = rw (← c.next_list.ensures.value) bit in (
      omega (arith, c.loop-wheel.invariant.0),
      sym (descend_on (radices Wide) a.now a.filled.now a.deadline c.loop-wheel.wheel (omega arith) in_next e) ∙ c.loop-wheel.invariant.1,
    )
