use Rattle.std.proofs.Common.{sym, ◌∙◌, ap}
use Rattle.timer_wheels.specs.smooth.Smooth.{smooth_list, descend_by}
use Rattle.timer_wheels.specs.Tables.{radices}
use Rattle.timer_wheels.specs.declared.table.Table.TheVariants.{Wide}
use Rattle.timer_wheels.proofs.smooth_lemmas.NextBuckets.{next_in, next_out}
use Rattle.timer_wheels.proofs.smooth.wheels.place_in.Goals as goal

pub returns-then-is_in_next-clause-next : goal.returns-then-is_in_next-clause-next
returns-then-is_in_next-clause-next g c =
    let w = c.args.wheels.now in
    next_in Wide w.buckets w.filled w.wheels c.args.deadline c.requires.later c.requires.deadline
    c.descend-wheel.result c.list_of_slot-list.result
    (c.descend-wheel.ensures.value ∙ ap (λ x. descend_by (radices Wide) w.buckets.tick w.filled c.args.deadline x) c.level_of.ensures.value)
    (c.list_of_slot-list.ensures.value ∙ ap (smooth_list (radices Wide) c.descend-wheel.result) c.slot_of.ensures)
    (sym c.is_in_next.ensures ∙ c.if-is_in_next.true)

pub returns-else-is_in_next-clause-next : goal.returns-else-is_in_next-clause-next
returns-else-is_in_next-clause-next g c =
    let w = c.args.wheels.now in
    next_out Wide w.buckets w.filled w.wheels c.args.deadline c.requires.later c.requires.deadline
    c.descend-wheel.result c.list_of_slot-list.result
    (c.descend-wheel.ensures.value ∙ ap (λ x. descend_by (radices Wide) w.buckets.tick w.filled c.args.deadline x) c.level_of.ensures.value)
    (c.list_of_slot-list.ensures.value ∙ ap (smooth_list (radices Wide) c.descend-wheel.result) c.slot_of.ensures)
    (sym c.is_in_next.ensures ∙ c.if-is_in_next.false)
