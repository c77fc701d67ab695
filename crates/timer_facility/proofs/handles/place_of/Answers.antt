use Rattle.std.proofs.Common.{rules, sym, Ok, Err}
use Rattle.std.proofs.lemmas.List.Sorted.{answers_always}
use Rattle.timer_facility.proofs.HandlesLemmas.{searched}
use Rattle.timer_facility.proofs.handles.place_of.Goals as goal

pub returns-in-Ok : goal.returns-in-Ok
returns-in-Ok c =
    let h = c.in-Ok.ensures in
    sym (searched c.args.list.now c.args.serial (Ok c.in-Ok.i) c.requires h.bound
    (h.position (λ handle. handle.serial) (answers_always _ _ _ (λ f a r g called. search rules))))

pub returns-in-Err : goal.returns-in-Err
returns-in-Err c =
    let h = c.in-Err.ensures in
    sym (searched c.args.list.now c.args.serial (Err c.in-Err.field-0) c.requires h.bound
    (h.position (λ handle. handle.serial) (answers_always _ _ _ (λ f a r g called. search rules))))
