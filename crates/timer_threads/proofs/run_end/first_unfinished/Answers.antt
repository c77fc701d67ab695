use Rattle.std.proofs.Common.{◌≡◌, length, sym, subst, arith}
use Rattle.std.specs.Prelude.{IfSome}
use Rattle.std.proofs.lemmas.Option.{IfSome_then}
use Rattle.timer_threads.specs.Results.{AreUnzipped}
use Rattle.timer_threads.specs.Threads.{NoneUnread, AreSettled, IsFirstWithWords, IsWoundUp}
use Rattle.timer_threads.proofs.EndedLines.{are_settled, held_waiting, held_reading, wound_up}
use Rattle.timer_threads.proofs.run_end.first_unfinished.Goals as goal

pub first_unread-requires : goal.first_unread-requires
first_unread-requires c =
    let told = c.in-Ok.ensures in
    let inlets = c.args.desk.inlets in
    let long : length c.in-Ok.readers.items ≡ length inlets = omega (arith, told.as_many, c.in-Ok.readers.ok) in
    subst AreSettled (sym c.deref.ensures.value) (are_settled inlets c.in-Some.readers.items c.in-Ok.readers.items told.words long)

pub returns-in-Ok-clause-held : goal.returns-in-Ok-clause-held
returns-in-Ok-clause-held c = λ all lines parts.
    let told = c.in-Ok.ensures in
    let desk = c.args.desk in
    let first = c.first_unread.result in
    let long : length c.in-Ok.readers.items ≡ length desk.inlets = omega (arith, told.as_many, c.in-Ok.readers.ok) in
    let p = subst (λ o. IfSome o (λ p. AreUnzipped all p.0.items p.1.items)) c.in-Some.is parts in
    IfSome_then first (subst (λ rs. IfSome first (λ n. IsFirstWithWords rs n)) c.deref.ensures.value c.first_unread.ensures.some)
    (held_reading desk all c.in-Some.ends.items c.in-Some.readers.items lines p c.in-Ok.readers.items told.idle told.requests told.words long)

pub returns-in-Ok-clause-wound : goal.returns-in-Ok-clause-wound
returns-in-Ok-clause-wound c = λ all lines parts none.
    let told = c.in-Ok.ensures in
    let desk = c.args.desk in
    let long : length c.in-Ok.readers.items ≡ length desk.inlets = omega (arith, told.as_many, c.in-Ok.readers.ok) in
    let p = subst (λ o. IfSome o (λ p. AreUnzipped all p.0.items p.1.items)) c.in-Some.is parts in
    subst (λ o. IfSome o (λ _. IsWoundUp desk all)) (sym c.in-Some.is)
    (wound_up desk all c.in-Some.ends.items c.in-Some.readers.items lines p c.in-Ok.readers.items told.idle told.requests told.words long
    (subst NoneUnread c.deref.ensures.value (c.first_unread.ensures.none none)))

pub returns-in-Some-clause-held : goal.returns-in-Some-clause-held
returns-in-Some-clause-held c = λ all lines parts.
    let desk = c.args.desk in
    held_waiting desk all c.in-Some.ends.items c.in-Some.readers.items lines
    (subst (λ o. IfSome o (λ p. AreUnzipped all p.0.items p.1.items)) c.in-Some.is parts) c.in-Err.c c.in-Err.ensures.err
