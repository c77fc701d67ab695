use Rattle.std.proofs.Common.{refl}
use Rattle.timer_desk.specs.Desk.{clients_of}
use Rattle.timer_desk.proofs.DriveBounds.{asked_most, flushed_once, short_at_limit}
use Rattle.timer_desk.proofs.laws.a_drive_keeps_to_its_goal.Goals as goal

pub returns-clause-most : goal.returns-clause-most
returns-clause-most g c = λ n limit first second outcome d k. asked_most n limit (clients_of first) d.turns d.each k

pub returns-clause-once : goal.returns-clause-once
returns-clause-once g c = λ n limit first second outcome d k client l low.
    flushed_once n limit (clients_of first) d.turns d.each k client l low

pub returns-clause-short : goal.returns-clause-short
returns-clause-short g c = λ n limit first second d some. short_at_limit n limit (clients_of first) d.turns d.each (d.idle refl) some
