use Rattle.std.proofs.Common.{inl, inr, arith}
use Rattle.timer_wheels.proofs.lazy.files.Files.restart.Goals as goal

pub returns-in-Some-clause-in_place : goal.returns-in-Some-clause-in_place
returns-in-Some-clause-in_place g c = λ t e a l. c.in-Some.ensures.lists

pub returns-in-None-clause-in_place : goal.returns-in-None-clause-in_place
returns-in-None-clause-in_place g c = λ t e a l. elim (c.in-None.ensures.refused t e) [
  | inl past ↦ absurd (omega arith)
  | inr sooner ↦ absurd (omega arith)
]
