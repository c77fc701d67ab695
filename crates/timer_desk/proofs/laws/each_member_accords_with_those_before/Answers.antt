use Rattle.std.proofs.Common.{◌++◌, ◌∷◌, refl}
use Rattle.timer_desk.proofs.Members.{in_time, respects_room}
use Rattle.timer_desk.proofs.laws.each_member_accords_with_those_before.Goals as goal

pub returns-clause-in_time : goal.returns-clause-in_time
returns-clause-in_time g c = λ past later done first second h. in_time g.I.Inlet.kind (past ++ done ∷ later) first second h past done later refl

pub returns-clause-room : goal.returns-clause-room
returns-clause-room g c = λ past later done first second h.
    respects_room g.I.Inlet.kind (past ++ done ∷ later) first second h past done later refl
