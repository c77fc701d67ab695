use Rattle.std.specs.Prelude.{take}
use Rattle.timer_facility.specs.Played.{IsRun}
use Rattle.timer_facility.proofs.player.Player.play.Given as goal

-- the events so far were played
abbrev pub invariant-loop-i : goal.invariant-loop-i
invariant-loop-i g l = IsRun l.fn.self (take l.i l.events) l.outs.items l.self
