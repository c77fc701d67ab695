use Rattle.std.proofs.Common.{ℕ, ◌<◌, ◌≢◌, get_or}
use Rattle.timer_desk.specs.declared.report.Served.TheVariants.{NoMemory}
use Rattle.timer_desk.specs.Types.{Done}
use Rattle.timer_desk.specs.declared.report.Done.TheVariants as Dones
use Rattle.timer_desk.proofs.driver.ran_out.Given as goal

-- no serve so far ran out of memory
abbrev pub invariant-loop-member : goal.invariant-loop-member
invariant-loop-member l = (k : ℕ) (d : Done) → k < l.member-index → (c : ℕ) → get_or l.report k d ≢ Dones.Served c NoMemory
