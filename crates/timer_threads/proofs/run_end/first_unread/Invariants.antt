use Rattle.std.proofs.Common.{◌≡◌, ◌<◌, ℕ, [], get_or}
use Rattle.timer_desk.specs.declared.ring_ends.ClientReader.{ClientReader}
use Rattle.timer_desk.specs.RingEnds.{unread_by}
use Rattle.timer_threads.proofs.run_end.first_unread.Given as goal

-- no word is left for any of the readers so far
abbrev pub invariant-loop-c : goal.invariant-loop-c
invariant-loop-c l = (k : ℕ) (r : ClientReader) → k < l.c → unread_by (get_or l.readers k r) ≡ []
