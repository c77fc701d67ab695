use Rattle.std.proofs.Common.{◌≡◌, ◌≤◌, ◌+◌, ◌-◌, ◌*◌}
use Rattle.timer_desk.specs.RingEnds.{next_of}
use Rattle.timer_threads.specs.Turns.{idle_at_end}
use Rattle.timer_threads.specs.Work.{AreClientTurns, AreLetGo}
use Rattle.timer_threads.specs.Client.{KeepsToCount, IsAtWork, IsLogged, turns_by, work_left}
use Rattle.timer_threads.proofs.work.client_work.Given as goal

-- all that was sent or received is counted, and recorded turn by turn
abbrev pub invariant-loop-idle : goal.invariant-loop-idle
invariant-loop-idle g l = record {
  sound : KeepsToCount l.client;
  at_work : IsAtWork l.fn.end l.client;
  recorded : IsLogged l.fn.end l.client;
  count : l.client.count ≡ l.fn.count;
  taken : AreClientTurns (next_of l.fn.end) l.fn.count l.fn.limit (turns_by l.client);
  idle_is : l.idle ≡ idle_at_end (turns_by l.client);
  asked : AreLetGo g.G.Gate.lets_go (turns_by l.client);
  within : l.idle ≤ l.limit;
}

-- a turn that sends or receives leaves less to do, and any other brings the limit nearer
abbrev pub decreases-loop-idle : goal.decreases-loop-idle
decreases-loop-idle g l = work_left l.client * (l.limit + 1) + (l.limit - l.idle)
