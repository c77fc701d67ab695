use Rattle.std.proofs.Common.{◌≡◌, ◌<◌, ◌≤◌, ℕ, get_or, vec_len}
use Rattle.timer_desk.specs.Types.{RingInlet, RequestsEnded, ClientReader}
use Rattle.timer_desk.specs.Desk.{IsIdle, backlog_at}
use Rattle.timer_desk.specs.RingEnds.{got_of, all_submitted}
use Rattle.timer_desk.specs.WindingUp.{KeepsLines, IsReadOut}
use Rattle.timer_desk.proofs.winding_up.wind_up.Given as goal

-- the ends from c on are unchanged, and the clients below c are done
abbrev pub invariant-loop-c : goal.invariant-loop-c
invariant-loop-c g l = record {
  keeps : KeepsLines l.fn.desk l.desk;
  as_many : vec_len l.ended ≡ vec_len l.fn.ended;
  later : (k : ℕ) (e : RequestsEnded) → l.c ≤ k → k < vec_len l.ended → get_or l.ended.items k e ≡ get_or l.fn.ended.items k e;
  idle : (k : ℕ) → k < l.c → IsIdle (backlog_at l.fn.desk k);
  got : (k : ℕ) (i : RingInlet) (e : RequestsEnded) → k < l.c → all_submitted (get_or l.fn.ended.items k e)
      ≡ got_of (get_or l.fn.desk.inlets k i);
}

-- the readers from k on are unchanged, and those below k are settled
abbrev pub invariant-loop-k : goal.invariant-loop-k
invariant-loop-k g l = record {
  keeps : KeepsLines l.fn.desk l.desk;
  as_many : vec_len l.readers ≡ vec_len l.fn.readers;
  later : (k : ℕ) (r : ClientReader) → l.k ≤ k → get_or l.readers.items k r ≡ get_or l.fn.readers.items k r;
  read : (k : ℕ) (i : RingInlet) (r : ClientReader) → k < l.k
      → IsReadOut (get_or l.fn.desk.inlets k i) (get_or l.fn.readers.items k r) (get_or l.readers.items k r);
}
