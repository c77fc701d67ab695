use Rattle.std.proofs.Common.{◌≡◌, ◌++◌, length, take, ◌-◌, List, ℕ}
use Rattle.timer_script.specs.Types.{Event, OnBadLine}
use Rattle.timer_script.specs.Cutter.{Complaint, HasSorted, HasSortedSince}
use Rattle.timer_script.proofs.cutter.Cutter.cut.Given as goal

abbrev pub invariant-loop-taken : goal.invariant-loop-taken
invariant-loop-taken l = record {
  cut : (o : OnBadLine) (came : List ℕ) (events : List Event) (bad : List Complaint) → l.fn.self.on_bad ≡ o
      → HasSorted o l.fn.self.held.items l.fn.self.number came events bad
      → HasSortedSince o l.self (came ++ take l.taken l.piece) events bad;
  clean : l.self.clean ≡ l.fn.self.clean;
}

abbrev pub decreases-loop-taken : goal.decreases-loop-taken
decreases-loop-taken l = length l.piece - l.taken
