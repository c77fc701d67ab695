use Rattle.timer_desk_c.proofs.PlacementLemmas.{IsPlacedSoFar}
use Rattle.timer_desk_c.proofs.placement.place.Given as goal

-- the lines from so many on hold their ends, and those below are as they were
abbrev pub invariant-loop-end : goal.invariant-loop-end
invariant-loop-end l = record {
  placed : IsPlacedSoFar l.life l.initial.ends.items l.fn.lines l.ends.items l.lines;
}

abbrev pub decreases-loop-end : goal.decreases-loop-end
decreases-loop-end l = goal.left-loop-end l
