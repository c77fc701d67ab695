use Rattle.std.proofs.Common.{◌≡◌, ◌+◌, ◌++◌, length, map, vec_len}
use Rattle.std.specs.Prelude.{vec_capacity}
use Rattle.timer_facility.specs.declared.event.Out.TheVariants as Outs
use Rattle.timer_facility.proofs.handing_out.hand_out.Given as goal

-- what was handed out, followed by what still waits, is what waited at the beginning
abbrev pub invariant-loop-notice : goal.invariant-loop-notice
invariant-loop-notice g l = record {
  state : l.facility.state ≡ l.initial.facility.state;
  outs : l.outs.items ++ map (λ notice. Outs.Notice notice) l.facility.waiting
      ≡ l.initial.outs.items ++ map (λ notice. Outs.Notice notice) l.initial.facility.waiting;
  len : vec_len l.outs + length l.facility.waiting ≡ vec_len l.initial.outs + length l.initial.facility.waiting;
  capacity : vec_capacity l.outs ≡ vec_capacity l.initial.outs;
}

abbrev pub decreases-loop-notice : goal.decreases-loop-notice
decreases-loop-notice g l = length l.facility.waiting
