use Rattle.std.proofs.Common.{◌≡◌, ◌++◌, take}
use Rattle.std.specs.List.{flat_map}
use Rattle.timer_script.specs.Text.{out_line}
use Rattle.timer_script.proofs.text.push_outs.Given as goal

abbrev pub invariant-loop-out : goal.invariant-loop-out
invariant-loop-out l = l.text.items ≡ l.fn.text.items ++ flat_map out_line (take l.out-index l.outs)
