use Rattle.std.proofs.Common.{◌≡◌, ◌++◌}
use Rattle.timer_commands.specs.Indented.{HasGrownByIndented}
use Rattle.timer_commands.specs.Pictures.{lines_below}
use Rattle.timer_commands.proofs.render.lists.push_lists.Given as goal

-- the lists so far have their lines
abbrev pub invariant-loop-list : goal.invariant-loop-list
invariant-loop-list g l = record {
  lines : l.text.items ≡ l.fn.text.items ++ lines_below l.naming l.filter l.links.lists l.list;
  indented : HasGrownByIndented l.fn.text.items l.text.items;
}
