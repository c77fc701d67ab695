use Rattle.timer_ffi_base.proofs.CellLaws.{unchanged}
use Rattle.timer_desk_c.specs.Frames.{with_line}
use Rattle.timer_desk_c.specs.Lent.{line_as_cell}
use Rattle.timer_desk_c.proofs.c_structs.CLine.line.Goals as goal

pub returns : goal.returns
returns c =
    let lent = rw c.cell.ensures.value at c.get.ensures in (
      rw c.cell.ensures.value,
      record {
        writes_back = tt;
        held = lent.held;
        same = unchanged c.get.result (line_as_cell c.args.self.now.slot) (with_line c.args.self.now) lent.held;
        none = lent.none;
      },
    )
