use Rattle.timer_ffi_base.proofs.CellLaws.{unchanged}
use Rattle.timer_c.specs.Frames.{with_timers}
use Rattle.timer_c.specs.Lent.{as_cell}
use Rattle.timer_c.proofs.c_timers.CTimers.timers.Goals as goal

pub returns : goal.returns
returns c =
    let lent = rw c.cell.ensures.value at c.get.ensures in (
      rw c.cell.ensures.value,
      record {
        writes_back = tt;
        held = lent.held;
        same = unchanged c.get.result (as_cell c.args.self.now.slot) (with_timers c.args.self.now) lent.held;
        none = lent.none;
      },
    )
