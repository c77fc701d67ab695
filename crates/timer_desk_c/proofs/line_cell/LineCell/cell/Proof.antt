-- `cell` casts the reference: the slot has the words of the cell, and owns what the cell owns.
use Rattle.std.proofs.Common.{refl}
use prog.Wp.{WpFn}
use Rattle.timer_ffi_base.proofs.Casts.{Cast, casts}
use Rattle.timer_desk_c.specs.Lent.{the_line_slot, the_line, line_as_cell, cell_as_line}
use Rattle.timer_desk_c.specs.contracts.line_cell.LineCell.cell.Key.{name}
use Rattle.timer_desk_c.proofs.line_cell.LineCell.cell.Statement.{statement}
use Rattle.timer_desk_c.proofs.line_cell.LineCell.cell.Code as code

abbrev slot_cast : Cast
slot_cast = record {
  S = the_line_slot;
  R = the_line;
  as_cell = line_as_cell;
  as_slot = cell_as_line;
  one = tt;
  words = λ us b o. refl;
  there = λ s us. refl;
  back = λ w us. refl;
}

pub cell_spec : {M : Type 1} → statement M
unfolding WpFn
cell_spec 𝓤 𝓛 𝓜 𝓡 wired = casts slot_cast _ _ 𝓤 𝓛 𝓜 𝓡 name (code.unfolded 𝓤 𝓛.H 𝓜 𝓡 wired)
