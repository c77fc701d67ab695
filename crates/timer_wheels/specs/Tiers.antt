-- The wheels that a hierarchy can have, and the numbers by which C names them.
use Rattle.std.specs.Prelude.{ℕ, ◌≡◌, ◌≤◌, ◌==◌, if◌then◌else◌, Option, Some, None}
use Rattle.timer_base.specs.Layout.{Layout}
use Rattle.timer_wheels.specs.declared.table.Table.{Table}
use Rattle.timer_wheels.specs.declared.table.Table.TheVariants as tables
use Rattle.timer_wheels.specs.declared.tiers.Tiers.{Tiers}
use Rattle.timer_wheels.specs.Tables.{last_of_table, layout_of_table, smooth_layout}
-- made by tools/facts: definitions of tiers
use Rattle.timer_wheels.specs.declared.tiers.Tiers.TheVariants.{Wide, Smooth, Small}
use Rattle.timer_wheels.specs.declared.tiers.TheConstants.{WIDE, SMOOTH, SMALL}

-- the wheels with this number, if there are any
abbrev pub tiers_with_number : ℕ → Option Tiers
tiers_with_number number =
    if number == WIDE then Some Wide else
    if number == SMOOTH then Some Smooth else
    if number == SMALL then Some Small else
    None

-- the table of their radices
abbrev pub table_of_tiers : Tiers → Table
table_of_tiers Wide = tables.Wide
table_of_tiers Smooth = tables.Wide
table_of_tiers Small = tables.Small

-- by hand

-- how their slots are laid out: each smooth wheel has those of two revolutions
abbrev pub layout_of_tiers : Tiers → Layout
layout_of_tiers Smooth = smooth_layout (table_of_tiers Smooth)
layout_of_tiers tiers = layout_of_table (table_of_tiers tiers)

-- the last tick of their clock
abbrev pub last_of_tiers : Tiers → ℕ
last_of_tiers tiers = last_of_table (table_of_tiers tiers)

-- the wheels with this number, whose clock has this tick
pub record AreTiersFor (number tick : ℕ) (tiers : Tiers) : Type 0 where
  pub numbered : tiers_with_number number ≡ Some tiers
  pub in_range : tick ≤ last_of_tiers tiers
