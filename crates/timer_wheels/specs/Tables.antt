-- The tables that a hierarchy of wheels may have.
use Rattle.std.specs.Prelude.{ℕ, Bool, true, false, List, [], ◌∷◌}
use Rattle.timer_base.specs.Layout.{Layout, NoSlots, OneWheel, OneRevolution, TwoRevolutions}
use Rattle.timer_wheels.specs.Types.{LAST, Table}
use Rattle.timer_wheels.specs.Digits.{equals, slots}
-- made by tools/facts: definitions of tables
use Rattle.timer_wheels.specs.declared.table.Table.TheVariants.{Wide, Clock, Small}
use Rattle.timer_wheels.specs.declared.table.TheConstants.{LAST_OF_CLOCK, LAST_OF_SMALL}

-- ten wheels of 64 slots
unfoldable pub wide : List ℕ
wide = 64 ∷ 64 ∷ 64 ∷ 64 ∷ 64 ∷ 64 ∷ 64 ∷ 64 ∷ 64 ∷ 64 ∷ []

-- 60 seconds, 60 minutes, 24 hours, 100 days
unfoldable pub clock : List ℕ
clock = 60 ∷ 60 ∷ 24 ∷ 100 ∷ []

-- the slots of the wheels, from the lowest up
abbrev pub radices : Table → List ℕ
radices Wide = wide
radices Clock = clock
radices Small = equals 4 6

-- the last tick that has its digits in the table
abbrev pub last_of_table : Table → ℕ
last_of_table Wide = LAST
last_of_table Clock = LAST_OF_CLOCK
last_of_table Small = LAST_OF_SMALL

-- by hand

-- how many slots its wheels have in all
abbrev pub slots_of_table : Table → ℕ
slots_of_table table = slots (radices table)

-- how the slots of its wheels are laid out in a hierarchy
abbrev pub layout_of_table : Table → Layout
layout_of_table table = OneRevolution (radices table)

-- and in a smooth one
abbrev pub smooth_layout : Table → Layout
smooth_layout table = TwoRevolutions (radices table)

-- the radices of the wheels of a layout, from the lowest up
abbrev pub radices_of : Layout → List ℕ
radices_of NoSlots = []
radices_of (OneWheel n) = n ∷ []
radices_of (OneRevolution rs) = rs
radices_of (TwoRevolutions rs) = rs

-- whether it is that of a smooth hierarchy: each wheel has the slots of two revolutions
abbrev pub is_smooth : Layout → Bool
is_smooth (TwoRevolutions rs) = true
is_smooth layout = false
