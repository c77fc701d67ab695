-- How the slots of a wheel are laid out.
use Rattle.std.specs.Prelude.{ℕ, List}

pub data Layout : Type 0 where
  -- one list of timers, in no slots
  NoSlots : Layout
  -- one wheel, of so many slots
  OneWheel : ℕ → Layout
  -- a hierarchy of wheels by its radices, from the lowest wheel up: each has the slots of one revolution
  OneRevolution : List ℕ → Layout
  -- the same, where each wheel has the slots of two revolutions
  TwoRevolutions : List ℕ → Layout
