-- What looks at a ring have found.
use Rattle.std.specs.Prelude.{◌≡◌, ◌≢◌, Bool, if◌then◌else◌}
use Rattle.timer_desk.specs.declared.looks.Looks.{Looks}
use Rattle.timer_desk.specs.Types.{Found}
use Rattle.timer_desk.specs.declared.looks.Found.TheVariants.{Nothing, Gone, GoneThenEmpty}

-- what they have found
abbrev pub found_in : Looks → Found
found_in l = l.found

-- what a look at the other end may find: an end that is gone stays gone
abbrev pub MayFind : Found → Found → Type 0
MayFind Nothing new = new ≢ GoneThenEmpty
MayFind Gone new = new ≡ Gone
MayFind GoneThenEmpty new = new ≡ GoneThenEmpty

-- what has been found after a look at the items, by whether the ring was empty: that counts only once the other
-- end was gone
abbrev pub found_after : Found → Bool → Found
found_after Nothing empty = Nothing
found_after Gone empty = if empty then GoneThenEmpty else Gone
found_after GoneThenEmpty empty = if empty then GoneThenEmpty else Gone

-- a look at the other end and then one at the items, after which the ring was known to be empty or not
pub record AreLooksInOrder (old new : Found) (empty : Bool) : Type 0 where
  pub between : Found
  pub at_the_end : MayFind old between
  pub at_the_items : new ≡ found_after between empty
