-- What is left to be read, and which file is to be opened.
use Rattle.std.specs.Prelude.{◌≡◌, ◌≢◌, ◌⊎◌, ℕ, List, Option, None, Some, codes}
use Rattle.timer_program.specs.declared.files.Source.{Source}
use Rattle.timer_program.specs.declared.files.Source.TheVariants.{Given, Opened, Nothing}

-- the bytes that a source will give, if they are known
abbrev pub remaining_of : {R O : Type 0} → (R → Option (List ℕ)) → (O → Option (List ℕ)) → Source R O → Option (List ℕ)
remaining_of given opened (Given reader) = given reader
remaining_of given opened (Opened file) = opened file
remaining_of given opened Nothing = None

-- of this name of a file, if one is given, this is to be opened: none for `-`, which is what the program is handed
abbrev pub IsToOpen : (file to-open : Option (List ℕ)) → Type 0
IsToOpen file None = (file ≡ None) ⊎ (file ≡ Some (codes "-"))
IsToOpen file (Some name) = (file ≡ Some name) × (name ≢ codes "-")
