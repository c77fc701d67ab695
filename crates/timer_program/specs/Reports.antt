-- The line of an error: the name of the program, that of the input, and the line there.
use Rattle.std.specs.Prelude.{◌≡◌, ℕ, ◌⊎◌, ◌++◌, Bool, true, false, List, [], Option, None, Some, Result, Ok, Err, codes, decimal}
use Rattle.timer_script.specs.declared.watched.Watched.{Watched}
use Rattle.timer_script.specs.Watched.{has_failed}
use Rattle.timer_commands.specs.declared.ending.Ending.{Ending}
use Rattle.timer_commands.specs.declared.fault.Fault.{Fault}
use Rattle.timer_commands.specs.declared.fault.Fault.TheVariants as Faults
use Rattle.timer_commands.specs.declared.fault.Spot.{Spot}
use Rattle.timer_commands.specs.declared.fault.Spot.TheVariants.{Line, Input, Elsewhere}
use Rattle.timer_commands.specs.Endings.{ending_of, spot_of}
use Rattle.timer_commands.specs.Clients.{WritesWhole}
use Rattle.timer_commands.specs.Subcommands.{Channels}

-- where an error is: in this line of the input with this name, in the input, or nowhere in it
abbrev pub place_of : List ℕ → Spot → List ℕ
place_of name (Line line) = name ++ codes ":" ++ decimal line ++ codes ": "
place_of name Input = name ++ codes ": "
place_of name Elsewhere = []

-- the line of an error at this place, for this reason
abbrev pub located_line : List ℕ → Spot → List ℕ → List ℕ
located_line name spot reason = codes "timers: " ++ place_of name spot ++ reason ++ codes "\n"

-- a line that names the place was written, for some reason, unless the writer of reports failed before or then
abbrev pub HasLocated : {F : Type 0} → List ℕ → Spot → (F → Option (List ℕ)) → (faults faults' : Watched F) → Type 0
HasLocated name spot reports errors errors' =
    (has_failed errors ≡ true) ⊎ ((reason : List ℕ) × WritesWhole reports errors errors' (located_line name spot reason))

-- the line of an error has the name of the input, if that has one: all but refused options
abbrev pub is_in_call : Fault → Bool
is_in_call (Faults.Options fault) = false
is_in_call fault = true

-- How a call ended with an error of the input with this name. The text of refused options, and of an error of an input
-- without a name, is in no clause.
abbrev pub HasReported : {F : Type 0} → Option (List ℕ) → Fault → (F → Option (List ℕ)) → (faults faults' : Watched F)
    → Ending → Type 0
HasReported None fault reports errors errors' ending = ending ≡ ending_of fault
HasReported (Some name) fault reports errors errors' ending = (ending ≡ ending_of fault)
    × (is_in_call fault ≡ true → HasLocated name (spot_of fault) reports errors errors')

-- a reader is left alone, but where a bad line may have been read again
abbrev pub IsKept : {R : Type 0} → Spot → (reader reader' : Watched R) → Type 0
IsKept spot reader reader' = ((line : ℕ) × (spot ≡ Line line)) ⊎ (reader' ≡ reader)

-- what was done, by how it ended, became the ending of the call: after an error its line was written
abbrev pub HasEnded : {R S F : Type 0} → Option (List ℕ) → (F → Option (List ℕ)) → (done new : Channels R S F)
    → Result Ending Fault → Ending → Type 0
HasEnded name reports done new (Ok end) ending = (ending ≡ end) × (new ≡ done)
HasEnded name reports done new (Err fault) ending = HasReported name fault reports done.faults new.faults ending
    × (new.streams.writer ≡ done.streams.writer) × IsKept (spot_of fault) done.streams.reader new.streams.reader
