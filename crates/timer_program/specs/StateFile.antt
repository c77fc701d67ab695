-- The text of a file with a state, what it says, and where in it an error is.
use Rattle.std.specs.Prelude.{◌≡◌, ℕ, List, Option, IfSome}
use Rattle.timer_facility.specs.Saved.{ReadState}
use Rattle.timer_script.specs.SavedText.{IsSavedText, WhyNotRead}
use Rattle.timer_script.specs.declared.saved_text.SavedFault.{SavedFault}
use Rattle.timer_script.specs.declared.saved_text.SavedFault.TheVariants as saved
use Rattle.timer_commands.specs.Serving.{limits_for}
use Rattle.timer_commands.specs.declared.fault.Spot.{Spot}
use Rattle.timer_commands.specs.declared.fault.Spot.TheVariants.{Line, Input}
use Rattle.timer_commands.specs.declared.options.RunOptions.{RunOptions}
use Rattle.timer_program.specs.declared.state_file.StateFault.{StateFault}
use Rattle.timer_program.specs.declared.state_file.StateFault.TheVariants as faults

-- a file was opened under this name, and this is all that it had to give
pub record HasText {O : Type 0} (IsOpened : List ℕ → O → Type 0) (remaining : O → Option (List ℕ)) (name text : List ℕ)
    : Type 0 where
  pub file : O
  pub opened : IsOpened name file
  pub whole : IfSome (remaining file) (λ left. text ≡ left)

-- the text of the file is that of a state that fits the options, and this is what it says
pub record HasReadState {O : Type 0} (IsOpened : List ℕ → O → Type 0) (remaining : O → Option (List ℕ)) (name : List ℕ)
    (options : RunOptions) (read : ReadState) : Type 0 where
  pub text : List ℕ
  pub is_text : HasText IsOpened remaining name text
  pub says : IsSavedText (limits_for options) text read

-- why no state is read: the text of the file is none that fits the options; or the file can't be opened or read
abbrev pub HasNoState : {O : Type 0} → (List ℕ → O → Type 0) → (O → Option (List ℕ)) → List ℕ → RunOptions → StateFault → Type 0
HasNoState IsOpened remaining name options (faults.Text fault) = (text : List ℕ) × HasText IsOpened remaining name text
    × WhyNotRead (limits_for options) text fault
HasNoState IsOpened remaining name options (faults.File kind) = Unit {0}

-- where in the file it is
abbrev pub spot_of_state : StateFault → Spot
spot_of_state (faults.Text (saved.Form line)) = Line line
spot_of_state (faults.Text (saved.Line line fault)) = Line line
spot_of_state fault = Input
