-- How a call of the program ends, and what it did then to its input and its output.
use Rattle.std.specs.Prelude.{◌≡◌, ◌≢◌, ℕ, ◌⊎◌, true, false, List, Option, None, Some, IfSome, option_map, Result, Ok, Err, IfOk, IfErr, Any, codes}
use Rattle.std.specs.Io.KnownBytes.{Appends}
use Rattle.clap.specs.Values.{kind_of}
use Rattle.clap.specs.declared.error.Error.{Error}
use Rattle.clap.specs.declared.error.kind.ErrorKind.{ErrorKind}
use Rattle.clap.specs.declared.error.kind.ErrorKind.TheVariants as kinds
use Rattle.timer_facility.specs.Saved.{ReadState}
use Rattle.timer_script.specs.declared.watched.Watched.{Watched}
use Rattle.timer_script.specs.Watched.{inner_of, has_failed}
use Rattle.timer_commands.specs.declared.ending.Ending.{Ending}
use Rattle.timer_commands.specs.declared.ending.Ending.TheVariants.{Done, Failed, Refused}
use Rattle.timer_script.specs.declared.streams.Streams.{Streams}
use Rattle.timer_commands.specs.declared.fault.Fault.{Fault}
use Rattle.timer_commands.specs.declared.fault.Spot.TheVariants.{Input}
use Rattle.timer_commands.specs.declared.verbs.Verb.TheVariants as verbs
use Rattle.timer_commands.specs.declared.options.RunOptions.{RunOptions}
use Rattle.timer_commands.specs.Serving.{FitsOptions}
use Rattle.timer_commands.specs.Subcommands.{Bytes, Channels, HasRunVerb, HasCheckedScript}
use Rattle.timer_commands.specs.Clients.{HasRunClients}
use Rattle.timer_program.specs.declared.arguments.Call.{Call}
use Rattle.timer_program.specs.declared.arguments.Subcommand.{Subcommand}
use Rattle.timer_program.specs.declared.arguments.Subcommand.TheVariants as calls
use Rattle.timer_program.specs.declared.files.Source.{Source}
use Rattle.timer_program.specs.declared.files.Source.TheVariants.{Opened}
use Rattle.timer_program.specs.Arguments.{IsNamedBy, subcommand_name, IsShown, AsksForText, IsPathOf, has_wakeups}
use Rattle.timer_commands.specs.Journaling.{KeptStream}
use Rattle.timer_program.specs.Files.{IsToOpen}
use Rattle.timer_program.specs.KeptStream.{Openings, HasRunKept}
use Rattle.timer_program.specs.Reports.{HasLocated, HasEnded}
use Rattle.timer_program.specs.declared.state_file.StateFault.{StateFault}
use Rattle.timer_program.specs.StateFile.{HasReadState, HasNoState, spot_of_state}

-- no script was played, for an error of this kind: help or the version is asked for, the arguments are refused, or
-- out of memory
abbrev pub HasNotPlayed : {S : Type 0} → ErrorKind → (S → Option (List ℕ)) → (writer writer' : Watched S) → Ending → Type 0
-- help or the version was asked for, and a whole text was written
HasNotPlayed kind contents writer writer' Done =
    IsShown kind × (((text : List ℕ) × Appends (contents (inner_of writer))
    (contents (inner_of writer')) text) × (has_failed writer' ≡ false))
-- the writer failed, or nothing was written; and the arguments were not refused
HasNotPlayed kind contents writer writer' Failed =
    ((kind ≡ kinds.OutOfMemory) ⊎ IsShown kind) × ((has_failed writer' ≡ true) ⊎ (writer' ≡ writer))
-- the arguments are refused, and nothing was written
HasNotPlayed kind contents writer writer' Refused = (kind ≢ kinds.OutOfMemory) × ((¬ (IsShown kind)) × (writer' ≡ writer))
HasNotPlayed kind contents writer writer' ending = ⊥

-- how the errors of a subcommand name what the program is handed
abbrev pub standard_name : Subcommand → Option (List ℕ)
standard_name (calls.Run verbs.Play options) = None
standard_name (calls.Run verb options) = Some (codes "standard input")
standard_name (calls.Threads options) = Some (codes "standard input")
standard_name calls.Check = Some (codes "standard input")

-- what was read, if a state was, fits the options of the subcommand
abbrev pub Fits : Option ReadState → Subcommand → Type 0
Fits None subcommand = Unit {0}
Fits (Some read) (calls.Run verb options) = FitsOptions options read
Fits (Some read) subcommand = Unit {0}

-- What was done for a subcommand over the streams: a script was played, or lines were answered, maybe from a state that was
-- read; or clients ran and nothing was read; or a script was checked. `done` are the channels before an error was
-- reported, and its line has this name of the input, if there is one.
abbrev pub HasCalled : {R S F : Type 0} → Option ReadState → Subcommand → Option (List ℕ) → Bytes R S F
    → (old new : Channels R S F) → Ending → Type 0
HasCalled {R} {S} {F} saved (calls.Run verb options) name bytes old new ending =
    (done : Channels R S F) × (result : Result Ending Fault) × HasRunVerb saved verb options bytes old done result
    × HasEnded name bytes.reports done new result ending
HasCalled saved (calls.Threads options) name bytes old new ending =
    (new.streams.reader ≡ old.streams.reader)
    × HasRunClients options bytes.contents bytes.reports old.streams.writer new.streams.writer old.faults new.faults ending
HasCalled {R} {S} {F} saved calls.Check name bytes old new ending =
    (done : Streams R S) × (result : Result Ending Fault) × HasCheckedScript
    (record { remaining = bytes.remaining; contents = bytes.contents }) old.streams done result
    × HasEnded name bytes.reports (record { streams = done; faults = old.faults }) new result ending

-- What was done for a subcommand over the file of this name: it was opened, and read in place of what the program is
-- handed. Or it was not, and the line says for which file and why; nothing else was read or written.
abbrev pub HasRunFile : {R O S F : Type 0} → Option ReadState → Subcommand → List ℕ → (List ℕ → O → Type 0)
    → Bytes (Source R O) S F → (old new : Channels (Source R O) S F) → Ending → Type 0
HasRunFile {R} {O} saved subcommand name IsOpened bytes old new ending =
    ((file : O) × IsOpened name file × (reader : Watched (Source R O)) × (inner_of reader ≡ Opened file)
    × (has_failed reader ≡ false) × HasCalled saved subcommand (Some name) bytes
    (record { streams = record { reader = reader; writer = old.streams.writer }; faults = old.faults }) new ending)
    ⊎ ((ending ≡ Refused) × (new.streams ≡ old.streams) × HasLocated name Input bytes.reports old.faults new.faults)

-- what was done for a subcommand over the file that is to be opened, or over what the program is handed
abbrev pub HasRunOver : {R O S F : Type 0} → Option ReadState → Subcommand → Option (List ℕ) → (List ℕ → O → Type 0)
    → Bytes (Source R O) S F → (old new : Channels (Source R O) S F) → Ending → Type 0
HasRunOver saved subcommand None IsOpened bytes old new ending =
    HasCalled saved subcommand (standard_name subcommand) bytes old new ending
HasRunOver saved subcommand (Some name) IsOpened bytes old new ending =
    HasRunFile saved subcommand name IsOpened bytes old new ending

-- what was done for a subcommand with this file, if one is named
abbrev pub HasRunInput : {R O S F : Type 0} → Option ReadState → Subcommand → Option (List ℕ) → (List ℕ → O → Type 0)
    → Bytes (Source R O) S F → (old new : Channels (Source R O) S F) → Ending → Type 0
HasRunInput saved subcommand file IsOpened bytes old new ending =
    (to-open : Option (List ℕ)) × IsToOpen file to-open × HasRunOver saved subcommand to-open IsOpened bytes old new ending

-- the options of a stream that may begin with a state: those of `serve`
abbrev pub options_of_stream : Subcommand → Option RunOptions
options_of_stream (calls.Run (verbs.Serve on_bad wakeups) options) = Some options
options_of_stream subcommand = None

-- What was done for a stream that begins with the state in the file of this name: it was read, and the stream was served
-- from what it says. Or it was not, and the line says for which file, where in it and why; nothing else was read or
-- written.
abbrev pub HasRunFromState : {R O S F : Type 0} → List ℕ → RunOptions → Subcommand → Option (List ℕ)
    → (List ℕ → O → Type 0) → Bytes (Source R O) S F → (old new : Channels (Source R O) S F) → Ending → Type 0
HasRunFromState {R} {O} name options subcommand file IsOpened bytes old new ending =
    ((read : ReadState) × HasReadState IsOpened (λ o. bytes.remaining (Opened o)) name options read
    × HasRunInput (Some read) subcommand file IsOpened bytes old new ending)
    ⊎ ((ending ≡ Refused) × (new.streams ≡ old.streams) × (fault : StateFault)
    × HasNoState IsOpened (λ o. bytes.remaining (Opened o)) name options fault
    × HasLocated name (spot_of_state fault) bytes.reports old.faults new.faults)

-- what was done for a subcommand that may begin with a state, if the file of one is named
abbrev pub HasRunStream : {R O S F : Type 0} → List ℕ → Option RunOptions → Subcommand → Option (List ℕ)
    → (List ℕ → O → Type 0) → Bytes (Source R O) S F → (old new : Channels (Source R O) S F) → Ending → Type 0
HasRunStream name (Some options) subcommand file IsOpened bytes old new ending =
    HasRunFromState name options subcommand file IsOpened bytes old new ending
HasRunStream name None subcommand file IsOpened bytes old new ending =
    HasRunInput None subcommand file IsOpened bytes old new ending

-- what was done for a subcommand with these files, if they are named: that of a state, and its input
abbrev pub HasRunUnkept : {R O S F : Type 0} → Option (List ℕ) → Subcommand → Option (List ℕ) → (List ℕ → O → Type 0)
    → Bytes (Source R O) S F → (old new : Channels (Source R O) S F) → Ending → Type 0
HasRunUnkept (Some name) subcommand file IsOpened bytes old new ending =
    HasRunStream name (options_of_stream subcommand) subcommand file IsOpened bytes old new ending
HasRunUnkept None subcommand file IsOpened bytes old new ending =
    HasRunInput None subcommand file IsOpened bytes old new ending

-- the journal of a stream that has one, and its options
abbrev pub journal_with : Option (List ℕ) → Option RunOptions → Option (List ℕ × RunOptions)
journal_with (Some name) (Some options) = Some (name, options)
journal_with name options = None

abbrev pub journal_of : Call → Option (List ℕ × RunOptions)
journal_of call = journal_with (option_map (λ n. n.now) call.journal) (options_of_stream call.subcommand)

-- what was done for a call with this journal, if it has one
abbrev pub HasRunCall : {R O S F D J : Type 0} → Option (List ℕ × RunOptions) → Call → Openings O D
    → KeptStream (Streams (Source R O) S) F J → Bytes (Source R O) S F → (old new : Channels (Source R O) S F) → Ending → Type 0
HasRunCall (Some (journal, options)) call opens known bytes old new ending =
    HasRunKept (option_map (λ n. n.now) call.state) (option_map (λ n. n.now) call.file) journal options
    (has_wakeups call.subcommand) call.seen opens known bytes old new ending
HasRunCall None call opens known bytes old new ending =
    HasRunUnkept (option_map (λ n. n.now) call.state) call.subcommand (option_map (λ n. n.now) call.file) opens.is_file
    bytes old new ending

-- What was done for arguments that were read as this. If they are read as no call, nothing but a text was written.
abbrev pub HasRunRead : {R O S F D J : Type 0} → Result Call Error → Openings O D
    → KeptStream (Streams (Source R O) S) F J → Bytes (Source R O) S F → (old new : Channels (Source R O) S F) → Ending → Type 0
HasRunRead (Ok call) opens known bytes old new ending = HasRunCall (journal_of call) call opens known bytes old new ending
HasRunRead (Err error) opens known bytes old new ending =
    (new.streams.reader ≡ old.streams.reader)
    × HasNotPlayed (kind_of error) bytes.contents old.streams.writer new.streams.writer ending

-- The arguments were read as a call of the subcommand that they name, with files whose names they have, or as an error.
-- That is help or the version only if an argument asks for it. And that was done.
pub record HasRunProgram {A R O S F D J : Type 0} (text : A → List ℕ) (arguments : List A) (opens : Openings O D)
    (known : KeptStream (Streams (Source R O) S) F J) (bytes : Bytes (Source R O) S F)
    (old new : Channels (Source R O) S F) (ending : Ending) : Type 0 where
  pub read : Result Call Error
  pub called : IfOk read (λ call. IsNamedBy text arguments (subcommand_name call.subcommand))
  pub file : IfOk read (λ call. IfSome call.file (λ name. Any (λ argument. text argument ≡ name.now) arguments))
  pub state : IfOk read (λ call. IfSome call.state (λ name. IsPathOf text arguments (codes "--state=") name.now call.subcommand))
  pub journal : IfOk read (λ call. IfSome call.journal (λ name. IsPathOf text arguments (codes "--journal=") name.now call.subcommand))
  pub asked : IfErr read (λ error. IsShown (kind_of error)
      → Any (λ argument. AsksForText (text argument)) arguments)
  pub done : HasRunRead read opens known bytes old new ending
