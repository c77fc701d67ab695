-- A stream with a journal, from its files to its ending.
use Rattle.std.specs.Prelude.{◌≡◌, ◌≢◌, ℕ, ◌⊎◌, Bool, false, List, Option, None, Some, Result, Ok, Err, codes}
use Rattle.timer_script.specs.declared.fault.ServeFault.TheVariants as serves
use Rattle.timer_script.specs.declared.streams.Streams.{Streams}
use Rattle.timer_script.specs.declared.watched.Watched.{Watched}
use Rattle.timer_script.specs.Watched.{inner_of, has_failed}
use Rattle.timer_durable.specs.declared.fault.KeepFault.TheVariants as keeps
use Rattle.timer_commands.specs.declared.ending.Ending.{Ending}
use Rattle.timer_commands.specs.declared.ending.Ending.TheVariants.{Failed, Refused}
use Rattle.timer_commands.specs.declared.fault.Fault.{Fault}
use Rattle.timer_commands.specs.declared.fault.Fault.TheVariants as Faults
use Rattle.timer_commands.specs.declared.fault.Spot.{Spot}
use Rattle.timer_commands.specs.declared.fault.Spot.TheVariants.{Input}
use Rattle.timer_commands.specs.declared.keeping.KeptFault.{KeptFault}
use Rattle.timer_commands.specs.declared.keeping.KeptFault.TheVariants as kepts
use Rattle.timer_commands.specs.declared.options.OptionsFault.{OptionsFault}
use Rattle.timer_commands.specs.declared.options.RunOptions.{RunOptions}
use Rattle.timer_commands.specs.Endings.{ending_of}
use Rattle.timer_commands.specs.Journaling.{KeptStream, HasServedKept}
use Rattle.timer_commands.specs.Options.{RefusesOptions}
use Rattle.timer_commands.specs.Subcommands.{Bytes, Channels, talk_of}
use Rattle.timer_program.specs.declared.files.Source.{Source}
use Rattle.timer_program.specs.declared.files.Source.TheVariants.{Opened}
use Rattle.timer_program.specs.declared.state_file.StateFault.{StateFault}
use Rattle.timer_program.specs.declared.state_file.StateFault.TheVariants as states
use Rattle.timer_program.specs.Files.{IsToOpen}
use Rattle.timer_program.specs.Reports.{HasLocated, HasEnded}
use Rattle.timer_program.specs.StateFile.{HasText, HasNoState, spot_of_state}

-- how what a call opens is known: a file, and a journal with its bytes
pub record Openings (O D : Type 0) : Type 1 where
  pub is_file : List ℕ → O → Type 0
  pub is_journal : List ℕ → D → Type 0
  pub seen : D → List ℕ

-- the error of the input that an error of a stream with a journal is, if it is one
abbrev pub input_fault : KeptFault → Option Fault
input_fault (kepts.Run fault) = Some fault
input_fault (kepts.Keep keeps.Read) = Some (Faults.Serve serves.Read)
input_fault (kepts.Keep keeps.Write) = Some (Faults.Serve serves.Write)
input_fault fault = None

-- how a call ends with an error of its journal
abbrev pub ending_of_kept : KeptFault → Ending
ending_of_kept (kepts.Begin fault) = Refused
ending_of_kept kepts.HasBegun = Refused
ending_of_kept (kepts.State fault) = Refused
ending_of_kept (kepts.Keep (keeps.AnswersGone before)) = Refused
ending_of_kept (kepts.Keep (keeps.FewAnswers answers)) = Refused
ending_of_kept (kepts.Keep fault) = Failed
ending_of_kept (kepts.Run fault) = ending_of fault

-- where in its journal an error is
abbrev pub spot_of_kept : KeptFault → Spot
spot_of_kept (kepts.State fault) = spot_of_state (states.Text fault)
spot_of_kept fault = Input

-- how a stream ended with this error: that of the input has its name, and any other that of the journal
abbrev pub HasFailed : {R S F : Type 0} → Option Fault → KeptFault → (input journal : List ℕ) → (F → Option (List ℕ))
    → (done new : Channels R S F) → Ending → Type 0
HasFailed (Some inner) fault input journal reports done new ending = HasEnded (Some input) reports done new (Err inner) ending
HasFailed None fault input journal reports done new ending = (ending ≡ ending_of_kept fault) × (new.streams ≡ done.streams)
    × HasLocated journal (spot_of_kept fault) reports done.faults new.faults

abbrev pub HasEndedKept : {R S F : Type 0} → (input journal : List ℕ) → (F → Option (List ℕ)) → (done new : Channels R S F)
    → Result Ending KeptFault → Ending → Type 0
HasEndedKept input journal reports done new (Ok end) ending = (ending ≡ end) × (new ≡ done)
HasEndedKept input journal reports done new (Err fault) ending = HasFailed (input_fault fault) fault input journal reports done new ending

-- Of a stream whose input has this name: it was served over the journal of this name. Or that was not opened, and the
-- line says why; nothing was read or written.
abbrev pub HasRunJournal : {R O S F D J : Type 0} → (journal input : List ℕ) → RunOptions → Bool → Option ℕ → Option (List ℕ)
    → Openings O D → KeptStream (Streams (Source R O) S) F J → Bytes (Source R O) S F
    → (old new : Channels (Source R O) S F) → Ending → Type 0
HasRunJournal {R} {O} {S} {F} {D} journal input options wakeups seen first opens known bytes old new ending =
    ((device : D) × opens.is_journal journal device × (done : Channels (Source R O) S F) × (result : Result Ending KeptFault)
    × HasServedKept known options wakeups seen first (opens.seen device) (talk_of old) (talk_of done) result
    × HasEndedKept input journal bytes.reports done new result ending)
    ⊎ ((ending ≡ Refused) × (new.streams ≡ old.streams) × HasLocated journal Input bytes.reports old.faults new.faults)

-- the same over the file that is to be opened, or over what the program is handed
abbrev pub HasRunInputKept : {R O S F D J : Type 0} → Option (List ℕ) → (journal : List ℕ) → RunOptions → Bool → Option ℕ → Option (List ℕ)
    → Openings O D → KeptStream (Streams (Source R O) S) F J → Bytes (Source R O) S F
    → (old new : Channels (Source R O) S F) → Ending → Type 0
HasRunInputKept None journal options wakeups seen first opens known bytes old new ending =
    HasRunJournal journal (codes "standard input") options wakeups seen first opens known bytes old new ending
HasRunInputKept {R} {O} (Some name) journal options wakeups seen first opens known bytes old new ending =
    ((file : O) × opens.is_file name file × (reader : Watched (Source R O)) × (inner_of reader ≡ Opened file)
    × (has_failed reader ≡ false) × HasRunJournal journal name options wakeups seen first opens known bytes
    (record { streams = record { reader = reader; writer = old.streams.writer }; faults = old.faults }) new ending)
    ⊎ ((ending ≡ Refused) × (new.streams ≡ old.streams) × HasLocated name Input bytes.reports old.faults new.faults)

abbrev pub HasRunFirst : {R O S F D J : Type 0} → (file : Option (List ℕ)) → (journal : List ℕ) → RunOptions → Bool → Option ℕ → Option (List ℕ)
    → Openings O D → KeptStream (Streams (Source R O) S) F J → Bytes (Source R O) S F
    → (old new : Channels (Source R O) S F) → Ending → Type 0
HasRunFirst file journal options wakeups seen first opens known bytes old new ending = (to-open : Option (List ℕ)) × IsToOpen file to-open
    × HasRunInputKept to-open journal options wakeups seen first opens known bytes old new ending

-- the same from the text of the file of a state, if one is named; or that is none that fits the options
abbrev pub HasRunState : {R O S F D J : Type 0} → (state file : Option (List ℕ)) → (journal : List ℕ) → RunOptions → Bool → Option ℕ
    → Openings O D → KeptStream (Streams (Source R O) S) F J → Bytes (Source R O) S F
    → (old new : Channels (Source R O) S F) → Ending → Type 0
HasRunState None file journal options wakeups seen opens known bytes old new ending =
    HasRunFirst file journal options wakeups seen None opens known bytes old new ending
HasRunState {R} {O} (Some name) file journal options wakeups seen opens known bytes old new ending =
    ((text : List ℕ) × HasText opens.is_file (λ o. bytes.remaining (Opened o)) name text
    × HasRunFirst file journal options wakeups seen (Some text) opens known bytes old new ending)
    ⊎ ((ending ≡ Refused) × (new.streams ≡ old.streams) × (fault : StateFault)
    × HasNoState opens.is_file (λ o. bytes.remaining (Opened o)) name options fault
    × HasLocated name (spot_of_state fault) bytes.reports old.faults new.faults)

-- what was done for a stream with the journal of this name; or the options are refused, and nothing was read or written
abbrev pub HasRunKept : {R O S F D J : Type 0} → (state file : Option (List ℕ)) → (journal : List ℕ) → RunOptions → Bool → Option ℕ
    → Openings O D → KeptStream (Streams (Source R O) S) F J → Bytes (Source R O) S F
    → (old new : Channels (Source R O) S F) → Ending → Type 0
HasRunKept state file journal options wakeups seen opens known bytes old new ending =
    HasRunState state file journal options wakeups seen opens known bytes old new ending
    ⊎ ((ending ≡ Refused) × (new.streams ≡ old.streams) × (fault : OptionsFault) × RefusesOptions fault options)
