-- How a subcommand ends, and what it did then to its input and its outputs. A result for which this is ⊥ never comes.
use Rattle.std.specs.Prelude.{◌≡◌, ℕ, ◌≤◌, ◌⊎◌, Bool, List, Option, None, Some, Result, Ok, Err}
use Rattle.timer_facility.specs.Saved.{ReadState}
use Rattle.timer_facility.specs.State.{FacilityState, opened}
use Rattle.timer_script.specs.declared.fault.RunFault.{RunFault}
use Rattle.timer_script.specs.declared.fault.RunFault.TheVariants as runs
use Rattle.timer_script.specs.declared.fault.ServeFault.TheVariants as serves
use Rattle.timer_script.specs.declared.cutter.OnBadLine.{OnBadLine}
use Rattle.timer_script.specs.declared.streams.Streams.{Streams}
use Rattle.timer_script.specs.declared.watched.Watched.{Watched}
use Rattle.timer_script.specs.declared.cutter.OnBadLine.TheVariants.{Stop}
use Rattle.timer_script.specs.ScriptRun.{HasRun}
use Rattle.timer_script.specs.ScriptReport.{HasChecked}
use Rattle.timer_script.specs.Decorator.{Decoration}
use Rattle.timer_script.specs.Service.{Sides, server_with}
use Rattle.timer_script.specs.Streams.{Known, streams_state}
use Rattle.timer_commands.specs.declared.ending.Ending.{Ending}
use Rattle.timer_commands.specs.declared.ending.Ending.TheVariants.{Done, Bad}
use Rattle.timer_commands.specs.declared.options.RunOptions.{RunOptions}
use Rattle.timer_commands.specs.declared.fault.Fault.{Fault}
use Rattle.timer_commands.specs.declared.fault.Fault.TheVariants as Faults
use Rattle.timer_commands.specs.declared.verbs.Verb.{Verb}
use Rattle.timer_commands.specs.declared.verbs.Verb.TheVariants as verbs
use Rattle.timer_commands.specs.Options.{config_of, scheme_last, scheme_layout, IsPlayable}
use Rattle.timer_commands.specs.Indented.{AddsPictures}
use Rattle.timer_commands.specs.Serving.{ServerEnds, HasRefusedOptions, Stream, Talk, HasResumed}
use Rattle.timer_commands.specs.Wakeups.{AddsWakeupsIf}

-- how the bytes of a reader, of a writer and of a writer of reports are known
pub record Bytes (R S F : Type 0) : Type 0 where
  pub remaining : R → Option (List ℕ)
  pub contents : S → Option (List ℕ)
  pub reports : F → Option (List ℕ)

-- the streams of a subcommand, at one moment
pub record Channels (R S F : Type 0) : Type 0 where
  pub streams : Streams R S
  pub faults : Watched F

-- the facility of the options, before the first event
abbrev pub opened_by : RunOptions → FacilityState
opened_by options = opened (config_of options) (scheme_last options.scheme)
    (scheme_layout options.scheme options.slots)

-- what playing a script did
abbrev pub HasPlayed : {R S F : Type 0} → FacilityState → Bytes R S F → (old new : Channels R S F)
    → Result Unit RunFault → Type 0
HasPlayed before bytes old new result =
    HasRun before (record { remaining = bytes.remaining; contents = bytes.contents }) old.streams new.streams result

-- what the peer and the reports of a server are, where the peer is streams
abbrev pub sides_of : {R S F : Type 0} → Bytes R S F → Channels R S F → Sides F
sides_of bytes channels = record {
  peer = streams_state bytes.remaining bytes.contents channels.streams.reader channels.streams.writer;
  faults = channels.faults;
}

-- the same of a stream that goes on
abbrev pub stream_of : {R S F : Type 0} → OnBadLine → Bool → Bytes R S F → Stream (Streams R S) F
stream_of on_bad wakeups bytes = record {
  on_bad = on_bad;
  wakeups = wakeups;
  state = λ streams. streams_state bytes.remaining bytes.contents streams.reader streams.writer;
  reports = bytes.reports;
}

abbrev pub talk_of : {R S F : Type 0} → Channels R S F → Talk (Streams R S) F
talk_of channels = record { peer = channels.streams; faults = channels.faults }

-- what serving streams did, if this is done at a bad line and this is added to the answers
abbrev pub ServingEnds : {R S F : Type 0} → OnBadLine → Decoration → FacilityState → Bytes R S F
    → (old new : Channels R S F) → Result Ending Fault → Type 0
ServingEnds on_bad Adds before bytes old new result =
    ServerEnds (server_with on_bad Adds before bytes.reports) (sides_of bytes old) (sides_of bytes new) result

-- a script was played, or lines were answered as they came, or answered and shown
abbrev pub HasDone : {R S F : Type 0} → Verb → FacilityState → Bytes R S F → (old new : Channels R S F)
    → Result Ending Fault → Type 0
HasDone verbs.Play before bytes old new (Ok Done) = HasPlayed before bytes old new (Ok tt)
HasDone verbs.Play before bytes old new (Err (Faults.Run fault)) = HasPlayed before bytes old new (Err fault)
HasDone verbs.Play before bytes old new result = ⊥
HasDone (verbs.Serve on_bad wakeups) before bytes old new result =
    ServingEnds on_bad (AddsWakeupsIf wakeups) before bytes old new result
HasDone (verbs.Show shows) before bytes old new result = ServingEnds Stop (AddsPictures shows) before bytes old new result

-- out of memory, as a verb returns it
abbrev pub no_memory_of : Verb → Fault
no_memory_of verbs.Play = Faults.Run runs.OutOfMemory
no_memory_of (verbs.Serve on_bad wakeups) = Faults.Serve serves.OutOfMemory
no_memory_of (verbs.Show shows) = Faults.Serve serves.OutOfMemory

-- that was done over the facility of the options, or these are refused
abbrev pub HasRunNew : {R S F : Type 0} → Verb → RunOptions → Bytes R S F → (old new : Channels R S F)
    → Result Ending Fault → Type 0
HasRunNew verb options bytes old new result =
    (IsPlayable options × HasDone verb (opened_by options) bytes old new result) ⊎ HasRefusedOptions options old new result

-- the same, but that `serve` goes on from what was read
abbrev pub HasRunVerb : {R S F : Type 0} → Option ReadState → Verb → RunOptions → Bytes R S F → (old new : Channels R S F)
    → Result Ending Fault → Type 0
HasRunVerb None verb options bytes old new result = HasRunNew verb options bytes old new result
HasRunVerb (Some read) (verbs.Serve on_bad wakeups) options bytes old new result =
    HasResumed options read (stream_of on_bad wakeups bytes) (talk_of old) (talk_of new) result
HasRunVerb (Some read) verb options bytes old new result = HasRunNew verb options bytes old new result

-- how a check of a script ended
abbrev pub HasCheckedScript : {R S : Type 0} → Known R S → (old new : Streams R S) → Result Ending Fault → Type 0
-- no line is bad, and the report, which is empty, was written
HasCheckedScript known old new (Ok Done) = HasChecked known old new (Ok 0)
-- some line is bad, and the whole report was written
HasCheckedScript known old new (Ok Bad) = (lines : ℕ) × (1 ≤ lines) × HasChecked known old new (Ok lines)
-- by its input, its output or memory
HasCheckedScript known old new (Err (Faults.Check fault)) = HasChecked known old new (Err fault)
HasCheckedScript known old new result = ⊥
