-- How serving a peer ended, and a stream that is served from a state that was read.
use Rattle.std.specs.Prelude.{◌≡◌, ℕ, ◌⊎◌, Bool, true, false, List, Option, Result, Ok, Err}
use Rattle.timer_facility.specs.Restored.{limits_of, restored, IsConfigured, GoesOnAs}
use Rattle.timer_facility.specs.Run.{bare_state}
use Rattle.timer_facility.specs.Saved.{ReadState, lines_read, saved_of, state_lines}
use Rattle.timer_facility.specs.State.{FacilityState, IsSound}
use Rattle.timer_facility.specs.declared.config.Config.{Config}
use Rattle.timer_facility.specs.declared.saved.Limits.{Limits}
use Rattle.timer_facility.specs.declared.saved.Stage.TheVariants.{Whole}
use Rattle.timer_script.specs.declared.cutter.OnBadLine.{OnBadLine}
use Rattle.timer_script.specs.declared.fault.ServeFault.TheVariants as serves
use Rattle.timer_script.specs.declared.watched.Watched.{Watched}
use Rattle.timer_script.specs.Peer.{PeerState}
use Rattle.timer_script.specs.Service.{Server, Sides, HasServedPeer, server_with}
use Rattle.timer_commands.specs.declared.ending.Ending.{Ending}
use Rattle.timer_commands.specs.declared.ending.Ending.TheVariants.{Done, Skipped}
use Rattle.timer_commands.specs.declared.fault.Fault.{Fault}
use Rattle.timer_commands.specs.declared.fault.Fault.TheVariants as Faults
use Rattle.timer_commands.specs.declared.options.RunOptions.{RunOptions}
use Rattle.timer_commands.specs.Options.{scheme_last, config_of, IsPlayable, RefusesOptions}
use Rattle.timer_commands.specs.Wakeups.{AddsWakeupsIf}

-- what serving a peer did, by how it ended
abbrev pub ServerEnds : {F : Type 0} → Server F → (old new : Sides F) → Result Ending Fault → Type 0
-- the input came to its end, no line was bad, and the whole text was written
ServerEnds server old new (Ok Done) = HasServedPeer server old new (Ok true)
-- some line was bad, each was reported until the writer of reports failed, and the whole text of the others was written
ServerEnds server old new (Ok Skipped) = HasServedPeer server old new (Ok false)
ServerEnds server old new (Err (Faults.Serve fault)) = HasServedPeer server old new (Err fault)
ServerEnds server old new result = ⊥

-- the options are refused, and what would have been read and written is untouched
abbrev pub HasRefusedOptions : {C : Type 0} → RunOptions → (old new : C) → Result Ending Fault → Type 0
HasRefusedOptions options old new (Err (Faults.Options fault)) = RefusesOptions fault options × (new ≡ old)
HasRefusedOptions options old new result = ⊥

-- ---- from a state that was read

-- what a state has to fit that a facility of the options begins with
abbrev pub limits_for : RunOptions → Limits
limits_for options = limits_of (config_of options) (scheme_last options.scheme)

-- the lines that were read are those of a whole state that fits a facility of the options
pub record FitsOptions (options : RunOptions) (read : ReadState) : Type 0 where
  pub whole : read.stage ≡ Whole
  pub limits : read.limits ≡ limits_for options

-- A facility of this configuration, over a clock with this last tick, is in the state that was read. It goes on as each
-- such facility whose state those lines are.
pub record IsResumedBy (config : Config) (last : ℕ) (read : ReadState) (now : FacilityState) : Type 0 where
  pub state : bare_state now ≡ restored config last read.saved
  pub goes_on : (s : FacilityState) → IsSound s → IsConfigured config last s → lines_read read ≡ state_lines (saved_of s)
      → GoesOnAs s now

-- the same of a facility of the options
abbrev pub IsResumed : RunOptions → ReadState → FacilityState → Type 0
IsResumed options read now = IsResumedBy (config_of options) (scheme_last options.scheme) read now

-- a stream: what is done at a bad line, whether wake-ups are wanted, and how its peer and its reports are known
pub record Stream (P F : Type 0) : Type 0 where
  pub on_bad : OnBadLine
  pub wakeups : Bool
  pub state : P → PeerState
  pub reports : F → Option (List ℕ)

-- a peer and what gets the reports, at one moment
pub record Talk (P F : Type 0) : Type 0 where
  pub peer : P
  pub faults : Watched F

abbrev pub talk_sides : {P F : Type 0} → Stream P F → Talk P F → Sides F
talk_sides stream talk = record { peer = stream.state talk.peer; faults = talk.faults }

-- the stream was served from what was read; or memory ran out before anything was read or written
abbrev pub HasGoneOn : {P F : Type 0} → RunOptions → ReadState → Stream P F → (old new : Talk P F) → Result Ending Fault → Type 0
HasGoneOn options read stream old new result =
    ((before : FacilityState) × IsResumed options read before
    × ServerEnds (server_with stream.on_bad (AddsWakeupsIf stream.wakeups) before stream.reports)
    (talk_sides stream old) (talk_sides stream new) result)
    ⊎ ((result ≡ Err (Faults.Serve serves.OutOfMemory)) × (new ≡ old))

-- the same, or the options are refused
abbrev pub HasResumed : {P F : Type 0} → RunOptions → ReadState → Stream P F → (old new : Talk P F) → Result Ending Fault → Type 0
HasResumed options read stream old new result =
    (IsPlayable options × HasGoneOn options read stream old new result) ⊎ HasRefusedOptions options old new result
