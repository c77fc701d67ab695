-- What was done if nothing was read or written.
use Rattle.std.proofs.Common.{◌≡◌, false, [], refl, arith, Err}
use Rattle.timer_facility.specs.State.{FacilityState}
use Rattle.timer_script.specs.declared.cutter.OnBadLine.{OnBadLine}
use Rattle.std.proofs.KnownBytes.{Consumes-nil}
use Rattle.timer_script.specs.declared.fault.ServeFault.TheVariants as serves
use Rattle.timer_script.specs.declared.cutter.OnBadLine.TheVariants.{Stop}
use Rattle.timer_script.specs.Watched.{inner_of, has_failed}
use Rattle.timer_script.specs.Decorator.{Decoration}
use Rattle.timer_script.specs.Streams.{streams_state}
use Rattle.timer_script.specs.Service.{server_with}
use Rattle.timer_script.proofs.ServiceLemmas.{served_nothing}
use Rattle.timer_commands.specs.declared.fault.Fault.TheVariants as Faults
use Rattle.timer_commands.specs.declared.verbs.Verb.{Verb}
use Rattle.timer_commands.specs.declared.verbs.Verb.TheVariants as verbs
use Rattle.timer_commands.specs.Indented.{AddsPictures}
use Rattle.timer_commands.specs.Wakeups.{AddsWakeupsIf}
use Rattle.timer_commands.specs.Subcommands.{Bytes, Channels, ServingEnds, HasDone, no_memory_of}

unserved : {R S F : Type 0} (on_bad : OnBadLine) (A : Decoration) (before : FacilityState) (bytes : Bytes R S F)
    (channels : Channels R S F) → has_failed channels.streams.reader ≡ false → has_failed channels.streams.writer ≡ false
    → ServingEnds on_bad A before bytes channels channels (Err (Faults.Serve serves.OutOfMemory))
unserved on_bad A before bytes channels reading writing =
    served_nothing (server_with on_bad A before bytes.reports)
    (streams_state bytes.remaining bytes.contents channels.streams.reader channels.streams.writer) channels.faults
    (record { reading = reading; writing = writing })

pub undone : {R S F : Type 0} (bytes : Bytes R S F) (channels : Channels R S F)
    → has_failed channels.streams.reader ≡ false → has_failed channels.streams.writer ≡ false → (verb : Verb) (before : FacilityState)
    → HasDone verb before bytes channels channels (Err (no_memory_of verb))
undone bytes channels reading writing verbs.Play before =
    (([], Consumes-nil (bytes.remaining (inner_of channels.streams.reader)), omega arith), reading, refl)
undone bytes channels reading writing (verbs.Serve on_bad wakeups) before =
    unserved on_bad (AddsWakeupsIf wakeups) before bytes channels reading writing
undone bytes channels reading writing (verbs.Show shows) before =
    unserved Stop (AddsPictures shows) before bytes channels reading writing
