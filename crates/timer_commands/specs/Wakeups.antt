-- Text with the lines of wake-ups between its own: when an owner of the facility has to wake up next.
use Rattle.std.specs.Prelude.{◌≡◌, ℕ, Bool, true, false, List, ◌++◌, Option, None, Some, codes, decimal}
use Rattle.timer_base.specs.WakeUps.{IsQuietUntil}
use Rattle.timer_facility.specs.State.{FacilityState}
use Rattle.timer_script.specs.Decorator.{Decoration, AddsAfter, AddsNothing, IsNothing}

-- the tick of a wake-up, or that there is none
abbrev pub wakeup_line : Option ℕ → List ℕ
wakeup_line None = codes "wakeup never\n"
wakeup_line (Some tick) = codes "wakeup " ++ decimal tick ++ codes "\n"

-- the line of a wake-up in this state: a tick after now, and at most the first deadline, and none exactly if nothing
-- is pending
abbrev pub IsWakeup : FacilityState → List ℕ → Type 0
IsWakeup s text = (quiet : Option ℕ) × IsQuietUntil quiet s.now s.pending × (text ≡ wakeup_line quiet)

-- the line of a wake-up of which this holds is added to a text
abbrev pub AddsWakeOf : (Option ℕ → Type 0) → List ℕ → List ℕ → Type 0
AddsWakeOf wakes old new = (wake : Option ℕ) × wakes wake × (new ≡ old ++ wakeup_line wake)

-- once for each read that brought a line, after the answers to all its lines, comes the line of a wake-up
abbrev pub AddsWakeups : Decoration
AddsWakeups = AddsAfter IsNothing IsWakeup

-- if they are wanted
abbrev pub AddsWakeupsIf : Bool → Decoration
AddsWakeupsIf false = AddsNothing
AddsWakeupsIf true = AddsWakeups
