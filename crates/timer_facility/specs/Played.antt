-- The contract of a player about the events that it plays.
use Rattle.std.specs.Prelude.{◌≡◌, ◌<◌, ℕ, ◌+◌, ◌-◌, min, if◌then◌else◌, false, List, [], ◌∷◌, ◌++◌, length, map, take, replicate}
use Rattle.timer_facility.specs.Types.{Event, Out}
use Rattle.timer_facility.specs.declared.event.Event.TheVariants as Events
use Rattle.timer_facility.specs.State.{FacilityState, After, At, BySerial, Start, Stop, Restart, SingleEvent, Asked, Tick, Close, Dump}
use Rattle.timer_facility.specs.Step.{step}
use Rattle.timer_facility.specs.Run.{PlacedEvent, history, state_after, run, notices}
use Rattle.timer_facility.specs.Owed.{owed}
use Rattle.timer_facility.specs.Facility.{MakesTimer}

-- how many ticks can still be accepted
abbrev pub ticks_left : FacilityState → ℕ
ticks_left s = if s.is_closed then 0 else s.last - s.now

-- so many ticks, cut after the first refused one
abbrev pub ticks_of : FacilityState → ℕ → List SingleEvent
ticks_of s count = replicate (min count (ticks_left s + 1)) Tick

-- the single events that an event stands for; ticks up to a tick are those that are left until it, none if it is reached
abbrev pub singles_of : FacilityState → Event → List SingleEvent
singles_of s (Events.Start client number interval action) =
    Asked client number (Start (After interval) action) ∷ []
singles_of s (Events.StartAt client number deadline action) =
    Asked client number (Start (At deadline) action) ∷ []
singles_of s (Events.Stop client number serial) = Asked client number (Stop (BySerial serial)) ∷ []
singles_of s (Events.Restart client number serial interval action) =
    Asked client number (Restart (BySerial serial) (After interval) action) ∷ []
singles_of s (Events.RestartAt client number serial deadline action) =
    Asked client number (Restart (BySerial serial) (At deadline) action) ∷ []
singles_of s (Events.Ticks count) = ticks_of s count
singles_of s (Events.TicksTo tick) = ticks_of s (tick - s.now)
singles_of s Events.Close = Close ∷ []
singles_of s Events.Dump = Dump ∷ []

-- the single events of these events, each with some place
abbrev pub ArePlaced : FacilityState → List Event → List PlacedEvent → Type 0
ArePlaced s [] placed = placed ≡ []
ArePlaced s (event ∷ events) placed =
    (one rest : List PlacedEvent) × (placed ≡ one ++ rest) × (map (λ p. p.event) one ≡ singles_of s event)
    × ArePlaced (state_after s one) events rest

-- the outs and the state are those of a run of the events
pub record IsRun (s : FacilityState) (events : List Event) (outs : List Out)
    (after : FacilityState) : Type 0 where
  -- the single events, each with the place that the wheel gave
  pub placed : List PlacedEvent
  pub singles : ArePlaced s events placed
  pub outs_are : outs ≡ (run s placed).outs
  pub after_is : after ≡ (run s placed).state

-- the same, and after every single event the notices so far are what is owed
pub record IsPlayed (s : FacilityState) (events : List Event) (outs : List Out)
    (after : FacilityState) : Type 0 where
  pub runs : IsRun s events outs after
  pub notices_owed : (k : ℕ) → notices (take k (history s runs.placed))
      ≡ owed s (take k (history s runs.placed))

-- one step was made at some place, and its outs appended
pub record MakesStep (s : FacilityState) (event : SingleEvent) (before outs : List Out)
    (after : FacilityState) : Type 0 where
  pub place : ℕ
  pub appended : outs ≡ before ++ (step s event place).outs
  pub left : after ≡ (step s event place).state

-- one more event was played, and its outs appended
pub record AddsRun (s : FacilityState) (event : Event) (before outs : List Out)
    (after : FacilityState) : Type 0 where
  pub more : List Out
  pub appended : outs ≡ before ++ more
  pub runs : IsRun s (event ∷ []) more after

-- the most outs of an event: a timer that is due at once comes out after the answer
abbrev pub most_outs : FacilityState → Event → ℕ
most_outs s (Events.StartAt client number deadline action) = 2
most_outs s (Events.RestartAt client number serial deadline action) = 2
most_outs s (Events.Ticks count) = length s.pending + 1
most_outs s (Events.TicksTo tick) = length s.pending + 1
most_outs s Events.Close = length s.pending + 1
most_outs s Events.Dump = length s.numbers + length s.pending + 2
most_outs s event = 1

-- the event may take memory for more than its outs: a timer that it makes, a close without a reserve, or the timers of a
-- dump, which are sorted by serial
abbrev pub TakesMemory : FacilityState → Event → Type 0
TakesMemory s (Events.Start client number interval action) = MakesTimer s client number (Start (After interval) action)
TakesMemory s (Events.StartAt client number deadline action) = MakesTimer s client number (Start (At deadline) action)
TakesMemory s (Events.Restart client number serial interval action) =
    MakesTimer s client number (Restart (BySerial serial) (After interval) action)
TakesMemory s (Events.RestartAt client number serial deadline action) =
    MakesTimer s client number (Restart (BySerial serial) (At deadline) action)
TakesMemory s Events.Close = s.has_room ≡ false
TakesMemory s Events.Dump = 0 < length s.pending
TakesMemory s event = ⊥
