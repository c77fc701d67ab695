-- Many ticks of the owner's desk, and the flush of one client.
use Rattle.std.specs.Prelude.{ℕ, ◌≡◌, ◌<◌, ◌+◌, ◌⊎◌, [], ◌∷◌, Some, Ok, get_or}
use Rattle.timer_facility.specs.declared.request.TickFault.TheVariants as TickFaults
use Rattle.timer_facility.specs.State.{FacilityState}
use Rattle.timer_facility.specs.Verdict.{tick_refusal}
use Rattle.timer_desk.specs.declared.report.Done.TheVariants as Dones
use Rattle.timer_desk.specs.declared.ring_ends.RingInlet.{RingInlet}
use Rattle.timer_desk.specs.RingEnds.{free_of_inlet, ring_lines}
use Rattle.timer_desk.specs.Desk.{backlog_at, event_report}
use Rattle.timer_desk.specs.Flush.{FlushesClient}
use Rattle.timer_desk_c.specs.declared.status.TheConstants.{CLOSED, CLOCK_END}
use Rattle.timer_desk_c.specs.DeskSlots.{RingDesk}
use Rattle.timer_desk_c.specs.Desks.{Says}
use Rattle.timer_desk_c.specs.Freed.{HasDropped, waiting_at}

-- this many ticks were passed: none if none was asked for
abbrev pub HasAdvanced : ℕ → ℕ → RingDesk → RingDesk → Type 0
HasAdvanced most passed old new =
    ((most ≡ 0) × (passed ≡ 0) × (new ≡ old))
    ⊎ Says (event_report old.facility (Dones.Passed most (Ok passed))) old new

-- why the clock does not advance, if a tick was asked for
abbrev pub WhyNoTickPassed : ℕ → FacilityState → ℕ → Type 0
WhyNoTickPassed most s status =
    (0 < most) × (((status ≡ CLOSED) × (tick_refusal s ≡ Some TickFaults.Closed))
    ⊎ ((status ≡ CLOCK_END) × (tick_refusal s ≡ Some TickFaults.ClockEnd)))

-- The first `put` words of a client's outbox were put into its line: all of its outbox, or no slot of the line is
-- known to be free. The others were dropped if the client was seen to have freed its end. In all `count` words
-- have left the outbox, and nothing else has changed.
pub record HasFlushed (client count : ℕ) (old new : RingDesk) : Type 0 where
  pub put : ℕ
  pub between : RingDesk
  pub says : Says (Dones.Flushed client put ∷ []) old between
  pub flushes : FlushesClient ring_lines client put old between
  pub stopped : (i : RingInlet) → ((backlog_at between client).outbox ≡ [])
      ⊎ (free_of_inlet (get_or between.inlets client i) ≡ 0)
  pub rest : HasDropped client between new
  pub counted : count + waiting_at new client ≡ waiting_at old client
