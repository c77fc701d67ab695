-- The pending timers of a client that is gone: the owner stops all of them.
use Rattle.std.specs.Prelude.{ℕ, ◌≡◌, ◌≢◌, ◌+◌, ◌<◌, ◌≤◌, ◌⊎◌, ◌==◌, not, true, false, List, Option, Some, None, filter, map, length, get_or, slice_set}
use Rattle.std.specs.List.{AllByRecursion, enumerate_from}
use Rattle.timer_desk_c.specs.Types.{LAST, RingInlet}
use Rattle.timer_base.specs.declared.timer.Timer.{Timer}
use Rattle.timer_base.specs.declared.timer.Handle.{Handle}
use Rattle.timer_base.specs.Pending.{Entry, has_handle, first_timer}
use Rattle.timer_wheels.specs.HeldPlaces.{AreElsewhere, AreBefore}
use Rattle.timer_facility.specs.declared.request.Answer.TheVariants.{Stopped}
use Rattle.timer_facility.specs.declared.event.Out.{Out}
use Rattle.timer_facility.specs.declared.event.Out.TheVariants as Outs
use Rattle.timer_facility.specs.State.{FacilityState, number_of, pending_of, ByHandle, Stop, Asked}
use Rattle.timer_facility.specs.Run.{PlacedEvent, run}
use Rattle.timer_desk.specs.declared.looks.Found.TheVariants.{Nothing}
use Rattle.timer_desk.specs.Desk.{clients_of}
use Rattle.timer_desk.specs.Report.{placed}
use Rattle.timer_desk.specs.RingEnds.{found_by_inlet}
use Rattle.timer_desk_c.specs.declared.status.TheConstants.{NO_CLIENT, NOT_FREED, CLOSED, NUMBERS_SPENT}
use Rattle.timer_desk_c.specs.DeskSlots.{RingDesk}
use Rattle.timer_desk_c.specs.Freed.{OnlyLooks}

-- the client's request, under this number, to stop the timer with this handle
abbrev pub stop_of : ℕ → ℕ × Handle → PlacedEvent
stop_of client numbered = placed (Asked client numbered.0 (Stop (ByHandle numbered.1))) 0

-- its out, if it is accepted
abbrev pub stop_out : ℕ → ℕ × Handle → Out
stop_out client numbered = Outs.Answered client numbered.0 (Stopped numbered.1.serial)

-- the client's requests to stop the timers with these handles, from this number on
abbrev pub stops : ℕ → ℕ → List Handle → List PlacedEvent
stops client number handles = map (stop_of client) (enumerate_from number handles)

-- their outs
abbrev pub stops_outs : ℕ → ℕ → List Handle → List Out
stops_outs client number handles = map (stop_out client) (enumerate_from number handles)

-- the entries of other clients
abbrev pub of_others : ℕ → List Entry → List Entry
of_others client entries = filter (λ entry. not (entry.timer.client == client)) entries

-- Each pending timer of the client was stopped, by a request of the client: a run of `count` stops from its next
-- number on, all of them accepted. Nothing but the pending timers and the number has changed, and the timers of
-- others are still pending.
pub record AreStopped (client count : ℕ) (s t : FacilityState) : Type 0 where
  pub handles : List Handle
  pub counted : length handles ≡ count
  pub all : count ≡ pending_of s client
  pub ran : run s (stops client (number_of s client) handles)
      ≡ record { outs = stops_outs client (number_of s client) handles; state = t }
  pub left : t ≡ record s {
    pending = of_others client s.pending;
    numbers = slice_set s.numbers client (number_of s client + count);
  }

-- the client was seen to have freed its end, and then all its pending timers were stopped
pub record HasStopped (client count : ℕ) (old new : RingDesk) : Type 0 where
  pub client_in_range : client < clients_of old
  pub still_open : old.facility.is_closed ≡ false
  pub between : RingDesk
  pub looked : OnlyLooks client old between
  pub gone : (i : RingInlet) → found_by_inlet (get_or between.inlets client i) ≢ Nothing
  pub stopped : AreStopped client count old.facility new.facility
  pub only : new ≡ record between { facility = new.facility }

-- why no timers were stopped: the first that holds
abbrev pub WhyNotStopped : ℕ → RingDesk → RingDesk → ℕ → Type 0
WhyNotStopped client old new status =
    ((status ≡ NO_CLIENT) × (clients_of old ≤ client))
    ⊎ ((status ≡ NOT_FREED) × (client < clients_of old)
    × ((i : RingInlet) → found_by_inlet (get_or new.inlets client i) ≡ Nothing))
    ⊎ ((status ≡ CLOSED) × (client < clients_of old)
    × ((i : RingInlet) → found_by_inlet (get_or new.inlets client i) ≢ Nothing) × (old.facility.is_closed ≡ true))
    ⊎ ((status ≡ NUMBERS_SPENT) × (client < clients_of old)
    × ((i : RingInlet) → found_by_inlet (get_or new.inlets client i) ≢ Nothing) × (old.facility.is_closed ≡ false)
    × (LAST + 1 < number_of old.facility client + pending_of old.facility client))

-- The walk over the places.

-- the handle of the pending timer at the first place from this one on, and no other timer is there
pub record IsFirstAt (from : ℕ) (pending : List Entry) (handle : Handle) : Type 0 where
  pub from_on : from ≤ handle.place
  pub timer : Timer
  pub there : first_timer (has_handle handle) pending ≡ Some timer
  pub alone : AllByRecursion (λ entry. entry.place ≡ handle.place → entry.timer ≡ timer) pending
  pub elsewhere : AreElsewhere from handle.place pending

-- so, and none exactly if no pending timer has such a place
abbrev pub IsFirstPending : ℕ → List Entry → Option Handle → Type 0
IsFirstPending from pending None = AreBefore from pending
IsFirstPending from pending (Some handle) = IsFirstAt from pending handle
