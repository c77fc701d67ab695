-- A ring line before and after it is settled or looked at, and the desk of the line; and a timer that the owner stops
-- in the name of a client that is gone.
use Rattle.std.specs.Prelude.{◌≡◌, ◌≢◌, ◌≤◌, ◌++◌, ℕ, true, List, [], ◌∷◌, length, get_or, Ok, Err, Result}
use Rattle.timer_facility.specs.declared.event.Out.TheVariants as Outs
use Rattle.timer_facility.specs.State.{FacilityState, number_of, ByHandle, Stop, SingleEvent, Asked}
use Rattle.timer_facility.specs.Step.{StepResult, step}
use Rattle.timer_desk.specs.Types.{Handle, Answer, NotTaken, Out, Numbered, RingInlet}
use Rattle.timer_desk.specs.declared.looks.Found.TheVariants.{Nothing}
use Rattle.timer_desk.specs.Desk.{DeskState, clients_of}
use Rattle.timer_desk.specs.RingEnds.{line_of_inlet, got_of, standing_of, given_of, free_of_inlet, is_settled, found_by_inlet}

-- the line is the same one, and what was got followed by what stands is all that was submitted; nothing was found of
-- the client's end
pub record HasSettled (old new : RingInlet) (submitted : List Numbered) (count : ℕ) : Type 0 where
  pub same_line : line_of_inlet new ≡ line_of_inlet old
  pub settled : is_settled new ≡ true
  pub all : got_of new ++ standing_of new ≡ submitted
  pub counted : count ≡ length (standing_of new)
  pub got_stays : got_of new ≡ got_of old
  pub given_stays : given_of new ≡ given_of old
  pub found_stays : found_by_inlet new ≡ found_by_inlet old

-- the line, what was got, what is known to stand and what was given are the same; more slots may be known to be
-- free, and an end that was seen to be gone still is
pub record HasLooked (old new : RingInlet) : Type 0 where
  pub same_line : line_of_inlet new ≡ line_of_inlet old
  pub same_settled : is_settled new ≡ is_settled old
  pub same_got : got_of new ≡ got_of old
  pub same_standing : standing_of new ≡ standing_of old
  pub same_given : given_of new ≡ given_of old
  pub more_free : free_of_inlet old ≤ free_of_inlet new
  pub still_gone : found_by_inlet old ≢ Nothing → found_by_inlet new ≢ Nothing

-- nothing changed but what is known of the line of client c
pub record OnlyLooks (c : ℕ) (old new : DeskState RingInlet) : Type 0 where
  pub others : (k : ℕ) (i : RingInlet) → k ≢ c → get_or new.inlets k i ≡ get_or old.inlets k i
  pub same_clients : clients_of new ≡ clients_of old
  pub same_facility : new.facility ≡ old.facility
  pub same_backlogs : new.backlogs ≡ old.backlogs
  pub looked : (i : RingInlet) → HasLooked (get_or old.inlets c i) (get_or new.inlets c i)

-- Stops in the name of a client.

-- the client's request, under its next number, to stop the timer with this handle
abbrev pub next_stop : FacilityState → ℕ → Handle → SingleEvent
next_stop s client handle = Asked client (number_of s client) (Stop (ByHandle handle))

-- its outs, and the state after it
abbrev pub stop_step : FacilityState → ℕ → Handle → StepResult
stop_step s client handle = step s (next_stop s client handle) 0

-- its answer as its outs
abbrev pub stop_outs : ℕ → ℕ → Result Answer NotTaken → List Out
stop_outs client number (Ok answer) = Outs.Answered client number answer ∷ []
stop_outs client number (Err reason) = Outs.NotTaken client number reason ∷ []
