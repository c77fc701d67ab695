-- What is owed for a history: the notices that must have been handed out, computed from its events and their
-- outs.
--
-- A history is a list of events, each with its outs. `owed s h`, for a history h that begins in state s, is
-- for the first tick and each accepted one in turn the timers due at it, as `Expired`; then, if h has an
-- accepted close, all other timers that were started and not stopped, by deadline and then serial, as
-- `Returned`. It keeps no list of pending timers: it filters the timers started by the serials stopped. The
-- lemma `notices_are_owed` states that the notices of every run are what is owed for it.
use Rattle.std.specs.Prelude.{◌≡◌, ◌<◌, ◌≤◌, ℕ, zero, suc, ◌+◌, Bool, true, false, ◌&&◌, ◌||◌, ◌==◌, not, nat_lt, if◌then◌else◌, List, [], ◌∷◌, ◌++◌, map, filter}
use Rattle.std.specs.List.{AllByRecursion}
use Rattle.timer_facility.specs.Types.{Timer, Handle, Notice, Out, Started, Stopped, Restarted, Expired, Returned}
use Rattle.timer_base.specs.Order.{in_order, AreDistinct, IsMember}
use Rattle.timer_base.specs.Pending.{timers_of}
use Rattle.timer_facility.specs.declared.event.Out.TheVariants as Outs
use Rattle.timer_facility.specs.State.{FacilityState, action_of, SingleEvent, Asked, Tick}
use Rattle.timer_facility.specs.Run.{HistoryEntry, notices}

-- the timer with this handle, for this client, number, deadline and action
abbrev pub timer_answered : ℕ → ℕ → ℕ → Handle → ℕ → Timer
timer_answered client number action handle deadline = record {
  serial = handle.serial;
  client = client;
  number = number;
  deadline = deadline;
  action = action;
}

-- the timer of a start or a restart and its answer, if it was accepted
abbrev pub timer_in : ℕ → ℕ → ℕ → Out → List Timer
timer_in client number action (Outs.Answered c n (Started handle deadline)) =
    timer_answered client number action handle deadline ∷ []
timer_in client number action (Outs.Answered c n (Restarted handle deadline old)) =
    timer_answered client number action handle deadline ∷ []
timer_in client number action _ = []

-- the timers of a request and its outs
abbrev pub timers_in : ℕ → ℕ → ℕ → List Out → List Timer
timers_in client number action [] = []
timers_in client number action (out ∷ outs) =
    timer_in client number action out ++ timers_in client number action outs

-- the timers that an event started
abbrev pub started_by : SingleEvent → List Out → List Timer
started_by (Asked client number request) outs = timers_in client number (action_of request) outs
started_by _ outs = []

-- the timers of the accepted starts and restarts
abbrev pub accepted_starts : List HistoryEntry → List Timer
accepted_starts [] = []
accepted_starts (h ∷ hs) = started_by h.event h.outs ++ accepted_starts hs

-- the serial in the answer to an accepted stop, and the old one in that to an accepted restart
abbrev pub serial_told : Out → List ℕ
serial_told (Outs.Answered c n (Stopped serial)) = serial ∷ []
serial_told (Outs.Answered c n (Restarted handle deadline old)) = old ∷ []
serial_told _ = []

-- the serials in the answers to accepted stops and restarts
abbrev pub serials_told : List Out → List ℕ
serials_told [] = []
serials_told (out ∷ outs) = serial_told out ++ serials_told outs

-- the timers pending in s, and those of the accepted starts and restarts since
abbrev pub started : FacilityState → List HistoryEntry → List Timer
started s hs = timers_of s.pending ++ accepted_starts hs

-- the serials in the answers to the accepted stops, and the old ones of the accepted restarts
abbrev pub stopped : List HistoryEntry → List ℕ
stopped [] = []
stopped (h ∷ hs) = serials_told h.outs ++ stopped hs

-- the out says that a tick was refused
abbrev pub is_tick_refusal : Out → Bool
is_tick_refusal (Outs.TickRefused fault) = true
is_tick_refusal _ = false

-- the out says that the facility was closed
abbrev pub is_closing : Out → Bool
is_closing (Outs.Closed count) = true
is_closing _ = false

-- one of the outs satisfies the test
abbrev pub any_out : (Out → Bool) → List Out → Bool
any_out test [] = false
any_out test (out ∷ outs) = test out || any_out test outs

-- a tick is accepted if it is not refused
abbrev pub ticks_by : SingleEvent → List Out → ℕ
ticks_by Tick outs = if any_out is_tick_refusal outs then 0 else 1
ticks_by _ outs = 0

-- how many ticks were accepted
abbrev pub accepted_ticks : List HistoryEntry → ℕ
accepted_ticks [] = 0
accepted_ticks (h ∷ hs) = ticks_by h.event h.outs + accepted_ticks hs

-- a close was accepted
abbrev pub has_closed : List HistoryEntry → Bool
has_closed [] = false
has_closed (h ∷ hs) = any_out is_closing h.outs || has_closed hs

-- the number is in the list
abbrev pub is_among : ℕ → List ℕ → Bool
is_among n [] = false
is_among n (k ∷ ks) = k == n || is_among n ks

-- the timers by deadline, and then by serial
abbrev pub timers_in_order : List Timer → List Timer
timers_in_order ts = in_order (λ t. t) ts

-- of the started timers those with this deadline that were not stopped, by serial
abbrev pub due : FacilityState → List HistoryEntry → ℕ → List Timer
due s hs tick = timers_in_order (filter (λ t. t.deadline == tick && not (is_among t.serial (stopped hs)))
    (started s hs))

-- those with a later deadline that were not stopped, by deadline and then by serial
abbrev pub left_after : FacilityState → List HistoryEntry → ℕ → List Timer
left_after s hs tick = timers_in_order (filter (λ t.
    nat_lt tick t.deadline && not (is_among t.serial (stopped hs))) (started s hs))

-- what is due at the tick of s, and at each of the first n ticks after it in turn. At the tick of s only timers are due
-- that were started since, for a tick that had passed
abbrev pub owed_by_ticks : FacilityState → List HistoryEntry → ℕ → List Notice
owed_by_ticks s hs zero = map (λ t. Expired t) (due s hs s.now)
owed_by_ticks s hs (suc n) = owed_by_ticks s hs n ++ map (λ t. Expired t) (due s hs (s.now + suc n))

-- at a close, all others
abbrev pub owed_by_close : FacilityState → List HistoryEntry → Bool → List Notice
owed_by_close s hs false = []
owed_by_close s hs true = map (λ t. Returned t) (left_after s hs (s.now + accepted_ticks hs))

-- what is owed for a history that begins in s: at its first tick and at each accepted one what is due, at an
-- accepted close all others
abbrev pub owed : FacilityState → List HistoryEntry → List Notice
owed s hs = owed_by_ticks s hs (accepted_ticks hs) ++ owed_by_close s hs (has_closed hs)

-- the timer that a notice hands out
abbrev pub timer_handed : Notice → Timer
timer_handed (Expired t) = t
timer_handed (Returned t) = t

-- the timers that a history hands out, in their order
abbrev pub handed_out : List HistoryEntry → List Timer
handed_out hs = map timer_handed (notices hs)

-- each timer that was started and not stopped is handed out: if its deadline was reached it expired, and
-- if a close came before that it was returned
pub record AreAllHandedOut (s : FacilityState) (hs : List HistoryEntry) : Type 0 where
  pub expired : (t : Timer) → IsMember t (started s hs) → is_among t.serial (stopped hs) ≡ false
      → t.deadline ≤ s.now + accepted_ticks hs → IsMember (Expired t) (notices hs)
  pub returned : (t : Timer) → IsMember t (started s hs) → is_among t.serial (stopped hs) ≡ false
      → s.now + accepted_ticks hs < t.deadline → has_closed hs ≡ true → IsMember (Returned t) (notices hs)

-- the deadline is now or one of the first n ticks after it
abbrev pub is_due_within : ℕ → ℕ → Timer → Bool
is_due_within now zero t = t.deadline == now
is_due_within now (suc n) t = is_due_within now n t || (t.deadline == now + suc n)

-- of the started timers the others: those that were not due at the first tick or at any accepted one, and were not
-- stopped, by deadline and then by serial
abbrev pub others : FacilityState → List HistoryEntry → List Timer
others s hs = timers_in_order (filter (λ t. not (is_due_within s.now (accepted_ticks hs) t) && not
    (is_among t.serial (stopped hs))) (started s hs))

-- no timer is handed out twice, and none that was stopped
pub record AreHandedOutOnce (hs : List HistoryEntry) : Type 0 where
  pub once : AreDistinct (handed_out hs)
  pub not_stopped : AllByRecursion (λ t. is_among t.serial (stopped hs) ≡ false) (handed_out hs)
