-- Runs of calls, and what became of the timers in one.
--
-- A run is a list of calls, each with its results and with the state before and after it, which are related as the
-- contract of the call says. The laws about runs (src/laws.rt) speak of three lists that are read from it: the timers
-- that were started, in order, those that were taken, in order, and those that ended in another way.
--
-- A run is of one owner of timers, such as a `struct timers` of C, for as long as serials go on. It may free its timers
-- and make new ones, over another table and at another tick. Without timers it counts as one whose wheel is empty.
use Rattle.std.specs.Prelude.{◌≡◌, ◌<◌, ◌≤◌, ◌⊎◌, ℕ, ◌+◌, max, Bool, List, [], ◌∷◌, ◌++◌, Option, Some, None, length, filter, take, drop}
use Rattle.std.specs.List.{AllByRecursion}
use Rattle.timer_base.specs.Counts.{WheelCounts}
use Rattle.timer_base.specs.declared.timer.Handle.{Handle}
use Rattle.timer_base.specs.declared.timer.Timer.{Timer}
use Rattle.timer_base.specs.Order.{IsNotAmong, AreNumbered, IsMember}
use Rattle.timer_base.specs.Pending.{Entry, timers_of}
use Rattle.timer_base.specs.WheelState.{WheelState, held_at, first_due, after_start, after_removal, after_reserve, after_tick, after_expiry}
use Rattle.timer_total.specs.Refusals.{interval_until, after_start_at, next_timer, timer_due, IsAt, IsStartable}
use Rattle.timer_total.specs.Ticks.{IsTakenBy, IsAdvanced}
use Rattle.timer_total.specs.TimersState.{TimersState, Counting, with_wheel, with_start, after_drop}

-- no timer is held: so it is of new timers, and where there are none
pub record IsNew (s : TimersState) : Type 0 where
  pub none_pending : s.wheel.pending ≡ []
  pub none_due : s.wheel.due ≡ []

-- how the wheel counts its starts, its ticks and its advances; no law depends on it
pub record Counters : Type 0 where
  pub start : WheelCounts → WheelCounts
  pub tick : WheelState → WheelCounts → WheelCounts
  pub advance : Counting

-- a call that was accepted, with its arguments and then its results
pub data Call : Type 0 where
  -- interval, action, handle
  Started : ℕ → ℕ → Handle → Call
  -- tick, action, handle
  StartedAt : ℕ → ℕ → Handle → Call
  -- old handle, interval or tick, action, handle
  Restarted : Handle → ℕ → ℕ → Handle → Call
  RestartedAt : Handle → ℕ → ℕ → Handle → Call
  SetAt : Handle → ℕ → ℕ → Handle → Call
  Stopped : Handle → Timer → Call
  Ticked : Call
  -- at most so many ticks, ticks passed
  Advanced : ℕ → ℕ → Call
  Took : ℕ → Option Timer → Call
  Expired : Option Timer → Call
  ExpiredBatch : List Timer → Call
  Cleared : Call
  Reserved : ℕ → Call
  -- the timers were freed, or new ones were made
  Renewed : Call
  -- a call that was refused, or that only reads
  Kept : Call

-- the state before a call and after it, as its contract says
abbrev pub IsCall : Counters → Call → TimersState → TimersState → Type 0
IsCall c (Started interval action handle) old new =
    IsStartable interval old × (handle.serial ≡ old.last_serial + 1)
    × (new ≡ with_start c.start (after_start handle.place (next_timer interval action old) old.wheel) old)
IsCall c (StartedAt deadline action handle) old new =
    IsStartable (interval_until deadline old) old × (handle.serial ≡ old.last_serial + 1)
    × (new ≡ with_start c.start (after_start_at handle.place deadline action old.wheel old) old)
IsCall c (Restarted handle interval action made) old new =
    IsAt handle old × IsStartable interval old × (made.serial ≡ old.last_serial + 1)
    × (new ≡ with_start c.start (after_start made.place (next_timer interval action old)
    (after_removal handle old.wheel)) old)
IsCall c (RestartedAt handle deadline action made) old new =
    IsAt handle old × IsStartable (interval_until deadline old) old × (made.serial ≡ old.last_serial + 1)
    × (new ≡ with_start c.start (after_start_at made.place deadline action (after_removal handle old.wheel) old) old)
IsCall c (SetAt handle deadline action made) old new =
    IsStartable (interval_until deadline old) old × (made.serial ≡ old.last_serial + 1)
    × (new ≡ with_start c.start (after_start_at made.place deadline action (after_removal handle old.wheel) old) old)
IsCall c (Stopped handle timer) old new =
    (held_at handle old.wheel ≡ Some timer) × (new ≡ with_wheel (after_removal handle old.wheel) old)
IsCall c Ticked old new = (old.wheel.due ≡ []) × (new ≡ record {
  wheel = after_tick old.wheel;
  counts = c.tick old.wheel old.counts;
  last_serial = old.last_serial;
})
IsCall c (Advanced most passed) old new = IsAdvanced c.advance most passed old new
IsCall c (Took tick out) old new = IsTakenBy c.advance tick out old new
IsCall c (Expired out) old new =
    (out ≡ first_due old.wheel) × (new ≡ with_wheel (after_expiry old.wheel) old)
IsCall c (ExpiredBatch out) old new = (count : ℕ) × (out ≡ take count (timers_of old.wheel.due))
    × (new ≡ with_wheel (record old.wheel { due = drop count old.wheel.due }) old)
IsCall c Cleared old new = new ≡ with_wheel (after_drop old.wheel) old
IsCall c (Reserved most) old new = new ≡ with_wheel (after_reserve most old.wheel) old
IsCall c Renewed old new = IsNew new × (new.last_serial ≡ old.last_serial)
IsCall c Kept old new = new ≡ old

-- a call, and the states before and after it
pub record Moment : Type 0 where
  pub before : TimersState
  pub call : Call
  pub after : TimersState

-- calls one after another, from one state to another
abbrev pub IsRun : Counters → TimersState → List Moment → TimersState → Type 0
IsRun c s [] t = t ≡ s
IsRun c s (m ∷ ms) t = (m.before ≡ s) × IsCall c m.call m.before m.after × IsRun c m.after ms t

-- the timer, if there is one
abbrev pub found : Option Timer → List Timer
found None = []
found (Some t) = t ∷ []

-- those that are held: expired ones that wait to be taken, and pending ones
abbrev pub held : TimersState → List Timer
held s = timers_of s.wheel.due ++ timers_of s.wheel.pending

-- the timer that a handle names
abbrev pub named : Handle → TimersState → List Timer
named handle s = found (held_at handle s.wheel)

-- a timer under a handle
abbrev pub one_started : Handle → Timer → List Entry
one_started handle t = (record { place = handle.place; timer = t }) ∷ []

-- the timer that a call started, with its place
abbrev pub started_by : Call → TimersState → List Entry
started_by (Started interval action handle) s = one_started handle (next_timer interval action s)
started_by (StartedAt deadline action handle) s = one_started handle (timer_due (max s.wheel.now deadline) action s)
started_by (Restarted old interval action handle) s = one_started handle (next_timer interval action s)
started_by (RestartedAt old deadline action handle) s =
    one_started handle (timer_due (max s.wheel.now deadline) action s)
started_by (SetAt old deadline action handle) s = one_started handle (timer_due (max s.wheel.now deadline) action s)
started_by _ s = []

-- the timers that a call stopped, restarted or dropped
abbrev pub ended_by : Call → TimersState → List Timer
ended_by (Restarted old interval action handle) s = named old s
ended_by (RestartedAt old deadline action handle) s = named old s
ended_by (SetAt old deadline action handle) s = named old s
ended_by (Stopped handle timer) s = timer ∷ []
ended_by Cleared s = held s
ended_by Renewed s = held s
ended_by _ s = []

-- the timers that a call handed out
abbrev pub taken_by : Call → List Timer
taken_by (Took tick out) = found out
taken_by (Expired out) = found out
taken_by (ExpiredBatch out) = out
taken_by _ = []

-- the timers that were started, with their places, in order
abbrev pub started : List Moment → List Entry
started [] = []
started (m ∷ ms) = started_by m.call m.before ++ started ms

-- those that were stopped, restarted or dropped, by a clear or with all timers
abbrev pub ended : List Moment → List Timer
ended [] = []
ended (m ∷ ms) = ended_by m.call m.before ++ ended ms

-- those that were handed out, in order
abbrev pub taken : List Moment → List Timer
taken [] = []
taken (m ∷ ms) = taken_by m.call ++ taken ms

-- those that were handed out since timers were made last, after a call
abbrev pub lately_after : Call → List Timer → List Timer
lately_after Renewed ts = []
lately_after call ts = ts ++ taken_by call

-- and after all calls, in order
abbrev pub lately : List Timer → List Moment → List Timer
lately ts [] = ts
lately ts (m ∷ ms) = lately (lately_after m.call ts) ms

-- those that were handed out since timers were made last, in order: all that were, if they were made once
abbrev pub taken_lately : List Moment → List Timer
taken_lately ms = lately [] ms

-- how many satisfy a test
abbrev pub many : (Timer → Bool) → List Timer → ℕ
many test ts = length (filter test ts)

-- none is lost or made: whatever the test, as many were started that satisfy it as were taken, ended or are held
abbrev pub AreAccounted : List Moment → TimersState → Type 0
AreAccounted ms t = (test : Timer → Bool) → many test (timers_of (started ms))
    ≡ many test (taken ms) + (many test (ended ms) + many test (held t))

-- the serials are those after that of the state before the run, in the order of starting, up to that of the state after it
abbrev pub AreNumberedIn : TimersState → List Moment → TimersState → Type 0
AreNumberedIn s ms t = AreNumbered (s.last_serial + 1) (timers_of (started ms)) (t.last_serial + 1)

-- what each call hands out has the present tick as its deadline
abbrev pub AreOnTime : List Moment → Type 0
AreOnTime ms = AllByRecursion (λ m. AllByRecursion (λ t. t.deadline ≡ m.after.wheel.now) (taken_by m.call)) ms

-- the deadline of a timer has been reached, and all that was due has been taken
abbrev pub IsOver : Timer → TimersState → Type 0
IsOver u t = (u.deadline < t.wheel.now) ⊎ ((u.deadline ≤ t.wheel.now) × (t.wheel.due ≡ []))

-- each timer that was started and did not end is taken
abbrev pub AreTaken : List Moment → TimersState → Type 0
AreTaken ms t = (u : Timer) → IsMember u (timers_of (started ms)) → IsNotAmong u.serial (ended ms) → IsOver u t
    → IsMember u (taken ms)

-- the same of each whose deadline is at most this tick
abbrev pub AreOutBy : ℕ → List Moment → Type 0
AreOutBy tick ms = (u : Timer) → IsMember u (timers_of (started ms)) → IsNotAmong u.serial (ended ms) → u.deadline ≤ tick
    → IsMember u (taken ms)

-- the handle of a start
abbrev pub handle_at : Entry → Handle
handle_at e = record { place = e.place; serial = e.timer.serial }

-- the handle of a start names its own timer while that is held, and nothing after
pub record IsNamed (e : Entry) (ms : List Moment) (t : TimersState) : Type 0 where
  pub own : (u : Timer) → held_at (handle_at e) t.wheel ≡ Some u → u ≡ e.timer
  pub while_held : IsMember e.timer (held t) → held_at (handle_at e) t.wheel ≡ Some e.timer
  pub not_taken : IsMember e.timer (taken ms) → held_at (handle_at e) t.wheel ≡ None
  pub not_ended : IsMember e.timer (ended ms) → held_at (handle_at e) t.wheel ≡ None

-- the timers that were started are those that were taken, that ended or that are held, and no others
pub record AreAllThere (ms : List Moment) (t : TimersState) : Type 0 where
  pub each : (u : Timer) → IsMember u (timers_of (started ms)) → IsMember u (taken ms ++ (ended ms ++ held t))
  pub no_others : (u : Timer) → IsMember u (taken ms ++ (ended ms ++ held t)) → IsMember u (timers_of (started ms))

-- a run in which three timers are taken, one is held, and five end: one is dropped, one is stopped, three are restarted
pub record IsExample (c : Counters) : Type 0 where
  pub first : TimersState
  pub last : TimersState
  pub calls : List Moment
  pub is_new : IsNew first
  pub is_run : IsRun c first calls last
  pub three_taken : length (taken calls) ≡ 3
  pub five_ended : length (ended calls) ≡ 5
  pub one_held : length (held last) ≡ 1
