-- The abstract state of a wheel, and the state after each call.
use Rattle.std.specs.Prelude.{◌≡◌, ℕ, ◌+◌, ◌<◌, ◌≤◌, zero, suc, max, nat_lt, if◌then◌else◌, List, [], ◌∷◌, ◌++◌, Option, Some, None, drop, slice_get, length}
use Rattle.std.specs.List.{AllByRecursion}
use Rattle.timer_base.specs.Types.{LAST, Handle, Timer}
use Rattle.timer_base.specs.Order.{IsOrdered, AreDistinct, AreRising}
use Rattle.timer_base.specs.Layout.{Layout}
use Rattle.timer_base.specs.Pending.{Entry, timers_of, put, has_handle, first_timer, first_found, without_found, without_handle, entries_due, entries_left}

pub record WheelState : Type 0 where
  -- how its slots are laid out; no call changes it
  pub layout : Layout
  -- the last tick of the wheel's clock; no call changes it
  pub last_tick : ℕ
  -- the present tick
  pub now : ℕ
  -- by deadline, and then by serial
  pub pending : List Entry
  -- by serial, each at its place
  pub due : List Entry
  -- 0 if none was started
  pub last_serial : ℕ
  -- for how many timers at one time, pending and due, room was made; `reserve` alone changes it
  pub room : ℕ

-- a new wheel
abbrev pub empty_wheel : Layout → ℕ → ℕ → WheelState
empty_wheel layout last_tick first_tick = record {
  layout = layout;
  last_tick = last_tick;
  now = first_tick;
  pending = [];
  due = [];
  last_serial = 0;
  room = 0;
}

-- the same wheel with this room
abbrev pub with_room : ℕ → WheelState → WheelState
with_room room w = record w { room = room }

-- the same wheel, whose slots are laid out like this
abbrev pub with_layout : Layout → WheelState → WheelState
with_layout layout w = record w { layout = layout }

-- room is made for at least this many timers
abbrev pub after_reserve : ℕ → WheelState → WheelState
after_reserve most w = with_room (max w.room most) w

-- how many timers are held, pending and due
abbrev pub held_count : WheelState → ℕ
held_count w = length w.pending + length w.due

-- the pending timer with exactly this handle
abbrev pub timer_at : Handle → WheelState → Option Timer
timer_at handle w = first_timer (has_handle handle) w.pending

-- the due timer with exactly this handle
abbrev pub due_at : Handle → WheelState → Option Timer
due_at handle w = first_timer (has_handle handle) w.due

-- the timer that is held under exactly this handle, pending or due
abbrev pub held_at : Handle → WheelState → Option Timer
held_at handle w = first_found (timer_at handle w) (due_at handle w)

-- the handle does not name a due timer beside a pending one
abbrev pub NamesOne : Handle → WheelState → Type 0
NamesOne handle w = (t : Timer) → timer_at handle w ≡ Some t → due_at handle w ≡ None

-- a timer is started at a place, for a deadline after now
abbrev pub after_start : ℕ → Timer → WheelState → WheelState
after_start place timer w = record w {
  pending = put (record { place = place; timer = timer }) w.pending;
  last_serial = timer.serial;
}

-- a timer is started at a place, for now: it goes to the back of what is due
abbrev pub after_due_start : ℕ → Timer → WheelState → WheelState
after_due_start place timer w = record w {
  due = w.due ++ (record { place = place; timer = timer }) ∷ [];
  last_serial = timer.serial;
}

-- a timer is started at a place: it is pending if its deadline is after now, and due if it is now
abbrev pub after_held_start : ℕ → Timer → WheelState → WheelState
after_held_start place timer w = if nat_lt w.now timer.deadline then after_start place timer w
    else after_due_start place timer w

-- the pending timer with this handle is removed, if there is one
abbrev pub after_stop : Handle → WheelState → WheelState
after_stop handle w = record w { pending = without_found (timer_at handle w) w.pending }

-- the timer that is held under this handle is removed, if there is one
abbrev pub after_removal : Handle → WheelState → WheelState
after_removal handle w = record w {
  pending = without_handle handle w.pending;
  due = without_handle handle w.due;
}

-- the old timer, if a restart found one
abbrev pub old_timer : Option (Handle × Timer) → Option Timer
old_timer None = None
old_timer (Some r) = Some r.1

-- a restart of a pending timer, for a deadline after now: a stop, and a start at the place that it returns
abbrev pub after_restart : Option (Handle × Timer) → Handle → Timer → WheelState → WheelState
after_restart None handle timer w = w
after_restart (Some r) handle timer w = after_start r.0.place timer (after_stop handle w)

-- a restart that found its timer removes it, and starts the new one at the place that it returns
abbrev pub after_replacement : Option (Handle × Timer) → Handle → Timer → WheelState → WheelState
after_replacement None handle timer w = w
after_replacement (Some r) handle timer w = after_held_start r.0.place timer (after_removal handle w)

-- the next tick: the timers with that deadline become due, and are no longer pending
abbrev pub after_tick : WheelState → WheelState
after_tick w = record w {
  now = w.now + 1;
  pending = entries_left (w.now + 1) w.pending;
  due = entries_due (w.now + 1) w.pending;
}

-- that many ticks, one after another
abbrev pub after_ticks : ℕ → WheelState → WheelState
after_ticks zero w = w
after_ticks (suc n) w = after_tick (after_ticks n w)

-- at most `most` ticks were asked for and `passed` were passed, with nothing due before the last of them
pub record Advances (most passed : ℕ) (old new : WheelState) : Type 0 where
  pub some : 0 < passed
  pub at_most : passed ≤ most
  pub ticked : new ≡ after_ticks passed old
  pub quiet : (n : ℕ) → n < passed → (after_ticks n old).due ≡ []
  -- it stops early only if something is due
  pub early : passed < most → 0 < length new.due

-- `passed` ticks were passed one by one, and nothing was due
pub record IsPassing (passed : ℕ) (old now : WheelState) : Type 0 where
  pub ticked : now ≡ after_ticks passed old
  pub quiet : (n : ℕ) → n ≤ passed → (after_ticks n old).due ≡ []

abbrev pub first_due : WheelState → Option Timer
first_due w = slice_get (timers_of w.due) 0

-- the first due timer is removed, if there is one
abbrev pub after_expiry : WheelState → WheelState
after_expiry w = record w { due = drop 1 w.due }

-- nothing is pending
abbrev pub after_clear : WheelState → WheelState
after_clear w = record w { pending = [] }

-- a pending timer's deadline is after now and within the clock, and its serial at most the last one
pub record IsPending (last_tick now last_serial : ℕ) (t : Timer) : Type 0 where
  pub later : now < t.deadline
  pub in_range : t.deadline ≤ last_tick
  pub serial : t.serial ≤ last_serial

-- a due timer's deadline is now, and its serial at most the last one
pub record IsDue (now last_serial : ℕ) (t : Timer) : Type 0 where
  pub deadline : t.deadline ≡ now
  pub serial : t.serial ≤ last_serial

-- the invariant of every wheel
pub record IsWellFormed (w : WheelState) : Type 0 where
  pub last_in_range : w.last_tick ≤ LAST
  pub now_in_range : w.now ≤ w.last_tick
  pub serial_in_range : w.last_serial ≤ LAST
  pub ordered : IsOrdered (timers_of w.pending)
  pub distinct : AreDistinct (timers_of w.pending)
  pub each : AllByRecursion (IsPending w.last_tick w.now w.last_serial) (timers_of w.pending)
  pub each_due : AllByRecursion (IsDue w.now w.last_serial) (timers_of w.due)
  pub due_rising : AreRising 0 (timers_of w.due)
