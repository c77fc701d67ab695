-- A history read event by event, and a proof that this yields what is owed for the whole.
use Rattle.std.proofs.Common.{◌≡◌, ℕ, zero, suc, ◌+◌, Bool, true, false, not, ◌==◌, ◌&&◌, ◌||◌, List, [], ◌++◌, refl, ap, arith, append-nil, append_assoc}
use Rattle.std.specs.Prelude.{map, filter, nat_lt}
use Rattle.timer_facility.specs.Types.{Timer, Notice, Expired, Returned}
use Rattle.timer_base.specs.Pending.{timers_of}
use Rattle.timer_facility.specs.State.{FacilityState}
use Rattle.timer_facility.specs.Run.{HistoryEntry}
use Rattle.timer_facility.specs.Owed.{started_by, accepted_starts, serials_told, stopped, ticks_by, accepted_ticks, any_out, is_closing, has_closed, is_among, timers_in_order, due, owed_by_ticks, owed_by_close, owed}
use Rattle.timer_facility.proofs.TimerLists.{or_false}

-- the reading of a history: the timers started, the serials stopped, the ticks accepted, whether a close was
pub record Reading : Type 0 where
  pub started : List Timer
  pub stopped : List ℕ
  pub ticks : ℕ
  pub is_closed : Bool

abbrev pub nothing_read : Reading
nothing_read = record { started = []; stopped = []; ticks = 0; is_closed = false }

abbrev pub read_one : HistoryEntry → Reading
read_one h = record {
  started = started_by h.event h.outs;
  stopped = serials_told h.outs;
  ticks = ticks_by h.event h.outs;
  is_closed = any_out is_closing h.outs;
}

abbrev pub reading : List HistoryEntry → Reading
reading hs = record { started = accepted_starts hs; stopped = stopped hs; ticks = accepted_ticks hs; is_closed = has_closed hs }

-- one reading, and then another
abbrev pub and_then : Reading → Reading → Reading
and_then r q = record {
  started = r.started ++ q.started;
  stopped = r.stopped ++ q.stopped;
  ticks = r.ticks + q.ticks;
  is_closed = r.is_closed || q.is_closed;
}

-- the timers pending in s, and those started since
abbrev pub all_started : FacilityState → Reading → List Timer
all_started s r = timers_of s.pending ++ r.started

-- not stopped, and of this deadline
abbrev pub is_owed_at : Reading → ℕ → Timer → Bool
is_owed_at r tick t = t.deadline == tick && not (is_among t.serial r.stopped)

-- not stopped, and of a later deadline
abbrev pub is_left_at : Reading → ℕ → Timer → Bool
is_left_at r tick t = nat_lt tick t.deadline && not (is_among t.serial r.stopped)

abbrev pub due_at : FacilityState → Reading → ℕ → List Timer
due_at s r tick = timers_in_order (filter (is_owed_at r tick) (all_started s r))

abbrev pub owed_at_ticks : FacilityState → Reading → ℕ → List Notice
owed_at_ticks s r zero = map (λ t. Expired t) (due_at s r s.now)
owed_at_ticks s r (suc n) = owed_at_ticks s r n ++ map (λ t. Expired t) (due_at s r (s.now + suc n))

abbrev pub owed_at_close : FacilityState → Reading → Bool → List Notice
owed_at_close s r false = []
owed_at_close s r true = map (λ t. Returned t) (timers_in_order (filter (is_left_at r (s.now + r.ticks)) (all_started s r)))

-- what is owed for a reading
abbrev pub owed_for : FacilityState → Reading → List Notice
owed_for s r = owed_at_ticks s r r.ticks ++ owed_at_close s r r.is_closed

pub reading_is : {a a' : List Timer} {b b' : List ℕ} {t t' : ℕ} {d d' : Bool} → a ≡ a' → b ≡ b' → t ≡ t' → d ≡ d'
    → let x : Reading = record { started = a; stopped = b; ticks = t; is_closed = d } in
    let y : Reading = record { started = a'; stopped = b'; ticks = t'; is_closed = d' } in x ≡ y
reading_is e f g h = cc

or_assoc : (a b c : Bool) → ((a || b) || c) ≡ (a || (b || c))
or_assoc true b c = refl
or_assoc false b c = refl

pub then_nothing : (r : Reading) → and_then r nothing_read ≡ r
then_nothing r = reading_is (append-nil r.started) (append-nil r.stopped) (omega arith) (or_false r.is_closed)

pub nothing_then : (r : Reading) → and_then nothing_read r ≡ r
nothing_then r = reading_is refl refl (omega arith) refl

pub then_then : (r q u : Reading) → and_then (and_then r q) u ≡ and_then r (and_then q u)
then_then r q u = reading_is (append_assoc r.started q.started u.started) (append_assoc r.stopped q.stopped u.stopped)
    (omega arith) (or_assoc r.is_closed q.is_closed u.is_closed)

ticks_same : (s : FacilityState) (hs : List HistoryEntry) (n : ℕ) → owed_by_ticks s hs n ≡ owed_at_ticks s (reading hs) n
ticks_same s hs zero = refl
ticks_same s hs (suc n) = ap (λ xs. xs ++ map (λ t. Expired t) (due s hs (s.now + suc n))) (ticks_same s hs n)

close_same : (s : FacilityState) (hs : List HistoryEntry) (b : Bool) → owed_by_close s hs b ≡ owed_at_close s (reading hs) b
close_same s hs true = refl
close_same s hs false = refl

-- what is owed for a history is what is owed for its reading
pub owed_is : (s : FacilityState) (hs : List HistoryEntry) → owed s hs ≡ owed_for s (reading hs)
owed_is s hs = rw (ticks_same s hs (accepted_ticks hs), close_same s hs (has_closed hs)) refl
