-- Lemmas about the state that lists represent: it is well formed, and what says so is a proposition. They are in
-- specs/ since ghost items and definitions of this crate cite them.
use Rattle.std.proofs.Common.{◌∙◌, ap, ◌≡◌, ℕ, List, [], ◌∷◌, map, refl}
use Rattle.std.proofs.Props.{props}
use Rattle.std.specs.Coded.{Π_prop}
use Rattle.std.specs.List.{AllByRecursion, AllByRecursion-prop}
use Rattle.timer_base.proofs.OrderLaws.{map-in_order, All-in_order, IsOrdered-in_order, AreDistinct-in_order, AreRising-prop}
use Rattle.timer_base.specs.Order.{in_order, itself, AreDistinct, IsNotAmong}
use Rattle.timer_base.specs.Pending.{timer_of, timers_of}
use Rattle.timer_base.specs.WheelState.{IsPending, IsDue, IsWellFormed}
use Rattle.timer_wheels.specs.Types.{Timer, list_at, KeyedLists, Row, Rows}
use Rattle.timer_wheels.specs.BucketLists.{row_timer, row_timers, entries_of, rows_below, pending_in, wheel_state, ArePendingBelow, AreInOrder, AreDue, AreBuckets, EachRow}

pub timers_of-entries : (rows : Rows) → map timer_of (entries_of rows) ≡ row_timers rows
timers_of-entries [] = refl
timers_of-entries (x ∷ xs) = ap (λ r. row_timer x ∷ r) (timers_of-entries xs)

-- The invariant of each wheel.

pub timers_of-pending : (rows : Rows) → timers_of (pending_in rows)
    ≡ in_order itself (row_timers rows)
timers_of-pending rows = map-in_order timer_of itself timer_of (λ e. refl) (entries_of rows)
    ∙ ap (in_order itself) (timers_of-entries rows)

all-timers : (P : Timer → Type 0) (rows : Rows) → AllByRecursion (λ row. P (row_timer row)) rows
    → AllByRecursion P (row_timers rows)
all-timers P [] a = tt
all-timers P (x ∷ xs) a = (a.0, all-timers P xs a.1)

pub wheel_state-well_formed : (n last_tick now last : ℕ) (lists : KeyedLists)
    → AreBuckets n last_tick now last lists → IsWellFormed (wheel_state n last_tick now last lists)
wheel_state-well_formed n last_tick now last lists b =
    let rows : Rows = rows_below n lists in
    record {
      last_in_range = b.last_in_range;
      now_in_range = b.tick_in_range;
      serial_in_range = b.serial_in_range;
      ordered = IsOrdered-in_order timer_of (entries_of rows);
      distinct = AreDistinct-in_order timer_of (entries_of rows) (rw (timers_of-entries rows) b.distinct);
      each = rw (timers_of-pending rows)
          (All-in_order itself (IsPending last_tick now last) (row_timers rows)
          (all-timers (IsPending last_tick now last) rows b.pending));
      each_due = rw (timers_of-entries (list_at n lists))
          (all-timers (IsDue now last) (list_at n lists) b.due);
      due_rising = rw (timers_of-entries (list_at n lists)) b.due_in_order;
    }

-- What is kept of the lists is a proposition.

IsPending-prop : (last_tick now last_serial : ℕ) (t : Timer) → IsProp (IsPending last_tick now last_serial t)
IsPending-prop last_tick now last_serial t = hlevel props

pub ArePendingBelow-prop : (n last_tick now last_serial : ℕ) (lists : KeyedLists)
    → IsProp (ArePendingBelow n last_tick now last_serial lists)
ArePendingBelow-prop n last_tick now last_serial lists =
    AllByRecursion-prop (λ row. IsPending last_tick now last_serial (row_timer row))
    (λ row. IsPending-prop last_tick now last_serial (row_timer row)) (rows_below n lists)

IsDue-prop : (now last_serial : ℕ) (t : Timer) → IsProp (IsDue now last_serial t)
IsDue-prop now last_serial t = hlevel props

pub AreDue-prop : (now last_serial : ℕ) (rows : Rows) → IsProp (AreDue now last_serial rows)
AreDue-prop now last_serial rows = AllByRecursion-prop (λ row. IsDue now last_serial (row_timer row))
    (λ row. IsDue-prop now last_serial (row_timer row)) rows

pub AreInOrder-prop : (n : ℕ) (lists : KeyedLists) → IsProp (AreInOrder n lists)
AreInOrder-prop n lists = Π_prop (λ s. Π_prop (λ b. AreRising-prop 0 (row_timers (list_at s lists))))

pub EachRow-prop : (fact : ℕ → Row → Type 0) → ((s : ℕ) (row : Row) → IsProp (fact s row))
    → (n : ℕ) (lists : KeyedLists) → IsProp (EachRow fact n lists)
EachRow-prop fact prop n lists = Π_prop (λ s. Π_prop
    (λ b. AllByRecursion-prop (fact s) (prop s) (list_at s lists)))

IsNotAmong-prop : (serial : ℕ) (ts : List Timer) → IsProp (IsNotAmong serial ts)
IsNotAmong-prop serial [] = hlevel props
IsNotAmong-prop serial (t ∷ ts) = hlevel (props, IsNotAmong-prop serial ts)

pub AreDistinct-prop : (ts : List Timer) → IsProp (AreDistinct ts)
AreDistinct-prop [] = hlevel props
AreDistinct-prop (t ∷ ts) = hlevel (props, IsNotAmong-prop t.serial ts, AreDistinct-prop ts)

pub AreBuckets-prop : (n last_tick now last_serial : ℕ) (lists : KeyedLists)
    → IsProp (AreBuckets n last_tick now last_serial lists)
AreBuckets-prop n last_tick now last_serial lists = hlevel (
  props,
  ArePendingBelow-prop n last_tick now last_serial lists,
  AreDistinct-prop (row_timers (rows_below n lists)),
  AreDue-prop now last_serial (list_at n lists),
  AreRising-prop 0 (row_timers (list_at n lists)),
)
