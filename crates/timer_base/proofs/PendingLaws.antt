-- Lemmas about the pending timers: a tick removes the front, a start keeps the order, and a stop removes one.
use Rattle.std.proofs.Common.{◌≡◌, ◌≢◌, ◌<◌, ◌≤◌, ◌+◌, ℕ, Bool, false, List, [], ◌∷◌, ◌++◌, length, refl, sym, ◌∙◌, ap, inl, inr, arith, Option, Some, None}
use Rattle.std.specs.List.{AllByRecursion}
use Rattle.std.proofs.lemmas.Bool.{eq-eqb, ne_eqb}
use Rattle.std.proofs.lemmas.Bool.Decides.{nat_tests}
use Rattle.timer_base.proofs.Basics.{some_same, none_some, later_if_not_due, either}
use Rattle.timer_base.specs.Types.{Timer, Handle}
use Rattle.timer_base.specs.Order.{is_before, in_order, insert_in_order, IsFirst, IsOrdered, AreDistinct, AreBelow}
use Rattle.timer_base.proofs.HeldLaws.{without_handle-found, without_handle-none, no_serial, found_among}
use Rattle.timer_base.proofs.OrderLaws.{All-weaken, insert_newest, AreDistinct-rising}
use Rattle.timer_base.proofs.OneOrder.{in_order-ordered}
use Rattle.timer_base.proofs.TickLaws.{due_none, left_all}
use Rattle.timer_base.specs.Pending.{Entry, timer_of, timers_of, put, has_handle, is_due_at, first_timer, first_found, entries_due, entries_left, AreAfter, without_serial, without_found, without_handle}
use Rattle.timer_base.specs.WheelState.{WheelState, IsWellFormed, IsPending, NamesOne, timer_at, due_at, held_at, held_count, after_start, after_stop, after_removal}

-- A tick.

not_sooner : (t u : Timer) → is_before u t ≡ false → t.deadline ≤ u.deadline
not_sooner t u h = grind (arith, nat_tests)

pub none_sooner : (t : Timer) (es : List Entry) → IsFirst t (timers_of es) → AllByRecursion (λ entry. t.deadline ≤ entry.timer.deadline) es
none_sooner t [] f = tt
none_sooner t (e ∷ es) f = (not_sooner t e.timer f.0, none_sooner t es f.1)

all_later : (tick : ℕ) (t : Timer) (es : List Entry) → tick < t.deadline → IsFirst t (timers_of es) → AreAfter tick es
all_later tick t es h f = All-weaken (λ e. t.deadline ≤ e.timer.deadline) (λ e. tick < e.timer.deadline) es (λ e k. omega arith)
    (none_sooner t es f)

front_is_due : (tick : ℕ) (es : List Entry) → IsOrdered (timers_of es) → AllByRecursion (λ t. tick ≤ t.deadline) (timers_of es)
    → es ≡ entries_due tick es ++ entries_left tick es
front_is_due tick [] o a = refl
front_is_due tick (e ∷ es) o a = elim (either (is_due_at tick e.timer)) [
  | inl h ↦ rw h (ap (λ r. e ∷ r) (front_is_due tick es o.1 a.1))
  | inr h ↦ let later : AreAfter tick es = all_later tick e.timer es (later_if_not_due tick e.timer a.0 h) o.0 in
      rw (h, due_none tick es later, left_all tick es later) refl
]

pub tick_cuts_front : (w : WheelState) → IsWellFormed w → w.pending
    ≡ entries_due (w.now + 1) w.pending ++ entries_left (w.now + 1) w.pending
tick_cuts_front w k = front_is_due (w.now + 1) w.pending k.ordered
    (All-weaken (IsPending w.last_tick w.now w.last_serial) (λ t. w.now + 1 ≤ t.deadline) (timers_of w.pending)
    (λ t p. let h : w.now < t.deadline = p.later in omega arith) k.each)

-- A start.

put_in_order : (e : Entry) (es : List Entry) → AreBelow e.timer.serial (timers_of es) → AreDistinct (timers_of es)
    → IsOrdered (timers_of es) → put e es ≡ in_order timer_of (e ∷ es)
put_in_order e es b d o = sym (ap (insert_in_order timer_of e) (in_order-ordered timer_of es d o) ∙ insert_newest timer_of e es b)

pub start_keeps_order : (w : WheelState) (place : ℕ) (t : Timer) → IsWellFormed w → w.last_serial < t.serial
    → (after_start place t w).pending ≡ in_order timer_of (record { place = place; timer = t } ∷ w.pending)
start_keeps_order w place t k h =
    let e : Entry = record { place = place; timer = t } in
    put_in_order e w.pending (All-weaken (IsPending w.last_tick w.now w.last_serial) (λ u. u.serial < t.serial) (timers_of w.pending)
    (λ u p. let s : u.serial ≤ w.last_serial = p.serial in omega arith) k.each) k.distinct k.ordered

-- A stop.

one_goes : (test : Entry → Bool) (t : Timer) (es : List Entry) → AreDistinct (timers_of es) → first_timer test es ≡ Some t
    → length (without_serial t.serial es) + 1 ≡ length es
one_goes test t [] d f = absurd (cc)
one_goes test t (e ∷ es) d f = elim (either (test e)) [
  | inl h ↦
      let same : e.timer ≡ t = some_same e.timer t (rw h at f) in
      let serial : e.timer.serial ≡ t.serial = ap (λ (u : Timer). u.serial) same in
      let others : without_serial t.serial es ≡ es = no_serial t.serial es (rw (← serial) d.0) in
      rw (eq-eqb e.timer.serial t.serial serial, others) (omega arith)
  | inr h ↦
      let rest : first_timer test es ≡ Some t = rw h at f in
      let other : e.timer.serial ≢ t.serial = λ same. found_among test t e.timer.serial es rest d.0 (sym same) in
      let less = one_goes test t es d.1 rest in
      rw (ne_eqb e.timer.serial t.serial other) (omega arith)
]

pub stop_takes_one : (w : WheelState) (handle : Handle) (t : Timer) → IsWellFormed w → timer_at handle w ≡ Some t
    → length (after_stop handle w).pending + 1 ≡ length w.pending
stop_takes_one w handle t k f = rw f (one_goes (has_handle handle) t w.pending k.distinct f)

-- A stop of a held timer.

goes : (handle : Handle) (t : Timer) (es : List Entry) → AreDistinct (timers_of es) → first_timer (has_handle handle) es ≡ Some t
    → length (without_handle handle es) + 1 ≡ length es
goes handle t es d f =
    let e : without_handle handle es ≡ without_serial t.serial es =
    without_handle-found handle es d ∙ ap (λ (o : Option Timer). without_found o es) f in
    rw e (one_goes (has_handle handle) t es d f)

one_held_goes : (w : WheelState) (handle : Handle) (t : Timer) (p d : Option Timer) → IsWellFormed w → timer_at handle w ≡ p
    → due_at handle w ≡ d → ((u : Timer) → p ≡ Some u → d ≡ None) → first_found p d ≡ Some t
    → held_count (after_removal handle w) + 1 ≡ held_count w
one_held_goes w handle t (Some u) d k e f one found =
    let less : length (without_handle handle w.pending) + 1 ≡ length w.pending = goes handle u w.pending k.distinct e in
    let same : without_handle handle w.due ≡ w.due = without_handle-none handle w.due (f ∙ one u refl) in
    rw same (omega arith)
one_held_goes w handle t None (Some u) k e f one found =
    let less : length (without_handle handle w.due) + 1 ≡ length w.due =
    goes handle u w.due (AreDistinct-rising 0 (timers_of w.due) k.due_rising) f in
    let same : without_handle handle w.pending ≡ w.pending = without_handle-none handle w.pending e in
    rw same (omega arith)
one_held_goes w handle t None None k e f one found = absurd (none_some t found)

pub held_stop_takes_one : (w : WheelState) (handle : Handle) (t : Timer) → IsWellFormed w → NamesOne handle w
    → held_at handle w ≡ Some t → held_count (after_removal handle w) + 1 ≡ held_count w
held_stop_takes_one w handle t k one f =
    one_held_goes w handle t (timer_at handle w) (due_at handle w) k refl refl one f
