-- Held timers: what a call on pending and due timers says when nothing is due, and of a deadline after now.
use Rattle.std.proofs.Common.{◌∙◌, ap, sym, subst, inl, inr, arith, ◌==◌, ◌≡◌, ◌≢◌, ℕ, ◌<◌, Bool, true, false, nat_lt, List, [], ◌∷◌, Option, Some, None, refl}
use Rattle.std.proofs.lemmas.Bool.{ne_eqb, eq-eqb, eqb-true, lt-ltb, le-ltb, and_parts}
use Rattle.timer_base.proofs.Basics.{some_same, none_some, either}
use Rattle.timer_base.specs.Types.{Handle, Timer}
use Rattle.timer_base.specs.Order.{AreDistinct, IsNotAmong}
use Rattle.timer_base.specs.Pending.{Entry, timers_of, has_handle, first_timer, first_found, without_serial, without_found, without_handle}
use Rattle.timer_base.specs.WheelState.{WheelState, timer_at, due_at, held_at, after_start, after_due_start, after_held_start, after_stop, after_removal, after_restart, after_replacement, with_room}

-- A look.

pub found_or_none : (o : Option Timer) → first_found o None ≡ o
found_or_none None = refl
found_or_none (Some t) = refl

pub held_when_none_due : (handle : Handle) (w : WheelState) → w.due ≡ [] → held_at handle w ≡ timer_at handle w
held_when_none_due handle w e =
    ap (λ (d : List Entry). first_found (timer_at handle w) (first_timer (has_handle handle) d)) e
    ∙ found_or_none (timer_at handle w)

-- A stop.

pub has_serial_of : (handle : Handle) (x : Entry) → has_handle handle x ≡ true → x.timer.serial ≡ handle.serial
has_serial_of handle x h = eqb-true x.timer.serial handle.serial
    (and_parts (x.place == handle.place) (x.timer.serial == handle.serial) h).1

pub other_serial : (handle : Handle) (x : Entry) → x.timer.serial ≢ handle.serial → has_handle handle x ≡ false
other_serial handle x n = elim (either (x.place == handle.place)) [
  | inl k ↦ rw (k, ne_eqb x.timer.serial handle.serial n) refl
  | inr k ↦ rw k refl
]

pub no_handle : (handle : Handle) (es : List Entry) → IsNotAmong handle.serial (timers_of es)
    → without_handle handle es ≡ es
no_handle handle [] n = refl
no_handle handle (x ∷ xs) n = rw (other_serial handle x n.0) (ap (λ (r : List Entry). x ∷ r) (no_handle handle xs n.1))

pub no_serial : (serial : ℕ) (es : List Entry) → IsNotAmong serial (timers_of es) → without_serial serial es ≡ es
no_serial serial [] n = refl
no_serial serial (x ∷ xs) n =
    rw (ne_eqb x.timer.serial serial n.0) (ap (λ (r : List Entry). x ∷ r) (no_serial serial xs n.1))

-- the timer that is found is one of them
pub found_among : (test : Entry → Bool) (t : Timer) (serial : ℕ) (es : List Entry) → first_timer test es ≡ Some t
    → IsNotAmong serial (timers_of es) → t.serial ≢ serial
found_among test t serial [] e n = absurd (none_some t e)
found_among test t serial (x ∷ xs) e n = elim (either (test x)) [
  | inl h ↦
      let f : Some x.timer ≡ Some t = rw h at e in
      λ (q : t.serial ≡ serial). n.0 (ap (λ (u : Timer). u.serial) (some_same x.timer t f) ∙ q)
  | inr h ↦ found_among test t serial xs (rw h at e) n.1
]

removed_step : (handle : Handle) (x : Entry) (xs : List Entry) (o : Option Timer)
    → o ≡ first_timer (has_handle handle) xs
    → IsNotAmong x.timer.serial (timers_of xs) → without_handle handle xs ≡ without_found o xs
    → x ∷ without_handle handle xs ≡ without_found o (x ∷ xs)
removed_step handle x xs None e n ih = ap (λ (r : List Entry). x ∷ r) ih
removed_step handle x xs (Some t) e n ih =
    let other : x.timer.serial ≢ t.serial = λ (q : x.timer.serial ≡ t.serial).
    found_among (has_handle handle) t x.timer.serial xs (sym e) n (sym q) in
    rw (ne_eqb x.timer.serial t.serial other) (ap (λ (r : List Entry). x ∷ r) ih)

-- the entry of a handle is that of its timer's serial
pub without_handle-found : (handle : Handle) (es : List Entry) → AreDistinct (timers_of es)
    → without_handle handle es ≡ without_found (first_timer (has_handle handle) es) es
without_handle-found handle [] d = refl
without_handle-found handle (x ∷ xs) d = elim (either (has_handle handle x)) [
  | inl h ↦
      let s : x.timer.serial ≡ handle.serial = has_serial_of handle x h in
      let n : IsNotAmong handle.serial (timers_of xs) = subst (λ (k : ℕ). IsNotAmong k (timers_of xs)) s d.0 in
      rw (h, eq-eqb x.timer.serial x.timer.serial refl) (no_handle handle xs n ∙ sym (no_serial x.timer.serial xs d.0))
  | inr h ↦ rw h (removed_step handle x xs (first_timer (has_handle handle) xs) refl d.0
      (without_handle-found handle xs d.1))
]

pub removal_when_none_due : (handle : Handle) (w : WheelState) → AreDistinct (timers_of w.pending) → w.due ≡ []
    → after_removal handle w ≡ after_stop handle w
removal_when_none_due handle w d e =
    let a : without_handle handle w.pending ≡ without_found (timer_at handle w) w.pending =
    without_handle-found handle w.pending d in
    let b : without_handle handle w.due ≡ w.due = ap (without_handle handle) e ∙ sym e in
    ap (λ (p : List Entry). record w { pending = p; due = without_handle handle w.due }) a
    ∙ ap (λ (q : List Entry). record w { pending = without_found (timer_at handle w) w.pending; due = q }) b

-- A start for a deadline after now, or for now.

pub start_when_later : (place : ℕ) (t : Timer) (w : WheelState) → w.now < t.deadline
    → after_held_start place t w ≡ after_start place t w
start_when_later place t w h = rw (lt-ltb w.now t.deadline h) refl

pub start_when_now : (place : ℕ) (t : Timer) (w : WheelState) → t.deadline ≡ w.now
    → after_held_start place t w ≡ after_due_start place t w
start_when_now place t w h = rw (le-ltb w.now t.deadline (omega arith)) refl

-- either way it is the last one that was started
pub held_start-last_serial : (place : ℕ) (t : Timer) (w : WheelState)
    → (after_held_start place t w).last_serial ≡ t.serial
held_start-last_serial place t w = elim (either (nat_lt w.now t.deadline)) [ inl k ↦ rw k refl | inr k ↦ rw k refl ]

-- room changes nothing of a start
pub with_room-held_start : (room place : ℕ) (t : Timer) (w : WheelState)
    → with_room room (after_held_start place t w) ≡ after_held_start place t (with_room room w)
with_room-held_start room place t w = elim (either (nat_lt w.now t.deadline)) [ inl k ↦ rw k refl | inr k ↦ rw k refl ]

-- A restart.

pub replacement_when_none_due : (r : Option (Handle × Timer)) (handle : Handle) (t : Timer) (w : WheelState)
    → AreDistinct (timers_of w.pending) → w.due ≡ [] → w.now < t.deadline
    → after_replacement r handle t w ≡ after_restart r handle t w
replacement_when_none_due None handle t w d e h = refl
replacement_when_none_due (Some r) handle t w d e h =
    start_when_later r.0.place t (after_removal handle w) h
    ∙ ap (after_start r.0.place t) (removal_when_none_due handle w d e)

-- Where there is no timer, and once it is removed.

pub without_handle-none : (handle : Handle) (es : List Entry) → first_timer (has_handle handle) es ≡ None
    → without_handle handle es ≡ es
without_handle-none handle [] e = refl
without_handle-none handle (x ∷ xs) e = elim (either (has_handle handle x)) [
  | inl h ↦ absurd (let f : Some x.timer ≡ None = rw h at e in cc)
  | inr h ↦ rw h (ap (λ (r : List Entry). x ∷ r) (without_handle-none handle xs (rw h at e)))
]

neither : (a b : Option Timer) → first_found a b ≡ None → (a ≡ None) × (b ≡ None)
neither None b e = (refl, e)
neither (Some t) b e = absurd (let f : Some t ≡ None = e in cc)

pub none_removed : (handle : Handle) (w : WheelState) → held_at handle w ≡ None → w ≡ after_removal handle w
none_removed handle w e =
    let n = neither (timer_at handle w) (due_at handle w) e in
    ap (λ (p : List Entry). record w { pending = p }) (sym (without_handle-none handle w.pending n.0))
    ∙ ap (λ (q : List Entry). record w { pending = without_handle handle w.pending; due = q })
    (sym (without_handle-none handle w.due n.1))

gone : (handle : Handle) (es : List Entry) → first_timer (has_handle handle) (without_handle handle es) ≡ None
gone handle [] = refl
gone handle (x ∷ xs) = elim (either (has_handle handle x)) [
  | inl h ↦ rw h (gone handle xs)
  | inr h ↦ simp (h, h) (gone handle xs)
]

-- the handle names nothing then
pub held_at_removed : (handle : Handle) (w : WheelState) → held_at handle (after_removal handle w) ≡ None
held_at_removed handle w = rw (gone handle w.pending) (gone handle w.due)
