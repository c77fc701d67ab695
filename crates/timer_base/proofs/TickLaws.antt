-- Lemmas about ticks one after another.
use Rattle.std.proofs.Common.{◌≡◌, ◌<◌, ◌≤◌, ◌+◌, ◌-◌, ℕ, zero, suc, ◌⊎◌, List, [], ◌∷◌, length, refl, sym, ◌∙◌, ap, subst, inl, inr, arith, Bool, true, false}
use Rattle.std.proofs.lemmas.Bool.{cases_lt}
use Rattle.timer_base.proofs.Basics.{not_due_before, either}
use Rattle.timer_base.proofs.OrderLaws.{All-weaken}
use Rattle.timer_base.specs.Pending.{Entry, is_due_at, entries_due, entries_left, AreAfter}
use Rattle.timer_base.specs.WakeUps.{IsWakeUp}
use Rattle.timer_base.specs.WheelState.{WheelState, after_tick, after_ticks, with_room, Advances, IsPassing}

pub after_ticks-now : (n : ℕ) (w : WheelState) → (after_ticks n w).now ≡ w.now + n
after_ticks-now zero w = omega arith
after_ticks-now (suc n) w = let h : (after_ticks n w).now ≡ w.now + n = after_ticks-now n w in omega arith

pub after_ticks-last : (n : ℕ) (w : WheelState) → (after_ticks n w).last_tick ≡ w.last_tick
after_ticks-last zero w = refl
after_ticks-last (suc n) w = after_ticks-last n w

none_yet : (old : WheelState) → old.due ≡ [] → (n : ℕ) → n ≤ 0 → (after_ticks n old).due ≡ []
none_yet old h zero b = h
none_yet old h (suc n) b = absurd (omega arith)

pub passing_none : (old : WheelState) → old.due ≡ [] → IsPassing 0 old old
passing_none old h = record { ticked = refl; quiet = none_yet old h }

pub nothing_due : (passed : ℕ) (old now : WheelState) → IsPassing passed old now → now.due ≡ []
nothing_due passed old now p = ap (λ (w : WheelState). w.due) p.ticked ∙ p.quiet passed (omega arith)

pub before_last : (passed most : ℕ) (old now : WheelState) → IsPassing passed old now → passed < most
    → most ≤ old.last_tick - old.now
    → now.now < now.last_tick
before_last passed most old now p h m =
    let a : now.now ≡ old.now + passed = ap (λ (w : WheelState). w.now) p.ticked ∙ after_ticks-now passed old
    in
    let b : now.last_tick ≡ old.last_tick = ap (λ (w : WheelState). w.last_tick) p.ticked
    ∙ after_ticks-last passed old in
    omega arith

next : (passed : ℕ) (old now new : WheelState) → IsPassing passed old now → new ≡ after_tick now
    → new ≡ after_ticks (suc passed) old
next passed old now new p e = e ∙ ap after_tick p.ticked

at_last : (passed n : ℕ) (old now : WheelState) → IsPassing passed old now → (n ≤ passed) ⊎ (n ≡ suc passed)
    → (after_ticks (suc passed) old).due ≡ [] → (after_ticks n old).due ≡ []
at_last passed n old now p (inl h) z = p.quiet n h
at_last passed n old now p (inr e) z = ap (λ (k : ℕ). (after_ticks k old).due) e ∙ z

which : (passed n : ℕ) → n ≤ passed + 1 → (n ≤ passed) ⊎ (n ≡ suc passed)
which passed n h = elim (cases_lt n (passed + 1)) [ inl k ↦ inl (omega arith) | inr k ↦ inr (omega arith) ]

pub passing_more : (passed : ℕ) (old now new : WheelState) → IsPassing passed old now → new ≡ after_tick now
    → new.due ≡ []
    → IsPassing (passed + 1) old new
passing_more passed old now new p e z =
    let t : new ≡ after_ticks (suc passed) old = next passed old now new p e in
    let s : suc passed ≡ passed + 1 = omega arith in
    record {
      ticked = t ∙ ap (λ (k : ℕ). after_ticks k old) s;
      quiet = λ n h. at_last passed n old now p (which passed n h) (sym (ap (λ (w : WheelState). w.due) t)
          ∙ z);
    }

none_of : (due : List Entry) → (0 < length due → ⊥) → due ≡ []
none_of [] f = refl
none_of (t ∷ ts) f = absurd (f (omega arith))

pub not_due : (due : List Entry) (has : Bool) → ((has ≡ true → 0 < length due)
    × (0 < length due → has ≡ true)) → has ≡ false → due ≡ []
not_due due has f e = none_of due (λ h. let k : has ≡ true = f.1 h in absurd (cc))

-- something is due at the last of them
pub stops_early : (passed most : ℕ) (old now new : WheelState) → IsPassing passed old now → passed < most
    → new ≡ after_tick now
    → 0 < length new.due → Advances most (passed + 1) old new
stops_early passed most old now new p h e d =
    let s : suc passed ≡ passed + 1 = omega arith in
    record {
      some = omega arith;
      at_most = omega arith;
      ticked = next passed old now new p e ∙ ap (λ (k : ℕ). after_ticks k old) s;
      quiet = λ n b. p.quiet n (omega arith);
      early = λ b. d;
    }

-- or all were passed
pub passes_all : (passed most : ℕ) (old now : WheelState) → IsPassing passed old now → 0 < most
    → passed ≡ most → Advances most most old now
passes_all passed most old now p z e = record {
  some = z;
  at_most = omega arith;
  ticked = p.ticked ∙ ap (λ (k : ℕ). after_ticks k old) e;
  quiet = λ n b. p.quiet n (omega arith);
  early = λ b. absurd (omega arith);
}

-- Ticks at which nothing is due.

sooner_too : (a b : ℕ) (entries : List Entry) → a ≤ b → AreAfter b entries → AreAfter a entries
sooner_too a b es h f = All-weaken (λ e. b < e.timer.deadline) (λ e. a < e.timer.deadline) es (λ e g. omega arith) f

pub left_all : (tick : ℕ) (entries : List Entry) → AreAfter tick entries → entries_left tick entries ≡ entries
left_all tick [] f = refl
left_all tick (e ∷ es) f = rw (not_due_before tick e.timer f.0)
    (ap (λ (r : List Entry). e ∷ r) (left_all tick es f.1))

pub due_none : (tick : ℕ) (entries : List Entry) → AreAfter tick entries → entries_due tick entries ≡ []
due_none tick [] f = refl
due_none tick (e ∷ es) f = rw (not_due_before tick e.timer f.0) (due_none tick es f.1)

abbrev at_tick : WheelState → ℕ → WheelState
at_tick w tick = record w { now = tick }

one_more : (n : ℕ) (w x : WheelState) → w.due ≡ [] → AreAfter (w.now + suc n) w.pending
    → x ≡ at_tick w (w.now + n)
    → after_tick x ≡ at_tick w (w.now + suc n)
one_more n w x z f e =
    let p : x.pending ≡ w.pending = ap (λ (y : WheelState). y.pending) e in
    let t : x.now ≡ w.now + n = ap (λ (y : WheelState). y.now) e in
    let t1 : x.now + 1 ≡ w.now + suc n = omega arith in
    let g : AreAfter (x.now + 1) w.pending = let P : ℕ → Type 0 = λ k. AreAfter k w.pending
    in subst P (sym t1) f in
    let left : entries_left (x.now + 1) x.pending ≡ w.pending =
    ap (entries_left (x.now + 1)) p ∙ left_all (x.now + 1) w.pending g in
    let due : entries_due (x.now + 1) x.pending ≡ [] =
    ap (λ (y : List Entry). entries_due (x.now + 1) y) p ∙ due_none (x.now + 1) w.pending g in
    cc

-- only the clock advances
pub after_ticks-quiet : (n : ℕ) (w : WheelState) → w.due ≡ [] → AreAfter (w.now + n) w.pending
    → after_ticks n w ≡ at_tick w (w.now + n)
after_ticks-quiet zero w z f = let e : w.now ≡ w.now + 0 = omega arith in ap (at_tick w) e
after_ticks-quiet (suc n) w z f =
    one_more n w (after_ticks n w) z f
    (after_ticks-quiet n w z (sooner_too (w.now + n) (w.now + suc n) w.pending (omega arith) f))

pub quiet_until : (n : ℕ) (w : WheelState) → w.due ≡ [] → AreAfter (w.now + n) w.pending → (k : ℕ) → k ≤ n
    → (after_ticks k w).due ≡ []
quiet_until n w z f k h = ap (λ (y : WheelState). y.due)
    (after_ticks-quiet k w z (sooner_too (w.now + k) (w.now + n) w.pending (omega arith) f)) ∙ z

-- a stretch at which nothing is due
pub passing_quiet : (n : ℕ) (w : WheelState) → w.due ≡ [] → AreAfter (w.now + n) w.pending
    → IsPassing n w (record w { now = w.now + n })
passing_quiet n w z f = record { ticked = sym (after_ticks-quiet n w z f); quiet = quiet_until n w z f }

pub after_ticks-add : (n m : ℕ) (w : WheelState) → after_ticks (n + m) w ≡ after_ticks m (after_ticks n w)
after_ticks-add n zero w = let e : n + zero ≡ n = omega arith in ap (λ (k : ℕ). after_ticks k w) e
after_ticks-add n (suc m) w =
    let e : n + suc m ≡ suc (n + m) = omega arith in
    ap (λ (k : ℕ). after_ticks k w) e ∙ ap after_tick (after_ticks-add n m w)

-- if nothing became due, every timer is still pending
pub none_left_out : (tick : ℕ) (entries : List Entry) → entries_due tick entries ≡ []
    → entries_left tick entries ≡ entries
none_left_out tick [] e = refl
none_left_out tick (x ∷ xs) e = elim (either (is_due_at tick x.timer)) [
  | inl k ↦ absurd (let f = rw k at e in (cc))
  | inr k ↦ let f = rw k at e in rw k (ap (λ (r : List Entry). x ∷ r) (none_left_out tick xs f))
]

pub after_ticks-serial : (n : ℕ) (w : WheelState) → (after_ticks n w).last_serial ≡ w.last_serial
after_ticks-serial zero w = refl
after_ticks-serial (suc n) w = after_ticks-serial n w

-- nothing is due before a tick to wake up at

pub quiet_before_wake_up : (w : WheelState) (tick n : ℕ) → w.due ≡ [] → IsWakeUp tick w.now w.pending → w.now + n < tick
    → (after_ticks n w).due ≡ []
quiet_before_wake_up w tick n z u h = quiet_until n w z
    (All-weaken (λ e. tick ≤ e.timer.deadline) (λ e. w.now + n < e.timer.deadline) w.pending (λ e f. omega arith) u.in_time) n
    (omega arith)

-- Room changes nothing of ticks.

pub after_ticks-with_room : (n room : ℕ) (w : WheelState) → after_ticks n (with_room room w) ≡ with_room room (after_ticks n w)
after_ticks-with_room zero room w = refl
after_ticks-with_room (suc n) room w = ap after_tick (after_ticks-with_room n room w)

pub advances-with_room : (most passed room : ℕ) (old new : WheelState) → Advances most passed old new
    → Advances most passed (with_room room old) (with_room room new)
advances-with_room most passed room old new a = record {
  some = a.some;
  at_most = a.at_most;
  ticked = ap (with_room room) a.ticked ∙ sym (after_ticks-with_room passed room old);
  quiet = λ n l. ap (λ (w : WheelState). w.due) (after_ticks-with_room n room old) ∙ a.quiet n l;
  early = a.early;
}
