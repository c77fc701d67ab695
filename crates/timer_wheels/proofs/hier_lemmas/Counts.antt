-- The counts of a hierarchy of wheels after `advance`.
use Rattle.std.proofs.Common.{◌≡◌, ◌<◌, ◌+◌, ◌-◌, ◌/◌, ℕ, List, [], ◌∷◌, length, refl, ◌∙◌, ap, arith, Bool, true, false}
use Rattle.timer_base.specs.Pending.{Entry}
use Rattle.timer_base.proofs.TickLaws.{after_ticks-serial}
use Rattle.timer_base.specs.WheelState.{WheelState, Advances}
use Rattle.timer_wheels.specs.hier.Leap.{Leaps}
use Rattle.timer_wheels.specs.hier.Placement.{IsPaid, hops_of, has_any, visited_between}

-- Many ticks.

pub any_of : (due : List Entry) (has : Bool) → ((has ≡ true → 0 < length due) × (0 < length due → has ≡ true)) → has ≡ has_any due
any_of [] true f = absurd (let h : 0 < 0 = f.0 refl in omega arith)
any_of [] false f = refl
any_of (t ∷ ts) has f = f.1 (omega arith)

pub advanced_serial : (most passed : ℕ) (u w : WheelState) → Advances most passed u w → w.last_serial ≡ u.last_serial
advanced_serial most passed u w a = ap (λ (x : WheelState). x.last_serial) a.ticked ∙ after_ticks-serial passed u

pub leapt_paid : (table : List ℕ) (starts moves more : ℕ) (u w : WheelState) → Leaps table more u w
    → IsPaid table starts moves u.now u.pending → IsPaid table starts (moves + more) w.now w.pending
leapt_paid table starts moves more u w l p = omega (arith, l.pays, p)

pub leapt_moves : (table : List ℕ) (more : ℕ) (u w : WheelState) → Leaps table more u w
    → more ≡ hops_of table u.now (w.now - u.now) u.pending
leapt_moves table more u w l =
    let e : l.passed ≡ w.now - u.now = omega (arith, l.now_is) in
    l.moves_are ∙ ap (λ (k : ℕ). hops_of table u.now k u.pending) e

-- No tick is visited.

pub leapt_serial : (table : List ℕ) (moves : ℕ) (u w : WheelState) → Leaps table moves u w → w.last_serial ≡ u.last_serial
leapt_serial table moves u w l = ap (λ (x : WheelState). x.last_serial) l.ticked ∙ after_ticks-serial l.passed u

pub none_visited : (r a b : ℕ) (due : List Entry) → due ≡ [] → b / r ≡ a / r → 0 ≡ visited_between r a b (has_any due)
none_visited r a b due z e = rw (z, e) (omega arith)
