use Rattle.std.proofs.Common.{◌≡◌, ◌<◌, ◌+◌, ◌-◌, ◌/◌, ℕ, refl, ap, ◌∙◌, subst, arith}
use Rattle.timer_base.specs.Counts.{WheelCounts}
use Rattle.timer_base.specs.WheelState.{Advances}
use Rattle.timer_wheels.specs.Buckets.{state_of}
use Rattle.timer_wheels.specs.Digits.{lowest_radix}
use Rattle.timer_wheels.specs.hier.Placement.{hops_of}
use Rattle.timer_wheels.specs.Tables.{radices, layout_of_table}
use Rattle.timer_wheels.proofs.hier_lemmas.Counts.{leapt_serial, leapt_paid, leapt_moves, none_visited}
use Rattle.timer_wheels.proofs.hier_lemmas.Invariant.{paid_at}
use Rattle.timer_wheels.proofs.hier_lemmas.Leaps.{advancing_ends}
use Rattle.timer_wheels.proofs.bucket_lemmas.RoomLemmas.{advances-with_layout}
use Rattle.timer_wheels.proofs.hier.HierWheelWheel.advance.Goals as goal

none_more : (n : ℕ) → n + 0 ≡ n
none_more n = omega arith

pub invariant_of-self-clause-few_starts : goal.invariant_of-self-clause-few_starts
invariant_of-self-clause-few_starts g c =
    let w = c.args.self.now in
    omega (
      arith,
      leapt_serial (radices w.wheels.table) 0 (state_of w.wheels.buckets) (state_of c.skip_to.new.self.buckets) c.skip_to.ensures.leaps,
      w.few_starts,
    )

pub invariant_of-self-clause-few_skipped : goal.invariant_of-self-clause-few_skipped
invariant_of-self-clause-few_skipped g c = omega (arith, c.args.self.now.few_skipped, c.skip_to.ensures.tick)

pub invariant_of-self-clause-paid : goal.invariant_of-self-clause-paid
invariant_of-self-clause-paid g c =
    let w = c.args.self.now in
    let n = c.skip_to.new.self in
    paid_at w.counts.starts w.counts.moves n.buckets w.wheels.table n.table c.skip_to.ensures.table
    (rw (none_more w.counts.moves) at (leapt_paid (radices w.wheels.table) w.counts.starts w.counts.moves 0 (state_of w.wheels.buckets)
    (state_of n.buckets) c.skip_to.ensures.leaps w.paid))

abbrev counts : ℕ → ℕ → ℕ → WheelCounts
counts s m v = record { starts = s; moves = m; visits = v }

pub returns-clause-counts : goal.returns-clause-counts
returns-clause-counts g c =
    let w = c.args.self.now in
    let b = w.wheels.buckets in
    let n = c.skip_to.new.self.buckets in
    let k = w.counts in
    let t = radices w.wheels.table in
    let tick : n.tick ≡ b.tick + c.args.most = c.skip_to.ensures.tick in
    let same : k.moves ≡ k.moves + 0 = omega arith in
    let visits : n.tick - (k.skipped + c.args.most) ≡ b.tick - k.skipped + 0 = omega (arith, w.few_skipped) in
    let within : n.tick / lowest_radix t ≡ b.tick / lowest_radix t = rw tick (c.if-not-is_quiet_to.ensures.within refl) in
    ap (λ (x : ℕ). counts k.starts x (n.tick - (k.skipped + c.args.most))) same
    ∙ ap (counts k.starts (k.moves + 0)) visits
    ∙ ap (λ (x : ℕ). counts k.starts (k.moves + x) (b.tick - k.skipped + 0))
    (leapt_moves t 0 (state_of b) (state_of n) c.skip_to.ensures.leaps)
    ∙ ap (λ (x : ℕ). counts k.starts (k.moves + hops_of t b.tick (n.tick - b.tick) (state_of b).pending) (b.tick - k.skipped + x))
    (none_visited (lowest_radix t) b.tick n.tick (state_of n).due c.skip_to.ensures.nothing_due within)

pub returns-clause-advances : goal.returns-clause-advances
returns-clause-advances g c =
    let w = c.args.self.now.wheels in
    let n = c.skip_to.new.self in
    let tick : n.buckets.tick ≡ w.buckets.tick + c.args.most = c.skip_to.ensures.tick in
    let some : 0 < c.args.most = c.requires.some in
    let passed : n.buckets.tick - w.buckets.tick ≡ c.args.most = omega arith in
    advances-with_layout (layout_of_table w.table) (layout_of_table n.table) (ap layout_of_table c.skip_to.ensures.table)
    c.args.most (state_of w.buckets) (state_of n.buckets) c.args.most
    (subst (λ (x : ℕ). Advances c.args.most x (state_of w.buckets) (state_of n.buckets)) passed
    (advancing_ends (radices w.table) c.args.most 0 (state_of w.buckets) (state_of n.buckets) c.skip_to.ensures.leaps
    (omega arith) (omega arith) (λ h. absurd (omega arith))))
