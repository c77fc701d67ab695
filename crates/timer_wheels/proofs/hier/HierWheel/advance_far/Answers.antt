use Rattle.std.proofs.Common.{◌≡◌, ◌<◌, ◌≤◌, ◌+◌, ◌-◌, ℕ, ap, ◌∙◌, arith, rules}
use Rattle.timer_wheels.specs.Buckets.{state_of}
use Rattle.timer_base.specs.Counts.{WheelCounts}
use Rattle.timer_wheels.specs.Digits.{lowest_radix}
use Rattle.timer_wheels.specs.Tables.{radices, layout_of_table}
use Rattle.timer_wheels.specs.hier.Placement.{visited_between, hops_of, levels_of}
use Rattle.timer_wheels.proofs.hier_lemmas.Invariant.{paid_at, paid_bound, moves_fit}
use Rattle.timer_wheels.proofs.bucket_lemmas.RoomLemmas.{advances-with_layout}
use Rattle.timer_wheels.proofs.table_lemmas.TableLaws.{of_table}
use Rattle.timer_wheels.proofs.hier_lemmas.Counts.{any_of, advanced_serial, leapt_paid, leapt_moves}
use Rattle.timer_wheels.proofs.hier.HierWheel.advance_far.Goals as goal

pub invariant_of-self-2-clause-few_starts : goal.invariant_of-self-2-clause-few_starts
invariant_of-self-2-clause-few_starts g c =
    let b = c.args.self.now.wheels.buckets in
    let n = c.advance_until_due-moves.new.self.buckets in
    let e : n.last_serial ≡ b.last_serial = advanced_serial c.args.most (n.tick - b.tick) (state_of b)
    (state_of n) c.advance_until_due-moves.ensures.advances in
    let f : c.args.self.now.counts.starts ≤ b.last_serial = c.args.self.now.few_starts in
    omega arith

pub invariant_of-self-2-clause-paid : goal.invariant_of-self-2-clause-paid
invariant_of-self-2-clause-paid g c =
    let w = c.args.self.now in
    let n = c.advance_until_due-moves.new.self in
    paid_at w.counts.starts (w.counts.moves + c.advance_until_due-moves.result) n.buckets w.wheels.table n.table
    c.advance_until_due-moves.ensures.table
    (leapt_paid (radices w.wheels.table) w.counts.starts w.counts.moves c.advance_until_due-moves.result (state_of w.wheels.buckets)
    (state_of n.buckets) c.advance_until_due-moves.ensures.leaps w.paid)

visits_add : (first last skipped visits : ℕ) → skipped ≤ first → 0 < last - first → visits ≤ last - first
    → last - (skipped + (last - first - visits)) ≡ first - skipped + visits
visits_add first last skipped visits s l v = omega arith

abbrev counts : ℕ → ℕ → ℕ → WheelCounts
counts s m v = record { starts = s; moves = m; visits = v }

pub returns-clause-counts : goal.returns-clause-counts
returns-clause-counts g c =
    let b = c.args.self.now.wheels.buckets in
    let n = c.advance_until_due-moves.new.self.buckets in
    let k = c.args.self.now.counts in
    let m = leapt_moves (radices c.args.self.now.wheels.table) c.advance_until_due-moves.result (state_of b)
    (state_of n) c.advance_until_due-moves.ensures.leaps in
    let d = any_of (state_of n).due c.has_due.result c.has_due.ensures in
    let v = c.visits_between-visits.ensures.value ∙ ap (visited_between (lowest_radix (radices c.args.self.now.wheels.table)) b.tick n.tick) d in
    let w = visits_add b.tick n.tick k.skipped c.visits_between-visits.result c.args.self.now.few_skipped
    c.advance_until_due-moves.ensures.advances.some c.visits_between-visits.ensures.few in
    ap (counts k.starts (k.moves + c.advance_until_due-moves.result)) w
    ∙ ap (λ (x : ℕ). counts k.starts (k.moves + x) (b.tick - k.skipped + c.visits_between-visits.result)) m
    ∙ ap (λ (x : ℕ). counts k.starts (k.moves + hops_of (radices c.args.self.now.wheels.table) b.tick (n.tick - b.tick) (state_of b).pending)
    (b.tick - k.skipped + x)) v

pub returns-clause-advances : goal.returns-clause-advances
returns-clause-advances g c =
    let w = c.args.self.now.wheels in
    let n = c.advance_until_due-moves.new.self in
    advances-with_layout (layout_of_table w.table) (layout_of_table n.table) (ap layout_of_table c.advance_until_due-moves.ensures.table)
    (n.buckets.tick - w.buckets.tick) (state_of w.buckets) (state_of n.buckets) c.args.most c.advance_until_due-moves.ensures.advances

least : (moves levels n : ℕ) → moves + levels ≤ n → levels ≤ n
least moves levels n h = omega arith

pub advance_until_due-moves-requires-clause-few : goal.advance_until_due-moves-requires-clause-few
unfolding Rattle.timer_wheels.specs.Tables.wide
advance_until_due-moves-requires-clause-few g c =
    let w = c.args.self.now in
    let t = radices w.wheels.table in
    let p = paid_bound t w.counts.starts w.counts.moves w.wheels.buckets.last_serial w.wheels.buckets.tick (state_of w.wheels.buckets).pending
    (of_table w.wheels.table) w.few_starts w.wheels.buckets.sound.serial_in_range w.paid in
    least w.counts.moves (levels_of t w.wheels.buckets.tick (state_of w.wheels.buckets).pending) 10376293541461622775 p

pub overflow_add-counts : goal.overflow_add-counts
overflow_add-counts g c =
    let w = c.args.self.now in
    let t = radices w.wheels.table in
    let n = c.advance_until_due-moves.new.self.buckets in
    let p = paid_bound t w.counts.starts w.counts.moves w.wheels.buckets.last_serial w.wheels.buckets.tick (state_of w.wheels.buckets).pending
    (of_table w.wheels.table) w.few_starts w.wheels.buckets.sound.serial_in_range w.paid in
    let h : c.args.self.now.counts.moves + c.advance_until_due-moves.result < 18446744073709551616 =
    moves_fit w.counts.moves c.advance_until_due-moves.result (levels_of t n.tick (state_of n).pending)
    (levels_of t w.wheels.buckets.tick (state_of w.wheels.buckets).pending) p c.advance_until_due-moves.ensures.leaps.pays in
    search rules
