use Rattle.std.proofs.Common.{◌≡◌, ◌<◌, ◌+◌, ◌-◌, ℕ, ap, ◌∙◌, arith}
use Rattle.timer_base.specs.Counts.{WheelCounts}
use Rattle.timer_base.specs.WheelState.{WheelState}
use Rattle.timer_wheels.specs.Buckets.{state_of}
use Rattle.timer_wheels.specs.hier.Placement.{levels_of}
use Rattle.timer_wheels.specs.Tables.{radices}
use Rattle.timer_wheels.proofs.hier_lemmas.Invariant.{paid_bound, moves_fit}
use Rattle.timer_wheels.proofs.table_lemmas.TableLaws.{of_table}
use Rattle.timer_wheels.specs.declared.hier.counts.Counts.{Counts}
use Rattle.timer_wheels.proofs.hier.HierWheel.visit.Goals as goal

pub add_moves-requires : goal.add_moves-requires
add_moves-requires g c =
    let w = c.args.self.now in
    let t = radices w.wheels.table in
    let p = paid_bound t w.counts.starts w.counts.moves w.wheels.buckets.last_serial w.wheels.buckets.tick (state_of w.wheels.buckets).pending
    (of_table w.wheels.table) w.few_starts w.wheels.buckets.sound.serial_in_range w.paid in
    let h : c.args.self.now.counts.moves + c.visit_next-moves.result < 18446744073709551616 =
    moves_fit w.counts.moves c.visit_next-moves.result (levels_of t c.visit_next-moves.new.self.buckets.tick
    (state_of c.visit_next-moves.new.self.buckets).pending) (levels_of t w.wheels.buckets.tick (state_of w.wheels.buckets).pending) p
    c.visit_next-moves.ensures.falls in
    omega arith

abbrev counts : ℕ → ℕ → ℕ → WheelCounts
counts s m v = record { starts = s; moves = m; visits = v }

pub returns-clause-counts : goal.returns-clause-counts
returns-clause-counts g c =
    let w = c.args.self.now in
    let b = w.wheels.buckets in
    let n = c.visit_next-moves.new.self.buckets in
    let k = w.counts in
    let now : n.tick ≡ b.tick + 1 = ap (λ (u : WheelState). u.now) c.visit_next-moves.ensures.ticked in
    let few = w.few_skipped in
    let visits : n.tick - k.skipped ≡ b.tick - k.skipped + 1 = omega arith in
    let moves = c.visit_next-moves.ensures.moves in
    ap (λ (q : Counts). counts q.starts q.moves (n.tick - q.skipped)) c.add_moves.ensures
    ∙ (ap (counts k.starts (k.moves + c.visit_next-moves.result)) visits
    ∙ ap (λ (m : ℕ). counts k.starts (k.moves + m) (b.tick - k.skipped + 1)) moves)
