use Rattle.std.proofs.Common.{◌≡◌, ◌+◌, ◌<◌, ◌≤◌, ℕ, arith, rules}
use Rattle.timer_base.proofs.TickLaws.{not_due}
use Rattle.timer_wheels.specs.Buckets.{state_of}
use Rattle.timer_wheels.specs.Tables.{radices}
use Rattle.timer_wheels.proofs.hier_lemmas.Leaps.{advancing_none, advancing_leap, leap_from, leaps_all, advancing_ends, moves_fit}
use Rattle.timer_wheels.proofs.hier.wheels.Wheels.advance_until_due.Goals as goal

pub loop-self-init : goal.loop-self-init
loop-self-init g c = advancing_none c.args.most c.args.self.now c.requires.nothing_due

pub overflow_add-moves : goal.overflow_add-moves
unfolding Rattle.timer_wheels.specs.Tables.wide
overflow_add-moves g c =
    let w = c.loop-self.invariant in
    let l = leap_from w c.leap_to_visit-moves.result c.leap_to_visit-moves.new.self c.leap_to_visit-moves.ensures.leaps in
    let h : c.loop-self.moves + c.leap_to_visit-moves.result < 18446744073709551616 =
    moves_fit (radices c.args.self.now.table) c.loop-self.moves c.leap_to_visit-moves.result (state_of c.args.self.now.buckets)
    (state_of c.loop-self.self.buckets) (state_of c.leap_to_visit-moves.new.self.buckets) w.leaps l c.requires.few in
    search rules

pub returns-then-has_due-clause-leaps : goal.returns-then-has_due-clause-leaps
returns-then-has_due-clause-leaps g c = leaps_all c.loop-self.invariant c.leap_to_visit-moves.result
    c.leap_to_visit-moves.new.self c.leap_to_visit-moves.ensures.leaps

passed_on : (a p b c : ℕ) → b ≡ a + p → b < c → a < c
passed_on a p b c e h = omega arith

pub returns-then-has_due-clause-advances : goal.returns-then-has_due-clause-advances
returns-then-has_due-clause-advances g c =
    let w = c.loop-self.invariant in
    let n = c.leap_to_visit-moves.new.self.buckets in
    advancing_ends (radices c.args.self.now.table) c.args.most (c.loop-self.moves + c.leap_to_visit-moves.result)
    (state_of c.args.self.now.buckets) (state_of n) (leaps_all w c.leap_to_visit-moves.result c.leap_to_visit-moves.new.self
    c.leap_to_visit-moves.ensures.leaps)
    (passed_on c.args.self.now.buckets.tick w.leaps.passed c.loop-self.self.buckets.tick n.tick w.leaps.now_is
    c.leap_to_visit-moves.ensures.later) c.leap_to_visit-moves.ensures.end (λ h. c.has_due.ensures.0 c.if-has_due.true)

pub loop-self-preserved : goal.loop-self-preserved
loop-self-preserved g c = advancing_leap c.loop-self.invariant c.leap_to_visit-moves.result c.leap_to_visit-moves.new.self
    c.leap_to_visit-moves.ensures.leaps c.leap_to_visit-moves.ensures.table
    (not_due (state_of c.leap_to_visit-moves.new.self.buckets).due c.has_due.result c.has_due.ensures c.if-has_due.false)
    c.leap_to_visit-moves.ensures.end

pub returns-clause-advances : goal.returns-clause-advances
returns-clause-advances g c =
    let w = c.loop-self.invariant in
    let p : 0 < c.args.most = c.requires.some in
    let n : c.loop-self.self.buckets.tick ≤ c.args.self.now.buckets.tick + c.args.most = w.not_past in
    let t : c.args.self.now.buckets.tick + c.args.most ≤ c.loop-self.self.buckets.tick = c.loop-self-test.false in
    advancing_ends (radices c.args.self.now.table) c.args.most c.loop-self.moves (state_of c.args.self.now.buckets)
    (state_of c.loop-self.self.buckets) w.leaps (omega arith) n (λ h. absurd (omega arith))
