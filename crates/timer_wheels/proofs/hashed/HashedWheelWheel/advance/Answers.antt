use Rattle.std.proofs.Common.{◌≡◌, ◌≤◌, ◌+◌, ◌-◌, arith, [], min}
use Rattle.timer_base.specs.WheelState.{IsPassing}
use Rattle.timer_base.proofs.TickLaws.{not_due}
use Rattle.timer_wheels.specs.Buckets.{state_of}
use Rattle.timer_wheels.proofs.hashed_lemmas.RevolutionLemmas.{passing_on, passing_from, passing_skip, advances_on, room_left, turn_fits}
use Rattle.timer_wheels.proofs.hashed.HashedWheelWheel.advance.Goals as goal

pub tick_until_due-passed-requires-clause-before_last : goal.tick_until_due-passed-requires-clause-before_last
tick_until_due-passed-requires-clause-before_last c =
    let w = c.loop-passed.invariant in
    let r : c.args.most - c.loop-passed.passed ≤ (state_of c.loop-passed.self.buckets).last_tick -
    (state_of c.loop-passed.self.buckets).now =
    room_left c.loop-passed.passed c.args.most (state_of c.args.self.now.buckets)
    (state_of c.loop-passed.self.buckets) w.passing w.at_most c.requires.before_last in
    let m : c.min.result ≡ min c.slots-revolution.result (c.args.most - c.loop-passed.passed) = c.min.ensures in
    omega arith

pub returns-then-has_due-clause-advances : goal.returns-then-has_due-clause-advances
returns-then-has_due-clause-advances c =
    let w = c.loop-passed.invariant in
    let mid = state_of c.loop-passed.self.buckets in
    let new = state_of c.tick_until_due-passed.new.self.buckets in
    advances_on c.loop-passed.passed c.min.result c.tick_until_due-passed.result c.args.most
    (state_of c.args.self.now.buckets) mid new w.passing c.tick_until_due-passed.ensures
    (turn_fits c.loop-passed.passed c.slots-revolution.result c.min.result c.tick_until_due-passed.result c.args.most mid new w.at_most
    c.min.ensures c.tick_until_due-passed.ensures)
    (c.has_due.ensures.0 c.if-has_due.true)

pub skip_revolutions-passed-requires-clause-nothing_due : goal.skip_revolutions-passed-requires-clause-nothing_due
skip_revolutions-passed-requires-clause-nothing_due c =
    not_due (state_of c.tick_until_due-passed.new.self.buckets).due c.has_due.result c.has_due.ensures c.if-has_due.false

pub skip_revolutions-passed-requires-clause-before_last : goal.skip_revolutions-passed-requires-clause-before_last
skip_revolutions-passed-requires-clause-before_last c =
    let w = c.loop-passed.invariant in
    let old = state_of c.args.self.now.buckets in
    let mid = state_of c.loop-passed.self.buckets in
    let new = state_of c.tick_until_due-passed.new.self.buckets in
    let due : new.due ≡ [] = not_due new.due c.has_due.result c.has_due.ensures c.if-has_due.false in
    let turn = passing_from c.min.result c.tick_until_due-passed.result mid new c.tick_until_due-passed.ensures due in
    room_left (c.loop-passed.passed + c.tick_until_due-passed.result) c.args.most old new
    (passing_on c.loop-passed.passed c.tick_until_due-passed.result old mid new w.passing turn)
    (turn_fits c.loop-passed.passed c.slots-revolution.result c.min.result c.tick_until_due-passed.result c.args.most mid new w.at_most
    c.min.ensures c.tick_until_due-passed.ensures)
    c.requires.before_last

pub loop-passed-preserved : goal.loop-passed-preserved
loop-passed-preserved c =
    let w = c.loop-passed.invariant in
    let old = state_of c.args.self.now.buckets in
    let mid = state_of c.loop-passed.self.buckets in
    let new = state_of c.tick_until_due-passed.new.self.buckets in
    let end = state_of c.skip_revolutions-passed.new.buckets in
    let due : new.due ≡ [] = not_due new.due c.has_due.result c.has_due.ensures c.if-has_due.false in
    let turn : IsPassing c.tick_until_due-passed.result mid new =
    passing_from c.min.result c.tick_until_due-passed.result mid new c.tick_until_due-passed.ensures due in
    let skip : IsPassing c.skip_revolutions-passed.result new end =
    passing_skip c.skip_revolutions-passed.result new end due c.skip_revolutions-passed.ensures.quiet
    c.skip_revolutions-passed.ensures.skipped in
    let at : IsPassing (c.loop-passed.passed + c.tick_until_due-passed.result) old new =
    passing_on c.loop-passed.passed c.tick_until_due-passed.result old mid new w.passing turn in
    let fits : c.loop-passed.passed + c.tick_until_due-passed.result ≤ c.args.most =
    turn_fits c.loop-passed.passed c.slots-revolution.result c.min.result c.tick_until_due-passed.result c.args.most mid new w.at_most
    c.min.ensures c.tick_until_due-passed.ensures in
    let less : c.skip_revolutions-passed.result ≤ c.args.most - (c.loop-passed.passed + c.tick_until_due-passed.result) =
    c.skip_revolutions-passed.ensures.at_most in
    record {
      passing = passing_on (c.loop-passed.passed + c.tick_until_due-passed.result) c.skip_revolutions-passed.result old new end at skip;
      at_most = omega arith;
    }
