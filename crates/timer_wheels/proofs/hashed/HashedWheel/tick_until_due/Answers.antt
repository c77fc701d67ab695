use Rattle.std.proofs.Common.{◌≤◌, arith}
use Rattle.timer_base.proofs.TickLaws.{passing_none, nothing_due, before_last, passing_more, not_due, stops_early, passes_all}
use Rattle.timer_wheels.specs.Buckets.{state_of}
use Rattle.timer_wheels.proofs.hashed.HashedWheel.tick_until_due.Goals as goal

pub loop-passed-init : goal.loop-passed-init
loop-passed-init c = record { passing = passing_none (state_of c.args.self.now.buckets) c.requires.nothing_due }

pub per_tick-requires-clause-nothing_due : goal.per_tick-requires-clause-nothing_due
per_tick-requires-clause-nothing_due c = nothing_due c.loop-passed.passed (state_of c.args.self.now.buckets)
    (state_of c.loop-passed.self.buckets) c.loop-passed.invariant.passing

pub per_tick-requires-clause-before_last : goal.per_tick-requires-clause-before_last
per_tick-requires-clause-before_last c = before_last c.loop-passed.passed c.args.most (state_of c.args.self.now.buckets)
    (state_of c.loop-passed.self.buckets) c.loop-passed.invariant.passing c.loop-passed-test.true c.requires.before_last

pub loop-passed-preserved : goal.loop-passed-preserved
loop-passed-preserved c = record {
  passing = passing_more c.loop-passed.passed (state_of c.args.self.now.buckets) (state_of c.loop-passed.self.buckets)
      (state_of c.per_tick.new.self.buckets) c.loop-passed.invariant.passing c.per_tick.ensures.ticked
      (not_due (state_of c.per_tick.new.self.buckets).due c.has_due.result c.has_due.ensures c.if-has_due.false);
}

pub returns-then-has_due : goal.returns-then-has_due
returns-then-has_due c = stops_early c.loop-passed.passed c.args.most (state_of c.args.self.now.buckets)
    (state_of c.loop-passed.self.buckets) (state_of c.per_tick.new.self.buckets) c.loop-passed.invariant.passing c.loop-passed-test.true
    c.per_tick.ensures.ticked (c.has_due.ensures.0 c.if-has_due.true)

pub returns : goal.returns
returns c = let a : c.args.most ≤ c.loop-passed.passed = c.loop-passed-test.false
    in passes_all c.loop-passed.passed c.args.most (state_of c.args.self.now.buckets)
    (state_of c.loop-passed.self.buckets) c.loop-passed.invariant.passing c.requires.some (omega arith)
