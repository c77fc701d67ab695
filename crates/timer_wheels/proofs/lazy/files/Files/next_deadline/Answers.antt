use Rattle.std.proofs.Common.{◌≡◌, ◌+◌, ℕ, subst, arith, min}
use Rattle.timer_wheels.specs.lazy.Files.{IsBy}
use Rattle.timer_wheels.proofs.lazy_lemmas.Deadlines.{least_past, least_one_more, least_of_all, least_by_visit}
use Rattle.timer_wheels.proofs.lazy.files.Files.next_deadline.Goals as goal

pub loop-list-preserved-then-clear-ne0 : goal.loop-list-preserved-then-clear-ne0
loop-list-preserved-then-clear-ne0 g c =
    let w = c.args.self.now in
    let i = c.loop-list.invariant in
    let count = c.buckets_of-count.ensures.value in
    let to : c.min-list.result ≡ min c.buckets_of-count.result (c.loop-list.list + c.clear_from-clear.result) = c.min-list.ensures in
    record {
      at_most = omega (arith, to);
      least = least_past w.files c.loop-list.least c.loop-list.list c.min-list.result (omega (arith, to, c.loop-list-test.true))
          (omega (arith, to, count)) (λ s k m. c.clear_from-clear.ensures.clear s k (omega (arith, to))) i.least;
    }

pub returns-then-is_by : goal.returns-then-is_by
returns-then-is_by g c =
    let w = c.args.self.now in
    least_by_visit w.files c.loop-list.least c.loop-list.list (omega (arith, c.loop-list-test.true, c.buckets_of-count.ensures.value))
    (subst (λ (x : ℕ). IsBy x c.loop-list.least) c.visit_of-visit.ensures (c.is_by.ensures c.if-is_by.true)) c.loop-list.invariant.least

pub loop-list-preserved : goal.loop-list-preserved
loop-list-preserved g c =
    let w = c.args.self.now in
    record {
      at_most = omega (arith, c.loop-list-test.true);
      least = least_one_more w.files c.loop-list.least c.least_in.result c.earlier-least.result c.loop-list.list
          (omega (arith, c.loop-list-test.true, c.buckets_of-count.ensures.value)) c.loop-list.invariant.least c.least_in.ensures
          c.earlier-least.ensures;
    }

pub returns : goal.returns
returns g c =
    let w = c.args.self.now in
    least_of_all w.files c.loop-list.least c.loop-list.list
    (omega (arith, c.loop-list-test.false, c.loop-list.invariant.at_most, c.buckets_of-count.ensures.value)) c.loop-list.invariant.least
