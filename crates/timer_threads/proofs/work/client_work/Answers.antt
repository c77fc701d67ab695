use Rattle.std.proofs.Common.{true, false, refl, ◌∙◌, sym, subst, arith}
use Rattle.timer_desk.specs.RingEnds.{next_of}
use Rattle.timer_threads.specs.Client.{work_left, turns_by}
use Rattle.timer_threads.specs.Work.{HasWorked, AreClientTurns}
use Rattle.timer_threads.proofs.ClientLemmas.{less_to_do, nearer_the_limit, goes_on}
use Rattle.timer_threads.proofs.TurnLemmas.{AreClientTurns-more, idle_after}
use Rattle.timer_threads.proofs.work.client_work.Goals as goal
use Rattle.timer_threads.proofs.work.client_work.Goals.{else-loop-idle-test, then-loop-idle-test+else-not-is_over}

pub loop-idle-init : goal.loop-idle-init
loop-idle-init g c =
    let new = c.new-client.ensures in record {
      sound = new.sound;
      at_work = new.at_work;
      recorded = new.recorded;
      count = new.count;
      taken = rw new.none (λ k l. absurd (omega (arith, l)));
      idle_is = rw new.none refl;
      asked = rw new.none (λ k t l. absurd (omega (arith, l)));
      within = omega arith;
    }

pub loop-idle-smaller-then-work_once : goal.loop-idle-smaller-then-work_once
loop-idle-smaller-then-work_once g c =
    less_to_do (work_left c.loop-idle.client) (work_left c.work_once.new.self) c.args.limit c.loop-idle.idle c.if-work_once.ensures.left

pub loop-idle-preserved-then-work_once : goal.loop-idle-preserved-then-work_once
loop-idle-preserved-then-work_once g c =
    let was = c.loop-idle.invariant in
    let turn = c.if-work_once.ensures.turn in
    let on = goes_on c.args.end c.args.count c.args.limit c.loop-idle.idle c.loop-idle.client was.count was.sound was.at_work
    was.recorded (sym c.if-not-is_over.ensures) was.idle_is c.loop-idle-test.true in record {
      sound = c.work_once.ensures.sound;
      at_work = c.work_once.ensures.at_work c.args.end was.at_work;
      recorded = c.work_once.ensures.recorded c.args.end was.recorded;
      count = c.work_once.ensures.count ∙ was.count;
      taken = AreClientTurns-more (next_of c.args.end) c.args.count c.args.limit (turns_by c.loop-idle.client) (turns_by c.work_once.new.self)
          turn.turn turn.added was.taken on;
      idle_is = idle_after (turns_by c.loop-idle.client) (turns_by c.work_once.new.self) turn.turn true c.loop-idle.idle turn.added
          turn.busy_is was.idle_is;
      asked = c.work_once.ensures.asked c.args.end was.at_work was.recorded was.asked;
      within = omega arith;
    }

pub loop-idle-smaller : goal.loop-idle-smaller
loop-idle-smaller g c =
    nearer_the_limit (work_left c.loop-idle.client) (work_left c.work_once.new.self) c.args.limit c.loop-idle.idle
    c.loop-idle-test.true c.if-work_once.ensures.left

pub loop-idle-preserved : goal.loop-idle-preserved
loop-idle-preserved g c =
    let was = c.loop-idle.invariant in
    let turn = c.if-work_once.ensures.turn in
    let on = goes_on c.args.end c.args.count c.args.limit c.loop-idle.idle c.loop-idle.client was.count was.sound was.at_work
    was.recorded (sym c.if-not-is_over.ensures) was.idle_is c.loop-idle-test.true in record {
      sound = c.work_once.ensures.sound;
      at_work = c.work_once.ensures.at_work c.args.end was.at_work;
      recorded = c.work_once.ensures.recorded c.args.end was.recorded;
      count = c.work_once.ensures.count ∙ was.count;
      taken = AreClientTurns-more (next_of c.args.end) c.args.count c.args.limit (turns_by c.loop-idle.client) (turns_by c.work_once.new.self)
          turn.turn turn.added was.taken on;
      idle_is = idle_after (turns_by c.loop-idle.client) (turns_by c.work_once.new.self) turn.turn false c.loop-idle.idle turn.added
          turn.busy_is was.idle_is;
      asked = c.work_once.ensures.asked c.args.end was.at_work was.recorded was.asked;
      within = omega (arith, c.loop-idle-test.true);
    }

pub returns-clause-line : goal.returns-clause-line
returns-clause-line g c = c.finish.ensures.line c.args.end c.loop-idle.invariant.at_work

pub returns-clause-worked : goal.returns-clause-worked
returns-clause-worked g c =
    let was = c.loop-idle.invariant in
    subst (λ n. HasWorked n c.args.limit c.args.end c.finish.result) was.count
    (c.finish.ensures.worked c.args.end c.args.limit was.at_work was.recorded
    (subst (λ n. AreClientTurns (next_of c.args.end) n c.args.limit (turns_by c.loop-idle.client)) (sym was.count) was.taken) was.idle_is
    (λ not_over. elim c.loop-idle-test.branch [
      | else-loop-idle-test w ↦ omega (arith, was.within, w.loop-idle-test.false)
      | then-loop-idle-test+else-not-is_over w ↦ absurd (let over = w.if-not-is_over.ensures in cc)
    ]))
