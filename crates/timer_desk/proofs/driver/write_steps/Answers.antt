use Rattle.std.proofs.Common.{rules, ◌∙◌, ap}
use Rattle.std.proofs.lemmas.Bool.{lt-ltb, le-ltb}
use Rattle.timer_desk.specs.Driver.{is_served}
use Rattle.timer_desk.proofs.DriverLemmas.{serves_more, serves_same, flushes_more}
use Rattle.timer_desk.proofs.driver.write_steps.Goals as goal
use Rattle.timer_desk.proofs.driver.write_steps.Goals.{then-reached-goal, else-reached-goal}

pub loop-client-preserved : goal.loop-client-preserved
loop-client-preserved c =
    let was = c.loop-client.invariant in
    elim c.if-reached-goal.branch [
      | then-reached-goal w ↦ record {
        serves = ap (λ v. v.items) w.steps-is ∙ w.push_reserved.ensures.items ∙ serves_more (is_served c.args.goal c.args.progress.now) c.loop-client.client
            c.loop-client.steps.items was.serves (lt-ltb _ c.args.goal w.if-reached-goal.true);
        capacity = search rules;
        len = search rules;
      }
      | else-reached-goal w ↦ record {
        serves = ap (λ v. v.items) w.steps-is ∙ serves_same (is_served c.args.goal c.args.progress.now) c.loop-client.client
            c.loop-client.steps.items was.serves (le-ltb _ c.args.goal w.if-reached-goal.false);
        capacity = search rules;
        len = search rules;
      }
    ]

pub loop-client-2-preserved : goal.loop-client-2-preserved
loop-client-2-preserved c =
    let was = c.loop-client-2.invariant in record {
      flushes = c.push_reserved-in-loop-client-2.ensures.items ∙ flushes_more c.loop-client-2.client _ c.loop-client-2.steps.items was.flushes;
      capacity = search rules;
      len = search rules;
    }
