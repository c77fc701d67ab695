use Rattle.std.proofs.Common.{◌≡◌, ◌∙◌, ap, subst, refl, inr, length, arith}
use Rattle.timer_desk.specs.Desk.{clients_of}
use Rattle.timer_desk.specs.Driver.{NoneRanOut, AllCounted, steps_with, is_served}
use Rattle.timer_desk.proofs.DriverLemmas.{steps_in_range}
use Rattle.timer_desk.proofs.driver.one_turn.Goals as goal

pub turn-requires : goal.turn-requires
turn-requires g c =
    let n : length c.deref.result.now ≡ clients_of c.args.desk.now =
    omega (arith, ap (λ ps. length ps) c.deref.ensures.value, c.requires.clients, c.args.progress.now.ok) in
    rw (c.deref-2.ensures.value ∙ c.in-Ok.ensures, n)
    (steps_in_range (is_served c.args.goal c.deref.result.now) (clients_of c.args.desk.now))

pub returns-then-ran_out-clause-turned : goal.returns-then-ran_out-clause-turned
returns-then-ran_out-clause-turned g c =
    let before = c.args.progress.now.items in
    let after = c.count_report-passed.new.all.items in
    inr (record {
      turn = c.in-Ok-turn.report.items;
      holds = c.in-Ok-turn.ensures.ok.holds;
      steps = c.in-Ok-turn.ensures.ok.steps_are ∙ c.deref-2.ensures.value ∙ c.in-Ok.ensures
          ∙ ap (λ ps. steps_with (is_served c.args.goal ps) (length ps)) c.deref.ensures.value;
      memory = λ is. absurd (cc);
      counted = subst (λ r. AllCounted c.args.goal r before after) c.deref-3.ensures.value c.count_report-passed.ensures.counted;
    })

pub returns-then-passed-clause-turned : goal.returns-then-passed-clause-turned
returns-then-passed-clause-turned g c =
    let before = c.args.progress.now.items in
    let after = c.count_report-passed.new.all.items in (
      rw c.recycle.ensures (record {
        turn = c.in-Ok-turn.report.items;
        holds = c.in-Ok-turn.ensures.ok.holds;
        steps = c.in-Ok-turn.ensures.ok.steps_are ∙ c.deref-2.ensures.value ∙ c.in-Ok.ensures
            ∙ ap (λ ps. steps_with (is_served c.args.goal ps) (length ps)) c.deref.ensures.value;
        memory = λ _. subst NoneRanOut c.deref-4.ensures.value (c.if-ran_out.ensures.0 refl);
        counted = subst (λ r. AllCounted c.args.goal r before after) c.deref-3.ensures.value c.if-passed.ensures.counted;
      }),
      c.if-passed.ensures.fewer refl,
    )

pub returns-else-passed-clause-turned : goal.returns-else-passed-clause-turned
returns-else-passed-clause-turned g c =
    let before = c.args.progress.now.items in
    let after = c.count_report-passed.new.all.items in (
      rw c.recycle.ensures (record {
        turn = c.in-Ok-turn.report.items;
        holds = c.in-Ok-turn.ensures.ok.holds;
        steps = c.in-Ok-turn.ensures.ok.steps_are ∙ c.deref-2.ensures.value ∙ c.in-Ok.ensures
            ∙ ap (λ ps. steps_with (is_served c.args.goal ps) (length ps)) c.deref.ensures.value;
        memory = λ _. subst NoneRanOut c.deref-4.ensures.value (c.if-ran_out.ensures.0 refl);
        counted = subst (λ r. AllCounted c.args.goal r before after) c.deref-3.ensures.value c.if-passed.ensures.counted;
      }),
      c.if-passed.ensures.same refl,
    )
