use Rattle.std.proofs.Common.{◌≡◌, ◌++◌, sym, ap, ◌∙◌, append-nil, refl, arith}
use Rattle.timer_script.specs.Service.{came_of, gone_of}
use Rattle.timer_durable.specs.Answers.{counted, answered, begun_in, unseen_of}
use Rattle.timer_durable.specs.Beginning.{preamble_of}
use Rattle.timer_durable.specs.Durable.{came_since, last_told}
use Rattle.timer_durable.proofs.Counting.{nothing_unseen, counted_nothing}
use Rattle.timer_durable.proofs.Giving.{last-Told}
use Rattle.timer_durable.proofs.peer.JournaledPeer.new.Goals as goal

pub invariant_of-result : goal.invariant_of-result
invariant_of-result g c =
    let kept = c.args.kept in
    let (at, (alive, (counted_so, text))) = c.requires.1.1 in
    let state : last_told c.told.new.self.so_far ≡ kept.state.items =
    ap last_told c.told.ensures ∙ last-Told c.new-states.result.so_far c.deref.result.now ∙ c.deref.ensures.value in
    let calls = c.new-3.ensures in
    record {
      given_in = omega arith;
      told_in = omega arith;
      untold = λ early. refl;
      ended = λ ended. absurd cc;
      unended = λ ended. absurd cc;
      ended_alive = λ ended. absurd cc;
      dead = λ dead. absurd (let open_now = alive in cc);
      kept = λ alive. append-nil _ ∙ text
          ∙ (λ i. preamble_of c.args.keeping.options.items kept.beginning (sym state i) ++ (came_since (sym calls i) ++ kept.lines.items));
      lines_are = λ counts. c.counted.ensures ∙ (λ i. counted kept.beginning.lines (came_of (sym calls i) ++ c.deref-2.ensures.value i));
      answers_are = λ counts. counted_nothing kept.beginning.answers (omega (arith, counted_so.1)) ∙ ap (λ l. answered kept.beginning.answers (gone_of l)) (sym calls);
      begun_is = λ counts. ap (λ l. begun_in (gone_of l)) (sym calls);
      early = λ early. record {
        untouched = ap (λ a. a.contents) (sym at ∙ sym c.new-first.ensures);
        untold = ap gone_of c.new-5.ensures;
        lines = ap (λ l. came_of l ++ kept.lines.items) calls ∙ ap (λ a. a.lines) (sym at ∙ sym c.new-first.ensures);
        early = refl;
      };
      live = λ live. absurd cc;
      swallowed = λ early. c.new-2.ensures.items ∙ nothing_unseen kept.beginning.answers c.args.keeping.seen
          ∙ ap (λ l. unseen_of kept.beginning.answers c.args.keeping.seen (gone_of l)) (sym calls);
    }
