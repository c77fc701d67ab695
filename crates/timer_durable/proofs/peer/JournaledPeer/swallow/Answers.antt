use Rattle.std.proofs.Common.{[], drop, sym, ap, ◌∙◌, append-nil, refl, ◌++◌}
use Rattle.timer_script.specs.Peer.{Went}
use Rattle.timer_script.specs.Service.{came_of, gone_of}
use Rattle.timer_durable.specs.Answers.{answered, begun_in, unseen_of}
use Rattle.timer_durable.specs.Beginning.{preamble_of}
use Rattle.timer_durable.specs.Durable.{came_since, last_told}
use Rattle.timer_durable.proofs.Giving.{since-Went, came-Went, gone-Went, quiet_kept, quiet_lines}
use Rattle.timer_durable.proofs.Growing.{counting_early}
use Rattle.timer_durable.proofs.Replaying.{replaying_call}
use Rattle.timer_durable.proofs.peer.JournaledPeer.swallow.Goals as goal

pub invariant_of-self : goal.invariant_of-self
invariant_of-self g c =
    let s = c.args.self.now in
    let text = c.args.piece.now in
    let gone = ap gone_of c.went.ensures ∙ gone-Went s.calls.so_far text in
    record {
      given_in = s.given_in;
      told_in = s.told_in;
      untold = s.untold;
      ended = s.ended;
      unended = s.unended;
      ended_alive = s.ended_alive;
      dead = s.dead;
      kept = λ alive. quiet_kept _ (preamble_of s.keeping.options.items s.beginning (last_told s.states.so_far)) s.calls.so_far c.went.new.self.so_far (drop s.given s.lines.items) (ap came_since c.went.ensures ∙ since-Went s.calls.so_far text) (s.kept alive);
      lines_are = λ counts. quiet_lines s.start.lines s.so_far.lines s.calls.so_far c.went.new.self.so_far (drop s.given s.lines.items) (ap came_of c.went.ensures ∙ came-Went s.calls.so_far text) (s.lines_are counts);
      answers_are = λ counts. c.answered-answers.ensures.count s.start.answers (gone_of s.calls.so_far) (s.begun_is counts) (s.answers_are counts) ∙ ap (answered s.start.answers) (sym gone);
      begun_is = λ counts. c.answered-answers.ensures.begun (gone_of s.calls.so_far) (s.begun_is counts) ∙ ap begun_in (sym gone);
      swallowed = λ early. c.in-Ok.ensures.ok s.start.answers (gone_of s.calls.so_far) (s.begun_is (counting_early s.is_live s.keeping.every early)) (s.answers_are (counting_early s.is_live s.keeping.every early)) (s.swallowed early)
          ∙ ap (unseen_of s.start.answers s.keeping.seen) (sym gone);
      early = λ early. replaying_call (Went text) c.went.new.self.so_far c.went.ensures refl (s.early early);
      live = λ live. absurd (let early = c.requires in cc);
    }

pub invariant_of-self-in-Err : goal.invariant_of-self-in-Err
invariant_of-self-in-Err g c =
    let s = c.args.self.now in
    let gone = ap gone_of c.went-in-Err.ensures ∙ gone-Went s.calls.so_far [] ∙ append-nil (gone_of s.calls.so_far) in
    record {
      given_in = s.given_in;
      told_in = s.told_in;
      untold = s.untold;
      ended = s.ended;
      unended = s.unended;
      ended_alive = s.ended_alive;
      dead = s.dead;
      kept = λ alive. quiet_kept _ (preamble_of s.keeping.options.items s.beginning (last_told s.states.so_far)) s.calls.so_far c.went-in-Err.new.self.so_far (drop s.given s.lines.items) (ap came_since c.went-in-Err.ensures ∙ since-Went s.calls.so_far []) (s.kept alive);
      lines_are = λ counts. quiet_lines s.start.lines s.so_far.lines s.calls.so_far c.went-in-Err.new.self.so_far (drop s.given s.lines.items) (ap came_of c.went-in-Err.ensures ∙ came-Went s.calls.so_far []) (s.lines_are counts);
      answers_are = λ counts. (s.answers_are counts) ∙ ap (answered s.start.answers) (sym gone);
      begun_is = λ counts. (s.begun_is counts) ∙ ap begun_in (sym gone);
      swallowed = λ early. c.in-Err.ensures.kept ∙ s.swallowed early ∙ ap (unseen_of s.start.answers s.keeping.seen) (sym gone);
      early = λ early. replaying_call (Went []) c.went-in-Err.new.self.so_far c.went-in-Err.ensures refl (s.early early);
      live = λ live. absurd (let early = c.requires in cc);
    }
