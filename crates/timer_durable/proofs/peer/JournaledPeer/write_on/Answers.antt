use Rattle.std.proofs.Common.{◌≡◌, ◌||◌, [], ◌∷◌, ◌++◌, drop, sym, subst, ap, ◌∙◌}
use Rattle.std.specs.Io.KnownBytes.{IsAtEnd}
use Rattle.timer_script.specs.Peer.{Went}
use Rattle.timer_script.specs.Service.{came_of, gone_of}
use Rattle.timer_durable.specs.Answers.{answered, begun_in}
use Rattle.timer_durable.specs.Beginning.{preamble_of}
use Rattle.timer_durable.specs.Durable.{came_since, last_told, origin_of}
use Rattle.timer_durable.proofs.Giving.{since-Went, came-Went, gone-Went, quiet_kept, quiet_lines}
use Rattle.timer_durable.proofs.Growing.{counting_live}
use Rattle.timer_durable.proofs.Replaying.{takes_text, replayed_call, write_seen}
use Rattle.timer_script.specs.Watched.{took_nothing}
use Rattle.timer_durable.proofs.peer.JournaledPeer.write_on.Goals as goal
use Rattle.timer_durable.proofs.peer.JournaledPeer.write_on.Goals.{then-self, else-self}

pub invariant_of-self : goal.invariant_of-self
invariant_of-self g c =
    let s = c.args.self.now in
    let text = c.taken-text.result.now in
    let gone = ap gone_of c.went.ensures ∙ gone-Went s.calls.so_far text in
    record {
      given_in = s.given_in;
      told_in = s.told_in;
      untold = s.untold;
      ended = λ ended. subst IsAtEnd (sym c.write-result.ensures.remaining) (s.ended ended);
      unended = s.unended;
      ended_alive = s.ended_alive;
      dead = s.dead;
      kept = λ alive. quiet_kept _ (preamble_of s.keeping.options.items s.beginning (last_told s.states.so_far)) s.calls.so_far c.went.new.self.so_far (drop s.given s.lines.items) (ap came_since c.went.ensures ∙ since-Went s.calls.so_far text) (s.kept alive);
      lines_are = λ counts. quiet_lines s.start.lines s.so_far.lines s.calls.so_far c.went.new.self.so_far (drop s.given s.lines.items) (ap came_of c.went.ensures ∙ came-Went s.calls.so_far text) (s.lines_are counts);
      answers_are = λ counts. c.answered_if-answers.ensures.count (counting_live s.is_live s.keeping.every c.requires counts) s.start.answers (gone_of s.calls.so_far) (s.begun_is counts) (s.answers_are counts) ∙ ap (answered s.start.answers) (sym gone);
      begun_is = λ counts. c.answered_if-answers.ensures.begun (counting_live s.is_live s.keeping.every c.requires counts) (gone_of s.calls.so_far) (s.begun_is counts) ∙ ap begun_in (sym gone);
      early = λ early. absurd (let live = c.requires in cc);
      live = λ live. replayed_call (g.P.Peer.state s.peer).contents (g.P.Peer.state c.write-result.new.self).contents (Went text) c.went.new.self.so_far
          s.read_failed c.went.ensures (takes_text _ _ c.write-result.result c.args.piece.now text c.write-result.ensures.bytes c.taken-text.ensures)
          (λ fine. fine) (s.live live);
      swallowed = λ early. absurd (let live = c.requires in cc);
    }

pub returns-clause-takes : goal.returns-clause-takes
returns-clause-takes g c =
    let s = c.args.self.now in
    let nothing = took_nothing c.write-result.result c.args.piece.now in
    let failed : c.if-self.self ≡ (s.write_failed || nothing) = elim c.if-self.branch [
      | then-self w ↦ w.self-is ∙ w.if-self.true ∙ ap (λ b. b || nothing) (sym w.if-self.true)
      | else-self w ↦ w.self-is ∙ w.takes_nothing-self.ensures ∙ ap (λ b. b || nothing) (sym w.if-self.false)
    ] in
    write_seen c.write-result.result c.args.piece.now (drop s.given s.lines.items) (drop s.told s.front.items) (g.P.Peer.state s.peer)
    (g.P.Peer.state c.write-result.new.self) s.calls.so_far c.went.new.self.so_far s.read_failed s.write_failed c.if-self.self
    (origin_of s.start s.keeping.seen s.first.at) c.write-result.ensures
    (c.went.ensures ∙ ap (λ t. s.calls.so_far ++ Went t ∷ []) c.taken-text.ensures) failed
