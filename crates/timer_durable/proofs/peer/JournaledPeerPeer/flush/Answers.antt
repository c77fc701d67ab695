use Rattle.std.proofs.Common.{drop, sym, subst, ap, ◌∙◌, refl, []}
use Rattle.std.specs.Io.KnownBytes.{IsAtEnd}
use Rattle.timer_script.specs.Peer.{Flush}
use Rattle.timer_script.specs.Service.{came_of, gone_of}
use Rattle.timer_durable.specs.Answers.{answered, begun_in, unseen_of}
use Rattle.timer_durable.specs.Beginning.{preamble_of}
use Rattle.timer_durable.specs.Durable.{came_since, last_told}
use Rattle.timer_durable.proofs.Giving.{since-Flush, came-Flush, gone-Flush, quiet_kept, quiet_lines}
use Rattle.timer_durable.proofs.Replaying.{replaying_call, replayed_quiet, replayed_flush}
use Rattle.timer_durable.proofs.peer.JournaledPeerPeer.flush.Goals as goal

pub invariant_of-self : goal.invariant_of-self
invariant_of-self g c =
    let s = c.args.self.now in
    record {
      given_in = s.given_in;
      told_in = s.told_in;
      untold = s.untold;
      ended = s.ended;
      unended = s.unended;
      ended_alive = s.ended_alive;
      dead = s.dead;
      kept = λ alive. quiet_kept _ (preamble_of s.keeping.options.items s.beginning (last_told s.states.so_far)) s.calls.so_far c.flushed.new.self.so_far (drop s.given s.lines.items) (ap came_since c.flushed.ensures ∙ since-Flush s.calls.so_far) (s.kept alive);
      lines_are = λ counts. quiet_lines s.start.lines s.so_far.lines s.calls.so_far c.flushed.new.self.so_far (drop s.given s.lines.items) (ap came_of c.flushed.ensures ∙ came-Flush s.calls.so_far) (s.lines_are counts);
      answers_are = λ counts. (s.answers_are counts) ∙ ap (answered s.start.answers) (sym (ap gone_of c.flushed.ensures ∙ gone-Flush s.calls.so_far));
      begun_is = λ counts. (s.begun_is counts) ∙ ap begun_in (sym (ap gone_of c.flushed.ensures ∙ gone-Flush s.calls.so_far));
      early = λ early. replaying_call Flush c.flushed.new.self.so_far c.flushed.ensures refl (s.early early);
      live = λ live. replayed_quiet Flush c.flushed.new.self.so_far c.flushed.ensures refl (s.live live);
      swallowed = λ early. s.swallowed early ∙ ap (unseen_of s.start.answers s.keeping.seen) (sym (ap gone_of c.flushed.ensures ∙ gone-Flush s.calls.so_far));
    }

pub invariant_of-self-then-is_err : goal.invariant_of-self-then-is_err
invariant_of-self-then-is_err g c =
    let s = c.args.self.now in
    record {
      given_in = s.given_in;
      told_in = s.told_in;
      untold = s.untold;
      ended = λ ended. subst IsAtEnd (sym c.flush-result.ensures.remaining) (s.ended ended);
      unended = s.unended;
      ended_alive = s.ended_alive;
      dead = s.dead;
      kept = λ alive. quiet_kept _ (preamble_of s.keeping.options.items s.beginning (last_told s.states.so_far)) s.calls.so_far c.flushed.new.self.so_far (drop s.given s.lines.items) (ap came_since c.flushed.ensures ∙ since-Flush s.calls.so_far) (s.kept alive);
      lines_are = λ counts. quiet_lines s.start.lines s.so_far.lines s.calls.so_far c.flushed.new.self.so_far (drop s.given s.lines.items) (ap came_of c.flushed.ensures ∙ came-Flush s.calls.so_far) (s.lines_are counts);
      answers_are = λ counts. (s.answers_are counts) ∙ ap (answered s.start.answers) (sym (ap gone_of c.flushed.ensures ∙ gone-Flush s.calls.so_far));
      begun_is = λ counts. (s.begun_is counts) ∙ ap begun_in (sym (ap gone_of c.flushed.ensures ∙ gone-Flush s.calls.so_far));
      early = λ early. absurd (let live = c.if-not-self.false in cc);
      live = λ live. replayed_flush (g.P.Peer.state s.peer).contents (g.P.Peer.state c.flush-result.new.self).contents c.flushed.new.self.so_far c.flushed.ensures
          c.flush-result.ensures.bytes (s.live live);
      swallowed = λ early. s.swallowed early ∙ ap (unseen_of s.start.answers s.keeping.seen) (sym (ap gone_of c.flushed.ensures ∙ gone-Flush s.calls.so_far));
    }

pub invariant_of-self-else-is_err : goal.invariant_of-self-else-is_err
invariant_of-self-else-is_err g c =
    let s = c.args.self.now in
    record {
      given_in = s.given_in;
      told_in = s.told_in;
      untold = s.untold;
      ended = λ ended. subst IsAtEnd (sym c.flush-result.ensures.remaining) (s.ended ended);
      unended = s.unended;
      ended_alive = s.ended_alive;
      dead = s.dead;
      kept = λ alive. quiet_kept _ (preamble_of s.keeping.options.items s.beginning (last_told s.states.so_far)) s.calls.so_far c.flushed.new.self.so_far (drop s.given s.lines.items) (ap came_since c.flushed.ensures ∙ since-Flush s.calls.so_far) (s.kept alive);
      lines_are = λ counts. quiet_lines s.start.lines s.so_far.lines s.calls.so_far c.flushed.new.self.so_far (drop s.given s.lines.items) (ap came_of c.flushed.ensures ∙ came-Flush s.calls.so_far) (s.lines_are counts);
      answers_are = λ counts. (s.answers_are counts) ∙ ap (answered s.start.answers) (sym (ap gone_of c.flushed.ensures ∙ gone-Flush s.calls.so_far));
      begun_is = λ counts. (s.begun_is counts) ∙ ap begun_in (sym (ap gone_of c.flushed.ensures ∙ gone-Flush s.calls.so_far));
      early = λ early. absurd (let live = c.if-not-self.false in cc);
      live = λ live. replayed_flush (g.P.Peer.state s.peer).contents (g.P.Peer.state c.flush-result.new.self).contents c.flushed.new.self.so_far c.flushed.ensures
          c.flush-result.ensures.bytes (s.live live);
      swallowed = λ early. s.swallowed early ∙ ap (unseen_of s.start.answers s.keeping.seen) (sym (ap gone_of c.flushed.ensures ∙ gone-Flush s.calls.so_far));
    }
