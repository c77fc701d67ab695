use Rattle.std.proofs.Common.{refl, ◌≡◌, drop, [], ◌++◌, ◌∷◌, length, take, ap, ◌∙◌, arith}
use Rattle.std.specs.Io.KnownBytes.{prepend_known}
use Rattle.timer_script.specs.Peer.{Came}
use Rattle.timer_durable.specs.Answers.{unseen_of}
use Rattle.timer_durable.specs.Beginning.{preamble_of}
use Rattle.timer_durable.specs.Durable.{last_told, origin_of}
use Rattle.timer_durable.proofs.Giving.{unseen_Came, answers_Came, begun_Came, gives_read}
use Rattle.timer_durable.proofs.Growing.{none_came, no_line_came}
use Rattle.timer_durable.proofs.Replaying.{replaying_call, replayed_failed}
use Rattle.timer_durable.proofs.peer.JournaledPeerPeer.read.Goals as goal

pub invariant_of-self : goal.invariant_of-self
invariant_of-self g c =
    let s = c.prepare.new.self in
    record {
      given_in = s.given_in;
      told_in = s.told_in;
      untold = s.untold;
      ended = s.ended;
      unended = s.unended;
      ended_alive = s.ended_alive;
      dead = s.dead;
      kept = λ alive. none_came _ (preamble_of s.keeping.options.items s.beginning (last_told s.states.so_far)) s.calls.so_far c.came.new.self.so_far (drop s.given s.lines.items)
          c.came.ensures (s.kept alive);
      lines_are = λ counts. no_line_came s.start.lines s.so_far.lines s.calls.so_far c.came.new.self.so_far (drop s.given s.lines.items) c.came.ensures (s.lines_are counts);
      answers_are = λ counts. answers_Came s.start.answers s.so_far.answers s.calls.so_far c.came.new.self.so_far [] c.came.ensures (s.answers_are counts);
      begun_is = λ counts. begun_Came s.begun s.calls.so_far c.came.new.self.so_far [] c.came.ensures (s.begun_is counts);
      early = λ early. replaying_call (Came []) c.came.new.self.so_far c.came.ensures refl (s.early early);
      live = λ live. replayed_failed c.came.new.self.so_far c.came.ensures (s.live live);
      swallowed = λ early. unseen_Came s.unseen.items (unseen_of s.start.answers s.keeping.seen) s.calls.so_far c.came.new.self.so_far [] c.came.ensures (s.swallowed early);
    }

pub returns-in-Ok-clause-gives : goal.returns-in-Ok-clause-gives
returns-in-Ok-clause-gives g c =
    let s = c.args.self.now in
    let p = c.prepare.new.self in
    let q = c.give.new.self in
    let was = c.in-Ok.ensures in
    let e = c.give.ensures in
    let long : length c.give.new.piece ≡ length c.prepare.new.piece = c.give.auto.piece in
    gives_read (drop s.given s.lines.items) (drop q.given q.lines.items) (drop s.told s.front.items) (drop q.told q.front.items) (g.P.Peer.state s.peer) (g.P.Peer.state q.peer)
    (prepend_known (drop p.given p.lines.items ++ drop p.told p.front.items) (g.P.Peer.state p.peer).remaining) s.calls.so_far q.calls.so_far
    s.read_failed q.read_failed s.write_failed q.write_failed (origin_of s.start s.keeping.seen s.first.at) (origin_of q.start q.keeping.seen q.first.at) c.give.result c.give.new.piece
    (omega (arith, e.within, long)) was.bytes e.bytes (λ none some. e.end none (omega (arith, some, long)))
    (e.noted ∙ ap (λ k. k ++ Came (take c.give.result c.give.new.piece) ∷ []) (ap (λ k. k.so_far) was.same.3)) (e.same.4 ∙ was.reading) (e.same.5 ∙ was.same.5)
    (λ i. origin_of ((e.same.6 ∙ was.same.1) i) ((e.same.7 ∙ was.same.0) i).seen ((e.same.8 ∙ was.same.4) i).at)
