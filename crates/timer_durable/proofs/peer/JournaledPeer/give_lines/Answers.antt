use Rattle.std.proofs.Common.{refl, ◌≡◌, List, ℕ, length, take, drop, ap, ◌∙◌, arith}
use Rattle.std.proofs.lemmas.List.{length-drop, take_rest}
use Rattle.timer_script.specs.Peer.{Came}
use Rattle.timer_durable.specs.Answers.{unseen_of}
use Rattle.timer_durable.specs.Beginning.{preamble_of}
use Rattle.timer_durable.specs.Durable.{last_told}
use Rattle.timer_durable.proofs.Giving.{nothing_given, given_bytes, given_kept, given_lines, unseen_Came, answers_Came, begun_Came}
use Rattle.timer_durable.proofs.Replaying.{replaying_given, replayed_quiet}
use Rattle.timer_durable.proofs.peer.JournaledPeer.give_lines.Goals as goal

pub invariant_of-self : goal.invariant_of-self
invariant_of-self g c =
    let s = c.args.self.now in
    let n = c.copy_front-n.result in
    let copied : take n c.copy_front-n.new.to ≡ take n (drop s.given s.lines.items) = c.copy_front-n.ensures.copied ∙ ap (take n) (take_rest c.deref.result.now s.given) ∙ ap (λ (l : List ℕ). take n (drop s.given l)) c.deref.ensures.value in
    let count = c.copy_front-n.ensures.count in
    record {
      given_in = omega (arith, count, ap length c.deref.ensures.value, ap length (take_rest c.deref.result.now s.given), length-drop s.given c.deref.result.now, s.given_in);
      told_in = s.told_in;
      untold = s.untold;
      ended = s.ended;
      unended = s.unended;
      ended_alive = s.ended_alive;
      dead = λ dead. nothing_given s.lines.items s.given n (s.dead dead);
      kept = λ alive. given_kept _ (preamble_of s.keeping.options.items s.beginning (last_told s.states.so_far)) s.calls.so_far c.came.new.self.so_far
          s.lines.items s.given n (take n c.copy_front-n.new.to) c.came.ensures copied (s.kept alive);
      lines_are = λ counts. given_lines s.start.lines s.so_far.lines s.calls.so_far c.came.new.self.so_far s.lines.items s.given n (take n c.copy_front-n.new.to) c.came.ensures copied (s.lines_are counts);
      answers_are = λ counts. answers_Came s.start.answers s.so_far.answers s.calls.so_far c.came.new.self.so_far (take n c.copy_front-n.new.to) c.came.ensures (s.answers_are counts);
      begun_is = λ counts. begun_Came s.begun s.calls.so_far c.came.new.self.so_far (take n c.copy_front-n.new.to) c.came.ensures (s.begun_is counts);
      early = λ early. replaying_given c.came.new.self.so_far s.lines.items s.given n (take n c.copy_front-n.new.to) c.came.ensures copied (s.early early);
      live = λ live. replayed_quiet (Came (take n c.copy_front-n.new.to)) c.came.new.self.so_far c.came.ensures refl (s.live live);
      swallowed = λ early. unseen_Came s.unseen.items (unseen_of s.start.answers s.keeping.seen) s.calls.so_far c.came.new.self.so_far
          (take n c.copy_front-n.new.to) c.came.ensures (s.swallowed early);
    }

pub returns-clause-bytes : goal.returns-clause-bytes
returns-clause-bytes g c =
    let s = c.args.self.now in
    let n = c.copy_front-n.result in
    given_bytes (g.P.Peer.state s.peer).remaining s.lines.items (drop s.told s.front.items) s.given n (take n c.copy_front-n.new.to)
    (c.copy_front-n.ensures.copied ∙ ap (take n) (take_rest c.deref.result.now s.given) ∙ ap (λ (l : List ℕ). take n (drop s.given l)) c.deref.ensures.value)
