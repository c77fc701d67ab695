use Rattle.std.proofs.Common.{refl, ◌≡◌, List, ℕ, length, take, drop, ap, ◌∙◌, arith, rules}
use Rattle.std.proofs.lemmas.List.{length-drop, take_rest}
use Rattle.timer_journal.specs.Journal.{text_of}
use Rattle.timer_script.specs.Peer.{Came}
use Rattle.timer_durable.specs.Answers.{unseen_of}
use Rattle.timer_durable.specs.Beginning.{preamble_of}
use Rattle.timer_durable.specs.Durable.{last_told}
use Rattle.timer_durable.proofs.Giving.{told_bytes, told_kept, told_lines, unseen_Came, answers_Came, begun_Came}
use Rattle.timer_durable.proofs.Replaying.{replayed_quiet}
use Rattle.timer_durable.proofs.peer.JournaledPeer.give_front.Goals as goal

pub invariant_of-self : goal.invariant_of-self
invariant_of-self g c =
    let s = c.args.self.now in
    let n = c.copy_front-n.result in
    let copied : take n c.copy_front-n.new.to ≡ take n (drop s.told s.front.items) = c.copy_front-n.ensures.copied ∙ ap (take n) (take_rest c.deref.result.now s.told) ∙ ap (λ (l : List ℕ). take n (drop s.told l)) c.deref.ensures.value in
    let count = c.copy_front-n.ensures.count in
    record {
      given_in = s.given_in;
      told_in = omega (arith, count, ap length c.deref.ensures.value, ap length (take_rest c.deref.result.now s.told), length-drop s.told c.deref.result.now, s.told_in);
      untold = λ early. absurd (search rules);
      ended = s.ended;
      unended = s.unended;
      ended_alive = s.ended_alive;
      dead = s.dead;
      kept = λ alive. told_kept (text_of (g.D.Device.seen s.journal.device)) (preamble_of s.keeping.options.items s.beginning (last_told s.states.so_far))
          s.calls.so_far c.came.new.self.so_far (drop s.given s.lines.items) s.front.items s.told n (take n c.copy_front-n.new.to) c.came.ensures c.requires.given copied
          (s.kept alive);
      lines_are = λ counts. told_lines s.start.lines s.so_far.lines s.calls.so_far c.came.new.self.so_far (drop s.given s.lines.items) s.front.items s.told n (take n c.copy_front-n.new.to)
          c.came.ensures c.requires.given (s.unended c.requires.ended) copied (s.lines_are counts);
      answers_are = λ counts. answers_Came s.start.answers s.so_far.answers s.calls.so_far c.came.new.self.so_far (take n c.copy_front-n.new.to) c.came.ensures (s.answers_are counts);
      begun_is = λ counts. begun_Came s.begun s.calls.so_far c.came.new.self.so_far (take n c.copy_front-n.new.to) c.came.ensures (s.begun_is counts);
      early = λ early. absurd (let ended = c.requires.ended in let more = (s.early early).early in cc);
      live = λ live. replayed_quiet (Came (take n c.copy_front-n.new.to)) c.came.new.self.so_far c.came.ensures refl (s.live live);
      swallowed = λ early. unseen_Came s.unseen.items (unseen_of s.start.answers s.keeping.seen) s.calls.so_far c.came.new.self.so_far
          (take n c.copy_front-n.new.to) c.came.ensures (s.swallowed early);
    }

pub returns-clause-bytes : goal.returns-clause-bytes
returns-clause-bytes g c =
    let s = c.args.self.now in
    let n = c.copy_front-n.result in
    told_bytes (g.P.Peer.state s.peer).remaining (drop s.given s.lines.items) s.front.items s.told n (take n c.copy_front-n.new.to) c.requires.given
    (c.copy_front-n.ensures.copied ∙ ap (take n) (take_rest c.deref.result.now s.told) ∙ ap (λ (l : List ℕ). take n (drop s.told l)) c.deref.ensures.value)
