use Rattle.std.proofs.Common.{◌≡◌, false, [], ◌∷◌, ◌++◌, drop, ap, ◌∙◌, arith}
use Rattle.timer_journal.specs.Format.{groups_of}
use Rattle.timer_script.specs.Service.{came_of}
use Rattle.timer_durable.specs.Answers.{counted}
use Rattle.timer_durable.specs.Beginning.{preamble_of}
use Rattle.timer_durable.specs.Durable.{came_since, last_told}
use Rattle.timer_durable.proofs.Growing.{counting_live, was_alive, kept_more, lines_more}
use Rattle.timer_durable.proofs.peer.JournaledPeer.keep.Goals as goal

pub invariant_of-self-2 : goal.invariant_of-self-2
invariant_of-self-2 g c =
    let s = c.args.self.now in
    let e = c.in_ok-append.ensures in
    let untold : s.told ≡ 0 = s.untold c.requires.early in
    let alive : s.journal.is_dead ≡ false = was_alive s.journal.is_dead (λ dead. absurd (let refused = (e.dead dead).0 in cc)) in
    record {
      given_in = omega arith;
      told_in = omega (arith, untold);
      untold = s.untold;
      ended = s.ended;
      unended = λ ended. absurd (let early = c.requires.early in cc);
      ended_alive = λ ended. absurd (let early = c.requires.early in cc);
      dead = λ dead. absurd (let alive = e.acknowledged.0 in cc);
      kept = λ _. kept_more (preamble_of s.keeping.options.items s.beginning (last_told s.states.so_far)) (came_since s.calls.so_far) (drop s.given s.lines.items)
          s.front.items c.in_ok-front.front.items s.told (groups_of (g.D.Device.seen s.journal.device)) (groups_of (g.D.Device.seen c.append.new.self.device))
          c.in_ok-lines.lines.items c.requires.given untold
          (e.acknowledged.2 ∙ ap (λ l. groups_of (g.D.Device.seen s.journal.device) ++ l ∷ []) c.deref-3.ensures.value) (s.kept alive);
      lines_are = λ counts. lines_more s.start.lines s.so_far.lines _ (came_of s.calls.so_far) (drop s.given s.lines.items) c.in_ok-lines.lines.items c.requires.given (s.lines_are counts)
          (c.counted_if-self.ensures (counting_live s.is_live s.keeping.every c.requires.live counts) ∙ ap (counted s.so_far.lines) c.deref-4.ensures.value);
      answers_are = s.answers_are;
      begun_is = s.begun_is;
      early = λ early. absurd (let live = c.requires.live in cc);
      live = s.live;
      swallowed = s.swallowed;
    }
