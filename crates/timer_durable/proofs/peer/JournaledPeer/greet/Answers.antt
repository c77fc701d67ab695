use Rattle.std.proofs.Common.{◌≡◌, ◌++◌, true, false, drop, is_ok, codes, decimal, ap, sym, subst, ◌∙◌, List, ℕ}
use Rattle.std.specs.Io.KnownBytes.{IsAtEnd}
use Rattle.timer_script.specs.Service.{came_of, gone_of}
use Rattle.timer_durable.specs.Answers.{IsSeenWithin}
use Rattle.timer_durable.specs.Durable.{origin_of, greeting_to}
use Rattle.timer_durable.specs.Types.{Beginning}
use Rattle.timer_durable.proofs.Growing.{counting_early, totals_are}
use Rattle.timer_durable.proofs.Replaying.{told_now}
use Rattle.timer_durable.proofs.peer.JournaledPeer.greet.Goals as goal

-- the line that says how much was recovered, and these answers
abbrev told_text : Beginning → List ℕ → List ℕ
told_text b unseen = codes "recovered " ++ decimal b.lines ++ codes " " ++ decimal b.answers ++ codes "\n" ++ unseen

pub invariant_of-self : goal.invariant_of-self
invariant_of-self g c =
    let s = c.args.self.now in
    let e = c.in_ok-text.ensures in
    let early : s.is_live ≡ false = c.if-self.false in
    let now = counting_early s.is_live s.keeping.every early in
    let origin = origin_of s.start s.keeping.seen s.first.at in
    let totals = totals_are s.start s.so_far (came_of s.calls.so_far) (gone_of s.calls.so_far) (drop s.given s.lines.items) (s.lines_are now) (s.answers_are now) c.requires.given
    e.counted.0 e.counted.1 in
    let text : c.deref-2.result.now ≡ greeting_to origin (came_of s.calls.so_far) (gone_of s.calls.so_far) =
    c.deref-2.ensures.value ∙ e.text ∙ (λ i. told_text (totals i) ((c.deref.ensures.value ∙ s.swallowed early) i)) in
    let sent = c.send.ensures.sent in
    record {
      given_in = s.given_in;
      told_in = s.told_in;
      untold = s.untold;
      ended = λ ended. subst IsAtEnd (sym c.send.ensures.remaining) (s.ended ended);
      unended = s.unended;
      ended_alive = s.ended_alive;
      dead = s.dead;
      kept = s.kept;
      lines_are = λ counts. s.lines_are now;
      answers_are = λ counts. s.answers_are now;
      begun_is = λ counts. s.begun_is now;
      early = λ early. absurd cc;
      live = λ live. told_now (g.P.Peer.state s.peer).contents (g.P.Peer.state c.send.new.peer).contents c.copied-self.result.so_far c.deref-2.result.now
          (gone_of c.send.new.calls.so_far) sent.0 s.read_failed c.copied-self.ensures c.requires.given
          (subst (IsSeenWithin s.keeping.seen s.start.answers) (ap (λ b. b.answers) totals) e.seen) text sent.1 sent.2 (λ fine. sent.3 (ap is_ok c.in-Ok.is)) (s.early early);
      swallowed = λ early. absurd cc;
    }

pub invariant_of-self-in-Err : goal.invariant_of-self-in-Err
invariant_of-self-in-Err g c =
    let s = c.args.self.now in
    let e = c.in_ok-text.ensures in
    let early : s.is_live ≡ false = c.if-self.false in
    let now = counting_early s.is_live s.keeping.every early in
    let origin = origin_of s.start s.keeping.seen s.first.at in
    let totals = totals_are s.start s.so_far (came_of s.calls.so_far) (gone_of s.calls.so_far) (drop s.given s.lines.items) (s.lines_are now) (s.answers_are now) c.requires.given
    e.counted.0 e.counted.1 in
    let text : c.deref-2.result.now ≡ greeting_to origin (came_of s.calls.so_far) (gone_of s.calls.so_far) =
    c.deref-2.ensures.value ∙ e.text ∙ (λ i. told_text (totals i) ((c.deref.ensures.value ∙ s.swallowed early) i)) in
    let sent = c.send.ensures.sent in
    record {
      given_in = s.given_in;
      told_in = s.told_in;
      untold = s.untold;
      ended = λ ended. subst IsAtEnd (sym c.send.ensures.remaining) (s.ended ended);
      unended = s.unended;
      ended_alive = s.ended_alive;
      dead = s.dead;
      kept = s.kept;
      lines_are = λ counts. s.lines_are now;
      answers_are = λ counts. s.answers_are now;
      begun_is = λ counts. s.begun_is now;
      early = λ early. absurd cc;
      live = λ live. told_now (g.P.Peer.state s.peer).contents (g.P.Peer.state c.send.new.peer).contents c.copied-self.result.so_far c.deref-2.result.now
          (gone_of c.send.new.calls.so_far) sent.0 true c.copied-self.ensures c.requires.given
          (subst (IsSeenWithin s.keeping.seen s.start.answers) (ap (λ b. b.answers) totals) e.seen) text sent.1 sent.2 (λ fine. absurd cc) (s.early early);
      swallowed = λ early. absurd cc;
    }
