use Rattle.std.proofs.Common.{◌≡◌, drop, ap, sym, subst, ◌∙◌, append-nil, refl, ◌++◌, [], arith}
use Rattle.std.specs.List.{concat}
use Rattle.timer_journal.specs.Device.{LeavesOnly}
use Rattle.timer_journal.specs.Format.{groups_of}
use Rattle.timer_journal.specs.Journal.{IsBeforeOrAnew}
use Rattle.timer_script.specs.Peer.{Told}
use Rattle.timer_script.specs.Service.{came_of, gone_of}
use Rattle.timer_durable.specs.Answers.{answered, begun_in, unseen_of}
use Rattle.timer_durable.specs.Beginning.{preamble_of}
use Rattle.timer_durable.proofs.Giving.{came-Told, gone-Told, quiet_lines}
use Rattle.timer_durable.proofs.Growing.{wanted_facts, counting_wanted, totals_are, kept_anew}
use Rattle.timer_durable.proofs.Replaying.{replayed_quiet}
use Rattle.timer_durable.proofs.peer.JournaledPeer.begin_anew.Goals as goal

pub invariant_of-self-2 : goal.invariant_of-self-2
invariant_of-self-2 g c =
    let s = c.args.self.now in
    let facts = wanted_facts s.keeping.every s.is_live s.has_ended s.journal.is_dead (drop s.given s.lines.items) _ (c.wants.ensures.yes c.if-not-wants.false) in
    let now = counting_wanted s.keeping.every s.is_live s.has_ended s.journal.is_dead (drop s.given s.lines.items) _ (c.wants.ensures.yes c.if-not-wants.false) in
    let e = c.in_ok-begin_anew.ensures in
    let first : c.deref-2.result.now ≡ preamble_of s.keeping.options.items s.so_far c.args.text.now =
    c.deref-2.ensures.value ∙ c.in_ok-first.ensures.text ∙ ap (λ o. preamble_of o s.so_far c.args.text.now) c.deref.ensures.value in
    let calls = c.told-2.ensures in
    let came = ap came_of calls ∙ came-Told s.calls.so_far c.args.text.now in
    let gone = ap gone_of calls ∙ gone-Told s.calls.so_far c.args.text.now in
    record {
      given_in = s.given_in;
      told_in = s.told_in;
      untold = s.untold;
      ended = s.ended;
      unended = s.unended;
      ended_alive = λ ended. e.acknowledged.0;
      dead = λ dead. facts.3;
      kept = λ alive. kept_anew c.deref-2.result.now c.args.text.now s.front.items s.told (drop s.given s.lines.items) (preamble_of s.keeping.options.items s.so_far)
          s.states.so_far c.told.new.self.so_far s.calls.so_far c.told-2.new.self.so_far (groups_of (g.D.Device.seen c.begin_anew.new.self.device))
          (s.untold facts.1) facts.3 e.acknowledged.2 first c.told.ensures calls;
      lines_are = λ counts. quiet_lines s.start.lines s.so_far.lines s.calls.so_far c.told-2.new.self.so_far (drop s.given s.lines.items) came (s.lines_are counts);
      answers_are = λ counts. (s.answers_are counts) ∙ ap (answered s.start.answers) (sym gone);
      begun_is = λ counts. (s.begun_is counts) ∙ ap begun_in (sym gone);
      early = λ early. absurd (let live = facts.0 in cc);
      live = λ live. replayed_quiet (Told c.args.text.now) c.told-2.new.self.so_far calls refl (s.live live);
      swallowed = λ early. s.swallowed early ∙ ap (unseen_of s.start.answers s.keeping.seen) (sym gone);
    }

pub returns-clause-begun : goal.returns-clause-begun
returns-clause-begun g c =
    let s = c.args.self.now in
    let facts = wanted_facts s.keeping.every s.is_live s.has_ended s.journal.is_dead (drop s.given s.lines.items) _ (c.wants.ensures.yes c.if-not-wants.false) in
    let now = counting_wanted s.keeping.every s.is_live s.has_ended s.journal.is_dead (drop s.given s.lines.items) _ (c.wants.ensures.yes c.if-not-wants.false) in
    let first : c.deref-2.result.now ≡ preamble_of s.keeping.options.items s.so_far c.args.text.now =
    c.deref-2.ensures.value ∙ c.in_ok-first.ensures.text ∙ ap (λ o. preamble_of o s.so_far c.args.text.now) c.deref.ensures.value in
    let totals = totals_are s.start s.so_far (came_of s.calls.so_far) (gone_of s.calls.so_far) (drop s.given s.lines.items) (s.lines_are now) (s.answers_are now) facts.3
    c.if-so_far-gt-LAST.false c.if-so_far-gt-LAST-2.false in
    ap concat c.in_ok-begin_anew.ensures.acknowledged.2 ∙ append-nil c.deref-2.result.now ∙ first
    ∙ ap (λ b. preamble_of s.keeping.options.items b c.args.text.now) totals

pub returns-clause-crash : goal.returns-clause-crash
returns-clause-crash g c = λ alive.
    let s = c.args.self.now in
    subst (λ l. LeavesOnly g.D.Device.moment g.D.Device.left_since s.journal.device c.begin_anew.new.self.device
    (IsBeforeOrAnew (groups_of (g.D.Device.seen s.journal.device)) l))
    (sym (ap concat c.in_ok-begin_anew.ensures.acknowledged.2 ∙ append-nil c.deref-2.result.now) ∙ returns-clause-begun g c) (c.in_ok-begin_anew.ensures.any_moment alive)
