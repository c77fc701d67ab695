use Rattle.std.proofs.Common.{[], inl, sym, subst}
use Rattle.timer_journal.specs.Format.{groups_of, Says}
use Rattle.timer_journal.specs.Journal.{IsBeforeOrAfter}
use Rattle.timer_journal.proofs.Moments.{started}
use Rattle.timer_durable.proofs.peer.JournaledPeer.fetch.Goals as goal

pub returns-then-len-eq0-clause-crash : goal.returns-then-len-eq0-clause-crash
returns-then-len-eq0-clause-crash g c = λ alive.
    let device = c.args.self.now.journal.device in
    let groups = groups_of (g.D.Device.seen device) in
    let at_rest = (c.args.self.now.journal.settled alive).durable in (
      [],
      started g.D.Device.moment g.D.Device.left_since g.D.Device.may_leave g.met.D.Device.begins_now device (IsBeforeOrAfter groups [])
          (λ f now. inl (subst (Says groups) (sym (at_rest.durable f now)) at_rest.says)),
    )
