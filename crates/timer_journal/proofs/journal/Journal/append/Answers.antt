use Rattle.std.proofs.Common.{inl, sym, subst}
use Rattle.timer_journal.specs.Format.{groups_of, Says}
use Rattle.timer_journal.specs.Journal.{IsBeforeOrAfter}
use Rattle.timer_journal.proofs.Moments.{started}
use Rattle.timer_journal.proofs.journal.Journal.append.Goals as goal
use Rattle.timer_journal.proofs.journal.Journal.append.Goals.{then-self-ge-MAX_BYTES-via-then-self-ge-MAX_BYTES, then-self-ge-MAX_BYTES-via-else-self-ge-MAX_BYTES+then-lines-ge-MAX_BYTES}

pub returns-then-self-ge-MAX_BYTES-clause-any_moment : goal.returns-then-self-ge-MAX_BYTES-clause-any_moment
returns-then-self-ge-MAX_BYTES-clause-any_moment g c = λ alive.
    let device = c.args.self.now.device in
    let groups = groups_of (g.D.Device.seen device) in
    let at_rest = (c.args.self.now.settled alive).durable in
    let nothing = started g.D.Device.moment g.D.Device.left_since g.D.Device.may_leave g.met.D.Device.begins_now device (IsBeforeOrAfter groups c.args.lines.now)
    (λ f now. inl (subst (Says groups) (sym (at_rest.durable f now)) at_rest.says)) in
    elim c.then-self-ge-MAX_BYTES.branch [
      | then-self-ge-MAX_BYTES-via-then-self-ge-MAX_BYTES w ↦ rw w.self-is nothing
      | then-self-ge-MAX_BYTES-via-else-self-ge-MAX_BYTES+then-lines-ge-MAX_BYTES w ↦ rw w.self-is nothing
    ]
