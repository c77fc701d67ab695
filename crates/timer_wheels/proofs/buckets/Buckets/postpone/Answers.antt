use Rattle.std.proofs.Common.{sym, ◌∙◌, ap, arith}
use Rattle.timer_base.proofs.HeldLaws.{with_room-held_start}
use Rattle.timer_base.specs.WheelState.{with_room, after_removal}
use Rattle.timer_wheels.specs.Buckets.{roomless_state}
use Rattle.timer_wheels.proofs.bucket_lemmas.Handles.{held_used}
use Rattle.timer_wheels.proofs.bucket_lemmas.Postponed.{postponed_sound, postponed_state}
use Rattle.timer_wheels.proofs.buckets.Buckets.postpone.Goals as goal

pub set_node-requires-clause-used : goal.set_node-requires-clause-used
set_node-requires-clause-used g c = held_used c.args.self.now.sound c.lemma_keys_unique.ensures c.args.handle c.in_ok-old.old
    (sym c.look.ensures.timer ∙ c.in_ok-old.was)

pub invariant_of-self : goal.invariant_of-self
invariant_of-self g c = record {
  sound = postponed_sound c.args.self.now.sound c.lemma_keys_unique.ensures c.args.handle c.in_ok-old.old
      (sym c.look.ensures.timer ∙ c.in_ok-old.was) (omega (arith, c.if-old-self.false))
      (record { timer = c.args.timer; rounds = 0 }) c.set_node.new.self.lists c.set_node.ensures.set c.requires.fresh
      (omega (arith, c.if-old-self.false, c.if-timer-old.false)) c.requires.deadline c.requires.serial;
}

pub returns-clause-restarted : goal.returns-clause-restarted
returns-clause-restarted g c =
    let b = c.args.self.now in
    rw c.set_node.ensures.room (ap (with_room b.links.room)
    (postponed_state b.sound c.lemma_keys_unique.ensures c.args.handle c.in_ok-old.old
    (sym c.look.ensures.timer ∙ c.in_ok-old.was) (omega (arith, c.if-old-self.false))
    (record { timer = c.args.timer; rounds = 0 }) c.set_node.new.self.lists c.set_node.ensures.set c.requires.fresh
    (omega (arith, c.if-old-self.false, c.if-timer-old.false)))
    ∙ with_room-held_start b.links.room c.args.handle.place c.args.timer (after_removal c.args.handle (roomless_state b)))
