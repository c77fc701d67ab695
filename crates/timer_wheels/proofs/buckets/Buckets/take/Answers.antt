use Rattle.std.proofs.Common.{sym, ◌∙◌, ap}
use Rattle.timer_base.proofs.HeldLaws.{none_removed}
use Rattle.timer_base.specs.WheelState.{with_room}
use Rattle.timer_wheels.specs.Buckets.{state_of}
use Rattle.timer_wheels.proofs.bucket_lemmas.Handles.{held_used, removed_state}
use Rattle.timer_wheels.proofs.bucket_lemmas.Updates.{removed}
use Rattle.timer_wheels.proofs.buckets.Buckets.take.Goals as goal

pub returns-in_err-timer-clause-stopped : goal.returns-in_err-timer-clause-stopped
returns-in_err-timer-clause-stopped g c = none_removed c.args.handle (state_of c.args.self.now) (sym c.look.ensures.timer
    ∙ c.in_err-timer.was)

pub take-taken-requires : goal.take-taken-requires
take-taken-requires g c = held_used c.args.self.now.sound c.lemma_keys_unique.ensures c.args.handle c.in_ok-timer.timer
    (sym c.look.ensures.timer ∙ c.in_ok-timer.was)

pub invariant_of-self : goal.invariant_of-self
invariant_of-self g c = rw c.take-taken.ensures.taken (record { sound = removed c.args.self.now.sound c.args.handle.place })

pub returns-clause-stopped : goal.returns-clause-stopped
returns-clause-stopped g c =
    let b = c.args.self.now in
    rw (c.take-taken.ensures.taken, c.take-taken.ensures.room) (ap (with_room b.links.room) (removed_state b.sound
    c.lemma_keys_unique.ensures c.args.handle c.in_ok-timer.timer (sym c.look.ensures.timer ∙ c.in_ok-timer.was)))
