use Rattle.std.proofs.Common.{ap, ◌≤◌, ◌∙◌, ℕ, arith}
use Rattle.timer_base.specs.WheelState.{with_room}
use Rattle.timer_wheels.proofs.bucket_lemmas.Updates.{cleared, cleared-state}
use Rattle.timer_wheels.proofs.buckets.Buckets.clear.Goals as goal

not_below : (n : ℕ) → n ≤ n
not_below n = omega arith

pub invariant_of-self : goal.invariant_of-self
invariant_of-self g c =
    let b = c.args.self.now in
    record {
      sound = cleared b.sound c.empty_lists.new.links.lists c.empty_lists.ensures.emptied
          (c.empty_lists.ensures.others b.slots (not_below b.slots)) (c.empty_lists.ensures.length ∙ b.sound.has_lists);
    }

pub returns-clause-cleared : goal.returns-clause-cleared
returns-clause-cleared g c =
    let b = c.args.self.now in
    rw c.empty_lists.ensures.room (ap (with_room b.links.room) (cleared-state b.sound c.empty_lists.new.links.lists
    c.empty_lists.ensures.emptied (c.empty_lists.ensures.others b.slots (not_below b.slots))))
