use Rattle.std.proofs.Common.{ap}
use Rattle.timer_base.specs.WheelState.{with_room}
use Rattle.timer_wheels.proofs.bucket_lemmas.Updates.{expired, popped}
use Rattle.timer_wheels.proofs.buckets.Buckets.expire.Goals as goal

pub invariant_of-self : goal.invariant_of-self
invariant_of-self g c = record {
  sound = popped c.args.self.now.sound c.pop_front.result c.pop_front.new.self.lists c.pop_front.ensures.popped;
}

pub returns-clause-rest : goal.returns-clause-rest
returns-clause-rest g c =
    let b = c.args.self.now in
    let p = c.in_ok-_place.ensures.popped in
    rw (p.2, c.in_ok-_place.ensures.room) (ap (with_room b.links.room) (expired b.sound (c.in_ok-_place._place, c.in_ok-_place.node) p.0
    p.1))
