use Rattle.std.proofs.Common.{◌≡◌, ℕ, map, Option, Some, None, MatchOption}
use Rattle.timer_base.specs.declared.timer.Timer.{Timer}
use Rattle.timer_links.specs.Lists.{without_key, KeyedLists}
use Rattle.timer_wheels.specs.BucketLists.{AreInOrder}
use Rattle.timer_wheels.specs.hashed.Hashed.{AreInBuckets, IsInBucket}
use Rattle.timer_wheels.proofs.bucket_lemmas.Calls.{each-without_key}
use Rattle.timer_wheels.proofs.hashed_lemmas.Ticks.{same_frame}
use Rattle.timer_wheels.proofs.bucket_lemmas.OrderedLists.{ordered-without_key}
use Rattle.timer_wheels.proofs.hashed.HashedWheelWheel.stop.Goals as goal

-- each row that a stop leaves stays in its bucket
in_buckets : (n now key : ℕ) (old new : KeyedLists) (result : Option Timer)
    → MatchOption result (new ≡ old) (λ timer. new ≡ map (without_key key) old) → AreInBuckets n now old → AreInBuckets n now new
in_buckets n now key old new None e a = rw e a
in_buckets n now key old new (Some t) e a = rw e (each-without_key (IsInBucket n now) n key old a)

pub invariant_of-self-clause-in_buckets : goal.invariant_of-self-clause-in_buckets
invariant_of-self-clause-in_buckets c =
    let w = c.args.self.now in
    let b = w.buckets in
    same_frame b.slots b.tick c.stop.new.self.slots c.stop.new.self.tick c.stop.new.self.links.lists c.stop.ensures.frame.slots
    c.stop.ensures.frame.tick
    (in_buckets b.slots b.tick c.args.handle.place b.links.lists c.stop.new.self.links.lists c.stop.result c.stop.ensures.lists
    w.in_buckets)

-- and each bucket stays in order of starting
in_order : (n key : ℕ) (old new : KeyedLists) (result : Option Timer)
    → MatchOption result (new ≡ old) (λ timer. new ≡ map (without_key key) old) → AreInOrder n old → AreInOrder n new
in_order n key old new None e o = rw e o
in_order n key old new (Some t) e o = rw e (ordered-without_key n key old o)

pub invariant_of-self-clause-in_order : goal.invariant_of-self-clause-in_order
invariant_of-self-clause-in_order c =
    let w = c.args.self.now in
    let b = w.buckets in
    rw c.stop.ensures.frame.slots (in_order b.slots c.args.handle.place b.links.lists c.stop.new.self.links.lists c.stop.result
    c.stop.ensures.lists w.in_order)
