use Rattle.std.proofs.Common.{◌≡◌, ◌<◌, ◌+◌, ◌∙◌, ℕ, length, sym, map, Option, Some, None}
use Rattle.std.proofs.lemmas.List.{length-map}
use Rattle.timer_links.specs.Lists.{without_key}
use Rattle.timer_wheels.specs.Types.{Handle, Timer, KeyedLists}
use Rattle.timer_wheels.specs.Buckets.{IsListOf, ReplacesRow, row_at}
use Rattle.timer_wheels.specs.BucketLists.{AreInOrder, AreBuckets}
use Rattle.timer_wheels.specs.hashed.Hashed.{AreInBuckets, IsInBucket, slot_of, rounds_of}
use Rattle.timer_wheels.proofs.bucket_lemmas.Calls.{each_come, each-without_key}
use Rattle.timer_wheels.proofs.hashed_lemmas.Ticks.{same_frame}
use Rattle.timer_wheels.proofs.bucket_lemmas.OrderedLists.{ordered-without_key, ordered-come}
use Rattle.timer_wheels.proofs.bucket_lemmas.Updates.{removed}
use Rattle.timer_wheels.proofs.hashed.HashedWheelWheel.restart.Goals as goal

in_buckets : (n now list rounds key : ℕ) (t : Timer) (old new : KeyedLists) (result : Option (Handle × Timer))
    → ReplacesRow result list (row_at key t rounds) old new → length old ≡ n + 1 → IsListOf list n now t.deadline
    → (now < t.deadline → list ≡ slot_of n t) → (now < t.deadline → rounds ≡ rounds_of n now t) → AreInBuckets n now old
    → AreInBuckets n now new
in_buckets n now list rounds key t old new None e len i s r a = rw e a
in_buckets n now list rounds key t old new (Some found) e len i s r a =
    rw e (each_come (IsInBucket n now) n now t.deadline list (row_at key t rounds) (map (without_key key) old)
    (length-map old (without_key key) ∙ len) i (λ later. (sym (s later), r later)) (each-without_key (IsInBucket n now) n key old a))

pub invariant_of-self-clause-in_buckets : goal.invariant_of-self-clause-in_buckets
invariant_of-self-clause-in_buckets c =
    let w = c.args.self.now in
    let b = w.buckets in
    let new = c.restart.new.self in
    let to = c.list_and_rounds-list in
    same_frame b.slots b.tick new.slots new.tick new.links.lists c.restart.ensures.frame.slots c.restart.ensures.frame.tick
    (in_buckets b.slots b.tick to.result.0 to.result.1 c.args.handle.place c.args.timer b.links.lists new.links.lists
    c.restart.result c.restart.ensures.lists b.sound.has_lists to.ensures.list to.ensures.bucket to.ensures.rounds w.in_buckets)

in_order : (n last_tick now last list rounds key : ℕ) (t : Timer) (old new : KeyedLists) (result : Option (Handle × Timer))
    → ReplacesRow result list (row_at key t rounds) old new → AreBuckets n last_tick now last old → last < t.serial
    → IsListOf list n now t.deadline → AreInOrder n old → AreInOrder n new
in_order n last_tick now last list rounds key t old new None e b fresh i o = rw e o
in_order n last_tick now last list rounds key t old new (Some found) e b fresh i o =
    rw e (ordered-come (removed b key) (ordered-without_key n key old o) list (row_at key t rounds) fresh i)

pub invariant_of-self-clause-in_order : goal.invariant_of-self-clause-in_order
invariant_of-self-clause-in_order c =
    let w = c.args.self.now in
    let b = w.buckets in
    let to = c.list_and_rounds-list in
    rw c.restart.ensures.frame.slots (in_order b.slots b.last_tick b.tick b.last_serial to.result.0 to.result.1 c.args.handle.place
    c.args.timer b.links.lists c.restart.new.self.links.lists c.restart.result c.restart.ensures.lists b.sound c.requires.fresh
    to.ensures.list w.in_order)
