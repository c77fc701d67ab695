use Rattle.std.proofs.Common.{◌≡◌, ◌<◌, ◌+◌, ℕ, length, sym, Result, Ok, Err, IfOk, OnErr}
use Rattle.timer_base.specs.declared.fault.OutOfMemory.{OutOfMemory}
use Rattle.timer_links.specs.Lists.{with_row}
use Rattle.timer_wheels.specs.Types.{Handle, Timer, KeyedLists}
use Rattle.timer_wheels.specs.Buckets.{IsListOf, row_at}
use Rattle.timer_wheels.specs.BucketLists.{AreInOrder, AreBuckets}
use Rattle.timer_wheels.specs.hashed.Hashed.{AreInBuckets, IsInBucket, slot_of, rounds_of}
use Rattle.timer_wheels.proofs.bucket_lemmas.Calls.{each_come}
use Rattle.timer_wheels.proofs.hashed_lemmas.Ticks.{same_frame}
use Rattle.timer_wheels.proofs.bucket_lemmas.OrderedLists.{ordered-come}
use Rattle.timer_wheels.proofs.hashed.HashedWheelWheel.start.Goals as goal

in_buckets : (A : Type 0) (n now list rounds : ℕ) (t : Timer) (old new : KeyedLists) (result : Result Handle OutOfMemory)
    → IfOk result (λ handle. new ≡ with_row list (row_at handle.place t rounds) old) → OnErr result (A × (new ≡ old))
    → length old ≡ n + 1 → IsListOf list n now t.deadline → (now < t.deadline → list ≡ slot_of n t)
    → (now < t.deadline → rounds ≡ rounds_of n now t) → AreInBuckets n now old → AreInBuckets n now new
in_buckets A n now list rounds t old new (Ok handle) e f len i s r a =
    rw e (each_come (IsInBucket n now) n now t.deadline list (row_at handle.place t rounds) old len i (λ later. (sym (s later), r later)) a)
in_buckets A n now list rounds t old new (Err fault) e f len i s r a = rw f.1 a

pub invariant_of-self-clause-in_buckets : goal.invariant_of-self-clause-in_buckets
invariant_of-self-clause-in_buckets c =
    let w = c.args.self.now in
    let b = w.buckets in
    let new = c.start.new.self in
    let to = c.list_and_rounds-list in
    same_frame b.slots b.tick new.slots new.tick new.links.lists c.start.ensures.frame.slots c.start.ensures.frame.tick
    (in_buckets _ b.slots b.tick to.result.0 to.result.1 c.args.timer b.links.lists new.links.lists c.start.result
    c.start.ensures.lists c.start.ensures.err b.sound.has_lists to.ensures.list to.ensures.bucket to.ensures.rounds w.in_buckets)

in_order : (A : Type 0) (n last_tick now last list rounds : ℕ) (t : Timer) (old new : KeyedLists) (result : Result Handle OutOfMemory)
    → IfOk result (λ handle. new ≡ with_row list (row_at handle.place t rounds) old) → OnErr result (A × (new ≡ old))
    → AreBuckets n last_tick now last old → last < t.serial → IsListOf list n now t.deadline → AreInOrder n old → AreInOrder n new
in_order A n last_tick now last list rounds t old new (Ok handle) e f b fresh i o =
    rw e (ordered-come b o list (row_at handle.place t rounds) fresh i)
in_order A n last_tick now last list rounds t old new (Err fault) e f b fresh i o = rw f.1 o

pub invariant_of-self-clause-in_order : goal.invariant_of-self-clause-in_order
invariant_of-self-clause-in_order c =
    let w = c.args.self.now in
    let b = w.buckets in
    let new = c.start.new.self in
    let to = c.list_and_rounds-list in
    rw c.start.ensures.frame.slots (in_order _ b.slots b.last_tick b.tick b.last_serial to.result.0 to.result.1 c.args.timer b.links.lists
    new.links.lists c.start.result c.start.ensures.lists c.start.ensures.err b.sound c.requires.fresh to.ensures.list w.in_order)
