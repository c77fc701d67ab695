use Rattle.timer_wheels.proofs.bucket_lemmas.RoomLemmas.{shows-with_room}
use Rattle.timer_wheels.specs.hashed.Hashed.{slot_of, rounds_of}
use Rattle.timer_wheels.proofs.bucket_lemmas.OrderedLists.{ordered-all}
use Rattle.timer_wheels.proofs.bucket_lemmas.ShownLemmas.{shows}
use Rattle.timer_wheels.proofs.hashed.HashedWheel.links.Goals as goal

pub returns : goal.returns
returns c =
    let w = c.args.self.now in
    let b = w.buckets in
    shows-with_room b.links.room _ _ _ _ _ (shows b.slots (slot_of b.slots) (rounds_of b.slots b.tick) b.links.lists b.sound.has_lists
    w.in_buckets b.last_tick b.tick b.last_serial (ordered-all b.sound w.in_order))
