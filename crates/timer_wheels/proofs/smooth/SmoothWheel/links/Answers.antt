use Rattle.std.proofs.Common.{ℕ, subst}
use Rattle.timer_wheels.specs.Buckets.{state_of}
use Rattle.timer_wheels.specs.hier.Placement.{no_rounds}
use Rattle.timer_wheels.specs.Shown.{ShowsBuckets}
use Rattle.timer_wheels.specs.smooth.Smooth.{smooth_bucket, mark}
use Rattle.timer_wheels.specs.Tables.{radices, smooth_layout}
use Rattle.timer_wheels.specs.declared.table.Table.TheVariants.{Wide}
use Rattle.timer_wheels.proofs.bucket_lemmas.OrderedLists.{ordered-all}
use Rattle.timer_wheels.proofs.bucket_lemmas.RoomLemmas.{shows-with_room, shows-with_layout}
use Rattle.timer_wheels.proofs.bucket_lemmas.ShownLemmas.{shows}
use Rattle.timer_wheels.proofs.smooth.SmoothWheel.links.Goals as goal

pub returns-clause-shows : goal.returns-clause-shows
returns-clause-shows g c =
    let w = c.args.self.now.wheels in
    let b = w.buckets in
    let P : ℕ → Type 0 = λ n. ShowsBuckets n (smooth_bucket (radices Wide) b.tick (mark (radices Wide) b.tick b.links.lists)) no_rounds
    (state_of b) b.links.lists in
    shows-with_layout (smooth_layout Wide) _ _ _ _ _ (subst P w.wheels.has_slots (shows-with_room b.links.room _ _ _ _ _ (shows b.slots
    (smooth_bucket (radices Wide) b.tick (mark (radices Wide) b.tick b.links.lists)) no_rounds b.links.lists b.sound.has_lists
    w.wheels.placed b.last_tick b.tick b.last_serial (ordered-all b.sound w.wheels.in_order))))
