use Rattle.std.proofs.Common.{◌≡◌, ◌≤◌, ◌+◌, ◌-◌, ℕ, List, sym, subst, arith}
use Rattle.timer_base.proofs.OrderLaws.{All-weaken}
use Rattle.timer_wheels.specs.Types.{list_at, KeyedLists, Table}
use Rattle.timer_wheels.specs.BucketLists.{row_timer}
use Rattle.timer_wheels.specs.Buckets.{state_of}
use Rattle.timer_wheels.specs.hier.Leap.{list_visit, timer_visit, AreNotVisitedBefore, Leaps}
use Rattle.timer_wheels.specs.Tables.{radices}
use Rattle.timer_wheels.proofs.hier_lemmas.Leaps.{leap_and_tick, none_ahead, first_ahead, first_in_range, first_later}
use Rattle.timer_wheels.proofs.hier_lemmas.MigrationTick.{first_empties}
use Rattle.timer_wheels.proofs.bucket_lemmas.WheelUpdates.{up_to_last_of}
use Rattle.timer_wheels.proofs.hier.leap.leap_by.Goals as goal

sooner : (table : List ℕ) (n now visit tick : ℕ) (lists : KeyedLists) → tick ≤ visit → AreNotVisitedBefore table n now visit lists
    → AreNotVisitedBefore table n now tick lists
sooner table n now visit tick lists h a s k =
    All-weaken (λ row. visit ≤ timer_visit table now (row_timer row).deadline)
    (λ row. tick ≤ timer_visit table now (row_timer row).deadline) (list_at s lists)
    (λ row q. let p : visit ≤ timer_visit table now (row_timer row).deadline = q in omega arith) (a s k)

pub skip_to-requires-clause-not_before : goal.skip_to-requires-clause-not_before
skip_to-requires-clause-not_before g c = none_ahead c.args.wheels.now.hier (c.args.end + 1) c.in_default.ensures

pub visit_of-visit-requires-clause-list : goal.visit_of-visit-requires-clause-list
visit_of-visit-requires-clause-list g c = rw c.requires.table (first_in_range c.args.wheels.now.hier c.in-Some.list c.in-Some.ensures)

pub visit_of-visit-requires-clause-now : goal.visit_of-visit-requires-clause-now
visit_of-visit-requires-clause-now g c =
    let b = c.args.wheels.now.buckets in
    rw c.requires.table (up_to_last_of c.args.wheels.now.hier b.tick b.sound.tick_in_range)

-- the visit, by the table of the wheels
of_wheels : (table of : Table) (visit list now : ℕ) → table ≡ of → visit ≡ list_visit (radices table) list now
    → visit ≡ list_visit (radices of) list now
of_wheels table of visit list now same is = rw (← same) is

pub skip_to-requires-then-end-visit-clause-not_before : goal.skip_to-requires-then-end-visit-clause-not_before
skip_to-requires-then-end-visit-clause-not_before g c =
    let w = c.args.wheels.now in
    sooner (radices w.table) w.buckets.slots w.buckets.tick c.visit_of-visit.result (c.args.end + 1) w.buckets.links.lists
    (omega (arith, c.if-end-visit.true))
    (first_ahead w.hier c.in-Some.list c.visit_of-visit.result (of_wheels _ _ _ _ _ c.requires.table c.visit_of-visit.ensures) c.in-Some.ensures)

pub overflow_sub-visit : goal.overflow_sub-visit
overflow_sub-visit g c = omega (
  arith,
  first_later c.args.wheels.now.hier c.in-Some.list c.visit_of-visit.result (of_wheels _ _ _ _ _ c.requires.table c.visit_of-visit.ensures) c.in-Some.ensures,
)

pub skip_to-requires-else-end-visit-clause-later : goal.skip_to-requires-else-end-visit-clause-later
skip_to-requires-else-end-visit-clause-later g c = omega (
  arith,
  first_later c.args.wheels.now.hier c.in-Some.list c.visit_of-visit.result (of_wheels _ _ _ _ _ c.requires.table c.visit_of-visit.ensures) c.in-Some.ensures,
)

pub skip_to-requires-else-end-visit-clause-not_before : goal.skip_to-requires-else-end-visit-clause-not_before
skip_to-requires-else-end-visit-clause-not_before g c =
    let w = c.args.wheels.now in
    let later = first_later w.hier c.in-Some.list c.visit_of-visit.result (of_wheels _ _ _ _ _ c.requires.table c.visit_of-visit.ensures) c.in-Some.ensures in
    sooner (radices w.table) w.buckets.slots w.buckets.tick c.visit_of-visit.result (c.visit_of-visit.result - 1 + 1)
    w.buckets.links.lists (omega arith)
    (first_ahead w.hier c.in-Some.list c.visit_of-visit.result (of_wheels _ _ _ _ _ c.requires.table c.visit_of-visit.ensures) c.in-Some.ensures)

pub visit_next-requires-clause-emptied : goal.visit_next-requires-clause-emptied
visit_next-requires-clause-emptied g c =
    let w = c.args.wheels.now in
    let s = c.skip_to-else-end-visit in
    let later = first_later w.hier c.in-Some.list c.visit_of-visit.result (of_wheels _ _ _ _ _ c.requires.table c.visit_of-visit.ensures) c.in-Some.ensures in
    let tick : s.new.self.buckets.tick + 1 ≡ c.visit_of-visit.result = omega (arith, s.ensures.tick) in
    rw (s.ensures.table, tick) (first_empties w.hier c.in-Some.list c.visit_of-visit.result (of_wheels _ _ _ _ _ c.requires.table c.visit_of-visit.ensures) c.in-Some.ensures)

pub returns-else-end-visit-clause-leaps : goal.returns-else-end-visit-clause-leaps
returns-else-end-visit-clause-leaps g c =
    let s = c.skip_to-else-end-visit in
    let old = state_of c.args.wheels.now.buckets in
    let mid = state_of s.new.self.buckets in
    let new = state_of c.visit_next.new.self.buckets in
    let P : Table → Type 0 = λ t. Leaps (radices t) 0 old mid in
    let Q : Table → Type 0 = λ t. Leaps (radices t) c.visit_next.result old new in
    subst Q s.ensures.table (leap_and_tick (radices s.new.self.table) c.visit_next.result old mid new (subst P (sym s.ensures.table)
    s.ensures.leaps) s.ensures.nothing_due c.visit_next.ensures.ticked c.visit_next.ensures.moves c.visit_next.ensures.falls)
