use Rattle.std.proofs.Common.{◌≡◌, ◌<◌, ◌+◌, ◌-◌, ℕ, sym, ◌∙◌, ap, subst, arith, Some}
use Rattle.timer_base.specs.WheelState.{IsPassing}
use Rattle.timer_wheels.specs.Types.{WheelState, Ghosts, Table}
use Rattle.timer_wheels.specs.Buckets.{state_of}
use Rattle.timer_wheels.specs.Digits.{slots, emptied}
use Rattle.timer_wheels.specs.lazy.Files.{AreVisitedFrom}
use Rattle.timer_wheels.specs.hier.Leap.{list_visit}
use Rattle.timer_wheels.specs.Occupied.{IsFirstSet}
use Rattle.timer_wheels.specs.Tables.{radices}
use Rattle.timer_wheels.specs.declared.lazy.files.Files.{Files}
use Rattle.timer_wheels.specs.declared.table.TheConstants.{MOST_BUCKETS}
use Rattle.timer_wheels.specs.declared.lazy.files.FilingCounts.{FilingCounts}
use Rattle.timer_wheels.proofs.lazy_lemmas.FilesLemmas.{none_at_all, first_in_table, first_later, first_of_all, visited_none, visited_sooner}
use Rattle.timer_wheels.proofs.lazy_lemmas.Leaps.{passing_passes, first_emptied}
use Rattle.timer_wheels.proofs.smooth_lemmas.Leaps.{leap_and_tick}
use Rattle.timer_wheels.proofs.lazy.files.Files.pass.Goals as goal

-- No bucket has a timer.

pub skip_to-requires-clause-ahead : goal.skip_to-requires-clause-ahead
skip_to-requires-clause-ahead g c =
    let w = c.args.self.now in
    visited_none w.files (c.args.end + 1) (none_at_all w.files c.in_default.ensures)

pub returns-in_default-clause-passes : goal.returns-in_default-clause-passes
returns-in_default-clause-passes g c =
    let b = c.args.self.now.buckets in
    passing_passes (c.args.end - b.tick) (state_of b) (state_of c.skip_to.new.self.buckets) (omega arith) (omega (arith, c.skip_to.ensures.tick))
    c.skip_to.ensures.passing

pub returns-in_default-clause-counted : goal.returns-in_default-clause-counted
returns-in_default-clause-counted g c = omega (arith, ap (λ (n : FilingCounts). n.filings) c.skip_to.ensures.counts, c.skip_to.ensures.left)

-- The first visit is after the end.

pub visit_of-visit-requires-clause-list : goal.visit_of-visit-requires-clause-list
visit_of-visit-requires-clause-list g c = first_in_table c.args.self.now.files c.in-Some.list c.in-Some.ensures

pub skip_to-requires-then-end-visit-clause-ahead : goal.skip_to-requires-then-end-visit-clause-ahead
skip_to-requires-then-end-visit-clause-ahead g c =
    let w = c.args.self.now in
    visited_sooner w.files (list_visit (radices w.table) c.in-Some.list w.buckets.tick) (c.args.end + 1)
    (omega (arith, c.visit_of-visit.ensures, c.if-end-visit.true)) (first_of_all w.files c.in-Some.list c.in-Some.ensures)

pub returns-then-end-visit-clause-passes : goal.returns-then-end-visit-clause-passes
returns-then-end-visit-clause-passes g c =
    let b = c.args.self.now.buckets in
    let k = c.skip_to-then-end-visit in
    passing_passes (c.args.end - b.tick) (state_of b) (state_of k.new.self.buckets) (omega arith) (omega (arith, k.ensures.tick)) k.ensures.passing

pub returns-then-end-visit-clause-counted : goal.returns-then-end-visit-clause-counted
returns-then-end-visit-clause-counted g c =
    let k = c.skip_to-then-end-visit in
    omega (arith, ap (λ (n : FilingCounts). n.filings) k.ensures.counts, k.ensures.left)

-- Or it is passed to.

module _ {N : Type 0} {kept : Ghosts N} (w : Files N kept) (list visit : ℕ) (e : visit ≡ list_visit (radices w.table) list w.buckets.tick)
    (f : IsFirstSet MOST_BUCKETS w.occupied (Some list)) where
  later : w.buckets.tick < visit
  later = omega (arith, e, first_later w.files list f)

  ahead : AreVisitedFrom (radices w.table) (visit - 1 + 1) w.buckets.tick w.buckets.slots w.buckets.links.lists
  ahead = visited_sooner w.files (list_visit (radices w.table) list w.buckets.tick) (visit - 1 + 1) (omega (arith, later, e)) (first_of_all w.files list f)

  emptied_then : (tick : ℕ) (table : Table) → tick ≡ visit - 1 → table ≡ w.table → list ≡ emptied (radices table) (tick + 1)
  emptied_then tick table n s =
      first_emptied w.files list (visit - 1) f (omega (arith, later)) (omega (arith, later, e))
      ∙ (ap (λ (x : ℕ). emptied (radices w.table) (x + 1)) (sym n) ∙ ap (λ (t : Table). emptied (radices t) (tick + 1)) (sym s))

  table_then : (table : Table) → table ≡ w.table → list < slots (radices table)
  table_then table s = subst (λ (t : Table). list < slots (radices t)) (sym s) (first_in_table w.files list f)

pub overflow_sub-visit : goal.overflow_sub-visit
overflow_sub-visit g c =
    omega (arith, later c.args.self.now c.in-Some.list c.visit_of-visit.result c.visit_of-visit.ensures c.in-Some.ensures)

pub skip_to-requires-else-end-visit-clause-later : goal.skip_to-requires-else-end-visit-clause-later
skip_to-requires-else-end-visit-clause-later g c =
    omega (arith, later c.args.self.now c.in-Some.list c.visit_of-visit.result c.visit_of-visit.ensures c.in-Some.ensures)

pub skip_to-requires-else-end-visit-clause-ahead : goal.skip_to-requires-else-end-visit-clause-ahead
skip_to-requires-else-end-visit-clause-ahead g c =
    ahead c.args.self.now c.in-Some.list c.visit_of-visit.result c.visit_of-visit.ensures c.in-Some.ensures

pub visit-requires : goal.visit-requires
visit-requires g c =
    let w = c.args.self.now in
    let k = c.skip_to-else-end-visit in
    let l = later w c.in-Some.list c.visit_of-visit.result c.visit_of-visit.ensures c.in-Some.ensures in
    record {
      nothing_due = ap (λ (u : WheelState). u.due) k.ensures.state ∙ c.requires.nothing_due;
      before_last = omega (arith, k.ensures.tick, l, c.if-end-visit.false, c.requires.end, ap (λ (u : WheelState). u.last_tick) k.ensures.state);
      emptied = emptied_then w c.in-Some.list c.visit_of-visit.result c.visit_of-visit.ensures c.in-Some.ensures k.new.self.buckets.tick
          k.new.self.table k.ensures.tick k.ensures.table;
      in_table = table_then w c.in-Some.list c.visit_of-visit.result c.visit_of-visit.ensures c.in-Some.ensures k.new.self.table k.ensures.table;
    }

pub returns-else-end-visit-clause-passes : goal.returns-else-end-visit-clause-passes
returns-else-end-visit-clause-passes g c =
    let b = c.args.self.now.buckets in
    let k = c.skip_to-else-end-visit in
    let mid = state_of k.new.self.buckets in
    leap_and_tick (state_of b) mid (state_of c.visit.new.self.buckets)
    (omega (arith, k.ensures.tick, later c.args.self.now c.in-Some.list c.visit_of-visit.result c.visit_of-visit.ensures c.in-Some.ensures))
    (subst (λ (x : ℕ). IsPassing (x - b.tick) (state_of b) mid) (sym k.ensures.tick) k.ensures.passing) c.visit.ensures.ticked

pub returns-else-end-visit-clause-end : goal.returns-else-end-visit-clause-end
returns-else-end-visit-clause-end g c =
    let k = c.skip_to-else-end-visit in
    omega (
      arith,
      ap (λ (u : WheelState). u.now) c.visit.ensures.ticked,
      k.ensures.tick,
      c.if-end-visit.false,
      later c.args.self.now c.in-Some.list c.visit_of-visit.result c.visit_of-visit.ensures c.in-Some.ensures,
    )

pub returns-else-end-visit-clause-starts : goal.returns-else-end-visit-clause-starts
returns-else-end-visit-clause-starts g c =
    ap (λ (n : FilingCounts). n.starts) c.visit.ensures.counts ∙ ap (λ (n : FilingCounts). n.starts) c.skip_to-else-end-visit.ensures.counts

pub returns-else-end-visit-clause-counted : goal.returns-else-end-visit-clause-counted
returns-else-end-visit-clause-counted g c =
    let k = c.skip_to-else-end-visit in
    omega (arith, c.visit.ensures.counted, ap (λ (n : FilingCounts). n.filings) k.ensures.counts, k.ensures.left)
