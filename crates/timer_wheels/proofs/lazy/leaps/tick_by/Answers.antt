use Rattle.std.proofs.Common.{◌≡◌, ◌<◌, ◌+◌, ℕ, [], length, sym, ◌∙◌, ap, subst, arith}
use Rattle.timer_wheels.specs.Types.{Ghosts, list_at, Rows, Table}
use Rattle.timer_wheels.specs.Buckets.{state_of}
use Rattle.timer_wheels.specs.Digits.{slots, emptied}
use Rattle.timer_wheels.specs.lazy.Files.{filed_next}
use Rattle.timer_wheels.specs.Occupied.{bit_of}
use Rattle.timer_wheels.specs.declared.lazy.files.Files.{Files}
use Rattle.timer_wheels.specs.declared.lazy.files.FilingCounts.{FilingCounts}
use Rattle.timer_wheels.specs.hier.Migration.{left_rows}
use Rattle.timer_wheels.specs.Tables.{radices}
use Rattle.timer_wheels.proofs.lazy_lemmas.FilesLemmas.{none_where}
use Rattle.timer_wheels.proofs.lazy_lemmas.Leaps.{passes_by, passing_one}
use Rattle.timer_wheels.proofs.bucket_lemmas.WheelUpdates.{in_word}
use Rattle.timer_wheels.proofs.lazy.leaps.tick_by.Goals as goal

pub has-requires : goal.has-requires
has-requires g c = (omega arith, in_word c.args.table c.emptied_at-list.result c.emptied_at-list.ensures.in_range)

pub visit-requires-clause-emptied : goal.visit-requires-clause-emptied
visit-requires-clause-emptied g c =
    c.emptied_at-list.ensures.value ∙ ap (λ (t : Table). emptied (radices t) (c.args.files.now.buckets.tick + 1)) c.requires.table

pub visit-requires-clause-in_table : goal.visit-requires-clause-in_table
visit-requires-clause-in_table g c =
    subst (λ (t : Table). c.emptied_at-list.result < slots (radices t)) c.requires.table c.emptied_at-list.ensures.in_range

-- the bucket that the tick empties, if its bit is clear
none_there : {N : Type 0} {kept : Ghosts N} (files : Files N kept) (table : Table) (list : ℕ) → table ≡ files.table → list < slots (radices table)
    → list ≡ emptied (radices table) (files.buckets.tick + 1) → bit_of files.occupied list ≡ 0
    → list_at (emptied (radices files.table) (files.buckets.tick + 1)) files.buckets.links.lists ≡ []
none_there files table list e k at z =
    let here : list ≡ emptied (radices files.table) (files.buckets.tick + 1) =
    at ∙ ap (λ (t : Table). emptied (radices t) (files.buckets.tick + 1)) e in
    ap (λ (l : ℕ). list_at l files.buckets.links.lists) (sym here)
    ∙ none_where files.files list (subst (λ (t : Table). list < slots (radices t)) e k) z

pub skip_to-requires-clause-ahead : goal.skip_to-requires-clause-ahead
skip_to-requires-clause-ahead g c =
    let l = c.emptied_at-list in
    passes_by c.args.files.now.files
    (none_there c.args.files.now c.args.table l.result c.requires.table l.ensures.in_range l.ensures.value (c.has.ensures.no c.if-has.false))

pub returns-else-has-clause-ticked : goal.returns-else-has-clause-ticked
returns-else-has-clause-ticked g c =
    passing_one c.args.files.now.buckets.tick (state_of c.args.files.now.buckets) (state_of c.skip_to.new.self.buckets) c.skip_to.ensures.passing

pub returns-else-has-clause-counts : goal.returns-else-has-clause-counts
returns-else-has-clause-counts g c =
    let w = c.args.files.now in
    let l = c.emptied_at-list in
    let none : filed_next w.table w.buckets ≡ 0 = ap (λ (rows : Rows). length (left_rows (w.buckets.tick + 1) rows))
    (none_there w c.args.table l.result c.requires.table l.ensures.in_range l.ensures.value (c.has.ensures.no c.if-has.false)) in
    let same : w.counts.filings ≡ w.counts.filings + filed_next w.table w.buckets = omega arith in
    c.skip_to.ensures.counts ∙ ap (λ (n : ℕ). record w.counts { filings = n }) same

pub returns-else-has-clause-counted : goal.returns-else-has-clause-counted
returns-else-has-clause-counted g c =
    omega (arith, ap (λ (n : FilingCounts). n.filings) c.skip_to.ensures.counts, c.skip_to.ensures.left)
