use Rattle.std.proofs.Common.{◌<◌, ℕ, sym, subst}
use Rattle.timer_wheels.specs.lazy.Files.{AreVisitedFrom}
use Rattle.timer_wheels.specs.Occupied.{IsFirstSet}
use Rattle.timer_wheels.specs.Tables.{radices}
use Rattle.timer_wheels.specs.declared.table.TheConstants.{MOST_BUCKETS}
use Rattle.timer_wheels.proofs.lazy_lemmas.FilesLemmas.{none_at_all, none_pending, first_in_table, first_later, first_of_all, some_pending}
use Rattle.timer_wheels.proofs.lazy.files.Files.first_visit.Goals as goal

pub returns-in_err-list-clause-none : goal.returns-in_err-list-clause-none
returns-in_err-list-clause-none g c =
    let w = c.args.self.now in
    rw c.from_residual.ensures (none_pending w.files (subst (IsFirstSet MOST_BUCKETS w.occupied) c.in_err-list.was c.first.ensures))

pub returns-in_err-list-clause-empty : goal.returns-in_err-list-clause-empty
returns-in_err-list-clause-empty g c =
    let w = c.args.self.now in
    rw c.from_residual.ensures (none_at_all w.files (subst (IsFirstSet MOST_BUCKETS w.occupied) c.in_err-list.was c.first.ensures))

pub visit_of-requires-clause-list : goal.visit_of-requires-clause-list
visit_of-requires-clause-list g c =
    let w = c.args.self.now in
    first_in_table w.files c.in_ok-list.list (subst (IsFirstSet MOST_BUCKETS w.occupied) c.in_ok-list.was c.first.ensures)

pub returns-clause-some : goal.returns-clause-some
returns-clause-some g c =
    let w = c.args.self.now in
    some_pending w.files c.in_ok-list.list (subst (IsFirstSet MOST_BUCKETS w.occupied) c.in_ok-list.was c.first.ensures)

pub returns-clause-later : goal.returns-clause-later
returns-clause-later g c =
    let w = c.args.self.now in
    subst (λ (v : ℕ). w.buckets.tick < v) (sym c.visit_of.ensures)
    (first_later w.files c.in_ok-list.list (subst (IsFirstSet MOST_BUCKETS w.occupied) c.in_ok-list.was c.first.ensures))

pub returns-clause-first : goal.returns-clause-first
returns-clause-first g c =
    let w = c.args.self.now in
    subst (λ (v : ℕ). AreVisitedFrom (radices w.table) v w.buckets.tick w.buckets.slots w.buckets.links.lists) (sym c.visit_of.ensures)
    (first_of_all w.files c.in_ok-list.list (subst (IsFirstSet MOST_BUCKETS w.occupied) c.in_ok-list.was c.first.ensures))
