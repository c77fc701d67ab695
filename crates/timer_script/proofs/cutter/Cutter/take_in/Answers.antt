use Rattle.std.proofs.Common.{◌≡◌, [], ◌++◌, true, refl, subst, ◌↔◌}
use Rattle.timer_script.specs.Cutter.{HasReported, StopsAt}
use Rattle.timer_script.proofs.CutterLemmas.{taken_sorted, taken_more}
use Rattle.timer_script.proofs.cutter.Cutter.take_in.Goals as goal

pub returns-in-Ok-clause-taken : goal.returns-in-Ok-clause-taken
returns-in-Ok-clause-taken g c = λ o writer came events h.
    let mid = c.cut.new.self in
    let w = c.args.faults.now in
    let v = c.write_report.new.writer in
    let r = c.is_clean-self.result in
    let said = mid.reports.items in
    taken_more v mid r c.args.piece.now said h (c.in-Ok.ensures.cut o came events h.passed.bad h.kept (taken_sorted h)) refl
    (subst (λ x. HasReported g.F.Write.contents w v x) c.deref.ensures.value c.write_report.ensures.reported)
    (subst (λ x. x ≡ [] → v ≡ w) c.deref.ensures.value c.write_report.ensures.untouched)
    (subst (λ b. (r ≡ true) ↔ ((b ≡ true) × (said ≡ []))) c.cut.ensures.clean
    (subst (λ x. (r ≡ true) ↔ ((mid.clean ≡ true) × (x ≡ []))) c.deref-in-Ok.ensures.value c.is_clean-self.ensures))

pub returns-in-Bad-clause-taken : goal.returns-in-Bad-clause-taken
returns-in-Bad-clause-taken g c = λ o writer came events h.
    let stops = subst (λ f. StopsAt f o (came ++ c.args.piece.now) (events ++ c.cut.new.self.events.items)) c.in-Bad.is
    (c.in-Err.ensures.stopped o came events h.passed.bad h.kept (taken_sorted h)) in
    record { stop = stops.0; untouched = h.passed.untouched stops.0; stopped = stops.1 }
