use Rattle.std.proofs.Common.{◌≡◌, [], ◌∷◌, ◌++◌, List, subst, refl, sym, ◌∙◌, ap, append-nil, append_assoc, arith}
use Rattle.std.proofs.lemmas.Grind.{common_steps}
use Rattle.std.proofs.lemmas.List.{nil_from_length}
use Rattle.timer_threads.specs.Types.{Worked}
use Rattle.timer_threads.specs.Results.{AreUnzipped}
use Rattle.timer_threads.proofs.ResultsLemmas.{AreUnzipped-more}
use Rattle.timer_threads.proofs.results.unzip_results.Goals as goal

pub loop-worked-init : goal.loop-worked-init
loop-worked-init c = record {
  unzipped = rw (c.in_ok-ends.ensures.items, c.in_ok-readers.ensures.items) (record { ends_are = refl; readers_are = refl });
  whole = c.into_iter-worked-iterator.ensures.into_iter_gives.0;
  ends = grind (arith, common_steps);
  readers = grind (arith, common_steps);
  ends_room = refl;
  readers_room = refl;
}

pub loop-worked-preserved : goal.loop-worked-preserved
loop-worked-preserved c =
    let was = c.loop-worked.invariant in
    let e = c.in-Some.ensures in record {
      unzipped = rw (c.push_reserved.ensures.items, c.push_reserved-in-loop-worked.ensures.items)
          (AreUnzipped-more c.loop-worked.yielded c.loop-worked.ends.items c.loop-worked.readers.items c.in-Some.worked
          c.in-Some-ended.ended was.unzipped c.in-Some-ended.is);
      whole = append_assoc c.loop-worked.yielded (c.in-Some.worked ∷ []) c.next.new.self.rest.items
          ∙ ap (λ ws. c.loop-worked.yielded ++ ws) (sym e.steps.0) ∙ was.whole;
      ends = grind (arith, common_steps);
      readers = grind (arith, common_steps);
      ends_room = grind (arith, common_steps);
      readers_room = grind (arith, common_steps);
    }

pub returns-clause-some : goal.returns-clause-some
returns-clause-some c =
    let was = c.loop-worked.invariant in
    let e = c.in-None.ensures in
    let rest = c.loop-worked.worked-iterator.rest in
    let none : rest.items ≡ [] = nil_from_length rest.items (omega (arith, e.steps.0, rest.ok)) in
    let all : c.loop-worked.yielded ≡ c.args.all.items = sym (append-nil c.loop-worked.yielded)
    ∙ ap (λ ws. c.loop-worked.yielded ++ ws) (sym none) ∙ was.whole in
    subst (λ (ws : List Worked). AreUnzipped ws c.loop-worked.ends.items c.loop-worked.readers.items) all was.unzipped
