use Rattle.std.proofs.Common.{◌≡◌, ◌++◌, length, vec_len, sym, ◌∙◌, ap, subst, arith, refl, codes}
use Rattle.std.specs.Prelude.{IfSome}
use Rattle.std.proofs.lemmas.Option.{IfSome_then}
use Rattle.timer_threads.specs.Results.{NoneFailed, IsFirstFailed}
use Rattle.timer_threads.specs.Threads.{clients_text, whole_lines}
use Rattle.timer_threads.proofs.ThreadLemmas.{clients_text-whole}
use Rattle.timer_threads.proofs.EndedLines.{ends_of, readers_of, first_client, none_blamed, wound_by}
use Rattle.timer_threads.proofs.run_end.end_all.Goals as goal

pub same-desk : goal.same-desk
same-desk c = refl

pub first_unfinished-held-requires : goal.first_unfinished-held-requires
first_unfinished-held-requires c =
    let all = c.args.all.items in
    let some = c.in-Ok-unzip_results.ensures.some in record {
      ends = IfSome_then c.in-Ok-unzip_results.parts some (λ p h. ends_of c.args.desk all p.0.items p.1.items c.requires.lines h);
      readers = IfSome_then c.in-Ok-unzip_results.parts some (λ p h. readers_of c.args.desk all p.0.items p.1.items c.requires.lines h);
    }

pub returns-in-Some : goal.returns-in-Some
returns-in-Some c =
    let all = c.args.all.items in
    let desk = c.args.desk in
    let at = c.deref.ensures.value in
    let some = c.in-Ok-unzip_results.ensures.some in
    let held = c.first_unfinished-held.ensures in record {
      text = tt;
      ended = tt;
      fault = (
        c.in_default.not-OutOfMemory,
        first_client desk all c.first_failed-failed.result c.first_unfinished-held.result c.in-Some.c (sym c.in-Some.ensures)
            (subst (λ ws. IfSome c.first_failed-failed.result (λ k. IsFirstFailed ws k)) at c.first_failed-failed.ensures.some)
            (λ n. subst NoneFailed at (c.first_failed-failed.ensures.none n)) (held.held all c.requires.lines some)
            (λ n. wound_by c.in-Ok-unzip_results.parts c.in-Ok-unzip_results.ensures.none (held.wound all c.requires.lines some n)),
      );
    }

pub returns-in-Limit : goal.returns-in-Limit
returns-in-Limit c =
    let all = c.args.all.items in
    let desk = c.args.desk in
    let at = c.deref.ensures.value in
    let some = c.in-Ok-unzip_results.ensures.some in
    let none = none_blamed desk all c.first_failed-failed.result c.first_unfinished-held.result (sym c.in-None.ensures)
    (λ n. subst NoneFailed at (c.first_failed-failed.ensures.none n))
    (λ n. wound_by c.in-Ok-unzip_results.parts c.in-Ok-unzip_results.ensures.none
    (c.first_unfinished-held.ensures.wound all c.requires.lines some n)) in record {
      text = tt;
      ended = tt;
      fault = (c.in-Limit.is, none.0, none.1);
    }

pub returns-in-Done : goal.returns-in-Done
returns-in-Done c =
    let all = c.args.all.items in
    let desk = c.args.desk in
    let at = c.deref.ensures.value in
    let some = c.in-Ok-unzip_results.ensures.some in
    let none = none_blamed desk all c.first_failed-failed.result c.first_unfinished-held.result (sym c.in-None.ensures)
    (λ n. subst NoneFailed at (c.first_failed-failed.ensures.none n))
    (λ n. wound_by c.in-Ok-unzip_results.parts c.in-Ok-unzip_results.ensures.none
    (c.first_unfinished-held.ensures.wound all c.requires.lines some n)) in
    let long : length all ≡ vec_len c.args.all = omega (arith, c.args.all.ok) in record {
      text =
          c.in-Ok.ensures
          ∙ ap (λ ws. clients_text 0 ws ++ codes "end\n") c.deref-2.ensures.value
          ∙ ap (λ t. t ++ codes "end\n") (clients_text-whole 0 c.args.timers all c.requires.counts none.0
          ∙ ap (λ n. whole_lines 0 n c.args.timers) long);
      ended = record { done = c.in-Done.is; good = none.0; wound = none.1 };
      fault = tt;
    }
