use Rattle.std.proofs.Common.{◌≡◌, ◌∙◌, ℕ, arith, sym, subst}
use Rattle.timer_desk_c.proofs.RoundLemmas.{IsServing, serving_nothing, serving_more, serving_ends, serving_full}
use Rattle.timer_desk_c.proofs.rounds.serve_up_to.Goals as goal

pub loop-init : goal.loop-init
loop-init g c = record { serving = serving_nothing c.args.client c.args.desk.now c.lemma_invariant.ensures.kept }

pub loop-preserved : goal.loop-preserved
loop-preserved g c =
    let was = c.loop.invariant in
    let report = c.serve-served.ensures.report in record {
      serving = serving_more c.args.client c.loop.counter c.loop.busy c.args.desk.now c.loop.desk c.serve-served.new.self
          c.serve-served.result was.serving (sym c.is_done.ensures ∙ c.if-not-is_done.false) report;
    }

pub returns-then-not-is_done : goal.returns-then-not-is_done
returns-then-not-is_done g c =
    serving_ends c.args.client c.loop.counter c.args.most c.loop.busy c.is_starved-starved.result c.args.desk.now c.loop.desk
    c.serve-served.new.self c.serve-served.result c.loop.invariant.serving
    (omega arith) (sym c.is_done.ensures ∙ c.if-not-is_done.true) c.is_starved-starved.ensures c.serve-served.ensures.report

pub returns : goal.returns
returns g c =
    let full : c.loop.counter ≡ c.args.most = omega arith in
    serving_full c.args.client c.args.most c.loop.busy c.args.desk.now c.loop.desk
    (subst (λ (n : ℕ). IsServing c.args.client n c.loop.busy c.args.desk.now c.loop.desk) full c.loop.invariant.serving)
