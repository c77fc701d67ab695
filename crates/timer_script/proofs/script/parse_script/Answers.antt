use Rattle.std.proofs.Common.{sym, ◌∙◌, arith, subst}
use Rattle.timer_script.specs.declared.lines.Grammar.TheVariants.{Script}
use Rattle.timer_script.proofs.Results.{emptied}
use Rattle.timer_script.proofs.ScriptLemmas.{HasReadTo, one_spelling, read_more, read_all, line_shorter}
use Rattle.timer_script.proofs.script.parse_script.Goals as goal

pub loop-rest-preserved : goal.loop-rest-preserved
loop-rest-preserved c =
    let read = sym c.in-Some.ensures in
    let i = c.loop-rest.invariant in
    record {
      read = subst (HasReadTo c.args.bytes.now c.in-Some.after.now) (sym c.in_ok-push.ensures.items)
          (read_more c.args.bytes.now c.loop-rest.rest.now c.in-Some.after.now c.loop-rest.events.items c.in-Some.event i.read read);
      counted =
          omega (arith, c.in_ok-push.ensures.len, line_shorter c.loop-rest.rest.now c.in-Some.after.now c.in-Some.event read, i.counted);
    }

pub returns-clause-only : goal.returns-clause-only
returns-clause-only c = λ others script.
    let own = read_all _ _ _ c.loop-rest.invariant.read (emptied c.loop-rest.rest.now (sym c.is_empty.ensures ∙ c.loop-rest-test.false)) in
    one_spelling Script others c.loop-rest.events.items c.args.bytes.now script own
