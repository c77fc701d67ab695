use Rattle.std.proofs.Common.{◌++◌, ◌∷◌, [], List, ℕ, ◌∙◌, length, length-append, ap, sym, subst, arith}
use Rattle.timer_facility.specs.Saved.{lines_read}
use Rattle.timer_facility.specs.declared.saved.StateLine.{StateLine}
use Rattle.timer_script.specs.SavedText.{AreStateLines, state_text}
use Rattle.timer_script.proofs.Results.{emptied, not_emptied}
use Rattle.timer_script.proofs.SavedTextLemmas.{no_state_line, state_sound, state_line_shorter, lines_more, one_state_text}
use Rattle.timer_script.proofs.saved_text.read_saved.Goals as goal

pub returns-in_default-clause-fault : goal.returns-in_default-clause-fault
returns-in_default-clause-fault c =
    let i = c.loop-rest.invariant in
    let rest : List ℕ = c.loop-rest.rest.now in (
      c.loop-rest.saved,
      rest,
      record { within = i.within; read = i.read; text = i.text; counted = omega (arith, i.counted) },
      not_emptied rest (sym c.is_empty.ensures ∙ c.loop-rest-test.true),
      no_state_line rest (sym c.in_default.ensures),
    )

pub returns-in-Some-fault_in-clause-fault : goal.returns-in-Some-fault_in-clause-fault
returns-in-Some-fault_in-clause-fault c =
    let i = c.loop-rest.invariant in
    let found = state_sound c.loop-rest.rest.now c.in-Some.after.now c.in-Some.next (sym c.in-Some.ensures) in (
      c.loop-rest.saved,
      c.in-Some.next,
      c.in-Some.after.now,
      record {
        within = i.within;
        read = i.read;
        text = record { parts = i.text.parts ∙ ap (λ t. state_text (lines_read c.loop-rest.saved) ++ t) found.1; spelled = i.text.spelled };
        counted = omega (arith, i.counted);
      },
      found.0,
      sym c.in-Some-fault_in.ensures,
    )

pub loop-rest-smaller : goal.loop-rest-smaller
loop-rest-smaller c =
    omega (arith, state_line_shorter c.loop-rest.rest.now c.in-Some.after.now c.in-Some.next (sym c.in-Some.ensures))

pub loop-rest-preserved : goal.loop-rest-preserved
loop-rest-preserved c =
    let i = c.loop-rest.invariant in
    let after : List ℕ = c.in-Some.after.now in
    let read = sym c.in-Some.ensures in
    record {
      within = c.push.ensures.limits ∙ i.within;
      read = c.push.ensures.read;
      text = subst (λ (lines : List StateLine). AreStateLines c.args.bytes.now lines after) (sym c.in-Ok.ensures.ok)
          (lines_more after c.in-Some.next i.text read);
      counted = omega (
        arith,
        i.counted,
        ap length c.in-Ok.ensures.ok,
        length-append (lines_read c.loop-rest.saved) (c.in-Some.next ∷ []),
      );
      few = omega (arith, i.few, state_line_shorter c.loop-rest.rest.now after c.in-Some.next read);
    }

pub returns-clause-ok : goal.returns-clause-ok
returns-clause-ok c =
    let i = c.loop-rest.invariant in
    let text = subst (λ (rest : List ℕ). AreStateLines c.args.bytes.now (lines_read c.loop-rest.saved) rest)
    (emptied c.loop-rest.rest.now (sym c.is_empty.ensures ∙ c.loop-rest-test.false)) i.text in
    record {
      whole = c.is_whole.ensures.0 c.if-not-is_whole.false;
      within = i.within;
      read = i.read;
      text = text;
      only = λ lines other. one_state_text lines (lines_read c.loop-rest.saved) other text;
    }
