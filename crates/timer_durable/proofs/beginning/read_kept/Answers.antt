use Rattle.std.proofs.Common.{◌++◌, length, sym, ap, ◌∙◌}
use Rattle.timer_durable.proofs.Preambles.{first_line_off, too_short, parts_make_it}
use Rattle.timer_durable.proofs.beginning.read_kept.Goals as goal

pub returns-in_default-clause-fault : goal.returns-in_default-clause-fault
returns-in_default-clause-fault c = (
  (c.in_ok-rest.rest.now, c.in_ok-rest.ensures.ok),
  λ b state lines counted fits is. c.in_default.ensures.none b _ _ counted fits
      (first_line_off c.args.text.now c.args.options.now c.in_ok-rest.rest.now b state lines c.in_ok-rest.ensures.ok is),
)

pub returns-then-len-rest-clause-fault : goal.returns-then-len-rest-clause-fault
returns-then-len-rest-clause-fault c =
    let read = c.in-Some.ensures.some in (
      (c.in_ok-rest.rest.now, c.in_ok-rest.ensures.ok),
      λ b state lines counted fits is. too_short c.args.text.now c.args.options.now c.in_ok-rest.rest.now c.in-Some.rest.now c.in-Some.beginning b c.in-Some.len
          state lines read.0 counted read.1 fits c.in_ok-rest.ensures.ok read.2 c.if-len-rest.true is,
    )

pub returns-clause-ok : goal.returns-clause-ok
returns-clause-ok c =
    let s = c.split_at.ensures in
    let read = c.in-Some.ensures.some in
    parts_make_it c.args.text.now c.args.options.now c.in_ok-rest.rest.now c.in-Some.rest.now c.in-Some.beginning c.in-Some.len _ _ c.in_ok-rest.ensures.ok read.2
    (sym s.front_len ∙ ap length (sym c.in_ok-from_slice.ensures.items))
    (s.by_index.0 ∙ (λ i. sym c.in_ok-from_slice.ensures.items i ++ sym c.in_ok-from_slice-2.ensures.items i))
