use Rattle.std.proofs.Common.{◌++◌, ℕ, List, sym, ◌∙◌, ap, arith, append_assoc}
use Rattle.std.specs.List.{concat}
use Rattle.timer_journal.specs.Format.{groups_of}
use Rattle.timer_journal.proofs.Reading.{read_first, behind_shorter, split}
use Rattle.timer_journal.proofs.format.read_groups.Goals as goal

pub returns-in_err-extend_from_slice-clause-split : goal.returns-in_err-extend_from_slice-clause-split
returns-in_err-extend_from_slice-clause-split c = split c.args.bytes.now (λ i. omega (arith, c.type_inv.bytes i))

pub loop-group-smaller : goal.loop-group-smaller
loop-group-smaller c = behind_shorter c.loop-group.rest.now c.in-Some.group.now c.in-Some.behind.now c.in-Some.ensures

pub loop-group-preserved : goal.loop-group-preserved
loop-group-preserved c =
    let lines = c.loop-group.lines.items in
    let behind = c.in-Some.behind.now in
    let read = read_first c.loop-group.rest.now c.in-Some.group.now behind c.in-Some.ensures in
    record {
      lines = ap (λ (l : List ℕ). l ++ concat (groups_of behind)) c.in_ok-extend_from_slice.ensures.items ∙ append_assoc lines c.in-Some.group.now (concat (groups_of behind))
          ∙ ap (λ (gs : List (List ℕ)). lines ++ concat gs) (sym read.0) ∙ c.loop-group.invariant.lines;
      tail = sym read.1 ∙ c.loop-group.invariant.tail;
    }

pub returns-clause-split : goal.returns-clause-split
returns-clause-split c = split c.args.bytes.now (λ i. omega (arith, c.type_inv.bytes i))
