use Rattle.std.proofs.Common.{◌≡◌, ◌<◌, ◌+◌, ◌++◌, ◌∷◌, length, sym, ◌∙◌, subst, ap, arith}
use Rattle.std.proofs.lemmas.List.{take_all}
use Rattle.timer_durable.specs.Beginning.{IsWithout}
use Rattle.timer_durable.proofs.Splitting.{number_before, no_split, split_behind}
use Rattle.timer_durable.proofs.beginning.read_number.Goals as goal

pub returns-then-len-bytes-clause-none : goal.returns-then-len-bytes-clause-none
returns-then-len-bytes-clause-none c = λ n rest fits is.
    let bytes = c.args.bytes.now in
    let all = take_all c.len_before-len.result bytes (omega (arith, c.if-len-bytes.true)) in
    no_split c.args.end bytes _ rest (subst (IsWithout c.args.end) all c.len_before-len.ensures.before) is

pub returns-in_default-clause-none : goal.returns-in_default-clause-none
returns-in_default-clause-none c = λ n rest fits is.
    let e = c.len_before-len.ensures in
    let in_it : c.len_before-len.result < length c.args.bytes.now = omega (arith, e.within, c.if-len-bytes.false) in
    c.in_default.ensures.none n fits
    (number_before c.args.end n c.len_before-len.result c.args.bytes.now rest c.requires fits in_it e.before (e.at in_it) is)

pub returns-clause-some : goal.returns-clause-some
returns-clause-some c =
    let e = c.len_before-len.ensures in
    let len = c.len_before-len.result in
    let in_it : len < length c.args.bytes.now = omega (arith, e.within, c.if-len-bytes.false) in
    let is = c.in-Some.ensures.some in
    (is.0, split_behind c.args.end len c.args.bytes.now _ in_it (e.at in_it) is.1)
