use Rattle.std.proofs.Common.{arith}
use Rattle.timer_desk.proofs.ProgressLemmas.{all_left-at, nothing_set}
use Rattle.timer_desk.proofs.progress.count_member.Goals as goal

pub returns-else-client-len-clause-fewer : goal.returns-else-client-len-clause-fewer
returns-else-client-len-clause-fewer c h =
    let sum = all_left-at c.args.goal c.args.all.now c.in-Served-default-Did.client c.index_mut.result.now c.count_request.new.self
    (omega (arith, c.len.ensures, c.if-client-len.false)) c.index_mut.ensures.value in
    omega (arith, sum, c.count_request.ensures.fewer h)

pub returns-else-client-len-clause-same : goal.returns-else-client-len-clause-same
returns-else-client-len-clause-same c h =
    nothing_set c.args.all.now.items c.in-Served-default-Did.client c.index_mut.result.now c.count_request.new.self
    c.index_mut.ensures.value (c.count_request.ensures.same h)

pub returns-else-client-len-2-clause-fewer : goal.returns-else-client-len-2-clause-fewer
returns-else-client-len-2-clause-fewer c h =
    let sum = all_left-at c.args.goal c.args.all.now c.in-Flushed.client c.index_mut-in-Flushed.result.now c.count_words.new.self
    (omega (arith, c.len-in-Flushed.ensures, c.if-client-len-2.false)) c.index_mut-in-Flushed.ensures.value in
    omega (arith, sum, c.count_words.ensures.fewer h)

pub returns-else-client-len-2-clause-same : goal.returns-else-client-len-2-clause-same
returns-else-client-len-2-clause-same c h =
    nothing_set c.args.all.now.items c.in-Flushed.client c.index_mut-in-Flushed.result.now c.count_words.new.self
    c.index_mut-in-Flushed.ensures.value (c.count_words.ensures.same h)
