use Rattle.std.proofs.Common.{arith}
use Rattle.timer_base.specs.WheelState.{after_removal}
use Rattle.timer_wheels.specs.Buckets.{state_of}
use Rattle.timer_wheels.proofs.lazy_lemmas.FilesLemmas.{pushed_back}
use Rattle.timer_wheels.proofs.lazy_lemmas.FilingCounts.{paid_push_back}
use Rattle.timer_wheels.proofs.hier_lemmas.Invariant.{few_starts}
use Rattle.timer_wheels.proofs.lazy.files.Files.postpone.Goals as goal

pub invariant_of-self-2-clause-files : goal.invariant_of-self-2-clause-files
invariant_of-self-2-clause-files g c =
    let p = c.in_ok-old in
    pushed_back c.args.self.now.files c.lemma_keys_unique.ensures c.args.handle c.args.timer c.requires.fresh c.postpone.new.self p.old
    c.postpone.ensures.frame p.ensures.old p.ensures.ahead p.ensures.lists

pub invariant_of-self-2-clause-few_starts : goal.invariant_of-self-2-clause-few_starts
invariant_of-self-2-clause-few_starts g c =
    let w = c.args.self.now in
    few_starts w.buckets c.postpone.new.self c.args.handle.place w.counts.starts c.args.timer
    (after_removal c.args.handle (state_of w.buckets)) w.few_starts c.requires.fresh c.in_ok-old.ensures.restarted

pub invariant_of-self-2-clause-paid : goal.invariant_of-self-2-clause-paid
invariant_of-self-2-clause-paid g c =
    let w = c.args.self.now in
    let p = c.in_ok-old in
    paid_push_back w.files w.counts.filings w.counts.starts c.args.handle c.args.timer p.old c.postpone.new.self
    c.postpone.ensures.frame.tick c.lemma_keys_unique.ensures p.ensures.old c.requires.deadline
    (omega (arith, p.ensures.ahead.0, p.ensures.ahead.1)) p.ensures.lists w.paid
