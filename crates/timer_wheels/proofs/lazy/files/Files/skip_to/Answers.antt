use Rattle.std.proofs.Common.{refl, arith}
use Rattle.timer_wheels.specs.Buckets.{state_of}
use Rattle.timer_wheels.proofs.lazy_lemmas.FilesLemmas.{skipped_sound, skipped_filed, skip_passes}
use Rattle.timer_wheels.proofs.lazy_lemmas.FilingCounts.{skipped_left}
use Rattle.timer_wheels.proofs.lazy.files.Files.skip_to.Goals as goal

pub invariant_of-buckets : goal.invariant_of-buckets
invariant_of-buckets g c = record {
  sound = skipped_sound c.args.self.now.files c.args.tick c.requires.later c.requires.in_range c.requires.nothing_due c.requires.ahead;
}

pub invariant_of-self-clause-files : goal.invariant_of-self-clause-files
invariant_of-self-clause-files g c =
    let w = c.args.self.now in
    record {
      has_slots = w.files.has_slots;
      clock = w.files.clock;
      filed = skipped_filed w.files c.args.tick c.requires.later c.requires.in_range c.requires.nothing_due c.requires.ahead;
      marked = w.files.marked;
    }

pub invariant_of-self-clause-paid : goal.invariant_of-self-clause-paid
invariant_of-self-clause-paid g c =
    let w = c.args.self.now in
    omega (arith, skipped_left w.files c.args.tick c.requires.later c.requires.ahead, w.paid)

pub returns-clause-left : goal.returns-clause-left
returns-clause-left g c = skipped_left c.args.self.now.files c.args.tick c.requires.later c.requires.ahead

pub returns-clause-passing : goal.returns-clause-passing
returns-clause-passing g c =
    let w = c.args.self.now in
    skip_passes w.files c.args.tick c.requires.later c.requires.in_range c.requires.nothing_due c.requires.ahead
    (record (state_of w.buckets) { now = c.args.tick }) refl
