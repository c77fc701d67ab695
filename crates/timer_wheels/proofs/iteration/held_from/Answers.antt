use Rattle.std.proofs.Common.{refl}
use Rattle.timer_wheels.proofs.bucket_lemmas.IterationLemmas.{none_held, first_held, alone}
use Rattle.timer_wheels.proofs.iteration.held_from.Goals as goal

pub returns-in_default-clause-first : goal.returns-in_default-clause-first
returns-in_default-clause-first g c = none_held c.args.buckets.now c.lemma_keys_unique.ensures c.args.place c.in_default.ensures.found

pub returns-clause-first : goal.returns-clause-first
returns-clause-first g c = first_held c.args.buckets.now c.lemma_keys_unique.ensures c.args.place (record {
  place = c.in-Some.key;
  serial = c.in-Some-get.node.timer.serial;
}) c.in-Some-get.node c.in-Some.ensures.found c.in-Some-get.ensures refl

pub returns-clause-alone : goal.returns-clause-alone
returns-clause-alone g c = alone c.args.buckets.now c.lemma_keys_unique.ensures (record {
  place = c.in-Some.key;
  serial = c.in-Some-get.node.timer.serial;
}) c.in-Some-get.node c.in-Some-get.ensures refl
