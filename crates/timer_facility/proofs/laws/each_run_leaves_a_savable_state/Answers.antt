use Rattle.timer_facility.proofs.SavableLemmas.{savable_opened, savable_run, savable_restored, savable-bare}
use Rattle.timer_facility.proofs.laws.each_run_leaves_a_savable_state.Goals as goal

pub returns-clause-opened : goal.returns-clause-opened
returns-clause-opened c = savable_opened

pub returns-clause-run : goal.returns-clause-run
returns-clause-run c = savable_run

pub returns-clause-restored : goal.returns-clause-restored
returns-clause-restored c = savable_restored

pub returns-clause-places : goal.returns-clause-places
returns-clause-places c = savable-bare
