use Rattle.timer_facility.proofs.SoundLemmas.{sound_opened, sound_run, configured_opened, configured_run}
use Rattle.timer_facility.proofs.laws.each_run_leaves_a_sound_state.Goals as goal

pub returns-clause-opened : goal.returns-clause-opened
returns-clause-opened c = λ config last layout in_range tick clock.
    (sound_opened config last layout in_range tick clock, configured_opened config last layout)

pub returns-clause-run : goal.returns-clause-run
returns-clause-run c = sound_run

pub returns-clause-configured : goal.returns-clause-configured
returns-clause-configured c = configured_run
