use Rattle.timer_script.proofs.StateTextLemmas.{dump_text, dump_is_read, only_memory}
use Rattle.timer_script.specs.Text.{lines_of}
use Rattle.timer_script.proofs.state_laws.no_dump_is_refused.Goals as goal

pub returns-clause-read : goal.returns-clause-read
returns-clause-read c = λ limits s after outs sound savable within r. dump_is_read limits s (lines_of outs)
    (record { sound = sound; savable = savable; within = within; text_is = dump_text s after outs r })

pub returns-clause-fault : goal.returns-clause-fault
returns-clause-fault c = λ limits s after outs fault sound savable within r why. only_memory limits s (lines_of outs) fault
    (record { sound = sound; savable = savable; within = within; text_is = dump_text s after outs r }) why
