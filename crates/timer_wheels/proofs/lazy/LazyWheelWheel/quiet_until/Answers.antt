use Rattle.timer_wheels.proofs.lazy_lemmas.FilesLemmas.{quiet_to_visit}
use Rattle.timer_wheels.proofs.lazy.LazyWheelWheel.quiet_until.Goals as goal

pub returns : goal.returns
returns g c =
    let v = c.first_visit in
    record {
      quiet = quiet_to_visit c.args.self.now.files.files v.result v.ensures.none v.ensures.some v.ensures.later v.ensures.first;
    }
