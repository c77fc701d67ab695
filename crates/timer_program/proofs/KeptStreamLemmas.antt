-- What was served with a journal.
use Rattle.std.proofs.Common.{◌≡◌, ℕ, Bool, List, Option, Result, subst}
use Rattle.timer_commands.specs.declared.ending.Ending.{Ending}
use Rattle.timer_commands.specs.declared.keeping.KeptFault.{KeptFault}
use Rattle.timer_commands.specs.declared.options.RunOptions.{RunOptions}
use Rattle.timer_commands.specs.Journaling.{KeptStream, HasServedKept}
use Rattle.timer_commands.specs.Serving.{Talk}

-- the wake-ups that were wanted, by another name
abbrev pub wanted_as : {P F J : Type 0} (known : KeptStream P F J) (options : RunOptions) (wakeups wanted : Bool) (seen : Option ℕ) (first : Option (List ℕ)) (file : List ℕ)
    (old new : Talk P F) (result : Result Ending KeptFault) → wakeups ≡ wanted → HasServedKept known options wakeups seen first file old new result
    → HasServedKept known options wanted seen first file old new result
wanted_as known options wakeups wanted seen first file old new result is served =
    subst (λ (k : Bool). HasServedKept known options k seen first file old new result) is served
