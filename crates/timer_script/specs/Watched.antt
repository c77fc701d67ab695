-- What callers see of a reader or a writer that is watched, and what writing a text does to the writer, whose bytes so far
-- may be known.
use Rattle.std.specs.Prelude.{◌≡◌, ℕ, ◌<◌, ◌==◌, ◌&&◌, not, Bool, true, List, length, take, Option, Result, Ok, Err}
use Rattle.std.specs.Io.KnownBytes.{Appends}
use Rattle.timer_script.specs.declared.fault.WriteFault.{WriteFault}
use Rattle.timer_script.specs.declared.watched.Watched.{Watched}

-- the reader or the writer itself
abbrev pub inner_of : {T : Type 0} → Watched T → T
inner_of watched = watched.inner

-- whether a call of it failed
abbrev pub has_failed : {T : Type 0} → Watched T → Bool
has_failed watched = watched.failed

-- Writing.

-- the write failed, or took no byte of a piece that is not empty
abbrev pub took_nothing : {E : Type 0} → Result ℕ E → List ℕ → Bool
took_nothing (Ok n) piece = (n == 0) && not (length piece == 0)
took_nothing (Err e) piece = true

-- writing stopped before the end of the text
abbrev pub StopsWriting : WriteFault → Option (List ℕ) → Option (List ℕ) → Bool → List ℕ → Type 0
StopsWriting fault old new failed text = (fault.written < length text)
    × Appends old new (take fault.written text) × (failed ≡ true)
