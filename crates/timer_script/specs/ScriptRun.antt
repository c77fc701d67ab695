-- What a run reads and writes: from the bytes of a script to those of the text that answers it.
use Rattle.std.specs.Prelude.{◌≡◌, ℕ, ◌+◌, ◌<◌, ◌≤◌, true, false, List, ◌++◌, length, take, Option, Result, Ok, Err}
use Rattle.std.specs.Io.KnownBytes.{Appends}
use Rattle.timer_script.specs.Types.{Event, Out, FacilityState, MAX_BYTES, RunFault, Streams}
use Rattle.timer_facility.specs.Played.{IsRun, IsPlayed}
use Rattle.timer_script.specs.declared.fault.RunFault.TheVariants as faults
use Rattle.timer_script.specs.Watched.{has_failed}
use Rattle.timer_script.specs.Streams.{Known, unread_of, taken_by}
use Rattle.timer_script.specs.Script.{IsScript, IsBadLine}
use Rattle.timer_script.specs.Text.{lines_of, text}
use Rattle.timer_script.specs.Input.{ReadsWhole, ReadsUpTo, ReadsTooMany}

-- the events were played, and the text grew by the lines of their outs
pub record AddsLines (before : FacilityState) (events : List Event) (old new : List ℕ)
    (after : FacilityState) : Type 0 where
  pub outs : List Out
  pub runs : IsRun before events outs after
  pub lines : new ≡ old ++ lines_of outs

-- the bytes are the script of some events, which were played, and the line of each of their outs was added
pub record HasPlayedLines (before : FacilityState) (bytes old new : List ℕ)
    (after : FacilityState) : Type 0 where
  pub events : List Event
  pub script : IsScript events bytes
  pub adds : AddsLines before events old new after

-- the answer to these events from a state: the lines of their outs, and the end line
pub record IsAnswer (before : FacilityState) (events : List Event) (answer : List ℕ) : Type 0 where
  pub outs : List Out
  pub after : FacilityState
  pub played : IsPlayed before events outs after
  pub lines : answer ≡ text outs after.now (length after.pending)

-- the bytes are the script of some events, and this is the answer to them
abbrev pub IsAnswerTo : FacilityState → (bytes answer : List ℕ) → Type 0
IsAnswerTo before bytes answer = (events : List Event) × IsScript events bytes × IsAnswer before events answer

-- the reader was read to its end, its bytes are within the limit, and this holds of them
pub record ReadsAs (Holds : List ℕ → Type 0) (old new : Option (List ℕ)) : Type 0 where
  pub bytes : List ℕ
  pub whole : ReadsWhole old new bytes
  pub short : length bytes ≤ MAX_BYTES
  pub holds : Holds bytes

-- what a run did to its reader and its writer, by how it ended
abbrev pub HasRun : {R S : Type 0} → FacilityState → Known R S → (old new : Streams R S) → Result Unit RunFault
    → Type 0
-- the whole answer was written, and nothing else
HasRun before known old new (Ok u) = (answer : List ℕ)
    × ReadsAs (λ bytes. IsAnswerTo before bytes answer) (unread_of known old) (unread_of known new)
    × (has_failed new.reader ≡ false)
    × Appends (taken_by known old) (taken_by known new) answer × (has_failed new.writer ≡ false)
-- the reader failed in this call, after at most `MAX_BYTES` bytes, and nothing was written
HasRun before known old new (Err faults.Read) = ReadsUpTo MAX_BYTES (unread_of known old) (unread_of known new)
    × (has_failed new.reader ≡ true) × (new.writer ≡ old.writer)
-- one byte more than `MAX_BYTES` was read, and nothing was written
HasRun before known old new (Err faults.TooLong) = ReadsTooMany (unread_of known old) (unread_of known new)
    × (has_failed new.reader ≡ false) × (new.writer ≡ old.writer)
-- the input is not a script, this is its first bad line, and nothing was written
HasRun before known old new (Err (faults.Bad line)) =
    ReadsAs (λ bytes. IsBadLine bytes line) (unread_of known old) (unread_of known new)
    × (has_failed new.reader ≡ false) × (new.writer ≡ old.writer)
-- nothing was written, and at most one byte more than `MAX_BYTES` was read
HasRun before known old new (Err faults.OutOfMemory) =
    ReadsUpTo (MAX_BYTES + 1) (unread_of known old) (unread_of known new) × (has_failed new.reader ≡ false)
    × (new.writer ≡ old.writer)
-- the writer failed in this call, and a prefix of the answer was written, of this length, and nothing else
HasRun before known old new (Err (faults.Write written)) = (answer : List ℕ)
    × ReadsAs (λ bytes. IsAnswerTo before bytes answer) (unread_of known old) (unread_of known new)
    × (has_failed new.reader ≡ false)
    × (written < length answer) × Appends (taken_by known old) (taken_by known new) (take written answer)
    × (has_failed new.writer ≡ true)
