-- The report of a script: one line for each of its bad lines.
use Rattle.std.specs.Prelude.{◌≡◌, ◌==◌, ℕ, ◌+◌, ◌<◌, Bool, true, false, if◌then◌else◌, List, [], ◌∷◌, ◌++◌, length, take, Option, None, Some, Result, Ok, Err, codes, decimal}
use Rattle.std.specs.Io.KnownBytes.{Appends}
use Rattle.std.specs.List.{flat_map, enumerate_from, count_by}
use Rattle.timer_script.specs.Types.{Field, LineFault, MAX_BYTES, CheckFault, Streams}
use Rattle.timer_script.specs.declared.fault.CheckFault.TheVariants as faults
use Rattle.timer_script.specs.Watched.{has_failed}
use Rattle.timer_script.specs.Streams.{Known, unread_of, taken_by}
use Rattle.timer_script.specs.Input.{ReadsUpTo, ReadsTooMany}
use Rattle.timer_script.specs.ScriptRun.{ReadsAs}
use Rattle.timer_script.specs.declared.lines.Grammar.TheVariants.{Script}
use Rattle.timer_script.specs.Diagnosis.{IsVerdict, field_words, reason_words}

-- a byte at the front of the first line
abbrev pub push_front : ℕ → List (List ℕ) → List (List ℕ)
push_front byte [] = (byte ∷ []) ∷ []
push_front byte (first ∷ rest) = (byte ∷ first) ∷ rest

-- the bytes cut after each line feed
abbrev pub cut_lines : List ℕ → List (List ℕ)
cut_lines [] = []
cut_lines (byte ∷ rest) = if byte == 10 then (byte ∷ []) ∷ cut_lines rest else push_front byte
    (cut_lines rest)

-- the verdict on each line
abbrev pub AreVerdicts : List (Option LineFault) → List (List ℕ) → Type 0
AreVerdicts [] [] = Unit {0}
AreVerdicts [] (line ∷ lines) = ⊥
AreVerdicts (verdict ∷ verdicts) [] = ⊥
AreVerdicts (verdict ∷ verdicts) (line ∷ lines) = IsVerdict Script verdict line × AreVerdicts verdicts lines

-- the field before its reason, if it is of one
abbrev pub of_field : Option Field → List ℕ
of_field None = []
of_field (Some field) = field_words field ++ codes ": "

-- the report of a fault in the n-th line
abbrev pub fault_line : ℕ → LineFault → List ℕ
fault_line n fault =
    codes "line " ++ decimal n ++ codes ", column " ++ decimal fault.column ++ codes ": "
    ++ of_field fault.field
    ++ reason_words fault.reason ++ codes "\n"

-- what is reported of a line under its number, by the verdict on it: nothing of a good one
abbrev pub verdict_line : ℕ → Option LineFault → List ℕ
verdict_line n None = []
verdict_line n (Some fault) = fault_line n fault

-- the line is bad
abbrev pub is_bad : Option LineFault → Bool
is_bad None = false
is_bad (Some fault) = true

-- the text reports each bad line of the bytes, in order, and `bad` is their number
pub record IsScriptReport (bytes text : List ℕ) (bad : ℕ) : Type 0 where
  pub verdicts : List (Option LineFault)
  pub right : AreVerdicts verdicts (cut_lines bytes)
  -- the lines are numbered from 1
  pub text_is : text ≡ flat_map (λ numbered. verdict_line numbered.0 numbered.1) (enumerate_from 1 verdicts)
  pub counted : bad ≡ count_by is_bad verdicts

-- what a check did to its reader and its writer, by how it ended
abbrev pub HasChecked : {R S : Type 0} → Known R S → (old new : Streams R S) → Result ℕ CheckFault → Type 0
-- the whole report was written, and nothing else
HasChecked known old new (Ok bad) = (text : List ℕ)
    × ReadsAs (λ bytes. IsScriptReport bytes text bad) (unread_of known old) (unread_of known new)
    × (has_failed new.reader ≡ false)
    × Appends (taken_by known old) (taken_by known new) text × (has_failed new.writer ≡ false)
-- the reader failed in this call, after at most `MAX_BYTES` bytes, and nothing was written
HasChecked known old new (Err faults.Read) = ReadsUpTo MAX_BYTES (unread_of known old) (unread_of known new)
    × (has_failed new.reader ≡ true) × (new.writer ≡ old.writer)
-- one byte more than `MAX_BYTES` was read, and nothing was written
HasChecked known old new (Err faults.TooLong) = ReadsTooMany (unread_of known old) (unread_of known new)
    × (has_failed new.reader ≡ false) × (new.writer ≡ old.writer)
-- nothing was written, and at most one byte more than `MAX_BYTES` was read
HasChecked known old new (Err faults.OutOfMemory) =
    ReadsUpTo (MAX_BYTES + 1) (unread_of known old) (unread_of known new) × (has_failed new.reader ≡ false)
    × (new.writer ≡ old.writer)
-- the writer failed in this call, and a prefix of the report was written, of this length, and nothing else
HasChecked known old new (Err (faults.Write written)) = (text : List ℕ) × (bad : ℕ)
    × ReadsAs (λ bytes. IsScriptReport bytes text bad) (unread_of known old) (unread_of known new)
    × (has_failed new.reader ≡ false)
    × (written < length text) × Appends (taken_by known old) (taken_by known new) (take written text)
    × (has_failed new.writer ≡ true)
