-- How many lines a text has, which of them are answers, what comes after so many of these, and what a caller is told
-- once all lines are replayed.
use Rattle.std.specs.Prelude.{◌≡◌, ◌<◌, ◌≤◌, ◌⊎◌, ℕ, zero, suc, ◌+◌, ◌-◌, min, ◌==◌, Bool, true, not, if◌then◌else◌, List, [], ◌∷◌, ◌++◌, Option, None, Some, codes, decimal}
use Rattle.std.specs.List.{filter, concat}
use Rattle.timer_journal.specs.declared.fault.DeviceFault.TheVariants as devices
use Rattle.timer_journal.specs.declared.fault.JournalFault.TheVariants as journals
use Rattle.timer_durable.specs.Types.{LAST, Beginning, KeepFault}
use Rattle.timer_durable.specs.declared.fault.KeepFault.TheVariants as faults

-- how many lines end in a text
abbrev pub lines_in : List ℕ → ℕ
lines_in [] = 0
lines_in (byte ∷ bytes) = if byte == 10 then suc (lines_in bytes) else lines_in bytes

-- a count goes on with the lines of a text, up to the greatest number of 64 bits
abbrev pub counted : ℕ → List ℕ → ℕ
counted count text = min 18446744073709551615 (count + lines_in text)

-- what comes after so many lines
abbrev pub after_lines : ℕ → List ℕ → List ℕ
after_lines zero text = text
after_lines (suc n) [] = []
after_lines (suc n) (byte ∷ bytes) = if byte == 10 then after_lines n bytes else after_lines (suc n) bytes

-- a line that begins with this byte, and then others
abbrev pub put_first : ℕ → List (List ℕ) → List (List ℕ)
put_first byte [] = (byte ∷ []) ∷ []
put_first byte (line ∷ lines) = (byte ∷ line) ∷ lines

-- the lines of a text, each with its line feed, which the last one may lack
abbrev pub cut_lines : List ℕ → List (List ℕ)
cut_lines [] = []
cut_lines (byte ∷ bytes) = if byte == 10 then (byte ∷ []) ∷ cut_lines bytes else put_first byte (cut_lines bytes)

-- a line that begins with the letter w says when to wake up, and is no answer
abbrev pub is_answer : List ℕ → Bool
is_answer [] = true
is_answer (first ∷ rest) = not (first == 119)

-- the answers in a text, and how many of them have ended
abbrev pub answers_of : List ℕ → List ℕ
answers_of text = concat (filter is_answer (cut_lines text))

abbrev pub answers_in : List ℕ → ℕ
answers_in text = lines_in (answers_of text)

-- a count goes on with the answers in a text, up to the greatest number of 64 bits
abbrev pub answered : ℕ → List ℕ → ℕ
answered count text = min 18446744073709551615 (count + answers_in text)

-- the first byte of the line that a text ends with, if its end has not come
abbrev pub first_of : List ℕ → Option ℕ
first_of [] = None
first_of (first ∷ rest) = Some first

abbrev pub begun_in : List ℕ → Option ℕ
begun_in text = first_of (after_lines (lines_in text) text)

-- the first byte of the line of a byte that comes behind such a line
abbrev pub first_at : Option ℕ → ℕ → ℕ
first_at None byte = byte
first_at (Some first) byte = first

-- the answers in a text after those that a caller has seen, if it says how many; so many came before these
abbrev pub unseen_of : ℕ → Option ℕ → List ℕ → List ℕ
unseen_of before None text = []
unseen_of before (Some seen) text = after_lines (seen - before) (answers_of text)

-- after a recovery: how many lines were kept, how many answers they have, and the unseen ones
abbrev pub greeting_of : Beginning → Option ℕ → (came gone : List ℕ) → List ℕ
greeting_of start seen came gone = codes "recovered " ++ decimal (start.lines + lines_in came) ++ codes " "
    ++ decimal (start.answers + answers_in gone) ++ codes "\n" ++ unseen_of start.answers seen gone

-- the answers that a caller has seen, if it says how many, are among those that there were, and the others are here
abbrev pub IsSeenWithin : Option ℕ → (before answers : ℕ) → Type 0
IsSeenWithin None before answers = Unit {0}
IsSeenWithin (Some seen) before answers = (before ≤ seen) × (seen ≤ answers)

-- why not: so many answers came before the journal's beginning, and there were so many in all
abbrev pub IsFaultInSeen : Option ℕ → (before answers : ℕ) → KeepFault → Type 0
IsFaultInSeen seen before answers (faults.AnswersGone n) = (n ≡ before) × ((k : ℕ) × (seen ≡ Some k) × (k < before))
IsFaultInSeen seen before answers (faults.FewAnswers n) = (n ≡ answers) × ((k : ℕ) × (seen ≡ Some k) × (answers < k))
IsFaultInSeen seen before answers fault = ⊥

-- why a caller is not told what was recovered
abbrev pub WhyNotGreeted : Option ℕ → (before : ℕ) → (so_far : Beginning) → KeepFault → Type 0
WhyNotGreeted seen before so_far faults.TooMany = (LAST < so_far.lines) ⊎ (LAST < so_far.answers)
WhyNotGreeted seen before so_far (faults.Journal fault) = fault ≡ journals.Device devices.OutOfMemory
WhyNotGreeted seen before so_far fault = IsFaultInSeen seen before so_far.answers fault
