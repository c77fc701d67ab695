-- The text that a journal begins with, and why a text is not that of a journal.
use Rattle.std.specs.Prelude.{◌≡◌, ◌≢◌, ◌≤◌, ◌⊎◌, ℕ, Bool, true, false, List, [], ◌∷◌, ◌++◌, length, codes, decimal, Option, None, Some}
use Rattle.std.specs.List.{AllByRecursion}
use Rattle.timer_script.specs.Script.{HasNoFeed}
use Rattle.timer_journal.specs.declared.fault.DeviceFault.TheVariants as devices
use Rattle.timer_journal.specs.declared.fault.JournalFault.TheVariants as journals
use Rattle.timer_durable.specs.Types.{LAST, Beginning, Kept, BeginFault, JournalFault}
use Rattle.timer_durable.specs.declared.fault.BeginFault.TheVariants as faults

-- the first line of a journal with these options
unfoldable pub first_line : List ℕ → List ℕ
first_line options = codes "timers-journal 1 " ++ options ++ codes "\n"

-- the second line: what came before, and how many bytes the state has
unfoldable pub counts_line : Beginning → ℕ → List ℕ
counts_line b len = codes "begins " ++ decimal b.lines ++ codes " " ++ decimal b.answers ++ codes " " ++ decimal len ++ codes "\n"

-- all that a journal begins with
unfoldable pub preamble_of : List ℕ → Beginning → List ℕ → List ℕ
preamble_of options b state = first_line options ++ counts_line b (length state) ++ state

-- the counts have a spelling that can be read back
abbrev pub IsCounted : Beginning → Type 0
IsCounted b = (b.lines ≤ LAST) × (b.answers ≤ LAST)

-- the text of a journal that keeps this, or has not begun
abbrev pub text_kept : List ℕ → Option Kept → List ℕ
text_kept options None = []
text_kept options (Some kept) = preamble_of options kept.beginning kept.state.items ++ kept.lines.items

-- the faults of a preamble
abbrev pub is_of_preamble : JournalFault → Bool
is_of_preamble journals.TooLong = true
is_of_preamble (journals.Device devices.OutOfMemory) = true
is_of_preamble fault = false

-- this byte is not among these
abbrev pub IsWithout : ℕ → List ℕ → Type 0
IsWithout end bytes = AllByRecursion (λ b. b ≢ end) bytes

-- the bytes begin with this line, which ends at a line feed or with them
pub record BeginsWithLine (bytes line : List ℕ) : Type 0 where
  pub rest : List ℕ
  pub parts : bytes ≡ line ++ rest
  pub bare : IsWithout 10 line
  pub end : (rest ≡ []) ⊎ ((more : List ℕ) × (rest ≡ 10 ∷ more))

-- why a text is not that of a journal with these options
abbrev pub WhyNotKept : List ℕ → List ℕ → BeginFault → Type 0
-- it does not begin with the word of a journal
WhyNotKept options text faults.NoJournal = (text ≢ []) × ((rest : List ℕ) → text ≢ codes "timers-journal " ++ rest)
-- it does, with another version behind it
WhyNotKept options text faults.OtherVersion = ((rest : List ℕ) × (text ≡ codes "timers-journal " ++ rest))
    × ((rest : List ℕ) → text ≢ codes "timers-journal 1 " ++ rest)
-- its first line has other options
WhyNotKept options text (faults.OtherOptions found) = ((rest : List ℕ) × (text ≡ codes "timers-journal 1 " ++ rest) × BeginsWithLine rest found.items)
    × ((rest : List ℕ) → text ≢ first_line options ++ rest)
-- its first line has these options, and no counts with a state of that length follow
WhyNotKept options text faults.NoBeginning = ((rest : List ℕ) × (text ≡ first_line options ++ rest))
    × ((b : Beginning) (state lines : List ℕ) → IsCounted b → length state ≤ LAST → text ≢ preamble_of options b state ++ lines)
-- out of memory
WhyNotKept options text (faults.Journal fault) = fault ≡ journals.Device devices.OutOfMemory

-- the fault names the first line of these bytes as other options, or is out of memory
abbrev pub MatchFound : BeginFault → List ℕ → Type 0
MatchFound (faults.OtherOptions found) rest = BeginsWithLine rest found.items
MatchFound (faults.Journal fault) rest = fault ≡ journals.Device devices.OutOfMemory
MatchFound fault rest = ⊥
