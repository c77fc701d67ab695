-- Why a file is not opened as a journal.
use Rattle.std.specs.Prelude.{◌≡◌, true, ℕ, List, length}
use Rattle.timer_journal.specs.Format.{blocks, groups_of, is_foreign, IsDamaged}
use Rattle.timer_journal.specs.Journal.{text_of}
use Rattle.timer_journal.specs.declared.fault.JournalFault.TheVariants as journals
use Rattle.timer_durable.specs.Types.{Beginning, BeginFault, JournalFault}
use Rattle.timer_durable.specs.Beginning.{WhyNotKept}
use Rattle.timer_durable.specs.declared.fault.BeginFault.TheVariants as faults

-- nothing came before
abbrev pub at_first : Beginning
at_first = record { lines = 0; answers = 0 }

-- why a file is no journal that a crash may have left, or a call on it failed
abbrev pub WhyNotRecovered : List ℕ → JournalFault → Type 0
WhyNotRecovered file journals.NoJournal = is_foreign file ≡ true
WhyNotRecovered file (journals.Damaged at) = IsDamaged file × (at ≡ length (blocks (groups_of file)))
WhyNotRecovered file (journals.Device fault) = Unit {0}
WhyNotRecovered file fault = ⊥

-- why a file is not opened as a journal with these options
abbrev pub WhyNotOpened : List ℕ → List ℕ → BeginFault → Type 0
WhyNotOpened options file (faults.Journal fault) = WhyNotRecovered file fault
WhyNotOpened options file fault = WhyNotKept options (text_of file) fault
