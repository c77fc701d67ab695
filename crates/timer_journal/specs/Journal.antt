-- A journal between two appends, and what a crash may leave of one.
use Rattle.std.specs.Prelude.{ℕ, ◌≡◌, ◌⊎◌, Bool, true, false, if◌then◌else◌, List, [], ◌∷◌, ◌++◌, length}
use Rattle.std.specs.List.{concat}
use Rattle.timer_journal.specs.Device.{Only}
use Rattle.timer_journal.specs.Format.{blocks, file_of, groups_of, tail_of, is_torn_end, is_foreign, Says}
use Rattle.timer_journal.specs.declared.fault.JournalFault.{JournalFault}
use Rattle.timer_journal.specs.declared.fault.JournalFault.TheVariants as faults
use Rattle.timer_journal.specs.declared.recovery.End.{End}
use Rattle.timer_journal.specs.declared.recovery.End.TheVariants.{Torn, Damaged, Foreign}

-- the file is its groups and a closed gate, all of it on the disk, and no sync has failed
pub record IsDurable {D : Type 0} (seen : D → List ℕ) (may_leave : D → List ℕ → Type 0) (is_usable : D → Bool) (device : D) : Type 0 where
  pub file : seen device ≡ file_of (groups_of (seen device))
  pub says : Says (groups_of (seen device)) (seen device)
  pub durable : Only (seen device) (may_leave device)
  pub usable : is_usable device ≡ true

-- the same, and this is where the gate is
pub record IsSettled {D : Type 0} (seen : D → List ℕ) (may_leave : D → List ℕ → Type 0) (is_usable : D → Bool) (device : D) (end : ℕ) : Type 0 where
  pub durable : IsDurable seen may_leave is_usable device
  pub end_is : end ≡ length (blocks (groups_of (seen device)))

-- all lines that a file keeps
abbrev pub text_of : List ℕ → List ℕ
text_of file = concat (groups_of file)

-- the file says the groups, with one more or without it
abbrev pub IsBeforeOrAfter : List (List ℕ) → List ℕ → List ℕ → Type 0
IsBeforeOrAfter groups lines file = Says groups file ⊎ Says (groups ++ lines ∷ []) file

-- the file says the groups, or this one alone
abbrev pub IsBeforeOrAnew : List (List ℕ) → List ℕ → List ℕ → Type 0
IsBeforeOrAnew groups lines file = Says groups file ⊎ Says (lines ∷ []) file

-- what is behind the groups of a file
abbrev pub end_of : List ℕ → End
end_of file = if is_foreign file then Foreign else if is_torn_end (tail_of file) then Torn else Damaged

-- the faults of a recovery
abbrev pub is_of_recovery : JournalFault → Bool
is_of_recovery faults.NoJournal = true
is_of_recovery (faults.Damaged at) = true
is_of_recovery (faults.Device fault) = true
is_of_recovery fault = false

-- the faults of an append, and of a new beginning
abbrev pub is_of_append : JournalFault → Bool
is_of_append faults.Dead = true
is_of_append faults.TooLong = true
is_of_append (faults.Device fault) = true
is_of_append fault = false
