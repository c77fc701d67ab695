-- Clients in threads: the ranges of their options, and how a call with them ends.
use Rattle.std.specs.Prelude.{◌≡◌, ℕ, ◌≤◌, ◌⊎◌, ◌++◌, true, false, List, Option, Result, Ok, Err, Vec, codes, decimal}
use Rattle.std.specs.Io.KnownBytes.{Appends}
use Rattle.timer_commands.specs.declared.ending.Ending.{Ending}
use Rattle.timer_commands.specs.declared.ending.Ending.TheVariants.{Done, Failed, Refused}
use Rattle.timer_threads.specs.declared.outcome.ThreadsFault.{ThreadsFault}
use Rattle.timer_threads.specs.declared.outcome.ThreadsFault.TheVariants as faults
use Rattle.timer_threads.specs.Threads.{whole_text, IsThreadsRun, IsExplained, HasSucceeded}
use Rattle.timer_commands.specs.declared.threads_options.ThreadsOptions.{ThreadsOptions}
use Rattle.timer_script.specs.declared.watched.Watched.{Watched}
use Rattle.timer_script.specs.Watched.{inner_of, has_failed}

-- 1 to 64 clients, with 1 to 10,000 timers each
pub record IsRunnable (options : ThreadsOptions) : Type 0 where
  pub some_clients : 1 ≤ options.clients
  pub few_clients : options.clients ≤ 64
  pub some_timers : 1 ≤ options.timers
  pub few_timers : options.timers ≤ 10000

-- the line of an error of this client
abbrev pub client_fault : ℕ → List ℕ
client_fault client = codes "client " ++ decimal client ++ codes " failed\n"

-- the line of an error
abbrev pub error_line : ThreadsFault → List ℕ
error_line faults.OutOfMemory = codes "out of memory\n"
error_line (faults.Client client) = client_fault client
error_line faults.Desk = codes "desk failed\n"

-- a text was written whole, or a writer failed
abbrev pub WritesWhole : {S : Type 0} → (S → Option (List ℕ)) → Watched S → Watched S → List ℕ → Type 0
WritesWhole contents writer writer' text =
    (has_failed writer' ≡ true)
    ⊎ ((has_failed writer' ≡ false) × Appends (contents (inner_of writer)) (contents (inner_of writer')) text)

-- what was written for a run of clients: its text; or nothing, and on the other writer the line of its error
abbrev pub HasEndedClients : {S F A : Type 0} → Result (Vec ℕ A) ThreadsFault → (S → Option (List ℕ))
    → (F → Option (List ℕ))
    → (writer writer' : Watched S) (faults faults' : Watched F) → Ending → Type 0
HasEndedClients (Ok text) contents contents-of-faults writer writer' errors errors' ending =
    ((ending ≡ Done) × (has_failed writer' ≡ false) × Appends (contents (inner_of writer))
    (contents (inner_of writer')) text.items)
    ⊎ ((ending ≡ Failed) × (has_failed writer' ≡ true))
HasEndedClients (Err fault) contents contents-of-faults writer writer' errors errors' ending =
    (ending ≡ Failed) × (writer' ≡ writer) × WritesWhole contents-of-faults errors errors' (error_line fault)

-- the line of options that are out of range
abbrev pub range_line : List ℕ
range_line = codes "the number of clients or of timers is out of range\n"

-- the line of the first error of a run was written
pub record IsReported {F : Type 0} (options : ThreadsOptions) (reports : F → Option (List ℕ))
    (faults faults' : Watched F) : Type 0 where
  pub fault : ThreadsFault
  pub explained : IsExplained options.clients options.timers 10000000 fault
  pub line : WritesWhole reports faults faults' (error_line fault)

-- The clients ran, with this limit of idle turns, and their whole text was written. Or it was not, and unless the writer
-- failed, the line says why.
pub record HasRunClients {S F : Type 0} (options : ThreadsOptions) (contents : S → Option (List ℕ))
    (reports : F → Option (List ℕ)) (writer writer' : Watched S) (faults faults' : Watched F) (ending : Ending) : Type 0 where
  pub one_of : (ending ≡ Done) ⊎ ((ending ≡ Failed) ⊎ (ending ≡ Refused))
  -- the whole text was written
  pub written : ending ≡ Done
      → IsRunnable options × IsThreadsRun options.clients options.timers 10000000 HasSucceeded
      × Appends (contents (inner_of writer)) (contents (inner_of writer'))
      (whole_text options.clients options.timers)
      × (has_failed writer' ≡ false)
  -- the writer failed, or nothing was written, for this reason
  pub failed : ending ≡ Failed → IsRunnable options × ((has_failed writer' ≡ true)
      ⊎ ((writer' ≡ writer) × IsReported options reports faults faults'))
  -- an option is out of range, and nothing was written
  pub refused : ending ≡ Refused → ¬ (IsRunnable options) × (writer' ≡ writer) × WritesWhole reports faults faults' range_line
