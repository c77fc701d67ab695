-- Turns of a desk, until each client has reached a goal.
use Rattle.std.specs.Prelude.{◌≡◌, ◌≢◌, ◌<◌, ◌≤◌, ◌+◌, ◌-◌, ◌*◌, ◌⊎◌, ◌==◌, nat_lt, ℕ, min, Bool, true, false, List, [], ◌∷◌, ◌++◌, length, map, take, get_or, All}
use Rattle.std.specs.List.{filter, flat_map, range_with_len, sum_by}
use Rattle.timer_desk.specs.Types.{Progress, Done, Step, DriveEnd}
use Rattle.timer_desk.specs.declared.report.Served.TheVariants.{NoMemory}
use Rattle.timer_desk.specs.declared.report.Done.TheVariants as Dones
use Rattle.timer_desk.specs.declared.report.Step.TheVariants as Steps
use Rattle.timer_desk.specs.declared.driver.Turned.{Turned}
use Rattle.timer_desk.specs.declared.driver.Turned.TheVariants.{Passed, Idle, OutOfMemory}
use Rattle.timer_desk.specs.declared.driver.DriveEnd.TheVariants as DriveEnds
use Rattle.timer_desk.specs.Inlet.{LineKind}
use Rattle.timer_desk.specs.Report.{asked, flushed, steps_of}
use Rattle.timer_desk.specs.Desk.{DeskState, clients_of, NoticesFollow, AreOwed, ReportHolds}

-- What was done of each client.

abbrev pub no_progress : Progress
no_progress = record { served = 0; flushed = 0 }

-- how far a client has come in a report: its requests that were served, counted up to the goal, and its words
-- that were flushed, up to twice the goal
abbrev pub progress_in : ℕ → List Done → ℕ → Progress
progress_in goal report c = record {
  served = min (length (asked c report)) goal;
  flushed = min (flushed c report) (2 * goal);
}

-- so for each client
abbrev pub progress_of : ℕ → ℕ → List Done → List Progress
progress_of goal clients report = map (progress_in goal report) (range_with_len 0 clients)

-- `goal` requests were served, and twice as many words flushed
pub record IsDone (goal : ℕ) (p : Progress) : Type 0 where
  pub served : goal ≤ p.served
  pub flushed : 2 * goal ≤ p.flushed

-- so for each client
abbrev pub AllDone : ℕ → List Progress → Type 0
AllDone goal all = (c : ℕ) (p : Progress) → c < length all → IsDone goal (get_or all c p)

-- of these requests and words, as many are counted as were still missing: requests up to the goal, words up
-- to twice the goal
pub record HasCounted (goal requests words : ℕ) (old new : Progress) : Type 0 where
  pub served : new.served ≡ old.served + min requests (goal - old.served)
  pub flushed : new.flushed ≡ old.flushed + min words (2 * goal - old.flushed)

-- so for each client, by what a report says of it
abbrev pub AllCounted : ℕ → List Done → List Progress → List Progress → Type 0
AllCounted goal report old new = (c : ℕ) (p : Progress) → c < length old
    → HasCounted goal (length (asked c report)) (flushed c report) (get_or old c p) (get_or new c p)

-- how much is left to do for a client
abbrev pub left_for : ℕ → Progress → ℕ
left_for goal p = (goal - p.served) + (2 * goal - p.flushed)

-- how much is left to do for all clients
abbrev pub all_left : ℕ → List Progress → ℕ
all_left goal ps = sum_by (left_for goal) ps

-- Turns.

-- whether the step is a flush of this client
abbrev pub is_flush_of : ℕ → Step → Bool
is_flush_of c (Steps.Flush client) = client == c
is_flush_of c step = false

-- a serve of each client that is to be served, a flush of each client, both in the order of the clients, and a tick
abbrev pub steps_with : (ℕ → Bool) → ℕ → List Step
steps_with is_served clients = map Steps.Serve (filter is_served (range_with_len 0 clients))
    ++ map Steps.Flush (range_with_len 0 clients) ++ Steps.Tick ∷ []

-- whether a client with this progress had fewer than `goal` requests served
abbrev pub is_served : ℕ → List Progress → ℕ → Bool
is_served goal all c = nat_lt (get_or all c no_progress).served goal

-- the steps of the turn after this report: each client is served that has had fewer than `goal` requests served
abbrev pub turn_steps : ℕ → ℕ → List Done → List Step
turn_steps goal clients report = steps_with (λ c. nat_lt (length (asked c report)) goal) clients

-- the report of these turns
abbrev pub joined : List (List Done) → List Done
joined turns = flat_map (λ turn. turn) turns

-- no serve of a report ran out of memory
abbrev pub NoneRanOut : List Done → Type 0
NoneRanOut report = All (λ done. (c : ℕ) → done ≢ Dones.Served c NoMemory) report

-- a client had fewer than `goal` requests served, or fewer than twice as many words flushed
pub record HasUnfinishedClient (goal clients : ℕ) (report : List Done) : Type 0 where
  pub client : ℕ
  pub among : client < clients
  pub fewer : (length (asked client report) < goal) ⊎ (flushed client report < 2 * goal)

-- the turn after these made no progress
abbrev pub IsIdleTurn : ℕ → ℕ → List (List Done) → List Done → Type 0
IsIdleTurn goal clients past turn = progress_of goal clients (joined past ++ turn)
    ≡ progress_of goal clients (joined past)

-- each of the last `idle` turns made no progress
abbrev pub EndsIdle : ℕ → ℕ → ℕ → List (List Done) → Type 0
EndsIdle goal clients idle turns = (idle ≤ length turns)
    × ((k : ℕ) → length turns ≤ k + idle → k < length turns
    → IsIdleTurn goal clients (take k turns) (get_or turns k []))

-- A turn of a drive, and those before it. A drive takes it only if some client is short of the goal, no serve has
-- run out of memory, and not each of the last `limit` turns was without progress.
pub record IsTurn (goal limit clients : ℕ) (past : List (List Done)) (turn : List Done) : Type 0 where
  pub steps : steps_of turn ≡ turn_steps goal clients (joined past)
  pub behind : NoticesFollow false turn
  pub short : HasUnfinishedClient goal clients (joined past)
  pub memory : NoneRanOut (joined past)
  pub goes_on : ¬ (EndsIdle goal clients limit past)

-- these are the turns of a drive, in order
abbrev pub AreTurns : ℕ → ℕ → ℕ → List (List Done) → Type 0
AreTurns goal limit clients turns = (k : ℕ) → k < length turns
    → IsTurn goal limit clients (take k turns) (get_or turns k [])

module _ {I : Type 0} (kind : LineKind I) where
  -- a turn leads from the one desk to the other, and was counted; unless it ran out of memory, no serve did
  pub record TakesTurn (goal : ℕ) (out_of_memory : Bool) (old new : DeskState I)
      (before after : List Progress) : Type 0 where
    pub turn : List Done
    pub holds : ReportHolds kind turn old new
    pub steps : steps_of turn ≡ steps_with (is_served goal before) (length before)
    pub memory : out_of_memory ≡ false → NoneRanOut turn
    pub counted : AllCounted goal turn before after

  -- A turn that passed left less to do, and an idle one changed no count. If memory ran out before the turn,
  -- nothing changed.
  abbrev pub IsTurned : ℕ → DeskState I → DeskState I → List Progress → List Progress → Turned → Type 0
  IsTurned goal old new before after Passed = TakesTurn goal false old new before after
      × (all_left goal after < all_left goal before)
  IsTurned goal old new before after Idle = TakesTurn goal false old new before after × (after ≡ before)
  IsTurned goal old new before after OutOfMemory = (new ≡ old) ⊎ TakesTurn goal true old new before after

  -- There are turns of a drive whose reports, joined, lead from the one desk to the other. If it is done, each client
  -- had `goal` requests served and twice as many words flushed. If the limit ended it, the last `limit` turns made
  -- no progress. Only if it ended out of memory, a serve of its last turn may have run out of memory.
  pub record Drives (goal limit : ℕ) (old new : DeskState I) (outcome : DriveEnd) : Type 0 where
    pub turns : List (List Done)
    pub holds : ReportHolds kind (joined turns) old new
    pub owed : AreOwed old.facility (joined turns)
    pub each : AreTurns goal limit (clients_of old) turns
    pub done : outcome ≡ DriveEnds.Done → (c : ℕ) → c < clients_of old
        → (goal ≤ length (asked c (joined turns))) × (2 * goal ≤ flushed c (joined turns))
    pub idle : outcome ≡ DriveEnds.Limit → EndsIdle goal (clients_of old) limit turns
    pub memory : ¬ (outcome ≡ DriveEnds.OutOfMemory) → NoneRanOut (joined turns)
