-- The readings of a report of `turn`, and what they say of each client and of the facility.
use Rattle.std.specs.Prelude.{◌≡◌, ℕ, ◌+◌, ◌-◌, ◌≤◌, ◌==◌, List, [], ◌∷◌, ◌++◌, length, take, Option, Some, None, Ok, Err, Result, if◌then◌else◌}
use Rattle.std.specs.List.{flat_map}
use Rattle.timer_desk.specs.Types.{CloseFault, TickFault, Out, Numbered, Word, Served, Step, Done}
use Rattle.timer_facility.specs.declared.request.CloseFault.TheVariants as CloseFaults
use Rattle.timer_facility.specs.declared.event.Out.TheVariants as Outs
use Rattle.timer_facility.specs.State.{FacilityState, SingleEvent, Tick, Close}
use Rattle.timer_facility.specs.Facility.{event_of_request, place_in}
use Rattle.timer_facility.specs.Run.{PlacedEvent, run}
use Rattle.timer_facility.specs.Ticked.{ticks}
use Rattle.timer_desk.specs.declared.word.Word.TheVariants as Words
use Rattle.timer_desk.specs.declared.report.Served.TheVariants.{Did}
use Rattle.timer_desk.specs.declared.report.Step.TheVariants as Steps
use Rattle.timer_desk.specs.declared.report.Done.TheVariants as Dones
use Rattle.timer_desk.specs.Backlog.{BacklogState, client_of}
use Rattle.timer_desk.specs.Inlet.{LineKind}
use Rattle.timer_desk.specs.Extends.{Extends}

-- One member of a report.

abbrev pub request_in : Served → List Numbered
request_in (Did numbered word) = numbered ∷ []
request_in served = []

abbrev pub word_in : Served → List Word
word_in (Did numbered word) = word ∷ []
word_in served = []

abbrev pub asked_in : ℕ → Done → List Numbered
asked_in c (Dones.Served client served) = if client == c then request_in served else []
asked_in c done = []

abbrev pub words_in : ℕ → Done → List Word
words_in c (Dones.Served client served) = if client == c then word_in served else []
words_in c (Dones.Noticed notice) = if client_of notice == c then Words.Notice notice ∷ [] else []
words_in c done = []

abbrev pub flushed_in : ℕ → Done → ℕ
flushed_in c (Dones.Flushed client count) = if client == c then count else 0
flushed_in c done = 0

-- the place in a word, if it is the answer to an accepted start or restart
abbrev pub place_in_word : Word → ℕ
place_in_word (Words.Answered number action answer) = place_in answer
place_in_word word = 0

-- a word to a client as an out
abbrev pub out_of : ℕ → Word → Out
out_of client (Words.Answered number action answer) = Outs.Answered client number answer
out_of client (Words.NotTaken number action reason) = Outs.NotTaken client number reason
out_of client (Words.Notice notice) = Outs.Notice notice

abbrev pub placed : SingleEvent → ℕ → PlacedEvent
placed event place = record { event = event; place = place }

-- a request that was tried and didn't run out of memory
abbrev pub request_event : ℕ → Numbered → Word → PlacedEvent
request_event client numbered word = placed (event_of_request client numbered.number numbered.request)
    (place_in_word word)

abbrev pub served_events : ℕ → Served → List PlacedEvent
served_events client (Did numbered word) = request_event client numbered word ∷ []
served_events client served = []

-- a close that ran out of memory is no event
abbrev pub close_events : Result ℕ CloseFault → List PlacedEvent
close_events (Ok count) = placed Close 0 ∷ []
close_events (Err CloseFaults.Closed) = placed Close 0 ∷ []
close_events (Err CloseFaults.OutOfMemory) = []

-- so many ticks were passed, or one was refused
abbrev pub passed_events : Result ℕ TickFault → List PlacedEvent
passed_events (Ok passed) = ticks passed
passed_events (Err fault) = ticks 1

abbrev pub served_outs : ℕ → Served → List Out
served_outs client (Did numbered word) = out_of client word ∷ []
served_outs client served = []

abbrev pub tick_outs : {X : Type 0} → Result X TickFault → List Out
tick_outs (Ok done) = []
tick_outs (Err fault) = Outs.TickRefused fault ∷ []

abbrev pub close_outs : Result ℕ CloseFault → List Out
close_outs (Ok count) = Outs.Closed count ∷ []
close_outs (Err CloseFaults.Closed) = Outs.CloseRefused ∷ []
close_outs (Err CloseFaults.OutOfMemory) = []

-- the step that a member is the result of, if it is of one
abbrev pub step_in : Done → List Step
step_in (Dones.Served client served) = Steps.Serve client ∷ []
step_in (Dones.Ticked result) = Steps.Tick ∷ []
step_in (Dones.Passed limit passed) = Steps.Ticks limit ∷ []
step_in (Dones.Closed result) = Steps.Close ∷ []
step_in (Dones.Noticed notice) = []
step_in (Dones.Flushed client count) = Steps.Flush client ∷ []

abbrev pub events_in : Done → List PlacedEvent
events_in (Dones.Served client served) = served_events client served
events_in (Dones.Ticked result) = placed Tick 0 ∷ []
events_in (Dones.Passed limit passed) = passed_events passed
events_in (Dones.Closed result) = close_events result
events_in done = []

abbrev pub outs_in : Done → List Out
outs_in (Dones.Served client served) = served_outs client served
outs_in (Dones.Ticked result) = tick_outs result
outs_in (Dones.Passed limit passed) = tick_outs passed
outs_in (Dones.Closed result) = close_outs result
outs_in (Dones.Noticed notice) = Outs.Notice notice ∷ []
outs_in (Dones.Flushed client count) = []

-- The readings of a report.

-- the requests of client c that were done
abbrev pub asked : ℕ → List Done → List Numbered
asked c report = flat_map (asked_in c) report

-- the words for client c
abbrev pub words : ℕ → List Done → List Word
words c report = flat_map (words_in c) report

-- how many words of client c went into its line
abbrev pub flushed : ℕ → List Done → ℕ
flushed c [] = 0
flushed c (done ∷ report) = flushed_in c done + flushed c report

-- the steps, in order
abbrev pub steps_of : List Done → List Step
steps_of report = flat_map step_in report

-- the events of the facility, each accepted start with the place in its answer
abbrev pub events : List Done → List PlacedEvent
events report = flat_map events_in report

-- its outs
abbrev pub outs : List Done → List Out
outs report = flat_map outs_in report

-- What a report says of one client.

-- a request that is held, as a list
abbrev pub held_list : Option Numbered → List Numbered
held_list (Some numbered) = numbered ∷ []
held_list None = []

-- one client's account at the desk, as lists
pub record Account : Type 0 where
  pub got : List Numbered
  pub standing : List Numbered
  pub given : List Word
  pub backlog : BacklogState

-- the account of a client with line i and backlog b
abbrev pub account_of : {I : Type 0} → LineKind I → I → BacklogState → Account
account_of kind i b = record {
  got = (kind.state i).got;
  standing = (kind.state i).standing;
  given = (kind.state i).given;
  backlog = b;
}

-- the requests that were got, without the held one
abbrev pub got_but_held : Account → List Numbered
got_but_held a = take (length a.got - length (held_list a.backlog.held)) a.got

-- a request that is held is the last that was got
abbrev pub HeldIsLast : Account → Type 0
HeldIsLast a = got_but_held a ++ held_list a.backlog.held ≡ a.got

-- how many requests are held or known to stand
abbrev pub requests_left : Account → ℕ
requests_left a = length (held_list a.backlog.held) + length a.standing

-- the account was a and is b, after these requests were done, these words pushed and so many of them flushed
pub record IsAccount (requests : List Numbered) (words : List Word) (flushed : ℕ) (a b : Account) : Type 0 where
  -- a request held before is the first one done since, or is still held
  pub held_first : Extends (held_list a.backlog.held) (requests ++ held_list b.backlog.held)
  pub asked_are : got_but_held a ++ requests ++ held_list b.backlog.held ≡ b.got
  pub words_are : b.given ++ b.backlog.outbox ≡ a.given ++ a.backlog.outbox ++ words
  pub flushed_are : length b.given ≡ length a.given + flushed
  pub fewer_left : requests_left a ≤ length requests + requests_left b
  pub same_room : b.backlog.room ≡ a.backlog.room

-- what a report says of client c, whose account was a and is b
abbrev pub ClientAccount : ℕ → List Done → Account → Account → Type 0
ClientAccount c report a b = IsAccount (asked c report) (words c report) (flushed c report) a b

-- what a report says of the facility, whose state was s and is t
pub record Runs (report : List Done) (s t : FacilityState) : Type 0 where
  pub outs_are : outs report ≡ (run s (events report)).outs
  pub state_is : t ≡ (run s (events report)).state
