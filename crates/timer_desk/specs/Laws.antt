-- What the laws on reports say of a member by those before it, without the desk between them.
use Rattle.std.specs.Prelude.{◌≡◌, ℕ, ◌+◌, ◌-◌, ◌≤◌, ◌⊎◌, Bool, true, false, List, [], ◌∷◌, ◌++◌, length}
use Rattle.timer_facility.specs.State.{FacilityState, pending_of}
use Rattle.timer_facility.specs.Run.{run}
use Rattle.timer_facility.specs.Facility.{NeedsMemory}
use Rattle.timer_desk.specs.Types.{Numbered, Served, Done, Word}
use Rattle.timer_desk.specs.declared.report.Served.TheVariants.{NoMemory}
use Rattle.timer_desk.specs.declared.report.Done.TheVariants as Dones
use Rattle.timer_desk.specs.Report.{Account, requests_left, held_list, asked, words, flushed, events, outs}
use Rattle.timer_desk.specs.declared.word.Word.TheVariants as Words
use Rattle.timer_desk.specs.Backlog.{BacklogState}
use Rattle.timer_desk.specs.Member.{ServeRespectsRoom, IsRight, is_notice}

-- the line may run out of memory, or the facility allocates for the first of these requests
abbrev pub IsNeeded : Bool → ℕ → FacilityState → List Numbered → Type 0
IsNeeded may_refuse c s [] = may_refuse ≡ true
IsNeeded may_refuse c s (numbered ∷ later) = (may_refuse ≡ true)
    ⊎ NeedsMemory s c numbered.number numbered.request

-- the length of a client's outbox after a report, if its account was a: the words before and those since,
-- less those flushed
abbrev pub outbox_after : ℕ → Account → List Done → ℕ
outbox_after c a past = length a.backlog.outbox + length (words c past) - flushed c past

-- how many timers of the client are pending after a report from the state s
abbrev pub pending_after : ℕ → FacilityState → List Done → ℕ
pending_after c s past = pending_of (run s (events past)).state c

-- When a member is right for client c, whose account was a before the report and is b after it. A serve's result
-- accords with the room. It runs out of memory only if the line may, or if the request that is then held (the
-- next one done, or the one held at the end) allocates. After the member the outbox has room for a notice of
-- each pending timer.
pub record RespectsRoom (may_refuse : Bool) (c : ℕ) (s : FacilityState) (a b : Account) (past : List Done)
    (done : Done) (later : List Done) : Type 0 where
  pub served : (result : Served) → done ≡ Dones.Served c result
      → ServeRespectsRoom a.backlog.room (outbox_after c a past) (requests_left a - length (asked c past))
      (pending_after c s past) result
  pub needed : done ≡ Dones.Served c NoMemory → IsNeeded may_refuse c (run s (events past)).state
      (asked c later ++ held_list b.backlog.held)
  pub room : outbox_after c a (past ++ done ∷ []) + pending_after c s (past ++ done ∷ []) ≤ a.backlog.room

-- Before a member that is not a notice, the outs of those before it are those of a run of their events: no notice
-- comes late, and none early. The member accords with the state after that run.
pub record HasNoticesInTime (s : FacilityState) (past : List Done) (done : Done) : Type 0 where
  pub outs_are : is_notice done ≡ false → outs past ≡ (run s (events past)).outs
  pub right : IsRight (run s (events past)).state done

-- What a client's outbox needs room for.

-- how many of the words are notices
abbrev pub notice_count : List Word → ℕ
notice_count [] = 0
notice_count (Words.Notice notice ∷ words) = 1 + notice_count words
notice_count (word ∷ words) = notice_count words

-- how many of the words are answers: each other one is a notice
abbrev pub answer_count : List Word → ℕ
answer_count [] = 0
answer_count (Words.Notice notice ∷ words) = answer_count words
answer_count (word ∷ words) = 1 + answer_count words

-- the timers that client c keeps, as the desk sees them: those that are pending, and those whose notice waits in its outbox
abbrev pub timers_kept : ℕ → FacilityState → BacklogState → ℕ
timers_kept c s b = pending_of s c + notice_count b.outbox

-- its requests without an answer: the one to be served next, and those whose answer waits in its outbox
abbrev pub requests_unanswered : BacklogState → ℕ
requests_unanswered b = 1 + answer_count b.outbox
