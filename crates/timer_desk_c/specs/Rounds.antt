-- Rounds of the owner over all clients, in order: each is served, each outbox is flushed.
use Rattle.std.specs.Prelude.{ℕ, ◌≡◌, ◌<◌, ◌⊎◌, ◌||◌, ◌++◌, Bool, true, false, List, [], ◌∷◌, length, get_or, map, filter, not, All, nat_lt, if◌then◌else◌}
use Rattle.std.specs.List.{list_any, flat_map, enumerate_from}
use Rattle.timer_desk_c.specs.Types.{Served, Done, RingInlet}
use Rattle.timer_desk.specs.declared.report.Served.TheVariants.{NoMemory, Did}
use Rattle.timer_desk.specs.declared.report.Done.TheVariants as Dones
use Rattle.timer_desk.specs.Backlog.{BacklogState}
use Rattle.timer_desk.specs.Member.{is_notice}
use Rattle.timer_desk.specs.Desk.{clients_of, backlog_at}
use Rattle.timer_desk.specs.RingEnds.{free_of_inlet}
use Rattle.timer_desk_c.specs.declared.status.TheConstants.{OK, NO_MEMORY, IDLE}
use Rattle.timer_desk_c.specs.DeskSlots.{RingDesk}
use Rattle.timer_desk_c.specs.Desks.{Says}
use Rattle.timer_desk_c.specs.Freed.{HasDroppedFirst}

-- the report of a round: for each client, in order, the members of its part
abbrev pub report_of : {X : Type 0} → (ℕ → X → List Done) → List X → List Done
report_of {X} members parts = flat_map (λ (part : ℕ × X). members part.0 part.1) (enumerate_from 0 parts)

-- Serves.

-- a request was done
abbrev pub did : Served → Bool
did (Did numbered word) = true
did served = false

-- the serve failed with out of memory
abbrev pub starved : Served → Bool
starved NoMemory = true
starved served = false

-- serves of a client, with these results
abbrev pub serves_of : ℕ → List Served → List Done
serves_of client results = map (Dones.Served client) results

-- the members of a report that are not notices
abbrev pub without_notices : List Done → List Done
without_notices report = filter (λ done. not (is_notice done)) report

-- these serves were made: a report of them, in which a serve may be followed by the notice of a timer that was due with
-- its request
pub record SaysServes (serves : List Done) (old new : RingDesk) : Type 0 where
  pub report : List Done
  pub says : Says report old new
  pub serves_are : without_notices report ≡ serves

-- each of them did a request
abbrev pub AllDid : List Served → Type 0
AllDid results = All (λ served. did served ≡ true) results

-- fewer than `most` requests were done, and then a serve did none
pub record EndsEarly (most : ℕ) (results : List Served) : Type 0 where
  pub before : List Served
  pub last : Served
  pub results_are : results ≡ before ++ last ∷ []
  pub all_did : AllDid before
  pub none_more : did last ≡ false
  pub fewer : length before < most

-- the results of the serves of one client in a round: `most` requests were done, or the round ended early for it
abbrev pub IsServedOut : ℕ → List Served → Type 0
IsServedOut most results = (AllDid results × (length results ≡ most)) ⊎ EndsEarly most results

-- client c alone was served, up to `most` times: whether a request was done, and whether one failed with out of memory
pub record HasServedClient (c most : ℕ) (busy out_of_memory : Bool) (old new : RingDesk) : Type 0 where
  pub results : List Served
  pub says : SaysServes (serves_of c results) old new
  pub served_out : IsServedOut most results
  pub busy_is : busy ≡ list_any did results
  pub memory_is : out_of_memory ≡ list_any starved results

-- the status of a round: out of memory if a serve failed with that, else done if one did a request, else idle
abbrev pub round_status : Bool → Bool → ℕ
round_status out_of_memory busy = if out_of_memory then NO_MEMORY else if busy then OK else IDLE

-- the first `many` clients were served, in order, up to `most` times: whether a request was done, and whether a serve
-- failed with out of memory
pub record HasServedFirst (most many : ℕ) (busy out_of_memory : Bool) (old new : RingDesk) : Type 0 where
  pub results : List (List Served)
  pub as_many : length results ≡ many
  pub says : SaysServes (report_of serves_of results) old new
  pub served_out : All (IsServedOut most) results
  pub busy_is : busy ≡ list_any (list_any did) results
  pub memory_is : out_of_memory ≡ list_any (list_any starved) results

-- each client was, and this is the status of the round
pub record HasServedAll (most status : ℕ) (old new : RingDesk) : Type 0 where
  pub busy : Bool
  pub out_of_memory : Bool
  pub each : HasServedFirst most (clients_of old) busy out_of_memory old new
  pub status_is : status ≡ round_status out_of_memory busy

-- Flushes.

-- the flush of a client that moved this many words
abbrev pub flush_of : ℕ → ℕ → List Done
flush_of client count = Dones.Flushed client count ∷ []

-- no more words could be moved: the outbox is empty, or the owner knows of no free slot in the line
abbrev pub IsFlushedOut : RingInlet → BacklogState → Type 0
IsFlushedOut i b = (b.outbox ≡ []) ⊎ (free_of_inlet i ≡ 0)

-- the first `many` clients were flushed, in order, as far as their lines had room; and whether a word was moved
pub record HasFlushedFirst (many : ℕ) (moved : Bool) (old new : RingDesk) : Type 0 where
  pub counts : List ℕ
  pub as_many : length counts ≡ many
  pub says : Says (report_of flush_of counts) old new
  pub flushed_out : (c : ℕ) (i : RingInlet) → c < many → IsFlushedOut (get_or new.inlets c i) (backlog_at new c)
  pub moved_is : moved ≡ list_any (nat_lt 0) counts

-- each client was flushed, and the words that its line did not take were dropped if the client is gone
pub record HasFlushedAll (moved : Bool) (old new : RingDesk) : Type 0 where
  pub put : Bool
  pub between : RingDesk
  pub flushed : HasFlushedFirst (clients_of old) put old between
  pub dropped : Bool
  pub rest : HasDroppedFirst (clients_of between) dropped between new
  pub moved_is : moved ≡ put || dropped
