-- The backlog of one client at the desk, and the backlogs after notices.
use Rattle.std.specs.Prelude.{ℕ, ◌==◌, if◌then◌else◌, ◌+◌, ◌<◌, ◌≤◌, List, [], ◌∷◌, ◌++◌, length, get_or, slice_set, Option, None, map}
use Rattle.timer_desk.specs.Types.{Notice, Numbered, Word}
use Rattle.timer_facility.specs.State.{count_of, pending_of}
use Rattle.timer_facility.specs.Facility.{FacilityView}
use Rattle.timer_facility.specs.Owed.{timer_handed}
use Rattle.timer_desk.specs.declared.word.Word.TheVariants as Words

pub record BacklogState : Type 0 where
  -- the waiting words, in the order in which they are put into the line
  pub outbox : List Word
  -- how many words the outbox has room for
  pub room : ℕ
  -- a request that ran out of memory
  pub held : Option Numbered

-- an empty backlog
abbrev pub empty_backlog : ℕ → BacklogState
empty_backlog room = record { outbox = []; room = room; held = None }

-- the word is pushed to the back
abbrev pub with_word : Word → BacklogState → BacklogState
with_word word b = record b { outbox = b.outbox ++ word ∷ [] }

-- the words are pushed to the back, in their order
abbrev pub with_words : List Word → BacklogState → BacklogState
with_words words b = record b { outbox = b.outbox ++ words }

-- the client that a notice is for
abbrev pub client_of : Notice → ℕ
client_of notice = (timer_handed notice).client

-- the notice is pushed to the back of its client's outbox
abbrev pub with_notice : Notice → List BacklogState → List BacklogState
with_notice notice bs = slice_set bs (client_of notice)
    (with_word (Words.Notice notice) (get_or bs (client_of notice) (empty_backlog 0)))

-- the notices are pushed, one after another, to the back of their clients' outboxes
abbrev pub with_notices : List Notice → List BacklogState → List BacklogState
with_notices [] bs = bs
with_notices (notice ∷ notices) bs = with_notices notices (with_notice notice bs)

-- how many of the notices are for a client
abbrev pub notices_for : ℕ → List Notice → ℕ
notices_for client notices = count_of client (map timer_handed notices)

-- of the timers that are pending or wait to be handed out, at most one is new, and it is this client's; nothing waited
pub record HoldsAtMostOneMore (client : ℕ) (f g : FacilityView) : Type 0 where
  pub of_client : (c : ℕ) → pending_of g.state c + notices_for c g.waiting
      ≤ pending_of f.state c + (if client == c then 1 else 0)
  pub all : length g.state.pending + length g.waiting ≤ length f.state.pending + 1

-- each outbox has room for its words, for a notice of each pending timer of its client, and for its notices
-- that wait
abbrev pub HasRoomForNotices : List BacklogState → FacilityView → Type 0
HasRoomForNotices bs f = (c : ℕ) (d : BacklogState) → c < length bs
    → length (get_or bs c d).outbox + pending_of f.state c + notices_for c f.waiting ≤ (get_or bs c d).room
