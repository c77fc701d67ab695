-- The client's end of a line, before and after a call.
use Rattle.std.specs.Prelude.{ℕ, ◌≡◌, ◌==◌, ◌+◌, ◌<◌, ◌≤◌, ◌⊎◌, ◌++◌, Bool, true, false, List, [], ◌∷◌, length, Option, Some, None}
use Rattle.timer_desk_c.specs.Types.{LAST, CLine, Line}
use Rattle.timer_facility.specs.declared.request.Request.{Request}
use Rattle.timer_desk.specs.declared.word.Numbered.{Numbered}
use Rattle.timer_desk.specs.declared.word.Word.{Word}
use Rattle.timer_desk.specs.RingEnds.{Ring, line_of_end, requests_ring_of, words_ring_of_reader, submitted, all_submitted, received_by_end, read_by, unread_by, is_settled_reader, seen_by_end, seen_by_reader, free_of, next_of, numbered, found_by_end, found_by_reader}
use Rattle.timer_desk.specs.Looks.{AreLooksInOrder}
use Rattle.timer_desk.specs.declared.looks.Found.{Found}
use Rattle.timer_desk.specs.declared.looks.Found.TheVariants.{Nothing}
use Rattle.timer_desk_c.specs.declared.line.Line.TheVariants.{Open, Finished, Gone}
use Rattle.timer_desk_c.specs.declared.layout.Message.{Message}
use Rattle.timer_desk_c.specs.declared.status.TheConstants.{OK, NOT_OPEN, LINE_FULL, NUMBERS_SPENT, FINISHED}
use Rattle.timer_desk_c.specs.Frames.{HasLine, HasNoLine, with_line}
use Rattle.timer_desk_c.specs.Messages.{message_of}

-- it has not finished
abbrev pub is_open_line : Line → Bool
is_open_line (Open e) = true
is_open_line (Finished ended r) = false
is_open_line Gone = false

-- its ring of requests; none if it finished after the owner's end was freed
abbrev pub requests_ring_on : Line → Option Ring
requests_ring_on (Open e) = Some (line_of_end e).0
requests_ring_on (Finished (Some e) r) = Some (requests_ring_of e)
requests_ring_on (Finished None r) = None
requests_ring_on Gone = None

-- its ring of words
abbrev pub words_ring_on : Line → Option Ring
words_ring_on (Open e) = Some (line_of_end e).1
words_ring_on (Finished ended r) = Some (words_ring_of_reader r)
words_ring_on Gone = None

-- all requests submitted
abbrev pub submitted_on : Line → List Numbered
submitted_on (Open e) = submitted e
submitted_on (Finished (Some e) r) = all_submitted e
submitted_on (Finished None r) = []
submitted_on Gone = []

-- all words received
abbrev pub received_on : Line → List Word
received_on (Open e) = received_by_end e
received_on (Finished ended r) = read_by r
received_on Gone = []

-- the words that the client knows to be in the line
abbrev pub seen_on : Line → List Word
seen_on (Open e) = seen_by_end e
seen_on (Finished ended r) = seen_by_reader r
seen_on Gone = []

-- what the client has found out about the owner's end
abbrev pub found_on : Line → Found
found_on (Open e) = found_by_end e
found_on (Finished ended r) = found_by_reader r
found_on Gone = Nothing

-- whether the owner has ended its words
abbrev pub is_ended_line : Line → Bool
is_ended_line (Open e) = false
is_ended_line (Finished ended r) = is_settled_reader r
is_ended_line Gone = false

-- the unread words in the line; they are known once the owner has ended its words
abbrev pub unread_on : Line → List Word
unread_on (Open e) = []
unread_on (Finished ended r) = unread_by r
unread_on Gone = []

-- the next request's number
abbrev pub next_on : Line → ℕ
next_on (Open e) = next_of e
next_on (Finished ended r) = 0
next_on Gone = 0

-- how many slots for requests are known to be free
abbrev pub free_on : Line → ℕ
free_on (Open e) = free_of e
free_on (Finished ended r) = 0
free_on Gone = 0

-- the same line; whether it has finished and whether its words have ended are unchanged
abbrev pub IsSameLine : Line → Line → Type 0
IsSameLine old new =
    (requests_ring_on new ≡ requests_ring_on old) × (words_ring_on new ≡ words_ring_on old)
    × (is_open_line new ≡ is_open_line old)
    × (is_ended_line new ≡ is_ended_line old)

-- no request was sent and no word received
abbrev pub SameTraffic : Line → Line → Type 0
SameTraffic old new =
    (submitted_on new ≡ submitted_on old) × (received_on new ≡ received_on old)
    × (unread_on new ≡ unread_on old) × (next_on new ≡ next_on old)

-- it was looked for the owner's end, and then for a word in the line
abbrev pub LookedInOrder : Line → Line → Type 0
LookedInOrder old new = AreLooksInOrder (found_on old) (found_on new) (length (seen_on new) == 0)

-- no request was sent
abbrev pub SameSent : Line → Line → Type 0
SameSent old new = (submitted_on new ≡ submitted_on old) × (next_on new ≡ next_on old)

-- the request was sent under this number, the next one
abbrev pub HasSent : Request → Line → Line → ℕ → Type 0
HasSent request old new number =
    (is_open_line old ≡ true) × (number ≡ next_on old) × (number ≤ LAST) × (next_on new ≡ number + 1)
    × (submitted_on new ≡ submitted_on old ++ numbered number request ∷ [])

-- why no request was sent: `LINE_FULL` only if the client knows of no free slot
abbrev pub WhyNotSent : Line → Line → ℕ → Type 0
WhyNotSent old new status =
    ((status ≡ FINISHED) × (is_open_line old ≡ false))
    ⊎ ((status ≡ NUMBERS_SPENT) × (is_open_line old ≡ true) × (LAST < next_on old))
    ⊎ ((status ≡ LINE_FULL) × (is_open_line old ≡ true) × (next_on old ≤ LAST) × (free_on new ≡ 0))

-- A request is sent over C's line: what the call did if it returns `OK`, and else why not, and what is unchanged then.
-- Of the struct only the state of the line changes. The call writes the number over the one before.
pub record Sends (request : Request) (status before number : ℕ) (old new : CLine) : Type 0 where
  pub sent : status ≡ OK → HasLine old × HasSent request old.slot.state new.slot.state number
  pub refused : 0 < status → ((status ≡ NOT_OPEN) × HasNoLine old)
      ⊎ (HasLine old × WhyNotSent old.slot.state new.slot.state status)
  pub kept : 0 < status → SameTraffic old.slot.state new.slot.state × (number ≡ before)
  pub received : received_on new.slot.state ≡ received_on old.slot.state
  pub found : found_on new.slot.state ≡ found_on old.slot.state
  pub line : IsSameLine old.slot.state new.slot.state
  pub only : new ≡ with_line old new.slot.state

-- a word was received, and this is it
pub record HasReceived (old new : Line) (out : Message) : Type 0 where
  pub word : Word
  pub received : received_on new ≡ received_on old ++ word ∷ []
  pub is : out ≡ message_of word

-- no further word will arrive: the words have ended, and all of them were received
abbrev pub IsReadToEnd : Line → Type 0
IsReadToEnd l = (is_ended_line l ≡ true) × (unread_on l ≡ [])

-- further words may arrive: the words have not ended, or some are unread in the line
abbrev pub MayReceive : Line → Type 0
MayReceive l = (is_ended_line l ≡ false) ⊎ (0 < length (unread_on l))

-- The requests have ended, and what was found of the owner's end stays. Afterwards the line has no ring of requests if the
-- owner's end was freed, by the ring's answer. Otherwise everything that was submitted is known.
abbrev pub HasFinished : Line → Line → Type 0
HasFinished old new =
    (is_open_line old ≡ true) × (is_open_line new ≡ false) × (is_ended_line new ≡ false)
    × (words_ring_on new ≡ words_ring_on old) × (found_on new ≡ found_on old)
    × ((requests_ring_on new ≡ None) ⊎ ((requests_ring_on new ≡ requests_ring_on old)
    × (submitted_on new ≡ submitted_on old)))
