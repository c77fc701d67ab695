-- What a client sends, what it may receive, and the result of its work.
use Rattle.std.specs.Prelude.{◌≡◌, ◌+◌, ◌-◌, ◌%◌, ◌<◌, ◌≤◌, ◌⊎◌, ℕ, Bool, true, false, List, [], ◌∷◌, ◌++◌, length, map, take, get_or, Option, Some, None, IfSome}
use Rattle.std.specs.List.{flat_map, range_with_len}
use Rattle.timer_threads.specs.Types.{Timer, Numbered, Word, Turn, Worked, ClientEnd}
use Rattle.timer_base.specs.Order.{is_before}
use Rattle.timer_facility.specs.declared.request.Request.TheVariants.{Start}
use Rattle.timer_facility.specs.declared.request.Answer.TheVariants as Answers
use Rattle.timer_facility.specs.declared.request.Notice.TheVariants as Notices
use Rattle.timer_desk.specs.declared.word.Word.TheVariants as Words
use Rattle.timer_desk.specs.declared.looks.Found.TheVariants.{Nothing}
use Rattle.timer_desk.specs.RingEnds.{Line, line_of_end, next_of, numbered, submitted, received_by_end, all_submitted, requests_ring_of, words_ring_of_reader, read_by, free_of, found_by_end, found_by_reader}
use Rattle.timer_threads.specs.Turns.{requests_of, words_of, idle_at_end}

-- What is sent.

-- request j, counted from 1, of a client with this first number
abbrev pub request_of : ℕ → ℕ → Numbered
request_of first j = numbered (first + (j - 1)) (Start (1 + j % 97) j)

-- the first `sent` requests of a client
abbrev pub requests_from : ℕ → ℕ → List Numbered
requests_from first sent = map (request_of first) (range_with_len 1 sent)

-- What is received.

-- the number of the request that started a timer, by this word
abbrev pub started_in : Word → List ℕ
started_in (Words.Answered number action (Answers.Started handle deadline)) = number ∷ []
started_in word = []

-- the timer that expired, by this word
abbrev pub expired_in : Word → List Timer
expired_in (Words.Notice (Notices.Expired timer)) = timer ∷ []
expired_in word = []

-- the numbers of the requests that started a timer, by these words
abbrev pub started_in_words : List Word → List ℕ
started_in_words words = flat_map started_in words

-- the timers that expired, by these words
abbrev pub expired_by : List Word → List Timer
expired_by words = flat_map expired_in words

-- the timer is handed out after this one, if there is one
abbrev pub follows : Option Timer → Timer → Bool
follows None t = true
follows (Some earlier) t = is_before earlier t

-- each timer is handed out after the one before it, and the first after this one, if there is one
abbrev pub AreAscending : Option Timer → List Timer → Type 0
AreAscending earlier [] = Unit {0}
AreAscending earlier (t ∷ ts) = (follows earlier t ≡ true) × AreAscending (Some t) ts

-- the words satisfy the checks of a client with this many requests, from this number on
pub record ArePassed (first count : ℕ) (words : List Word) : Type 0 where
  -- each is a `Started` answer or an `Expired` notice
  pub each : length words ≡ length (started_in_words words) + length (expired_by words)
  pub numbers : started_in_words words ≡ range_with_len first (length (started_in_words words))
  pub order : AreAscending None (expired_by words)
  pub few_started : length (started_in_words words) ≤ count
  pub few_expired : length (expired_by words) ≤ count

-- the last of the words is the first that does not satisfy the checks
pub record StopsAtWord (first count : ℕ) (words : List Word) : Type 0 where
  pub passed : List Word
  pub last : Word
  pub are : words ≡ passed ++ last ∷ []
  pub pass : ArePassed first count passed
  pub fails : ¬ (ArePassed first count words)

-- The turns.

-- something was not sent, or of the words not received
abbrev pub IsShort : ℕ → List Turn → Type 0
IsShort count turns = (length (requests_of turns) < count)
    ⊎ ((length (started_in_words (words_of turns)) < count) ⊎ (length (expired_by (words_of turns)) < count))

-- A client goes on after these turns: the words that it received satisfy its checks, something is left to send or to
-- receive, and fewer than `limit` turns in a row were idle.
pub record GoesOn (first count limit : ℕ) (turns : List Turn) : Type 0 where
  pub passed : ArePassed first count (words_of turns)
  pub short : IsShort count turns
  pub idle : idle_at_end turns < limit

-- it took each of its turns only while it went on after those before
abbrev pub AreClientTurns : ℕ → ℕ → ℕ → List Turn → Type 0
AreClientTurns first count limit turns = (k : ℕ) → k < length turns → GoesOn first count limit (take k turns)

-- the gate let the request of this turn go, if there is one: it was asked with the request's number, and with how many
-- timers had expired by the words of the turns before
abbrev pub IsLetGo : (ℕ → ℕ → Type 0) → List Turn → Turn → Type 0
IsLetGo lets_go before turn = IfSome turn.sent
    (λ request. lets_go request.number (length (expired_by (words_of before))))

-- so for each turn
abbrev pub AreLetGo : (ℕ → ℕ → Type 0) → List Turn → Type 0
AreLetGo lets_go turns = (k : ℕ) (t : Turn) → k < length turns → IsLetGo lets_go (take k turns) (get_or turns k t)

-- The result of the work.

-- what the client did in its turns
abbrev pub turns_of : Worked → List Turn
turns_of w = w.history.turns.items

-- its end was this one when the work ended, also if nothing is left of it since the owner's end was dropped
abbrev pub WasAtEnd : Worked → ClientEnd → Type 0
WasAtEnd w end = w.history.last.items ≡ end ∷ []

-- the ended end and the reader are of this line
pub record IsOfLine (line : Line) (w : Worked) : Type 0 where
  pub ended : IfSome w.ended (λ e. requests_ring_of e ≡ line.0)
  pub reader : words_ring_of_reader w.reader ≡ line.1

-- something was not sent or not received
abbrev pub IsIncomplete : ℕ → Worked → Type 0
IsIncomplete count w = (w.sent < count) ⊎ ((w.started < count) ⊎ (w.expired < count))

-- if nothing failed, all requests were sent, and as many timers started and expired
abbrev pub IsWhole : ℕ → Worked → Type 0
IsWhole count w = w.failed ≡ false → (w.sent ≡ count) × (w.started ≡ count) × (w.expired ≡ count)

-- What was sent and received by a client with `count` requests that began its work with this end, turn by turn, and
-- whether it failed. If no word is at fault, it failed only after `limit` turns in a row in which it neither sent nor
-- received.
pub record HasWorked (count limit : ℕ) (start : ClientEnd) (w : Worked) : Type 0 where
  pub sent : IfSome w.ended (λ e. all_submitted e ≡ submitted start ++ requests_from (next_of start) w.sent)
  pub most : w.sent ≤ count
  pub last : ClientEnd
  pub last_is : WasAtEnd w last
  pub same_line : line_of_end last ≡ line_of_end start
  pub next : next_of last ≡ next_of start + w.sent
  pub submits : submitted last ≡ submitted start ++ requests_from (next_of start) w.sent
  pub requests : requests_of (turns_of w) ≡ requests_from (next_of start) w.sent
  pub received : read_by w.reader ≡ received_by_end start ++ words_of (turns_of w)
  pub found : found_by_reader w.reader ≡ found_by_end start
  pub started : length (started_in_words (words_of (turns_of w))) ≡ w.started
  pub expired : length (expired_by (words_of (turns_of w))) ≡ w.expired
  pub taken : AreClientTurns (next_of start) count limit (turns_of w)
  pub idle : w.idle ≡ idle_at_end (turns_of w)
  pub passed : w.failed ≡ false → ArePassed (next_of start) count (words_of (turns_of w))
  pub complete : IsWhole count w
  pub failed : w.failed ≡ true → StopsAtWord (next_of start) count (words_of (turns_of w))
      ⊎ (ArePassed (next_of start) count (words_of (turns_of w)) × IsIncomplete count w × (w.idle ≡ limit))

-- a new end with room for 64 requests: nothing was sent, received or seen of the owner's end, and the first request
-- has number 1
pub record IsNewEnd (end : ClientEnd) : Type 0 where
  pub none_sent : submitted end ≡ []
  pub none_received : received_by_end end ≡ []
  pub none_found : found_by_end end ≡ Nothing
  pub room : free_of end ≡ 64
  pub first : next_of end ≡ 1

-- the client began with a new end
pub record IsWork (count limit : ℕ) (w : Worked) : Type 0 where
  pub start : ClientEnd
  pub new : IsNewEnd start
  pub worked : HasWorked count limit start w
