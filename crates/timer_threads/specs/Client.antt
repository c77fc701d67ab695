-- A client at work. No public clause cites this file.
use Rattle.std.specs.Prelude.{◌≡◌, ◌+◌, ◌-◌, ◌<◌, ◌≤◌, ◌==◌, ◌&&◌, not, nat_lt, ℕ, Bool, true, false, if◌then◌else◌, List, [], ◌∷◌, ◌++◌, length, None}
use Rattle.std.specs.List.{last_or}
use Rattle.timer_threads.specs.Types.{LAST, Word, Turn, ClientEnd, Client}
use Rattle.timer_facility.specs.declared.request.Answer.TheVariants as Answers
use Rattle.timer_facility.specs.declared.request.Notice.TheVariants as Notices
use Rattle.timer_desk.specs.declared.word.Word.TheVariants as Words
use Rattle.timer_desk.specs.RingEnds.{line_of_end, next_of, submitted, received_by_end, found_by_end}
use Rattle.timer_threads.specs.Turns.{requests_of, words_of, is_idle}
use Rattle.timer_threads.specs.Work.{requests_from, started_in, expired_in, started_in_words, expired_by, follows, ArePassed, StopsAtWord}

-- whether the word satisfies the client's checks: it is the next `Started` answer, or a timer after the last one, and
-- no more than are to come
abbrev pub passes : Client → Word → Bool
passes c (Words.Answered number action (Answers.Started handle deadline)) =
    nat_lt c.started c.count && (number == c.first + c.started)
passes c (Words.Notice (Notices.Expired timer)) = nat_lt c.expired c.count && follows c.last timer
passes c word = false

-- the client once it has counted and checked this word
abbrev pub counted : Client → Word → Client
counted c word = record c {
  started = c.started + length (started_in word);
  expired = c.expired + length (expired_in word);
  last = last_or c.last (expired_in word);
  failed = not (passes c word);
}

-- all words satisfy the checks, or all but the last
abbrev pub AreChecked : Bool → ℕ → ℕ → List Word → Type 0
AreChecked false first count words = ArePassed first count words
AreChecked true first count words = StopsAtWord first count words

-- what was sent and received since `start`, counted and checked
pub record IsAtWork (start : ClientEnd) (c : Client) : Type 0 where
  pub line : line_of_end c.end ≡ line_of_end start
  pub found : found_by_end c.end ≡ found_by_end start
  pub first : c.first ≡ next_of start
  pub next : next_of c.end ≡ c.first + c.sent
  pub sends : submitted c.end ≡ submitted start ++ requests_from c.first c.sent
  pub words : List Word
  pub received : received_by_end c.end ≡ received_by_end start ++ words
  pub started : length (started_in_words words) ≡ c.started
  pub expired : length (expired_by words) ≡ c.expired
  pub last : c.last ≡ last_or None (expired_by words)
  pub checked : AreChecked c.failed c.first c.count words

-- as long as no check failed, no more is counted than is to come
pub record KeepsToCount (c : Client) : Type 0 where
  pub count : c.count ≤ LAST
  pub sent : c.sent ≤ c.count
  pub started : c.failed ≡ false → c.started ≤ c.count
  pub expired : c.failed ≡ false → c.expired ≤ c.count

-- what the client did in its turns so far
abbrev pub turns_by : Client → List Turn
turns_by c = c.turns.items

-- the turns are exactly what was sent and received since `start`
pub record IsLogged (start : ClientEnd) (c : Client) : Type 0 where
  pub requests : submitted c.end ≡ submitted start ++ requests_of (turns_by c)
  pub words : received_by_end c.end ≡ received_by_end start ++ words_of (turns_by c)

-- one more turn was taken; `busy` says whether something was sent or received in it
pub record AddsTurn (busy : Bool) (old new : Client) : Type 0 where
  pub turn : Turn
  pub added : turns_by new ≡ turns_by old ++ turn ∷ []
  pub busy_is : busy ≡ not (is_idle turn)

-- a measure of what is left to do
abbrev pub work_left : Client → ℕ
work_left c = (c.count - c.sent) + (if c.failed then 0 else
    (1 + ((c.count - c.started) + (c.count - c.expired))))

-- less is left if something was done, and never more
abbrev pub IsLess : Bool → ℕ → ℕ → Type 0
IsLess true before after = after < before
IsLess false before after = after ≤ before

-- whether all was sent and received
abbrev pub is_complete : Client → Bool
is_complete c = (c.sent == c.count) && ((c.started == c.count) && (c.expired == c.count))
