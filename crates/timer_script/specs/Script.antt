-- The unique spelling of a list of events, and the first bad line, in a script and in a stream.
use Rattle.std.specs.Prelude.{◌≡◌, ◌⊎◌, ℕ, ◌+◌, ◌≤◌, List, ◌++◌, length, codes, decimal}
use Rattle.std.specs.List.{flat_map, AllByRecursion}
use Rattle.timer_script.specs.Types.{LAST, MAX_TICKS, Event, ScriptFault, Grammar}
use Rattle.timer_facility.specs.declared.event.Event.TheVariants.{Start, StartAt, Stop, Restart, RestartAt, Ticks, TicksTo, Close, Dump}
use Rattle.timer_script.specs.declared.fault.ScriptFault.TheVariants.{Bad, OutOfMemory}
use Rattle.timer_script.specs.declared.lines.Grammar.TheVariants.{Script, Stream}

-- the event has a line in a script: its numbers are at most LAST, and its ticks are 1 to MAX_TICKS
abbrev pub AreFieldsInRange : Event → Type 0
AreFieldsInRange (Start client number interval action) = (client ≤ LAST) × (number ≤ LAST) × (interval ≤ LAST)
    × (action ≤ LAST)
AreFieldsInRange (Stop client number serial) = (client ≤ LAST) × (number ≤ LAST) × (serial ≤ LAST)
AreFieldsInRange (Restart client number serial interval action) = (client ≤ LAST) × (number ≤ LAST) × (serial ≤ LAST)
    × (interval ≤ LAST) × (action ≤ LAST)
AreFieldsInRange (Ticks count) = (1 ≤ count) × (count ≤ MAX_TICKS)
AreFieldsInRange Close = Unit {0}
AreFieldsInRange event = ⊥

-- the event has a line in this grammar; a stream has those of a script and four more
abbrev pub IsIn : Grammar → Event → Type 0
IsIn Script event = AreFieldsInRange event
IsIn Stream (StartAt client number deadline action) = (client ≤ LAST) × (number ≤ LAST) × (deadline ≤ LAST) × (action ≤ LAST)
IsIn Stream (RestartAt client number serial deadline action) = (client ≤ LAST) × (number ≤ LAST) × (serial ≤ LAST)
    × (deadline ≤ LAST) × (action ≤ LAST)
IsIn Stream (TicksTo tick) = tick ≤ LAST
IsIn Stream Dump = Unit {0}
IsIn Stream event = AreFieldsInRange event

-- a line: words and numbers with one space between them, and a line feed
unfoldable pub line : Event → List ℕ
line (Start client number interval action) =
    codes "start " ++ decimal client ++ codes " " ++ decimal number ++ codes " " ++ decimal interval
    ++ codes " " ++ decimal action ++ codes "\n"
line (Stop client number serial) = codes "stop " ++ decimal client ++ codes " " ++ decimal number ++ codes " "
    ++ decimal serial ++ codes "\n"
line (Restart client number serial interval action) =
    codes "restart " ++ decimal client ++ codes " " ++ decimal number ++ codes " " ++ decimal serial
    ++ codes " " ++ decimal interval
    ++ codes " " ++ decimal action ++ codes "\n"
line (Ticks count) = codes "tick " ++ decimal count ++ codes "\n"
line Close = codes "close\n"
line (StartAt client number deadline action) =
    codes "start-at " ++ decimal client ++ codes " " ++ decimal number ++ codes " " ++ decimal deadline
    ++ codes " " ++ decimal action ++ codes "\n"
line (RestartAt client number serial deadline action) =
    codes "restart-at " ++ decimal client ++ codes " " ++ decimal number ++ codes " " ++ decimal serial
    ++ codes " " ++ decimal deadline
    ++ codes " " ++ decimal action ++ codes "\n"
line (TicksTo tick) = codes "at " ++ decimal tick ++ codes "\n"
line Dump = codes "state\n"

-- the bytes are a word that begins a line of a script
abbrev pub IsScriptWord : List ℕ → Type 0
IsScriptWord word = (word ≡ codes "start") ⊎ ((word ≡ codes "stop") ⊎ ((word ≡ codes "restart")
    ⊎ ((word ≡ codes "tick") ⊎ (word ≡ codes "close"))))

-- one that begins a line by tick
abbrev pub IsTickWord : List ℕ → Type 0
IsTickWord word = (word ≡ codes "start-at") ⊎ ((word ≡ codes "restart-at") ⊎ (word ≡ codes "at"))

-- one that begins a line of a stream alone
abbrev pub IsStreamWord : List ℕ → Type 0
IsStreamWord word = IsTickWord word ⊎ (word ≡ codes "state")

-- one that begins a line in this grammar
abbrev pub IsWord : Grammar → List ℕ → Type 0
IsWord Script word = IsScriptWord word
IsWord Stream word = IsScriptWord word ⊎ IsStreamWord word

-- the lines of the events, one after another
abbrev pub spelling : List Event → List ℕ
spelling events = flat_map line events

-- the bytes are the lines of these events, which have lines in this grammar
pub record AreLinesOf (grammar : Grammar) (events : List Event) (bytes : List ℕ) : Type 0 where
  pub lines : bytes ≡ spelling events
  pub in_range : AllByRecursion (IsIn grammar) events

-- they are a script
abbrev pub IsScript : List Event → List ℕ → Type 0
IsScript events bytes = AreLinesOf Script events bytes

-- no line feed is among the bytes
abbrev pub HasNoFeed : List ℕ → Type 0
HasNoFeed bytes = AllByRecursion (λ b. b ≡ 10 → ⊥) bytes

-- no line of an event is a prefix of the bytes
abbrev pub BeginsNoLine : Grammar → List ℕ → Type 0
BeginsNoLine grammar bytes = (event : Event) (more : List ℕ) → IsIn grammar event → bytes ≡ line event ++ more → ⊥

-- after the lines of some events come bytes that begin with no line; n counts from 1
pub record IsBadLineOf (grammar : Grammar) (bytes : List ℕ) (n : ℕ) : Type 0 where
  pub before : List Event
  pub rest : List ℕ
  pub parts : bytes ≡ spelling before ++ rest
  pub in_range : AllByRecursion (IsIn grammar) before
  pub some : 1 ≤ length rest
  pub bad : BeginsNoLine grammar rest
  pub counted : n ≡ length before + 1

-- the same in a script
abbrev pub IsBadLine : List ℕ → ℕ → Type 0
IsBadLine bytes n = IsBadLineOf Script bytes n

-- the error names the first bad line, or is out of memory
abbrev pub IsFault : ScriptFault → List ℕ → Type 0
IsFault (Bad n) bytes = IsBadLine bytes n
IsFault OutOfMemory bytes = Unit {0}
