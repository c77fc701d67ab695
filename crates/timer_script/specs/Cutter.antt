-- The lines of an input, good and bad, and which events pass of a stream that arrives in pieces.
use Rattle.std.specs.Prelude.{◌≡◌, ◌↔◌, ℕ, ◌+◌, ◌-◌, ◌^◌, ◌<◌, ◌≤◌, ◌⊎◌, Bool, true, false, List, [], ◌∷◌, ◌++◌, length, take, min, codes, Option, None, Some}
use Rattle.std.specs.List.{flat_map, enumerate_from, AllByRecursion}
use Rattle.std.specs.Io.KnownBytes.{Appends}
use Rattle.timer_script.specs.Types.{Event, LineFault, MAX_LINE, ScriptFault, OnBadLine, Cutter, Watched}
use Rattle.timer_script.specs.declared.lines.Grammar.TheVariants.{Stream}
use Rattle.timer_script.specs.declared.fault.ScriptFault.TheVariants as faults
use Rattle.timer_script.specs.declared.cutter.OnBadLine.TheVariants.{Stop}
use Rattle.timer_script.specs.Watched.{inner_of, has_failed}
use Rattle.timer_script.specs.Script.{HasNoFeed, IsIn, line, BeginsNoLine, AreLinesOf, IsBadLineOf}
use Rattle.timer_script.specs.Lines.{line_in}
use Rattle.timer_script.specs.Diagnosis.{IsFaultOf}
use Rattle.timer_script.specs.ScriptReport.{fault_line}

-- a line of an input: that of an event, or a bad one, which is given without its line feed, and what is wrong
-- with it
pub data InputLine : Type 0 where
  Good : Event → InputLine
  Bad : List ℕ → LineFault → InputLine

-- the bytes of a line
abbrev pub bytes_of : InputLine → List ℕ
bytes_of (Good event) = line event
bytes_of (Bad front fault) = front ++ 10 ∷ []

-- the fault is in these bytes, of which no more are looked at than a line may have
abbrev pub IsFaultIn : LineFault → List ℕ → Type 0
IsFaultIn fault bytes = IsFaultOf Stream fault (take MAX_LINE bytes)

-- the numbers of a good line are in range, and a bad one is the line of no event, and has this fault
abbrev pub IsGoodOrBad : InputLine → Type 0
IsGoodOrBad (Good event) = IsIn Stream event
IsGoodOrBad (Bad front fault) =
    HasNoFeed front × BeginsNoLine Stream (front ++ 10 ∷ []) × IsFaultIn fault (front ++ 10 ∷ [])

-- the event of a good line, and those of many, in order
abbrev pub event_in : InputLine → List Event
event_in (Good event) = event ∷ []
event_in (Bad front fault) = []

abbrev pub events_of : List InputLine → List Event
events_of lines = flat_map event_in lines

-- the bytes are these lines and the front of one more
pub record IsCut (bytes : List ℕ) (lines : List InputLine) (left : List ℕ) : Type 0 where
  pub parts : bytes ≡ flat_map bytes_of lines ++ left
  pub each : AllByRecursion IsGoodOrBad lines
  pub unended : HasNoFeed left

-- ---- what is reported

-- what is reported of a bad line: its number, and what is wrong with it
abbrev pub Complaint : Type 0
Complaint = ℕ × LineFault

-- what is reported of a line under this number: nothing of a good one
abbrev pub complaint_of : ℕ → InputLine → List Complaint
complaint_of n (Good event) = []
complaint_of n (Bad front fault) = (n, fault) ∷ []

-- what is reported of the lines of an input, each under its number, counted from 1; 2^64 - 1 stands for any later one
abbrev pub bad_among : List InputLine → List Complaint
bad_among lines =
    flat_map (λ numbered. complaint_of (min numbered.0 (2 ^ 64 - 1)) numbered.1) (enumerate_from 1 lines)

-- the number of the line after those of an input
abbrev pub number_next : List InputLine → ℕ
number_next lines = min (length lines + 1) (2 ^ 64 - 1)

-- bytes after the last line feed are a bad line, the n-th
abbrev pub IsLastBad : ℕ → List ℕ → List Complaint → Type 0
IsLastBad n [] last = last ≡ []
IsLastBad n (b ∷ left) last = (fault : LineFault) × IsFaultIn fault (b ∷ left) × (last ≡ (n, fault) ∷ [])

-- the report of a bad line
abbrev pub complaint_line : Complaint → List ℕ
complaint_line bad = codes "bad " ++ fault_line bad.0 bad.1

-- the reports of bad lines
abbrev pub complaints : List Complaint → List ℕ
complaints bad = flat_map complaint_line bad

-- a prefix of the text was written, all of it unless the writer failed; one that had failed before is left
-- alone
pub record HasReported {F : Type 0} (contents : F → Option (List ℕ)) (old new : Watched F)
    (text : List ℕ) : Type 0 where
  pub count : ℕ
  pub within : count ≤ length text
  pub written : Appends (contents (inner_of old)) (contents (inner_of new)) (take count text)
  pub whole : has_failed new ≡ false → count ≡ length text
  pub failed : has_failed old ≡ true → new ≡ old

-- what is reported of these lines, after which come the bytes of one that has not ended
abbrev pub BadLines : Type 1
BadLines = List InputLine → List ℕ → List Complaint → Type 0

-- the bad lines that ended
abbrev pub AreSoFar : BadLines
AreSoFar lines left bad = bad ≡ bad_among lines

-- the first of all bad lines
abbrev pub AreFirst : BadLines
AreFirst lines left bad = (last : List Complaint) × IsLastBad (number_next lines) left last
    × (j : ℕ) × (bad ≡ take j (bad_among lines ++ last))

-- all of them, and whether there are none
abbrev pub AreAll : Bool → BadLines
AreAll clean lines left bad = (last : List Complaint) × IsLastBad (number_next lines) left last
    × (bad ≡ bad_among lines ++ last) × ((clean ≡ true) ↔ (bad ≡ []))

-- ---- what passes

-- these bytes came, and the events of their good lines pass; if a bad line ends the stream, none of them is bad,
-- and the bytes after them are fewer than a line may have
pub record PassesEvents (on_bad : OnBadLine) (came : List ℕ) (events : List Event) : Type 0 where
  pub lines : List InputLine
  pub left : List ℕ
  pub cut : IsCut came lines left
  pub events_are : events ≡ events_of lines
  pub good : on_bad ≡ Stop → bad_among lines ≡ []
  pub short : on_bad ≡ Stop → length left < MAX_LINE

-- of the bad lines these were reported; none, and nothing written, if a bad line ends the stream
pub record HasPassed {F : Type 0} (on_bad : OnBadLine) (Are : BadLines) (contents : F → Option (List ℕ))
    (writer writer' : Watched F) (came : List ℕ) (events : List Event) : Type 0 where
  pub passes : PassesEvents on_bad came events
  pub bad : List Complaint
  pub are : Are passes.lines passes.left bad
  pub reported : HasReported contents writer writer' (complaints bad)
  pub untouched : on_bad ≡ Stop → writer' ≡ writer

-- no more bytes come: what was reported is all that is to be, and whether that is nothing; if a bad line ends the
-- stream, the bytes are the lines of the events
pub record HasReachedEnd {F : Type 0} (on_bad : OnBadLine) (clean : Bool) (contents : F → Option (List ℕ))
    (writer writer' : Watched F) (came : List ℕ) (events : List Event) : Type 0 where
  pub passed : HasPassed on_bad (AreAll clean) contents writer writer' came events
  pub script : on_bad ≡ Stop → AreLinesOf Stream events came

-- the n-th line (2^64 - 1 stands for any later one) is the first bad one of the bytes, and these are the events
-- before it
pub record IsStoppedAt (bytes : List ℕ) (events : List Event) (n : ℕ) : Type 0 where
  pub line : ℕ
  pub bad : IsBadLineOf Stream bytes line
  pub events_are : events ≡ bad.before
  pub counted : n ≡ min line (2 ^ 64 - 1)

-- a bad line ends the stream, and nothing was reported
pub record EndsAtBadLine {F : Type 0} (on_bad : OnBadLine) (writer writer' : Watched F) (came : List ℕ)
    (events : List Event) (n : ℕ) : Type 0 where
  pub stop : on_bad ≡ Stop
  pub untouched : writer' ≡ writer
  pub stopped : IsStoppedAt came events n

-- all bytes that came were looked at: these events pass of them, or those before the line that ends the stream
abbrev pub HasSeen : {F : Type 0} → OnBadLine → (contents : F → Option (List ℕ)) → (writer writer' : Watched F)
    → List ℕ → List Event → Type 0
HasSeen on_bad contents writer writer' came events = HasPassed on_bad AreFirst contents writer writer' came events
    ⊎ ((n : ℕ) × EndsAtBadLine on_bad writer writer' came events n)

-- the last of them were not looked at
pub record HasSeenPart {F : Type 0} (on_bad : OnBadLine) (contents : F → Option (List ℕ))
    (writer writer' : Watched F) (came : List ℕ) (events : List Event) : Type 0 where
  pub seen : List ℕ
  pub unseen : List ℕ
  pub parts : came ≡ seen ++ unseen
  pub passed : HasSeen on_bad contents writer writer' seen events

-- ---- line by line

-- a line of these bytes, the n-th, was ended: its event is kept if it is good, and else it is reported
pub record HasEndedLine (on_bad : OnBadLine) (bytes : List ℕ) (n : ℕ) (events events' : List Event)
    (said said' : List ℕ) : Type 0 where
  pub line : InputLine
  pub bytes_is : bytes_of line ≡ bytes
  pub is_line : IsGoodOrBad line
  pub events_are : events' ≡ events ++ events_of (line ∷ [])
  pub said_is : said' ≡ said ++ complaints (complaint_of n line)
  pub good : on_bad ≡ Stop → complaint_of n line ≡ []

-- why it was not: it is bad, and ends the stream; or out of memory
abbrev pub StopsLine : ScriptFault → OnBadLine → ℕ → (held : List ℕ) → (events events' : List Event) → Type 0
StopsLine (faults.Bad line) on_bad n held events events' =
    (on_bad ≡ Stop) × (line ≡ n) × (line_in Stream held ≡ None) × (events' ≡ events)
StopsLine faults.OutOfMemory on_bad n held events events' = Unit {0}

-- these bytes came, these events passed, and this is reported; of the line that has not ended, the one of this number,
-- as much is held as a line may have
pub record HasSorted (on_bad : OnBadLine) (held : List ℕ) (number : ℕ) (came : List ℕ) (events : List Event)
    (bad : List Complaint) : Type 0 where
  pub passes : PassesEvents on_bad came events
  pub held_is : held ≡ take MAX_LINE passes.left
  pub counted : number ≡ number_next passes.lines
  pub bad_is : bad ≡ bad_among passes.lines

-- so it is after some lines of a piece: the cutter has what passed, and the reports, since these events and reports
pub record HasSortedSince (on_bad : OnBadLine) (cutter : Cutter) (came : List ℕ) (events : List Event)
    (bad : List Complaint) : Type 0 where
  pub kept : cutter.on_bad ≡ on_bad
  pub more : List Complaint
  pub reports : cutter.reports.items ≡ complaints more
  pub sorted : HasSorted on_bad cutter.held.items cutter.number came (events ++ cutter.events.items) (bad ++ more)

-- why not all bytes that came were sorted: a bad line ends the stream, or out of memory
abbrev pub StopsAt : ScriptFault → OnBadLine → (came : List ℕ) → (events : List Event) → Type 0
StopsAt (faults.Bad n) on_bad came events = (on_bad ≡ Stop) × IsStoppedAt came events n
StopsAt faults.OutOfMemory on_bad came events = Unit {0}

-- these bytes were taken in, and those events passed
pub record HasTakenIn {F : Type 0} (on_bad : OnBadLine) (cutter : Cutter) (contents : F → Option (List ℕ))
    (writer writer' : Watched F) (came : List ℕ) (events : List Event) : Type 0 where
  pub kept : cutter.on_bad ≡ on_bad
  pub passed : HasPassed on_bad AreSoFar contents writer writer' came events
  pub held_is : cutter.held.items ≡ take MAX_LINE passed.passes.left
  pub counted : cutter.number ≡ number_next passed.passes.lines
  pub clean_is : (cutter.clean ≡ true) ↔ (passed.bad ≡ [])

-- this holds of them, or a bad line ends the stream
abbrev pub UnlessStopped : {F : Type 0} → Option ℕ → (List ℕ → List Event → Type 0) → OnBadLine
    → (writer writer' : Watched F) → List ℕ → List Event → Type 0
UnlessStopped None Holds on_bad writer writer' came events = Holds came events
UnlessStopped (Some n) Holds on_bad writer writer' came events = EndsAtBadLine on_bad writer writer' came events n
