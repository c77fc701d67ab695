-- A server and its peer: what was played, what went to the peer, what it was told, and when.
use Rattle.std.specs.Prelude.{◌≡◌, ℕ, ◌≤◌, ◌⊎◌, ◌-◌, ◌^◌, Bool, true, false, List, [], ◌∷◌, ◌++◌, length, take, Option, Result, Ok, Err}
use Rattle.std.specs.List.{flat_map, AllByRecursion}
use Rattle.std.specs.Io.KnownBytes.{Consumes, Appends, IsAtEnd}
use Rattle.timer_script.specs.Types.{Event, Out, FacilityState, TurnFault, ServeFault, PIECE, OnBadLine, Cutter, Watched}
use Rattle.timer_facility.specs.Played.{IsRun}
use Rattle.timer_script.specs.declared.fault.TurnFault.TheVariants as turns
use Rattle.timer_script.specs.declared.fault.ServeFault.TheVariants as faults
use Rattle.timer_script.specs.declared.cutter.OnBadLine.TheVariants.{Stop}
use Rattle.timer_script.specs.Text.{lines_of, end_line}
use Rattle.timer_script.specs.SavedText.{dump_text}
use Rattle.timer_script.specs.ScriptRun.{IsAnswer}
use Rattle.timer_script.specs.Decorator.{Decoration, HasAnsweredWithin, AreDecorated, IsReadDecorated, AreDecoratedByReads}
use Rattle.timer_script.specs.Cutter.{PassesEvents, AreSoFar, HasPassed, HasSeen, HasSeenPart, HasReachedEnd, IsStoppedAt, HasTakenIn}
use Rattle.timer_script.specs.Peer.{PeerState, PeerCall, Came, Went, Flush, Told, Grows}

-- the bytes that came from a peer in one call, and in all
abbrev pub came_in : PeerCall → List ℕ
came_in (Came bytes) = bytes
came_in (Went bytes) = []
came_in Flush = []
came_in (Told text) = []

abbrev pub came_of : List PeerCall → List ℕ
came_of calls = flat_map came_in calls

-- the bytes that went to it
abbrev pub gone_in : PeerCall → List ℕ
gone_in (Came bytes) = []
gone_in (Went bytes) = bytes
gone_in Flush = []
gone_in (Told text) = []

abbrev pub gone_of : List PeerCall → List ℕ
gone_of calls = flat_map gone_in calls

-- whether what went to it was flushed, if it was before
abbrev pub is_flushed : Bool → List PeerCall → Bool
is_flushed flushed [] = flushed
is_flushed flushed (Came bytes ∷ calls) = is_flushed flushed calls
is_flushed flushed (Went bytes ∷ calls) = is_flushed false calls
is_flushed flushed (Flush ∷ calls) = is_flushed true calls
is_flushed flushed (Told text ∷ calls) = is_flushed flushed calls

-- before each read what went so far answers what came so far, and it was flushed; a read gives few bytes, so
-- all lines are answered but those of the last ones. The same holds when a state is told, which is that after what came
abbrev pub IsPromptBy : (Answers StateIs : List ℕ → List ℕ → Type 0) → (came gone : List ℕ) → Bool
    → List PeerCall → Type 0
IsPromptBy Answers StateIs came gone flushed [] = Unit {0}
IsPromptBy Answers StateIs came gone flushed (Came bytes ∷ calls) =
    (flushed ≡ true) × Answers came gone × (length bytes ≤ PIECE)
    × IsPromptBy Answers StateIs (came ++ bytes) gone flushed calls
IsPromptBy Answers StateIs came gone flushed (Went bytes ∷ calls) =
    IsPromptBy Answers StateIs came (gone ++ bytes) false calls
IsPromptBy Answers StateIs came gone flushed (Flush ∷ calls) = IsPromptBy Answers StateIs came gone true calls
IsPromptBy Answers StateIs came gone flushed (Told text ∷ calls) =
    (flushed ≡ true) × Answers came gone × StateIs came text × IsPromptBy Answers StateIs came gone flushed calls

-- these bytes came from the peer and this text went to it, and before more was read the text so far was an
-- answer; each state that it was told is the one after what came
pub record HasTalkedBy (Answers StateIs : List ℕ → List ℕ → Type 0) (old new : PeerState) (came gone : List ℕ)
    (flushed : Bool) : Type 0 where
  pub calls : List PeerCall
  pub grows : Grows old.calls new.calls calls
  pub came_is : came_of calls ≡ came
  pub gone_is : gone_of calls ≡ gone
  pub prompt : IsPromptBy Answers StateIs [] [] true calls
  pub flush : is_flushed true calls ≡ flushed
  pub read : Consumes old.remaining new.remaining came
  pub written : Appends old.contents new.contents gone
  pub origin : new.origin ≡ old.origin

-- neither a read nor a write failed
pub record AreGood (peer : PeerState) : Type 0 where
  pub reading : peer.read_failed ≡ false
  pub writing : peer.write_failed ≡ false

-- the call is a write or a flush
abbrev pub IsWrite : PeerCall → Type 0
IsWrite (Came bytes) = ⊥
IsWrite (Went bytes) = Unit {0}
IsWrite Flush = Unit {0}
IsWrite (Told text) = ⊥

-- the text was written, and nothing was read
pub record HasWritten (old : PeerState) (text : List ℕ) (new : PeerState) : Type 0 where
  pub calls : List PeerCall
  pub grows : Grows old.calls new.calls calls
  pub writes : AllByRecursion IsWrite calls
  pub gone_is : gone_of calls ≡ text
  pub written : Appends old.contents new.contents text
  pub remaining : new.remaining ≡ old.remaining
  pub reading : new.read_failed ≡ old.read_failed
  pub origin : new.origin ≡ old.origin

-- the text was written, and it is flushed if what was written before is
pub record HasSentText (old : PeerState) (text : List ℕ) (new : PeerState) : Type 0 where
  pub written : HasWritten old text new
  pub flushed : is_flushed true written.calls ≡ true
  pub good : new.write_failed ≡ false

-- a prefix of the text was written, and then the peer failed
pub record HasSentPart (old : PeerState) (text : List ℕ) (new : PeerState) : Type 0 where
  pub count : ℕ
  pub written : HasWritten old (take count text) new
  pub failed : new.write_failed ≡ true

-- these events were played, and the text is the answer to each, followed by what comes after it
pub record HasAnsweredEvents (Adds : Decoration) (before : FacilityState) (events : List Event) (after : FacilityState)
    (text : List ℕ) : Type 0 where
  pub outs : List Out
  pub runs : IsRun before events outs after
  pub added : AreDecorated Adds before events after (lines_of outs) text

-- nothing, or the answer to the first of these events alone
abbrev pub IsBegun : Decoration → FacilityState → List Event → List ℕ → Type 0
IsBegun Adds before events text = (text ≡ [])
    ⊎ ((event : Event) × (later : List Event) × (events ≡ event ∷ later) × (after : FacilityState)
    × HasAnsweredWithin Adds before (event ∷ []) after text)

-- the first of the events are answered, each with what comes after it, and the next may be without that
pub record HasAnsweredPart (Adds : Decoration) (before : FacilityState) (events : List Event) (text : List ℕ)
    : Type 0 where
  pub done : List Event
  pub rest : List Event
  pub parts : events ≡ done ++ rest
  pub after : FacilityState
  pub decorated : List ℕ
  pub answered : HasAnsweredEvents Adds before done after decorated
  pub last : List ℕ
  pub begun : IsBegun Adds after rest last
  pub text_is : text ≡ decorated ++ last

-- these are the events of one read, so what comes after it is there too
pub record HasAnsweredRead (Adds : Decoration) (before : FacilityState) (events : List Event) (after : FacilityState)
    (text : List ℕ) : Type 0 where
  pub outs : List Out
  pub runs : IsRun before events outs after
  pub added : IsReadDecorated Adds before events after (lines_of outs) text

-- these are the events of some reads, after each of which comes what does
pub record HasAnsweredReads (Adds : Decoration) (before : FacilityState) (events : List Event) (after : FacilityState)
    (text : List ℕ) : Type 0 where
  pub outs : List Out
  pub runs : IsRun before events outs after
  pub added : AreDecoratedByReads Adds before events after (lines_of outs) text

-- some reads are answered, and of the next one the first events, without what comes after a read
pub record HasAnsweredSomeReads (Adds : Decoration) (before : FacilityState) (events : List Event) (text : List ℕ)
    : Type 0 where
  pub done : List Event
  pub rest : List Event
  pub parts : events ≡ done ++ rest
  pub after : FacilityState
  pub decorated : List ℕ
  pub answered : HasAnsweredReads Adds before done after decorated
  pub last : List ℕ
  pub begun : HasAnsweredPart Adds after rest last
  pub text_is : text ≡ decorated ++ last

-- the end line of a facility
abbrev pub last_line : FacilityState → List ℕ
last_line s = end_line s.now (length s.pending)

-- ---- the whole stream

-- a server: what it does at a bad line, what it adds to the answers, the facility before the first line, and how the
-- bytes of its writer of reports are known
pub record Server (F : Type 0) : Type 1 where
  pub on_bad : OnBadLine
  pub Adds : Decoration
  pub before : FacilityState
  pub contents : F → Option (List ℕ)

abbrev pub server_with : {F : Type 0} → OnBadLine → Decoration → FacilityState → (F → Option (List ℕ)) → Server F
server_with on_bad Adds before contents =
    record { on_bad = on_bad; Adds = Adds; before = before; contents = contents }

-- its two sides, at one moment
pub record Sides (F : Type 0) : Type 0 where
  pub peer : PeerState
  pub faults : Watched F

-- the events that pass of these bytes have been answered, and this text is the answer with what is added
pub record IsAnsweredWith (on_bad : OnBadLine) (Adds : Decoration) (before : FacilityState)
    (came gone : List ℕ) : Type 0 where
  pub events : List Event
  pub after : FacilityState
  pub passes : PassesEvents on_bad came events
  pub answered : HasAnsweredReads Adds before events after gone

-- the text is the dump of the state after the events that pass of these bytes
pub record IsStateAfter (on_bad : OnBadLine) (before : FacilityState) (came text : List ℕ) : Type 0 where
  pub events : List Event
  pub passes : PassesEvents on_bad came events
  pub outs : List Out
  pub after : FacilityState
  pub runs : IsRun before events outs after
  pub text_is : text ≡ dump_text after

-- before each read all complete lines so far have been answered, and the answers flushed; so they have when the peer
-- is told the state, which is that after these lines
abbrev pub IsPrompt : OnBadLine → Decoration → FacilityState → List PeerCall → Type 0
IsPrompt on_bad Adds before = IsPromptBy (IsAnsweredWith on_bad Adds before) (IsStateAfter on_bad before) [] [] true

-- these bytes came from the peer and this text went to it, each complete line that passes answered before more
-- was read, or a state was told
abbrev pub HasTalked : {F : Type 0} → Server F → (old new : PeerState) → (came gone : List ℕ) → Bool → Type 0
HasTalked server =
    HasTalkedBy (IsAnsweredWith server.on_bad server.Adds server.before) (IsStateAfter server.on_bad server.before)

-- these bytes came from the peer, and all that went to it is the answer to these events, with what is added, flushed
pub record HasAnsweredSoFar (on_bad : OnBadLine) (Adds : Decoration) (before : FacilityState) (came : List ℕ)
    (events : List Event) (old new : PeerState) (after : FacilityState) : Type 0 where
  pub sent : List ℕ
  pub talked : HasTalkedBy (IsAnsweredWith on_bad Adds before) (IsStateAfter on_bad before) old new came sent true
  pub answered : HasAnsweredReads Adds before events after sent

-- the first of the events are answered, and the last of the text for them has not been sent
pub record HasAnsweredSome (on_bad : OnBadLine) (Adds : Decoration) (before : FacilityState) (came : List ℕ)
    (events : List Event) (old new : PeerState) (unsent : List ℕ) (flushed : Bool) : Type 0 where
  pub sent : List ℕ
  pub talked : HasTalkedBy (IsAnsweredWith on_bad Adds before) (IsStateAfter on_bad before) old new came sent flushed
  pub answered : HasAnsweredSomeReads Adds before events (sent ++ unsent)

-- of the bytes that came from the peer events passed, and all of them are answered
pub record HasServedWhole {F : Type 0} (server : Server F) (Passed : List ℕ → List Event → Type 0)
    (old new : PeerState) (after : FacilityState) : Type 0 where
  pub came : List ℕ
  pub events : List Event
  pub passed : Passed came events
  pub so_far : HasAnsweredSoFar server.on_bad server.Adds server.before came events old new after

-- the first of them are
pub record HasServedPart {F : Type 0} (server : Server F) (Passed : List ℕ → List Event → Type 0)
    (old new : PeerState) (unsent : List ℕ) (flushed : Bool) : Type 0 where
  pub came : List ℕ
  pub events : List Event
  pub passed : Passed came events
  pub some : HasAnsweredSome server.on_bad server.Adds server.before came events old new unsent flushed

-- the peer was read to its end, and this is the whole answer to the events, with what is added, and the end line
pub record HasAnsweredAll {F : Type 0} (server : Server F) (peer : PeerState) (events : List Event)
    (text : List ℕ) : Type 0 where
  pub at_end : IsAtEnd peer.remaining
  pub answer : List ℕ
  pub answered : IsAnswer server.before events answer
  pub decorated : List ℕ
  pub added : AreDecoratedByReads server.Adds server.before events answered.after (lines_of answered.outs) decorated
  pub text_is : text ≡ decorated ++ last_line answered.after

-- what serving did, by how it ended; in each case every complete line that passes was answered, and its answer
-- flushed, before more was read
abbrev pub HasServedPeer : {F : Type 0} → Server F → (old new : Sides F) → Result Bool ServeFault → Type 0
-- the whole answer, with what is added, was written and flushed, and nothing else; all bad lines were reported, up to
-- the first failure of the writer of reports
HasServedPeer server old new (Ok clean) = (came : List ℕ) × (events : List Event) × (text : List ℕ)
    × HasReachedEnd server.on_bad clean server.contents old.faults new.faults came events
    × HasAnsweredAll server new.peer events text × HasTalked server old.peer new.peer came text true
    × AreGood new.peer
-- a read failed, or a state was not kept; each complete line that came is answered, or was reported as above
HasServedPeer server old new (Err faults.Read) = (s : FacilityState)
    × HasServedWhole server (HasPassed server.on_bad AreSoFar server.contents old.faults new.faults) old.peer new.peer s
    × (new.peer.read_failed ≡ true) × (new.peer.write_failed ≡ false)
-- a bad line ends it: the n-th line is the first bad one, each line before it is answered, and nothing else was
-- written but what is added
HasServedPeer server old new (Err (faults.Bad n)) = (server.on_bad ≡ Stop) × (new.faults ≡ old.faults)
    × (s : FacilityState) × HasServedWhole server (λ came events. IsStoppedAt came events n) old.peer new.peer s
    × AreGood new.peer
-- out of memory: all the text so far was written, and it answers the first lines
HasServedPeer server old new (Err faults.OutOfMemory) =
    HasServedPart server (HasSeenPart server.on_bad server.contents old.faults new.faults) old.peer new.peer [] true
    × AreGood new.peer
-- a write failed: a prefix was written of the answers with what is added, or of the whole answer with that
HasServedPeer server old new (Err faults.Write) =
    (((unsent : List ℕ) × (flushed : Bool)
    × HasServedPart server (HasSeen server.on_bad server.contents old.faults new.faults) old.peer new.peer unsent
    flushed)
    ⊎ ((came : List ℕ) × (events : List Event) × (sent unsent : List ℕ) × (flushed clean : Bool)
    × HasReachedEnd server.on_bad clean server.contents old.faults new.faults came events
    × HasAnsweredAll server new.peer events (sent ++ unsent)
    × HasTalked server old.peer new.peer came sent flushed))
    × (new.peer.read_failed ≡ false) × (new.peer.write_failed ≡ true)
-- 2^64 - 1 bytes came or more, and each complete line of them is answered, or was reported as above
HasServedPeer server old new (Err faults.TooLong) = (s : FacilityState)
    × (served : HasServedWhole server (HasPassed server.on_bad AreSoFar server.contents old.faults new.faults)
    old.peer new.peer s)
    × (2 ^ 64 - 1 ≤ length served.came) × AreGood new.peer

-- ---- one turn

-- the text grew by one of which this holds
abbrev pub GrowsBy : (List ℕ → Type 0) → (old new : List ℕ) → Type 0
GrowsBy Is old new = (added : List ℕ) × (new ≡ old ++ added) × Is added

-- of a text of which this holds all was sent but the last bytes
pub record HasSentBut (Is : List ℕ → Type 0) (unsent : List ℕ) (flushed : Bool) (old new : PeerState) : Type 0 where
  pub sent : List ℕ
  pub written : HasWritten old sent new
  pub flush : is_flushed true written.calls ≡ flushed
  pub all : Is (sent ++ unsent)

-- why not all of these events were answered
abbrev pub StopsTurn : Decoration → TurnFault → List Event → FacilityState → (old new : PeerState) → Type 0
-- out of memory: all the text so far was sent
StopsTurn Adds turns.OutOfMemory events s old new =
    HasSentBut (HasAnsweredSomeReads Adds s events) [] true old new × AreGood new
-- a write failed
StopsTurn Adds turns.Write events s old new = (unsent : List ℕ) × (flushed : Bool)
    × HasSentBut (HasAnsweredSomeReads Adds s events) unsent flushed old new
    × (new.read_failed ≡ false) × (new.write_failed ≡ true)

-- the peer was told this state, or it was not; nothing was read or written
pub record HasTold (text : List ℕ) (old new : PeerState) : Type 0 where
  pub calls : List PeerCall
  pub grows : Grows old.calls new.calls calls
  pub told : (calls ≡ []) ⊎ (calls ≡ Told text ∷ [])
  pub remaining : new.remaining ≡ old.remaining
  pub contents : new.contents ≡ old.contents
  pub origin : new.origin ≡ old.origin

-- why it was not: it failed, or out of memory, and then it was not called
abbrev pub StopsTelling : ServeFault → List ℕ → (old new : PeerState) → Type 0
StopsTelling faults.Read text old new =
    HasTold text old new × (new.read_failed ≡ true) × (new.write_failed ≡ false)
StopsTelling faults.OutOfMemory text old new = new ≡ old
StopsTelling _ text old new = ⊥

-- the bytes that came were taken in, and the events that passed are answered
pub record HasServedSoFar {F : Type 0} (server : Server F) (cutter : Cutter) (old new : Sides F) (state : FacilityState)
    : Type 0 where
  pub came : List ℕ
  pub events : List Event
  pub taken : HasTakenIn server.on_bad cutter server.contents old.faults new.faults came events
  pub so_far : HasAnsweredSoFar server.on_bad server.Adds server.before came events old.peer new.peer state
