-- What a server sees of a peer with a journal, and what the journal keeps of it.
use Rattle.std.specs.Prelude.{◌≡◌, ◌⊎◌, ◌≤◌, ◌+◌, ℕ, Bool, true, false, List, [], ◌∷◌, ◌++◌, length, take, drop, Option, None, Some}
use Rattle.std.specs.Io.KnownBytes.{prepend_known, Keeps, Appends, IsAtEnd}
use Rattle.std.specs.Coded.{Unit-prop, ×_prop}
use Rattle.std.proofs.Props.{props}
use Rattle.timer_script.specs.Script.{HasNoFeed}
use Rattle.timer_script.specs.Peer.{PeerState, PeerCall, Came, Went, Flush, Told, PeerOrigin}
use Rattle.timer_script.specs.Service.{gone_of, came_of}
use Rattle.timer_durable.specs.Answers.{lines_in, answers_in, greeting_of, IsSeenWithin}
use Rattle.timer_durable.specs.Types.{Beginning}

-- the peer was read, and what it gave stands behind these bytes; nothing was written to it
pub record HasReadOn (old : PeerState) (bytes : List ℕ) (new : PeerState) (bytes' : List ℕ) : Type 0 where
  pub kept : Keeps (prepend_known bytes old.remaining) (prepend_known bytes' new.remaining)
  pub contents : new.contents ≡ old.contents
  pub writing : new.write_failed ≡ old.write_failed

-- what a peer had taken and what its journal kept when a process began
pub record AtFirst : Type 0 where
  pub contents : Option (List ℕ)
  pub lines : List ℕ

-- what a peer with a journal goes on with
abbrev pub origin_of : Beginning → Option ℕ → AtFirst → PeerOrigin
origin_of start seen first = record {
  contents = first.contents;
  again = first.lines;
  lines = start.lines;
  answers = start.answers;
  seen = seen;
}

-- what a server sees: first it is given the lines that are kept, then the bytes behind them, then what the peer has left
abbrev pub state_over : (due front : List ℕ) → PeerState → List PeerCall → Bool → Bool → PeerOrigin → PeerState
state_over due front peer calls read_failed write_failed origin = record {
  origin = Some origin;
  remaining = prepend_known (due ++ front) peer.remaining;
  contents = Some (gone_of calls);
  calls = Some calls;
  read_failed = read_failed;
  write_failed = write_failed;
}

-- what came since the state was last told, after these bytes
abbrev pub came_after : List ℕ → List PeerCall → List ℕ
came_after bytes [] = bytes
came_after bytes (Came more ∷ calls) = came_after (bytes ++ more) calls
came_after bytes (Went text ∷ calls) = came_after bytes calls
came_after bytes (Flush ∷ calls) = came_after bytes calls
came_after bytes (Told text ∷ calls) = came_after [] calls

abbrev pub came_since : List PeerCall → List ℕ
came_since calls = came_after [] calls

-- the state that was told last, or this one
abbrev pub told_after : List ℕ → List PeerCall → List ℕ
told_after state [] = state
told_after state (Came bytes ∷ calls) = told_after state calls
told_after state (Went text ∷ calls) = told_after state calls
told_after state (Flush ∷ calls) = told_after state calls
told_after state (Told text ∷ calls) = told_after text calls

abbrev pub last_told : List PeerCall → List ℕ
last_told calls = told_after [] calls

-- how many lines and answers there were in all, before the start of a process and since
abbrev pub totals_of : Beginning → (came gone : List ℕ) → Beginning
totals_of start came gone = record { lines = start.lines + lines_in came; answers = start.answers + answers_in gone }

-- the state is wanted: so many lines came since the journal's beginning, and nothing is to be given before more is read
abbrev pub IsWanted : Option ℕ → (is_live has_ended is_dead : Bool) → (due : List ℕ) → (since : ℕ) → Type 0
IsWanted None is_live has_ended is_dead due since = ⊥
IsWanted (Some every) is_live has_ended is_dead due since =
    (every ≤ since) × (is_live ≡ true) × (has_ended ≡ false) × (is_dead ≡ false) × (due ≡ [])

-- lines and answers are counted: those of the lines that were kept, and after these for the sake of snapshots
abbrev pub IsCounting : (is_live : Bool) → (every : Option ℕ) → Type 0
IsCounting false every = Unit {0}
IsCounting true None = ⊥
IsCounting true (Some every) = Unit {0}

-- ---- what the peer got

-- after a recovery it is told how much was recovered, and the answers that it has not seen
abbrev pub greeting_to : PeerOrigin → (came gone : List ℕ) → List ℕ
greeting_to origin came gone = greeting_of (record { lines = origin.lines; answers = origin.answers }) origin.seen came gone

-- the calls after the first ones
abbrev pub later_of : (first calls : List PeerCall) → List PeerCall
later_of first calls = drop (length first) calls

-- Of the lines that the journal kept at first these are still to be given. The peer got nothing.
pub record IsReplaying (origin : PeerOrigin) (contents : Option (List ℕ)) (calls : List PeerCall) (due : List ℕ) (has_ended : Bool)
    (told : List ℕ) : Type 0 where
  pub untouched : contents ≡ origin.contents
  pub untold : told ≡ []
  pub lines : came_of calls ++ due ≡ origin.again
  pub early : has_ended ≡ false

-- The server was given the lines that the journal kept at first, and nothing of its answers went to the peer. Then the
-- peer was told what was recovered, once: all of it unless that failed. It got what was written since, and no more.
pub record HasReplayed (origin : PeerOrigin) (contents : Option (List ℕ)) (calls recovered : List PeerCall) (told : List ℕ) (failed : Bool)
    : Type 0 where
  pub parts : calls ≡ recovered ++ later_of recovered calls
  pub lines : came_of recovered ≡ origin.again
  -- the answers that it has seen are among those that there were
  pub within : IsSeenWithin origin.seen origin.answers (origin.answers + answers_in (gone_of recovered))
  pub front : told ≡ take (length told) (greeting_to origin (came_of recovered) (gone_of recovered))
  pub whole : failed ≡ false → told ≡ greeting_to origin (came_of recovered) (gone_of recovered)
  pub written : Appends origin.contents contents (told ++ gone_of (later_of recovered calls))

-- what a peer got in all: nothing, or it was told what was recovered
abbrev pub HasGot : PeerOrigin → Option (List ℕ) → List PeerCall → Bool → Type 0
HasGot origin contents calls failed = (contents ≡ origin.contents)
    ⊎ ((recovered : List PeerCall) × (told : List ℕ) × HasReplayed origin contents calls recovered told failed)

-- The peer is told a text, once: a prefix of it, and all of it unless that fails. Before and after it is told or not.
pub record HasGreeted (old new : Option (List ℕ)) (was is ok : Bool) (text : List ℕ) : Type 0 where
  pub count : ℕ
  pub appended : Appends old new (take count text)
  pub once : was ≡ true → count ≡ 0
  pub later : is ≡ false → count ≡ 0
  pub whole : was ≡ false → is ≡ true → ok ≡ true → count ≡ length text

pub IsAtEnd-prop : (known : Option (List ℕ)) → IsProp (IsAtEnd known)
IsAtEnd-prop None = Unit-prop
IsAtEnd-prop (Some bytes) = hlevel props

pub HasNoFeed-prop : (bytes : List ℕ) → IsProp (HasNoFeed bytes)
HasNoFeed-prop [] = Unit-prop
HasNoFeed-prop (byte ∷ bytes) = ×_prop (hlevel props) (HasNoFeed-prop bytes)

pub IsReplaying-prop : (origin : PeerOrigin) (contents : Option (List ℕ)) (calls : List PeerCall) (due : List ℕ) (has_ended : Bool) (told : List ℕ)
    → IsProp (IsReplaying origin contents calls due has_ended told)
IsReplaying-prop origin contents calls due has_ended told = hlevel props

IsSeenWithin-prop : (seen : Option ℕ) (before answers : ℕ) → IsProp (IsSeenWithin seen before answers)
IsSeenWithin-prop None before answers = Unit-prop
IsSeenWithin-prop (Some seen) before answers = ×_prop (hlevel props) (hlevel props)

Appends-prop : (old new : Option (List ℕ)) (text : List ℕ) → IsProp (Appends old new text)
Appends-prop None new text = Unit-prop
Appends-prop (Some old) None text = hlevel props
Appends-prop (Some old) (Some new) text = hlevel props

pub HasReplayed-prop : (origin : PeerOrigin) (contents : Option (List ℕ)) (calls recovered : List PeerCall) (told : List ℕ) (failed : Bool)
    → IsProp (HasReplayed origin contents calls recovered told failed)
HasReplayed-prop origin contents calls recovered told failed = hlevel (props, IsSeenWithin-prop, Appends-prop)
