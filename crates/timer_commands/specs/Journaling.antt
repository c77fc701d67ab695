-- A stream with a journal: what the journal keeps when the stream begins, and what was served then.
use Rattle.std.specs.Prelude.{◌≡◌, ◌≢◌, ℕ, ◌⊎◌, Bool, false, List, [], ◌++◌, Option, None, Some, Result, Ok, Err, codes, decimal}
use Rattle.timer_facility.specs.Saved.{ReadState}
use Rattle.timer_script.specs.SavedText.{IsSavedText, WhyNotRead}
use Rattle.timer_script.specs.declared.cutter.OnBadLine.TheVariants.{Report}
use Rattle.timer_script.specs.declared.fault.ServeFault.{ServeFault}
use Rattle.timer_script.specs.declared.fault.ServeFault.TheVariants as serves
use Rattle.timer_script.specs.Peer.{PeerOrigin, PeerState, PeerCall}
use Rattle.timer_journal.specs.Journal.{text_of}
use Rattle.timer_durable.specs.declared.beginning.Kept.{Kept}
use Rattle.timer_durable.specs.declared.fault.BeginFault.TheVariants as begins
use Rattle.timer_durable.specs.declared.fault.KeepFault.{KeepFault}
use Rattle.timer_durable.specs.Beginning.{preamble_of, text_kept}
use Rattle.timer_durable.specs.Durable.{origin_of, state_over, HasGot}
use Rattle.timer_durable.specs.Opening.{WhyNotOpened, at_first}
use Rattle.timer_commands.specs.declared.ending.Ending.{Ending}
use Rattle.timer_commands.specs.declared.fault.Fault.{Fault}
use Rattle.timer_commands.specs.declared.fault.Fault.TheVariants as Faults
use Rattle.timer_commands.specs.declared.keeping.KeptFault.{KeptFault}
use Rattle.timer_commands.specs.declared.keeping.KeptFault.TheVariants as kepts
use Rattle.timer_commands.specs.declared.options.RunOptions.{RunOptions}
use Rattle.timer_commands.specs.Options.{name_of}
use Rattle.timer_commands.specs.Serving.{limits_for, Talk, HasResumed}

-- the options that a journal is for, on one line
unfoldable pub options_line : RunOptions → List ℕ
options_line options = name_of options.scheme ++ codes " " ++ decimal options.clients ++ codes " " ++ decimal options.capacity
    ++ codes " " ++ decimal options.slots

-- the state of a facility of the options in which nothing has happened
unfoldable pub first_text : RunOptions → List ℕ
first_text options = codes "state open " ++ decimal options.first_tick ++ codes " 0\nstate end 0\n"

-- the state that a new journal begins with: the one that is given, or that of a new facility
abbrev pub text_to_begin : RunOptions → Option (List ℕ) → List ℕ
text_to_begin options None = first_text options
text_to_begin options (Some text) = text

-- a new journal keeps this: its beginning alone, with the state to begin with
pub record IsNewlyKept (options : RunOptions) (first : Option (List ℕ)) (kept : Kept) : Type 0 where
  pub beginning : kept.beginning ≡ at_first
  pub state : kept.state.items ≡ text_to_begin options first
  pub lines : kept.lines.items ≡ []

-- the file kept this, and no state is given; or it was empty, and this is its beginning
abbrev pub IsKeptFirst : RunOptions → Option (List ℕ) → (file : List ℕ) → Kept → Type 0
IsKeptFirst options first file kept =
    ((first ≡ None) × (text_of file ≡ text_kept (options_line options) (Some kept)))
    ⊎ ((text_of file ≡ []) × IsNewlyKept options first kept)

-- why a journal that keeps this does not go on
abbrev pub StopsGoingOn : RunOptions → Option (List ℕ) → Kept → KeptFault → Type 0
StopsGoingOn options first kept kepts.HasBegun = first ≢ None
StopsGoingOn options first kept (kepts.State fault) = (first ≡ None) × WhyNotRead (limits_for options) kept.state.items fault
StopsGoingOn options first kept fault = ⊥

-- why a new journal does not begin: a state that does not fit, or a call of its file failed
abbrev pub StopsBeginning : RunOptions → Option (List ℕ) → KeptFault → Type 0
StopsBeginning options first (kepts.State fault) = WhyNotRead (limits_for options) (text_to_begin options first) fault
StopsBeginning options first (kepts.Begin (begins.Journal fault)) = Unit {0}
StopsBeginning options first fault = ⊥

-- why the file is not opened as a journal of the options
abbrev pub StopsOpening : RunOptions → (file : List ℕ) → KeptFault → Type 0
StopsOpening options file (kepts.Begin fault) = WhyNotOpened (options_line options) file fault
StopsOpening options file fault = ⊥

-- why a stream over the journal in this file is not begun
abbrev pub WhyNotBegun : RunOptions → Option (List ℕ) → (file : List ℕ) → KeptFault → Type 0
WhyNotBegun options first file fault = StopsOpening options file fault
    ⊎ (((kept : Kept) × (text_of file ≡ text_kept (options_line options) (Some kept)) × StopsGoingOn options first kept fault)
    ⊎ ((text_of file ≡ []) × StopsBeginning options first fault))

-- the fault of a peer that failed: that of its journal, or as without one
abbrev pub peer_fault : ServeFault → Option KeepFault → KeptFault
peer_fault fault (Some kept) = kepts.Keep kept
peer_fault fault None = kepts.Run (Faults.Serve fault)

-- what a stream ended with, by what its peer says of its journal
abbrev pub told_as : Result Ending Fault → Option KeepFault → Result Ending KeptFault
told_as (Ok ending) kept = Ok ending
told_as (Err (Faults.Serve serves.Read)) kept = Err (peer_fault serves.Read kept)
told_as (Err (Faults.Serve serves.Write)) kept = Err (peer_fault serves.Write kept)
told_as (Err fault) kept = Err (kepts.Run fault)

-- how the parts of a stream with a journal are known: its peer, its reports, and what a server sees of the peer with the
-- journal, which has the peer in it, this text and, if it failed, this fault
pub record KeptStream (P F J : Type 0) : Type 0 where
  pub state : P → PeerState
  pub reports : F → Option (List ℕ)
  pub over : J → PeerState
  pub inner : J → P
  pub text : J → List ℕ
  pub fault : J → Option KeepFault

-- what the stream goes on with: what its peer had taken, what the journal keeps, and how many answers its caller has seen
abbrev pub kept_origin : {P F J : Type 0} → KeptStream P F J → Kept → Option ℕ → Talk P F → PeerOrigin
kept_origin known kept seen old =
    origin_of kept.beginning seen (record { contents = (known.state old.peer).contents; lines = kept.lines.items })

-- A stream was served over a journal that keeps this, from the state at its beginning. The server was given the lines
-- that it keeps, and then what the peer had to give. The peer got what was recovered, the answers that its caller had
-- not seen, and what the server wrote after that; or nothing.
pub record GoesOnOver {P F J : Type 0} (known : KeptStream P F J) (options : RunOptions) (wakeups : Bool) (seen : Option ℕ)
    (kept : Kept) (old new : Talk P F) (result : Result Ending KeptFault) : Type 0 where
  pub read : ReadState
  pub says : IsSavedText (limits_for options) kept.state.items read
  -- the peer with its journal, before and after
  pub before : J
  pub after : J
  pub journal : known.text before ≡ preamble_of (options_line options) kept.beginning kept.state.items ++ kept.lines.items
  pub inner : known.inner before ≡ old.peer
  pub sees : known.over before ≡ state_over kept.lines.items [] (known.state old.peer) [] false false (kept_origin known kept seen old)
  pub outcome : Result Ending Fault
  pub served : HasResumed options read
      (record { on_bad = Report; wakeups = wakeups; state = known.over; reports = known.reports })
      (record { peer = before; faults = old.faults }) (record { peer = after; faults = new.faults }) outcome
  pub back : new.peer ≡ known.inner after
  pub calls : List PeerCall
  pub calls_are : (known.over after).calls ≡ Some calls
  pub got : HasGot (kept_origin known kept seen old) (known.state new.peer).contents calls (known.over after).read_failed
  pub told : result ≡ told_as outcome (known.fault after)

-- a stream was served over the journal in this file; or it was not begun, and nothing was read or written
abbrev pub HasServedKept : {P F J : Type 0} → KeptStream P F J → RunOptions → Bool → Option ℕ → Option (List ℕ) → (file : List ℕ)
    → (old new : Talk P F) → Result Ending KeptFault → Type 0
HasServedKept known options wakeups seen first file old new result =
    ((kept : Kept) × IsKeptFirst options first file kept × GoesOnOver known options wakeups seen kept old new result)
    ⊎ ((fault : KeptFault) × (result ≡ Err fault) × WhyNotBegun options first file fault × (new ≡ old))
