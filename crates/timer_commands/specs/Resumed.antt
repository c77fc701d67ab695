-- A stream that is broken off, and goes on in a second process over the journal that the first one left.
use Rattle.std.specs.Prelude.{◌≡◌, ℕ, false, List, ◌++◌, Option, Result}
use Rattle.std.specs.Io.KnownBytes.{Consumes, Appends}
use Rattle.timer_facility.specs.Saved.{ReadState}
use Rattle.timer_facility.specs.State.{FacilityState}
use Rattle.timer_script.specs.SavedText.{IsSavedText}
use Rattle.timer_script.specs.Types.{Event}
use Rattle.timer_script.specs.declared.cutter.OnBadLine.TheVariants.{Report}
use Rattle.timer_script.specs.Cutter.{PassesEvents}
use Rattle.timer_script.specs.Decorator.{AddsNothing}
use Rattle.timer_script.specs.Peer.{PeerState, PeerCall}
use Rattle.timer_script.specs.Service.{came_of, gone_of, server_with, HasAnsweredAll}
use Rattle.timer_durable.specs.declared.beginning.Kept.{Kept}
use Rattle.timer_durable.specs.Answers.{unseen_of, greeting_of}
use Rattle.timer_commands.specs.declared.ending.Ending.{Ending}
use Rattle.timer_commands.specs.declared.keeping.KeptFault.{KeptFault}
use Rattle.timer_commands.specs.declared.options.RunOptions.{RunOptions}
use Rattle.timer_commands.specs.Journaling.{KeptStream, GoesOnOver}
use Rattle.timer_commands.specs.Serving.{limits_for, Talk, IsResumed}

-- A process was served over a journal that keeps this, without wake-ups. At a moment between two of its calls these bytes
-- had come, those of lines that were recovered among them, and it had answered with this text.
pub record IsBrokenOff {P F J : Type 0} (known : KeptStream P F J) (options : RunOptions) (kept : Kept) (came gone : List ℕ)
    : Type 0 where
  pub seen : Option ℕ
  pub old : Talk P F
  pub new : Talk P F
  pub result : Result Ending KeptFault
  pub serves : GoesOnOver known options false seen kept old new result
  -- its calls so far, and those that it would have made
  pub so_far : List PeerCall
  pub others : List PeerCall
  pub parts : serves.calls ≡ so_far ++ others
  pub came_is : came ≡ came_of so_far
  pub gone_is : gone ≡ gone_of so_far

-- the journal that is left has the beginning of that one, and behind it the bytes that came, and maybe more
pub record IsLeft (kept : Kept) (came : List ℕ) (left : Kept) : Type 0 where
  pub beginning : left.beginning ≡ kept.beginning
  pub state : left.state.items ≡ kept.state.items
  pub more : List ℕ
  pub lines : left.lines.items ≡ came ++ more

-- A second process wrote how much was recovered, the answers that were not seen, and what it answered to the bytes that
-- came since. What was got before, these answers and what it wrote since are the whole answer of one facility, in one
-- process, to what the journal keeps and the bytes that came since.
pub record IsAnsweredAsOne {P F J : Type 0} (known : KeptStream P F J) (options : RunOptions) (seen : Option ℕ) (left : Kept)
    (got : List ℕ) (old new : Talk P F) (end : PeerState) : Type 0 where
  pub replayed : List ℕ
  pub since : List ℕ
  pub written : Appends (known.state old.peer).contents (known.state new.peer).contents
      (greeting_of left.beginning seen left.lines.items replayed ++ since)
  pub read : ReadState
  pub says : IsSavedText (limits_for options) left.state.items read
  pub before : FacilityState
  pub resumed : IsResumed options read before
  pub came : List ℕ
  pub taken : Consumes (known.state old.peer).remaining end.remaining came
  pub events : List Event
  pub passes : PassesEvents Report (left.lines.items ++ came) events
  pub answered : HasAnsweredAll (server_with Report AddsNothing before known.reports) end events
      (got ++ (unseen_of left.beginning.answers seen replayed ++ since))
