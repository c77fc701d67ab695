-- The desk before and after a flush of one client.
use Rattle.std.specs.Prelude.{◌≡◌, ℕ, ◌≤◌, ◌++◌, List, length, take, drop, get_or, slice_set}
use Rattle.timer_desk.specs.Types.{Word}
use Rattle.timer_desk.specs.Inlet.{LineState, LineKind}
use Rattle.timer_desk.specs.Backlog.{BacklogState}
use Rattle.timer_desk.specs.Desk.{DeskState, backlog_at}

-- the line has been given these words too
abbrev pub with_given : List Word → LineState → LineState
with_given words l = record l { given = l.given ++ words }

-- the first words of the outbox are gone
abbrev pub without_words : ℕ → BacklogState → BacklogState
without_words count b = record b { outbox = drop count b.outbox }

-- the line has been given the first `count` words of an outbox, and is otherwise as it was
pub record IsGiven {I : Type 0} (kind : LineKind I) (count : ℕ) (outbox : List Word)
    (old new : I) : Type 0 where
  pub same_line : kind.same old new
  pub state : kind.state new ≡ with_given (take count outbox) (kind.state old)
  pub at_most : count ≤ length outbox

-- the first `count` words of client c have left its outbox and stand in its line; all else is the same
pub record FlushesClient {I : Type 0} (kind : LineKind I) (c count : ℕ) (old new : DeskState I) : Type 0 where
  pub line : I
  pub given : (i : I) → IsGiven kind count (backlog_at old c).outbox (get_or old.inlets c i) line
  pub desk : new ≡ record old {
    inlets = slice_set old.inlets c line;
    backlogs = slice_set old.backlogs c (without_words count (backlog_at old c));
  }
