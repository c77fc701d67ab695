-- What clauses see of the ends of a locked line, and of the two queues between them.
use Rattle.std.specs.Prelude.{ℕ, true, List, []}
use Rattle.timer_desk.specs.Types.{Numbered, Word}
use Rattle.timer_desk.specs.declared.test_lines.locked.LockedEnd.{LockedEnd}
use Rattle.timer_desk.specs.declared.test_lines.locked.LockedInlet.{LockedInlet}
use Rattle.timer_desk.specs.declared.test_lines.queues.Queues.{Queues}
use Rattle.timer_desk.specs.Inlet.{LineState, LineKind, SameLine, SameLine-refl, SameLine-trans}

abbrev pub requests_queued : Queues → List Numbered
requests_queued q = q.requests.items

abbrev pub words_queued : Queues → List Word
words_queued q = q.words.items

abbrev pub capacity_of : Queues → ℕ
capacity_of q = q.capacity

abbrev pub next_of_locked : LockedEnd → ℕ
next_of_locked e = e.next

module _ {R : Type 0} where
  abbrev pub got_by_locked : LockedInlet R → List Numbered
  got_by_locked i = i.got.items

  abbrev pub given_by_locked : LockedInlet R → List Word
  given_by_locked i = i.given.items

  abbrev state_of_locked : LockedInlet R → LineState
  state_of_locked i = record { got = got_by_locked i; standing = []; given = given_by_locked i }

  -- the queues are the same, and more may have been got and given
  abbrev pub SameLockedLine : LockedInlet R → LockedInlet R → Type 0
  SameLockedLine = SameLine (λ (i : LockedInlet R). i.queues) state_of_locked

  -- locked lines as a kind of line
  abbrev pub locked_lines : LineKind (LockedInlet R)
  locked_lines = record {
    state = state_of_locked;
    same = SameLockedLine;
    is_full = λ _. Unit {0};
    take_may_refuse = true;
    put_may_refuse = true;
    reflexive = SameLine-refl (λ (i : LockedInlet R). i.queues) state_of_locked;
    transitive = SameLine-trans (λ (i : LockedInlet R). i.queues) state_of_locked;
  }
