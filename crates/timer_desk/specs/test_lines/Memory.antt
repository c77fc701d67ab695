-- The lists of a `MemoryInlet`.
use Rattle.std.specs.Prelude.{◌<◌, ◌≤◌, ◌+◌, ◌-◌, ℕ, min, true, false, List, length, take, drop, vec_len, vec_capacity}
use Rattle.timer_desk.specs.Types.{Numbered, Word}
use Rattle.timer_desk.specs.declared.test_lines.memory.MemoryInlet.{MemoryInlet}
use Rattle.timer_desk.specs.Inlet.{LineState, LineKind, SameLine, SameLine-refl, SameLine-trans}

abbrev pub got_of_memory : MemoryInlet → List Numbered
got_of_memory m = take m.next m.requests.items

abbrev pub standing_of_memory : MemoryInlet → List Numbered
standing_of_memory m = drop m.next m.requests.items

abbrev pub given_of_memory : MemoryInlet → List Word
given_of_memory m = m.given.items

abbrev pub room_of_memory : MemoryInlet → ℕ
room_of_memory m = m.room

-- how many of so many words the line has room for
abbrev pub fitting : MemoryInlet → ℕ → ℕ
fitting m count = min count (room_of_memory m - length (given_of_memory m))

-- memory is not allocated yet for so many words more
abbrev pub LacksMemory : MemoryInlet → ℕ → Type 0
LacksMemory m count = vec_capacity m.given < vec_len m.given + count

-- the requests of the line, and its room
abbrev line_of : MemoryInlet → List Numbered × ℕ
line_of m = (m.requests.items, m.room)

abbrev state_of_memory : MemoryInlet → LineState
state_of_memory m = record { got = got_of_memory m; standing = standing_of_memory m; given = given_of_memory m }

-- the requests of the line and its room are the same, and more may have been got and given
abbrev pub SameMemoryLine : MemoryInlet → MemoryInlet → Type 0
SameMemoryLine = SameLine line_of state_of_memory

pub SameMemoryLine-refl : (a : MemoryInlet) → SameMemoryLine a a
SameMemoryLine-refl = SameLine-refl line_of state_of_memory

pub SameMemoryLine-trans : (a b c : MemoryInlet) → SameMemoryLine a b → SameMemoryLine b c → SameMemoryLine a c
SameMemoryLine-trans = SameLine-trans line_of state_of_memory

-- lines in memory as a kind of line
abbrev pub memory_lines : LineKind MemoryInlet
memory_lines = record {
  state = state_of_memory;
  same = SameMemoryLine;
  is_full = λ m. room_of_memory m ≤ length (given_of_memory m);
  take_may_refuse = false;
  put_may_refuse = true;
  reflexive = SameMemoryLine-refl;
  transitive = SameMemoryLine-trans;
}
