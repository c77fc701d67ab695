-- The text of a dump, and what its readers compute.
use Rattle.std.specs.Prelude.{◌≡◌, ◌≢◌, ◌≤◌, ℕ, ◌+◌, List, [], ◌++◌, length, codes, Some, None}
use Rattle.std.specs.List.{flat_map, AllByRecursion}
use Rattle.timer_facility.specs.Saved.{saved_of, state_lines, ReadState, IsReadState, lines_read, line_fault}
use Rattle.timer_facility.specs.declared.saved.Limits.{Limits}
use Rattle.timer_facility.specs.declared.saved.Stage.TheVariants.{Whole}
use Rattle.timer_facility.specs.declared.saved.StateLine.{StateLine}
use Rattle.timer_facility.specs.declared.saved.StateLine.TheVariants as Saved
use Rattle.timer_script.specs.Types.{LAST, FacilityState}
use Rattle.timer_script.specs.Lines.{Read, ◌>>=◌, or_try, strip, field_at}
use Rattle.timer_script.specs.Text.{state_line}
use Rattle.timer_script.specs.declared.saved_text.SavedFault.{SavedFault}
use Rattle.timer_script.specs.declared.saved_text.SavedFault.TheVariants as faults

-- a next number that a line can say: the first to the one after the last
abbrev pub IsNext : ℕ → Type 0
IsNext next = (1 ≤ next) × (next ≤ LAST + 1)

-- the line has a spelling that can be read back
abbrev pub IsSpelled : StateLine → Type 0
IsSpelled (Saved.Open now next_serial) = (now ≤ LAST) × IsNext next_serial
IsSpelled (Saved.Closed now next_serial) = (now ≤ LAST) × IsNext next_serial
IsSpelled (Saved.Number client next) = (client ≤ LAST) × IsNext next
IsSpelled (Saved.Pending t) = (t.serial ≤ LAST) × (t.client ≤ LAST) × (t.number ≤ LAST) × (t.deadline ≤ LAST) × (t.action ≤ LAST)
IsSpelled (Saved.End pending) = pending ≤ LAST

-- the lines, one after another
abbrev pub state_text : List StateLine → List ℕ
state_text lines = flat_map state_line lines

-- the text of a dump of this state
abbrev pub dump_text : FacilityState → List ℕ
dump_text s = state_text (state_lines (saved_of s))

-- the bytes are the text of these lines, and then the rest
pub record AreStateLines (bytes : List ℕ) (lines : List StateLine) (rest : List ℕ) : Type 0 where
  pub parts : bytes ≡ state_text lines ++ rest
  pub spelled : AllByRecursion IsSpelled lines

-- the bytes are the text of a dump, and this is what it says
pub record IsSavedText (limits : Limits) (bytes : List ℕ) (r : ReadState) : Type 0 where
  pub whole : r.stage ≡ Whole
  pub within : r.limits ≡ limits
  pub read : IsReadState r
  pub text : AreStateLines bytes (lines_read r) []
  -- it is the text of no other lines
  pub only : (lines : List StateLine) → AreStateLines bytes lines [] → lines ≡ lines_read r

-- no line of a dump is a prefix of the bytes
abbrev pub BeginsNoStateLine : List ℕ → Type 0
BeginsNoStateLine bytes = (line : StateLine) (more : List ℕ) → IsSpelled line → bytes ≡ state_line line ++ more → ⊥

-- the lines before this one were read, and this is left
pub record IsReadUpTo (limits : Limits) (bytes : List ℕ) (line : ℕ) (rest : List ℕ) (r : ReadState) : Type 0 where
  pub within : r.limits ≡ limits
  pub read : IsReadState r
  pub text : AreStateLines bytes (lines_read r) rest
  pub counted : line ≡ length (lines_read r) + 1

-- why the bytes are not read as a state
abbrev pub WhyNotRead : Limits → List ℕ → SavedFault → Type 0
WhyNotRead limits bytes (faults.Form line) = (r : ReadState) × (rest : List ℕ) × IsReadUpTo limits bytes line rest r
    × (1 ≤ length rest) × BeginsNoStateLine rest
WhyNotRead limits bytes (faults.Line line fault) = (r : ReadState) × (next : StateLine) × (rest : List ℕ)
    × IsReadUpTo limits bytes line (state_line next ++ rest) r × IsSpelled next × (line_fault r next ≡ Some fault)
WhyNotRead limits bytes faults.CutOff = (r : ReadState) × (r.limits ≡ limits) × AreStateLines bytes (lines_read r) [] × (r.stage ≢ Whole)
WhyNotRead limits bytes faults.OutOfMemory = Unit {0}

-- ---- what the readers compute: no public clause cites it

-- the next one of as many as a field says
unfoldable pub next_at : List ℕ → Read ℕ
next_at bytes = field_at 10 bytes >>= λ used. Some (used.0 + 1, used.1)

-- what follows `state open `
unfoldable pub open_at : List ℕ → Read StateLine
open_at bytes =
    field_at 32 bytes >>= λ now.
    next_at now.1 >>= λ next.
    Some (Saved.Open now.0 next.0, next.1)

-- what follows `state closed `
unfoldable pub closed_at : List ℕ → Read StateLine
closed_at bytes =
    field_at 32 bytes >>= λ now.
    next_at now.1 >>= λ next.
    Some (Saved.Closed now.0 next.0, next.1)

-- what follows `number `
unfoldable pub client_at : List ℕ → Read StateLine
client_at bytes =
    field_at 32 bytes >>= λ client.
    next_at client.1 >>= λ next.
    Some (Saved.Number client.0 next.0, next.1)

-- what follows `timer `
unfoldable pub timer_line_at : List ℕ → Read StateLine
timer_line_at bytes =
    field_at 32 bytes >>= λ serial.
    field_at 32 serial.1 >>= λ client.
    field_at 32 client.1 >>= λ number.
    field_at 32 number.1 >>= λ deadline.
    field_at 10 deadline.1 >>= λ action.
    Some (Saved.Pending (record { serial = serial.0; client = client.0; number = number.0; deadline = deadline.0; action = action.0 }), action.1)

-- what follows `state end `
unfoldable pub end_at : List ℕ → Read StateLine
end_at bytes = field_at 10 bytes >>= λ pending. Some (Saved.End pending.0, pending.1)

-- the first or the last line at the front
unfoldable pub frame_at : List ℕ → Read StateLine
frame_at bytes =
    or_try (strip (codes "state open ") bytes) open_at
    (or_try (strip (codes "state closed ") bytes) closed_at
    (or_try (strip (codes "state end ") bytes) end_at None))

-- the line at the front
unfoldable pub state_line_at : List ℕ → Read StateLine
state_line_at bytes =
    or_try (strip (codes "timer ") bytes) timer_line_at
    (or_try (strip (codes "number ") bytes) client_at (frame_at bytes))
