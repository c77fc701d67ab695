-- What the readers of one line compute, on lists. No public clause cites this file: it is proved that they
-- read exactly the lines of events.
use Rattle.std.specs.Prelude.{ℕ, ◌&&◌, ◌||◌, Bool, List, [], ◌∷◌, length, take, drop, slice_index, codes, Option, Some, None, option_map, option_and_then, ◌==◌, nat_eq, nat_lt, nat_le, if◌then◌else◌}
use Rattle.std.specs.Cmp.Lexicographic.{pointwise}
use Rattle.std.specs.Net.Reader.{digit_count}
use Rattle.std.specs.Str.Parse.{digits_value}
use Rattle.std.specs.Borrow.{Bor}
use Rattle.timer_script.specs.Types.{LAST, MAX_TICKS, Event, MOST_DIGITS, Grammar}
use Rattle.timer_script.specs.declared.lines.Grammar.TheVariants.{Script, Stream}
use Rattle.timer_facility.specs.declared.event.Event.TheVariants as Events

-- a value and the bytes after it
abbrev pub Read : Type 0 → Type 0
Read A = Option (A × List ℕ)

-- what a function read, with its value seen through `view`
abbrev pub read_view : {A B : Type 0} → (A → B) → Option (A × Bor (List ℕ)) → Read B
read_view view r = option_map (λ p. (view p.0, p.1.now)) r

-- f of the value, if there is one
infixl 10 ◌>>=◌
abbrev pub ◌>>=◌ : {A B : Type 0} → Option A → (A → Option B) → Option B
o >>= f = option_and_then f o

-- f of the value, if there is one, or else the default
abbrev pub or_try : {A B : Type 0} → Option A → (A → B) → B → B
or_try None f other = other
or_try (Some x) f other = f x

-- whether the bytes begin with the word
unfoldable pub has_word : List ℕ → List ℕ → Bool
has_word word bytes = pointwise nat_eq word (take (length word) bytes)

-- what follows the word
abbrev pub strip : List ℕ → List ℕ → Option (List ℕ)
strip word bytes = if has_word word bytes then Some (drop (length word) bytes) else None

-- the number of all the digits at the front, with no leading zero; more than `MOST_DIGITS` are one above LAST
unfoldable pub number_at : List ℕ → Read ℕ
number_at bytes =
    let len = digit_count 10 bytes in
    let value = digits_value 10 (take len bytes) in
    if len == 0 || ((nat_lt 1 len && (slice_index bytes 0 == 48)) || (nat_lt MOST_DIGITS len || nat_lt LAST value))
    then None else Some (value, drop len bytes)

-- a number, and what follows the byte that ends its field
unfoldable pub field_at : ℕ → List ℕ → Read ℕ
field_at end bytes = number_at bytes >>= λ n. strip (end ∷ []) n.1 >>= λ rest. Some (n.0, rest)

-- a count of ticks, and what follows the byte that ends its field
unfoldable pub tick_count_at : ℕ → List ℕ → Read ℕ
tick_count_at end bytes =
    field_at end bytes >>= λ n. if (nat_le 1 n.0 && nat_le n.0 MAX_TICKS) then Some n else None

-- what the first reads, or else the second
abbrev pub or_else : {A : Type 0} → Option A → Option A → Option A
or_else (Some x) other = Some x
or_else None other = other

-- made by tools/facts: what readers compute
-- what follows `start `
unfoldable pub start_at : List ℕ → Read Event
start_at bytes =
    field_at 32 bytes >>= λ client.
    field_at 32 client.1 >>= λ number.
    field_at 32 number.1 >>= λ interval.
    field_at 10 interval.1 >>= λ action.
    Some (Events.Start client.0 number.0 interval.0 action.0, action.1)

-- what follows `stop `
unfoldable pub stop_at : List ℕ → Read Event
stop_at bytes =
    field_at 32 bytes >>= λ client.
    field_at 32 client.1 >>= λ number.
    field_at 10 number.1 >>= λ serial.
    Some (Events.Stop client.0 number.0 serial.0, serial.1)

-- what follows `restart `
unfoldable pub restart_at : List ℕ → Read Event
restart_at bytes =
    field_at 32 bytes >>= λ client.
    field_at 32 client.1 >>= λ number.
    field_at 32 number.1 >>= λ serial.
    field_at 32 serial.1 >>= λ interval.
    field_at 10 interval.1 >>= λ action.
    Some (Events.Restart client.0 number.0 serial.0 interval.0 action.0, action.1)

-- what follows `tick `
unfoldable pub tick_at : List ℕ → Read Event
tick_at bytes =
    tick_count_at 10 bytes >>= λ count.
    Some (Events.Ticks count.0, count.1)

-- what follows `close\n`
unfoldable pub close_at : List ℕ → Read Event
close_at bytes =
    Some (Events.Close, bytes)

-- the event of another line
unfoldable pub other_at : List ℕ → Read Event
other_at bytes =
    or_try (strip (codes "tick ") bytes) tick_at
    (or_try (strip (codes "restart ") bytes) restart_at None)

-- the event whose line is at the front
unfoldable pub line_at : List ℕ → Read Event
line_at bytes =
    or_try (strip (codes "start ") bytes) start_at
    (or_try (strip (codes "stop ") bytes) stop_at
    (or_try (strip (codes "close\n") bytes) close_at (other_at bytes)))

-- by hand
-- made by tools/facts: what readers of a stream compute
-- what follows `at `
unfoldable pub at_line_at : List ℕ → Read Event
at_line_at bytes =
    field_at 10 bytes >>= λ tick.
    Some (Events.TicksTo tick.0, tick.1)

-- what follows `start-at `
unfoldable pub start_at_line_at : List ℕ → Read Event
start_at_line_at bytes =
    field_at 32 bytes >>= λ client.
    field_at 32 client.1 >>= λ number.
    field_at 32 number.1 >>= λ deadline.
    field_at 10 deadline.1 >>= λ action.
    Some (Events.StartAt client.0 number.0 deadline.0 action.0, action.1)

-- what follows `restart-at `
unfoldable pub restart_at_line_at : List ℕ → Read Event
restart_at_line_at bytes =
    field_at 32 bytes >>= λ client.
    field_at 32 client.1 >>= λ number.
    field_at 32 number.1 >>= λ serial.
    field_at 32 serial.1 >>= λ deadline.
    field_at 10 deadline.1 >>= λ action.
    Some (Events.RestartAt client.0 number.0 serial.0 deadline.0 action.0, action.1)

-- what follows `state\n`
unfoldable pub state_line_at : List ℕ → Read Event
state_line_at bytes =
    Some (Events.Dump, bytes)

-- the event of another line of a stream alone
unfoldable pub other_own_at : List ℕ → Read Event
other_own_at bytes =
    or_try (strip (codes "state\n") bytes) state_line_at None

-- the event of a line of a stream alone
unfoldable pub own_line_at : List ℕ → Read Event
own_line_at bytes =
    or_try (strip (codes "at ") bytes) at_line_at
    (or_try (strip (codes "start-at ") bytes) start_at_line_at
    (or_try (strip (codes "restart-at ") bytes) restart_at_line_at (other_own_at bytes)))

-- by hand
-- the event whose line is at the front of a stream
unfoldable pub stream_at : List ℕ → Read Event
stream_at bytes = or_else (line_at bytes) (own_line_at bytes)

-- the event whose line is at the front, in this grammar
abbrev pub line_in : Grammar → List ℕ → Read Event
line_in Script bytes = line_at bytes
line_in Stream bytes = stream_at bytes
