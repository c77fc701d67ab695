-- What C holds, before and after a call.
use Rattle.std.specs.Prelude.{◌≡◌, ◌==◌, ◌&&◌, ◌+◌, ◌%◌, ◌^◌, ℕ, Bool, true, false}
use Rattle.timer_desk_c.specs.declared.c_structs.CDesk.{CDesk}
use Rattle.timer_desk_c.specs.Types.{CLine, Line}
use Rattle.timer_desk_c.specs.DeskSlots.{RingDesk}
use Rattle.timer_ffi_base.specs.Cells.{is_open}

-- it holds a desk
abbrev pub HasDesk : CDesk → Type 0
HasDesk d = is_open d.slot.mark ≡ true

-- it holds none
abbrev pub HasNoDesk : CDesk → Type 0
HasNoDesk d = is_open d.slot.mark ≡ false

-- the same, with a desk of this state
abbrev pub with_desk : CDesk → RingDesk → CDesk
with_desk d state = record d { slot = record d.slot { state = state } }

-- the life after this one: they are counted in 64 bits
abbrev pub next_life : ℕ → ℕ
next_life lives = (lives + 1) % 2 ^ 64

-- a line with this client and life is the client's, in this life of its desk's struct
abbrev pub is_line_of : ℕ → ℕ → ℕ → ℕ → Bool
is_line_of client lives line_client line_life = (line_client == client) && (line_life == lives)

-- the line was made for this client, in this life of its desk's struct
abbrev pub is_own : ℕ → ℕ → CLine → Bool
is_own client lives l = is_line_of client lives l.client l.life

-- it holds a line
abbrev pub HasLine : CLine → Type 0
HasLine l = is_open l.slot.mark ≡ true

-- it holds none
abbrev pub HasNoLine : CLine → Type 0
HasNoLine l = is_open l.slot.mark ≡ false

-- the same, with a line of this state
abbrev pub with_line : CLine → Line → CLine
with_line l state = record l { slot = record l.slot { state = state } }
