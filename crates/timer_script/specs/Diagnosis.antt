-- Why bytes are not the line of an event, and from which column on.
use Rattle.std.specs.Prelude.{◌≡◌, ◌≢◌, ◌⊎◌, ℕ, ◌+◌, ◌-◌, ◌<◌, ◌≤◌, List, [], ◌∷◌, length, take, slice_index, Option, Some, None, codes}
use Rattle.timer_script.specs.Types.{Event, Field, LineReason, LineFault, Grammar}
use Rattle.timer_script.specs.Script.{IsIn, line, IsWord}
use Rattle.timer_script.specs.declared.line_fault.Field.TheVariants as fields
use Rattle.timer_script.specs.declared.line_fault.LineReason.TheVariants as reasons

-- the bytes are the line of an event
abbrev pub IsLine : Grammar → List ℕ → Type 0
IsLine grammar bytes = (event : Event) × IsIn grammar event × (bytes ≡ line event)

-- the byte is a digit
abbrev pub IsDigit : ℕ → Type 0
IsDigit byte = (48 ≤ byte) × (byte ≤ 57)

-- the byte is one from `-` to `z`: words have no others
abbrev pub IsLetter : ℕ → Type 0
IsLetter byte = (45 ≤ byte) × (byte ≤ 122)

-- this byte is at this place, counted from 0
abbrev pub IsByteAt : ℕ → List ℕ → ℕ → Type 0
IsByteAt byte bytes at = (at < length bytes) × (slice_index bytes at ≡ byte)

-- this byte is right before it
abbrev pub IsByteBefore : ℕ → List ℕ → ℕ → Type 0
IsByteBefore byte bytes at = (1 ≤ at) × (slice_index bytes (at - 1) ≡ byte)

-- each byte before it is so
abbrev pub AreBytesBefore : (ℕ → Type 0) → List ℕ → ℕ → Type 0
AreBytesBefore P bytes at = (i : ℕ) → i < at → P (slice_index bytes i)

-- some byte before it is a space
abbrev pub IsAfterSpace : List ℕ → ℕ → Type 0
IsAfterSpace bytes at = (i : ℕ) × (i < at) × (slice_index bytes i ≡ 32)

-- the word of the line ended before it
abbrev pub IsPastWord : Grammar → List ℕ → ℕ → Type 0
IsPastWord grammar bytes at = IsAfterSpace bytes at ⊎ IsWord grammar (take at bytes)

-- the line ends after the byte here
abbrev pub EndsAfter : List ℕ → ℕ → Type 0
EndsAfter bytes at = (at + 1 ≡ length bytes) ⊎ ((slice_index bytes (at + 1) ≡ 10) ⊎ (slice_index bytes (at + 1) ≡ 13))

-- a byte of no word, or one at which the line would end before it has one
pub record IsUnknown (grammar : Grammar) (bytes : List ℕ) (at : ℕ) : Type 0 where
  pub within : at < length bytes
  pub in_word : AreBytesBefore (λ b. b ≡ 32 → ⊥) bytes at
  pub no_return : slice_index bytes at ≡ 13 → ⊥
  pub no_tab : slice_index bytes at ≡ 9 → ⊥
  pub ends : (slice_index bytes at ≡ 10) ⊎ (slice_index bytes at ≡ 32) → (1 ≤ at) × ¬ (IsWord grammar (take at bytes))
  pub no_mark : at ≡ 0 → take 3 bytes ≡ 239 ∷ 187 ∷ 191 ∷ [] → ⊥

-- a byte of no number
pub record IsForeign (bytes : List ℕ) (at : ℕ) : Type 0 where
  pub within : at < length bytes
  pub past : IsAfterSpace bytes at
  pub no_digit : ¬ (IsDigit (slice_index bytes at))
  pub other : (slice_index bytes at ≡ 9) ⊎ ((slice_index bytes at ≡ 10) ⊎ ((slice_index bytes at ≡ 13)
      ⊎ (slice_index bytes at ≡ 32))) → ⊥

-- a digit of a number
abbrev pub IsDigitAt : List ℕ → ℕ → Type 0
IsDigitAt bytes at = (at < length bytes) × IsDigit (slice_index bytes at)

-- the number before it is a single zero
abbrev pub IsAfterZero : List ℕ → ℕ → Type 0
IsAfterZero bytes at = IsByteBefore 48 bytes at × IsByteBefore 32 bytes (at - 1)

-- a digit after the word, and not after a single zero: a number may leave its range with it
abbrev pub LeavesRange : List ℕ → ℕ → Type 0
LeavesRange bytes at = IsDigitAt bytes at × IsAfterSpace bytes at × ¬ (IsAfterZero bytes at)

-- what is at this place for each reason: in a line, whose line feed is its last byte, one reason alone, but that the
-- two ranges are told apart by the field
abbrev pub IsReasonAt : Grammar → LineReason → List ℕ → ℕ → Type 0
IsReasonAt grammar reasons.NoLineEnd bytes at = at ≡ length bytes
IsReasonAt grammar reasons.EmptyLine bytes at = (at ≡ 0) × IsByteAt 10 bytes at
IsReasonAt grammar reasons.CarriageReturn bytes at = IsByteAt 13 bytes at
IsReasonAt grammar reasons.ByteOrderMark bytes at = (at ≡ 0) × (take 3 bytes ≡ 239 ∷ 187 ∷ 191 ∷ [])
IsReasonAt grammar reasons.Tab bytes at = IsByteAt 9 bytes at
-- at the start, after another space, or at the end
IsReasonAt grammar reasons.Space bytes at =
    IsByteAt 32 bytes at × ((at ≡ 0) ⊎ (IsByteBefore 32 bytes at ⊎ (IsPastWord grammar bytes at × EndsAfter bytes at)))
IsReasonAt grammar reasons.UnknownWord bytes at = IsUnknown grammar bytes at
IsReasonAt grammar reasons.MissingField bytes at = IsByteAt 10 bytes at × IsPastWord grammar bytes at
-- a space, after which more comes; or bytes after a line feed
IsReasonAt grammar reasons.TooManyFields bytes at =
    (IsByteAt 32 bytes at × (1 ≤ at) × ¬ (IsByteBefore 32 bytes at) × IsPastWord grammar bytes at × ¬ (EndsAfter bytes at))
    ⊎ ((at < length bytes) × IsByteBefore 10 bytes at)
IsReasonAt grammar reasons.NotANumber bytes at = IsForeign bytes at
IsReasonAt grammar reasons.LeadingZero bytes at = IsDigitAt bytes at × IsAfterZero bytes at
IsReasonAt grammar reasons.OutOfRange bytes at = LeavesRange bytes at
IsReasonAt grammar reasons.OutOfTicks bytes at = LeavesRange bytes at

-- a field is named for these reasons alone: for `OutOfTicks` the count of ticks, for `OutOfRange` another
abbrev pub NamesField : LineReason → Option Field → Type 0
NamesField reasons.MissingField field = field ≢ None
NamesField reasons.NotANumber field = field ≢ None
NamesField reasons.LeadingZero field = field ≢ None
NamesField reasons.OutOfRange field = (field ≢ None) × (field ≢ Some fields.Count)
NamesField reasons.OutOfTicks field = field ≡ Some fields.Count
NamesField _ field = field ≡ None

-- the fault is in these bytes, or right after them, and its reason is what is there
pub record IsFaultOf (grammar : Grammar) (fault : LineFault) (bytes : List ℕ) : Type 0 where
  pub some : 1 ≤ fault.column
  pub within : fault.column ≤ length bytes + 1
  pub reason : IsReasonAt grammar fault.reason bytes (fault.column - 1)
  pub field : NamesField fault.reason fault.field

-- no fault for the line of an event, and a fault for other bytes
abbrev pub IsVerdict : Grammar → Option LineFault → List ℕ → Type 0
IsVerdict grammar None bytes = IsLine grammar bytes
IsVerdict grammar (Some fault) bytes = ¬ (IsLine grammar bytes) × IsFaultOf grammar fault bytes

-- ---- within a line

-- what stands before this place: the bytes of a word that begins a line, or fields, of which this is the last
abbrev pub IsBehind : Grammar → Option Field → List ℕ → ℕ → Type 0
IsBehind grammar None bytes at = AreBytesBefore IsLetter bytes at × IsWord grammar (take at bytes)
IsBehind grammar (Some field) bytes at = IsAfterSpace bytes at × ¬ (IsDigitAt bytes at)

-- the word or a field ends here
pub record IsEndOf (grammar : Grammar) (before : Option Field) (bytes : List ℕ) (at : ℕ) : Type 0 where
  pub some : 1 ≤ at
  pub within : at ≤ length bytes
  pub no_space : slice_index bytes (at - 1) ≡ 32 → ⊥
  pub behind : IsBehind grammar before bytes at

-- so many digits of a number were read after a space: none, or the next byte is one too
pub record IsInNumber (bytes : List ℕ) (at len : ℕ) : Type 0 where
  pub within : at ≤ length bytes
  pub some : len + 1 ≤ at
  pub space : slice_index bytes (at - len - 1) ≡ 32
  pub digits : (i : ℕ) → i < len → IsDigit (slice_index bytes (at - len + i))
  pub stuck : (len ≡ 0) ⊎ IsDigitAt bytes at

-- the name of a field
abbrev pub field_words : Field → List ℕ
field_words fields.Client = codes "client"
field_words fields.Number = codes "number"
field_words fields.Serial = codes "serial"
field_words fields.Tick = codes "tick"
field_words fields.Deadline = codes "deadline"
field_words fields.Interval = codes "interval"
field_words fields.Action = codes "action"
field_words fields.Count = codes "count"

-- a reason in words
abbrev pub reason_words : LineReason → List ℕ
reason_words reasons.NoLineEnd = codes "no line end"
reason_words reasons.EmptyLine = codes "empty line"
reason_words reasons.CarriageReturn = codes "carriage return"
reason_words reasons.ByteOrderMark = codes "byte order mark"
reason_words reasons.Tab = codes "tab"
reason_words reasons.Space = codes "space too many"
reason_words reasons.UnknownWord = codes "unknown word"
reason_words reasons.MissingField = codes "missing field"
reason_words reasons.TooManyFields = codes "too many fields"
reason_words reasons.NotANumber = codes "not a number"
reason_words reasons.LeadingZero = codes "leading zero"
reason_words reasons.OutOfRange = codes "out of range 0 to 1152921504606846975"
reason_words reasons.OutOfTicks = codes "out of range 1 to 1000000"
