-- What a file of groups says: the groups, and what is behind them.
use Rattle.std.specs.Prelude.{ℕ, zero, suc, ◌+◌, ◌*◌, ◌^◌, ◌%◌, ◌≡◌, ◌==◌, nat_le, not, Bool, true, false, ◌&&◌, ◌||◌, if◌then◌else◌, List, [], ◌∷◌, ◌++◌, length, take, drop, Option, Some, None}
use Rattle.std.specs.Int.{w64, to_be_bytes, from_be_bytes}

-- the checksum goes on with these bytes
abbrev pub checksum_from : ℕ → List ℕ → ℕ
checksum_from sum [] = sum
checksum_from sum (byte ∷ bytes) = checksum_from ((sum + byte) % 2 ^ 64 * 1099511628211 % 2 ^ 64) bytes

abbrev pub checksum : List ℕ → ℕ
checksum bytes = checksum_from 1 bytes

-- a group behind its gate: its length, its checksum, its lines
abbrev pub body_of : List ℕ → List ℕ
body_of lines = to_be_bytes w64 (length lines) ++ to_be_bytes w64 (checksum lines) ++ lines

-- groups behind open gates
abbrev pub blocks : List (List ℕ) → List ℕ
blocks [] = []
blocks (lines ∷ groups) = (6 ∷ body_of lines) ++ blocks groups

-- the file of these groups: a closed gate is behind them
abbrev pub file_of : List (List ℕ) → List ℕ
file_of groups = blocks groups ++ 21 ∷ []

-- what is behind a gate says how long the group is, and its checksum
abbrev pub stated_length : List ℕ → ℕ
stated_length bytes = from_be_bytes w64 (take 8 bytes)

abbrev pub stated_checksum : List ℕ → ℕ
stated_checksum bytes = from_be_bytes w64 (take 8 (drop 8 bytes))

abbrev pub stated_lines : List ℕ → List ℕ
stated_lines bytes = take (stated_length bytes) (drop 16 bytes)

-- it is all there, and has that checksum
unfoldable pub is_whole : List ℕ → Bool
is_whole bytes = nat_le (16 + stated_length bytes) (length bytes) && (checksum (stated_lines bytes) == stated_checksum bytes)

-- the first group, and the bytes behind it, if the gate is open and the group is whole
abbrev pub first_group : List ℕ → Option (List ℕ × List ℕ)
first_group [] = None
first_group (gate ∷ bytes) = if (gate == 6) && is_whole bytes then Some (stated_lines bytes, drop (16 + stated_length bytes) bytes) else None

-- the whole groups from the front on, where some bytes are skipped
abbrev pub groups_after : ℕ → List ℕ → List (List ℕ)
groups_after skipped [] = []
groups_after (suc skipped) (byte ∷ bytes) = groups_after skipped bytes
groups_after zero (gate ∷ bytes) = if (gate == 6) && is_whole bytes then stated_lines bytes ∷ groups_after (16 + stated_length bytes) bytes else []

-- the groups of a file
abbrev pub groups_of : List ℕ → List (List ℕ)
groups_of file = groups_after 0 file

-- what is behind them, where some bytes are skipped
abbrev pub tail_after : ℕ → List ℕ → List ℕ
tail_after skipped [] = []
tail_after (suc skipped) (byte ∷ bytes) = tail_after skipped bytes
tail_after zero (gate ∷ bytes) = if (gate == 6) && is_whole bytes then tail_after (16 + stated_length bytes) bytes else gate ∷ bytes

-- what is behind the groups of a file
abbrev pub tail_of : List ℕ → List ℕ
tail_of file = tail_after 0 file

-- a torn gate, and no more behind it than one group and a gate
abbrev pub is_torn_group : ℕ → List ℕ → Bool
is_torn_group gate bytes = not (gate == 6) && nat_le (length bytes) (17 + stated_length bytes)

-- A crash may have left these bytes behind the groups: nothing, one byte, a closed gate with anything behind it, or a
-- torn gate.
abbrev pub is_torn_end : List ℕ → Bool
is_torn_end [] = true
is_torn_end (gate ∷ []) = true
is_torn_end (gate ∷ byte ∷ bytes) = (gate == 21) || is_torn_group gate (byte ∷ bytes)

-- the file says these groups, and is not damaged
pub record Says (groups : List (List ℕ)) (file : List ℕ) : Type 0 where
  pub whole : groups_of file ≡ groups
  pub end : is_torn_end (tail_of file) ≡ true

-- The first of two bytes or more is no gate. So the file has no group, and no journal that has begun ever had it.
abbrev pub is_foreign : List ℕ → Bool
is_foreign [] = false
is_foreign (gate ∷ []) = false
is_foreign (gate ∷ byte ∷ bytes) = not (gate == 6) && not (gate == 21)

-- no crash leaves what is behind its groups
abbrev pub IsDamaged : List ℕ → Type 0
IsDamaged file = is_torn_end (tail_of file) ≡ false
