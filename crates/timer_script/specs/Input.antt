-- What reading a script to its end does to the reader, whose remaining bytes may be known.
use Rattle.std.specs.Prelude.{◌≡◌, ℕ, ◌+◌, ◌≤◌, Bool, true, false, List, length, ◌++◌, Option}
use Rattle.std.specs.Io.KnownBytes.{Keeps, Consumes, IsAtEnd}
use Rattle.timer_script.specs.Types.{MAX_BYTES, ReadFault}
use Rattle.timer_script.specs.declared.fault.ReadFault.TheVariants as reads

-- the reader had these bytes left, and has none now
abbrev pub ReadsWhole : Option (List ℕ) → Option (List ℕ) → List ℕ → Type 0
ReadsWhole old new bytes = Consumes old new bytes × IsAtEnd new

-- at most this many bytes were read
abbrev pub ReadsUpTo : ℕ → Option (List ℕ) → Option (List ℕ) → Type 0
ReadsUpTo most old new = (bytes : List ℕ) × Consumes old new bytes × (length bytes ≤ most)

-- one byte more than `MAX_BYTES` was read
abbrev pub ReadsTooMany : Option (List ℕ) → Option (List ℕ) → Type 0
ReadsTooMany old new = (bytes : List ℕ) × Consumes old new bytes × (length bytes ≡ MAX_BYTES + 1)

-- why reading stopped before the end, and how far it went
abbrev pub StopsReading : ReadFault → Option (List ℕ) → Option (List ℕ) → Bool → Type 0
StopsReading reads.Read old new failed = ReadsUpTo MAX_BYTES old new × (failed ≡ true)
StopsReading reads.TooLong old new failed = ReadsTooMany old new × (failed ≡ false)
StopsReading reads.OutOfMemory old new failed = ReadsUpTo (MAX_BYTES + 1) old new × (failed ≡ false)

-- one read appended n bytes to the old ones; none came only at the end
pub record HasRead (old new : Option (List ℕ)) (failed : Bool) (bytes bytes' : List ℕ) (n : ℕ) : Type 0 where
  pub more : List ℕ
  pub taken : Consumes old new more
  pub joined : bytes' ≡ bytes ++ more
  pub counted : length more ≡ n
  pub at_end : n ≡ 0 → IsAtEnd new
  pub good : failed ≡ false

-- why one read appended nothing; if the reader failed, no byte was read, and else at most `room` were
abbrev pub FailsToRead : ReadFault → ℕ → Option (List ℕ) → Option (List ℕ) → Bool → Type 0
FailsToRead reads.Read room old new failed = Keeps old new × (failed ≡ true)
FailsToRead reads.TooLong room old new failed = ⊥
FailsToRead reads.OutOfMemory room old new failed = ReadsUpTo room old new × (failed ≡ false)
