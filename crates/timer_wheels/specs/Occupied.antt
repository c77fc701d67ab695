-- A bit for each bucket, set if it has rows.
use Rattle.std.specs.Prelude.{◌≡◌, ◌≢◌, ℕ, ◌<◌, ◌≤◌, ◌/◌, ◌%◌, List, [], ◌∷◌, Option, Some, None, slice_index_or}
use Rattle.std.specs.Int.{bit_at}
use Rattle.std.specs.Coded.{Π_prop, ×_prop}
use Rattle.std.proofs.Math.Nat.{ℕ_set}
use Rattle.timer_links.specs.Lists.{list_at, KeyedLists, Rows}
use Rattle.timer_wheels.specs.declared.table.TheConstants.{MOST_BUCKETS}

-- the bit of list s
abbrev pub bit_of : List ℕ → ℕ → ℕ
bit_of words s = bit_at (slice_index_or words (s / 64) 0) (s % 64)

-- the first of the first n lists whose bit is set, if one is
abbrev pub IsFirstSet : ℕ → List ℕ → Option ℕ → Type 0
IsFirstSet n words None = (s : ℕ) → s < n → bit_of words s ≡ 0
IsFirstSet n words (Some l) = (l < n) × (bit_of words l ≡ 1) × ((s : ℕ) → s < l → bit_of words s ≡ 0)

-- the lowest bit of a word that is set
pub record IsLowestSet (word bit : ℕ) : Type 0 where
  pub in_range : bit < 64
  pub is_set : bit_at word bit ≡ 1
  pub below : (i : ℕ) → i < bit → bit_at word i ≡ 0

-- 1 if there are rows
abbrev pub filled : Rows → ℕ
filled [] = 0
filled (row ∷ rows) = 1

-- no bit is set from this number on
abbrev pub IsClearFrom : ℕ → List ℕ → Type 0
IsClearFrom n words = (s : ℕ) → n ≤ s → s < MOST_BUCKETS → bit_of words s ≡ 0

-- each bit of the first n lists is set exactly if its list has rows, and no other is set
abbrev pub AreMarked : ℕ → List ℕ → KeyedLists → Type 0
AreMarked n words lists = ((s : ℕ) → s < n → bit_of words s ≡ filled (list_at s lists)) × IsClearFrom n words

-- the same but for the bit of one list
abbrev pub AreMarkedBut : ℕ → ℕ → List ℕ → KeyedLists → Type 0
AreMarkedBut n l words lists = ((s : ℕ) → s < n → s ≢ l → bit_of words s ≡ filled (list_at s lists))
    × IsClearFrom n words

-- the bit of a list that became empty, if one did, is cleared, and all others stay
abbrev pub Clears : Option ℕ → List ℕ → List ℕ → Type 0
Clears None old new = new ≡ old
Clears (Some l) old new = (bit_of new l ≡ 0) × ((s : ℕ) → s ≢ l → bit_of new s ≡ bit_of old s)

pub AreMarked-prop : (n : ℕ) (words : List ℕ) (lists : KeyedLists) → IsProp (AreMarked n words lists)
AreMarked-prop n words lists =
    ×_prop (Π_prop (λ s. Π_prop (λ b. ℕ_set (bit_of words s) (filled (list_at s lists)))))
    (Π_prop (λ s. Π_prop (λ a. Π_prop (λ b. ℕ_set (bit_of words s) 0))))
