-- What changes of buckets have in common: the bit of a bucket that a row left, and the lists that have a bit.
use Rattle.std.proofs.Common.{◌≡◌, ◌<◌, ◌≤◌, ℕ, List, [], ◌∷◌, ◌++◌, length, ◌∙◌, ap, arith, slice_set}
use Rattle.timer_links.specs.Lists.{list_if_alone}
use Rattle.timer_wheels.specs.Types.{Ghosts, Node, list_at, KeyedLists, Rows, Table}
use Rattle.timer_wheels.specs.declared.table.TheConstants.{MOST_BUCKETS}
use Rattle.timer_wheels.specs.declared.buckets.Buckets.{Buckets}
use Rattle.timer_wheels.specs.Digits.{slots, last_of}
use Rattle.timer_wheels.specs.hier.Hier.{IsHier}
use Rattle.timer_wheels.specs.Occupied.{bit_of, filled, AreMarked, Clears}
use Rattle.timer_wheels.specs.Tables.{radices}
use Rattle.timer_wheels.proofs.bucket_lemmas.OccupiedLemmas.{marked_set}
use Rattle.timer_wheels.proofs.table_lemmas.TableLaws.{of_table}

module _ (n : ℕ) (words words2 : List ℕ) (l : ℕ) (lists : KeyedLists) (h : l < n) (b : l < length lists)
    (t : AreMarked n words lists) where
  stays_marked : (rows : Rows) → filled (list_at l lists) ≡ filled rows → words2 ≡ words → AreMarked n words2 (slice_set lists l rows)
  stays_marked rows f c = marked_set n words words2 l rows lists h b (ap (λ (w : List ℕ). bit_of w l) c ∙ (t.0 l h ∙ f))
      (λ s m. ap (λ (w : List ℕ). bit_of w s) c) t

  -- one row is removed from a bucket, and its bit is cleared if no other row is left in it
  pub taken_out : (key : ℕ) (node : Node) (front rest : Rows) → list_at l lists ≡ front ++ (key, node) ∷ rest
      → Clears (list_if_alone l front rest) words words2 → AreMarked n words2 (slice_set lists l (front ++ rest))
  taken_out key node [] [] at c = marked_set n words words2 l [] lists h b c.0 c.1 t
  taken_out key node [] (x ∷ xs) at c = stays_marked (x ∷ xs) (ap filled at) c
  taken_out key node (x ∷ xs) rest at c = stays_marked (x ∷ (xs ++ rest)) (ap filled at) c

-- a bucket has a bit
pub in_word : (t : Table) (l : ℕ) → l < slots (radices t) → l < MOST_BUCKETS
in_word t l k = let y : slots (radices t) ≤ MOST_BUCKETS = (of_table t).few_slots in omega arith

module _ {N : Type 0} {kept : Ghosts N} {t : Table} {b : Buckets N kept} {words : List ℕ} (h : IsHier t b words) where
  pub up_to_last_of : (d : ℕ) → d ≤ b.last_tick → d ≤ last_of (radices t)
  up_to_last_of d k = let x : b.last_tick ≡ last_of (radices t) = h.clock in omega arith

  pub in_word_of : (l : ℕ) → l < b.slots → l < MOST_BUCKETS
  in_word_of l k = in_word t l (let x : b.slots ≡ slots (radices t) = h.has_slots in omega arith)

  pub in_slots : (l : ℕ) → l < slots (radices t) → l < b.slots
  in_slots l k = let x : b.slots ≡ slots (radices t) = h.has_slots in omega arith
