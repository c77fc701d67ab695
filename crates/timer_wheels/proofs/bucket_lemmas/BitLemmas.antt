-- The bits of lists after a row left one of them, or came to one.
use Rattle.std.proofs.Common.{◌≡◌, ◌≢◌, ◌<◌, ◌≤◌, ◌+◌, ℕ, List, [], ◌∷◌, ◌++◌, refl, sym, ◌∙◌, ap, length, inl, inr, subst, arith, slice_set, get_or-set_other, map, Option, Some, None, IfSome}
use Rattle.std.proofs.lemmas.Bool.{cases_lt}
use Rattle.timer_base.specs.WheelState.{held_at}
use Rattle.timer_links.proofs.Rows.{StandsIn, stands_in}
use Rattle.timer_links.specs.Lists.{with_row, without_key, list_if_alone, AreApart, IsAloneIn}
use Rattle.timer_wheels.specs.Types.{Handle, Timer, Node, list_at, KeyedLists, Row, Rows}
use Rattle.timer_wheels.specs.smooth.Wheels.{LeavesBits}
use Rattle.timer_wheels.specs.BucketLists.{AreBuckets, wheel_state}
use Rattle.timer_wheels.specs.Buckets.{IsListOf}
use Rattle.timer_wheels.specs.Occupied.{bit_of, filled, AreMarked, Clears}
use Rattle.timer_wheels.proofs.bucket_lemmas.Handles.{held_node}
use Rattle.timer_wheels.proofs.bucket_lemmas.OccupiedLemmas.{marked_same, marked_set, filled_behind}
use Rattle.timer_wheels.proofs.bucket_lemmas.WheelUpdates.{taken_out}

to_clears : (n l : ℕ) (front rest : Rows) (words words2 : List ℕ) → l < n → LeavesBits n (list_if_alone l front rest) words words2
    → Clears (list_if_alone l front rest) words words2
to_clears n l [] [] words words2 h c = c.0 h
to_clears n l [] (x ∷ xs) words words2 h c = c
to_clears n l (x ∷ xs) rest words words2 h c = c

not_cleared : (n l : ℕ) (front rest : Rows) (words words2 : List ℕ) → n ≤ l → LeavesBits n (list_if_alone l front rest) words words2
    → words2 ≡ words
not_cleared n l [] [] words words2 h c = c.1 h
not_cleared n l [] (x ∷ xs) words words2 h c = c
not_cleared n l (x ∷ xs) rest words words2 h c = c

-- what holds of the list holds of the one that became empty, if it did
if_alone : (P : ℕ → Type 0) (l : ℕ) (front rest : Rows) → P l → IfSome (list_if_alone l front rest) P
if_alone P l [] [] p = p
if_alone P l [] (x ∷ xs) p = tt
if_alone P l (x ∷ xs) rest p = tt

module _ {n last_tick now last : ℕ} {lists : KeyedLists} (b : AreBuckets n last_tick now last lists) (handle : Handle)
    (apart : AreApart lists) (timer : Timer) (e : held_at handle (wheel_state n last_tick now last lists) ≡ Some timer) (emptied : Option ℕ)
    (alone : IsAloneIn handle.place lists emptied) where
  abbrev node : Node
  node = (held_node b apart handle timer e).node

  abbrev there : StandsIn handle.place node lists
  there = stands_in handle.place node lists (held_node b apart handle timer e).at

  emptied_is : emptied ≡ list_if_alone there.l there.front there.rest
  emptied_is = alone there.l there.front node there.rest there.in_range there.at

  -- what holds of each list that has a row holds of it
  pub of_emptied : (P : ℕ → Type 0) → ((l : ℕ) (front : Rows) (row : Row) (rest : Rows) → l < length lists → list_at l lists ≡ front ++ row ∷ rest → P l)
      → IfSome emptied P
  of_emptied P f = subst (λ (o : Option ℕ). IfSome o P) (sym emptied_is)
      (if_alone P there.l there.front there.rest (f there.l there.front (handle.place, node) there.rest there.in_range there.at))

  -- its bit is cleared if the row was the last one in its bucket; rows stand in the first m lists, and in that of the due ones
  pub left_marked : (m : ℕ) → m ≤ n → ((l : ℕ) (front : Rows) (row : Row) (rest : Rows) → l < length lists → list_at l lists ≡ front ++ row ∷ rest → l < n → l < m)
      → (words words2 : List ℕ) → AreMarked m words lists → LeavesBits n emptied words words2
      → AreMarked m words2 (map (without_key handle.place) lists)
  left_marked m less within words words2 marked leaves =
      let rest_is : map (without_key handle.place) lists ≡ slice_set lists there.l (there.front ++ there.rest) =
      (apart there.l there.front (handle.place, node) there.rest there.in_range there.at).1 in
      let bits : LeavesBits n (list_if_alone there.l there.front there.rest) words words2 =
      subst (λ (o : Option ℕ). LeavesBits n o words words2) emptied_is leaves in
      elim (cases_lt there.l n) [
        | inl l ↦ subst (AreMarked m words2) (sym rest_is) (taken_out m words words2 there.l lists
            (within there.l there.front (handle.place, node) there.rest there.in_range there.at l) there.in_range marked
            handle.place node there.front there.rest there.at (to_clears n there.l there.front there.rest words words2 l bits))
        | inr l ↦
            let same : words2 ≡ words = not_cleared n there.l there.front there.rest words words2 l bits in
            subst (λ (x : List ℕ). AreMarked m x (map (without_key handle.place) lists)) (sym same)
            (marked_same m words lists (map (without_key handle.place) lists)
            (λ s k. ap (list_at s) rest_is ∙ get_or-set_other lists there.l s (there.front ++ there.rest) []
            (λ (q : s ≡ there.l). omega arith)) marked)
      ]

-- a row comes to one of the first m lists, and its bit is set; or to that of the due ones
pub come_marked : (m n now : ℕ) (lists : KeyedLists) (words words2 : List ℕ) (row : Row) (list d : ℕ) → m ≤ n → AreMarked m words lists
    → length lists ≡ n + 1 → IsListOf list n now d → (now < d → list < m)
    → (now < d → (bit_of words2 list ≡ 1) × ((s : ℕ) → s ≢ list → bit_of words2 s ≡ bit_of words s))
    → (d ≤ now → words2 ≡ words) → AreMarked m words2 (with_row list row lists)
come_marked m n now lists words words2 row list d less marked len (inl q) within pending due =
    let p = pending q.1 in
    let k : list < m = within q.1 in
    marked_set m words words2 list (list_at list lists ++ row ∷ []) lists k (omega arith)
    (p.0 ∙ sym (filled_behind (list_at list lists) row)) p.1 marked
come_marked m n now lists words words2 row list d less marked len (inr q) within pending due =
    let at : list ≡ n = q.0 in
    let e : words2 ≡ words = due (omega (arith, q.1)) in
    subst (λ (x : List ℕ). AreMarked m x (with_row list row lists)) (sym e)
    (marked_same m words lists (with_row list row lists)
    (λ s h. get_or-set_other lists list s (list_at list lists ++ row ∷ []) [] (λ (y : s ≡ list). omega arith)) marked)

-- where no list became empty, the bit of one that had rows is set still
pub filled_bit : (m n : ℕ) (words words2 : List ℕ) (emptied : Option ℕ) (list : ℕ) (lists : KeyedLists) → AreMarked m words lists → list < m
    → LeavesBits n emptied words words2 → emptied ≡ None → list_at list lists ≢ [] → bit_of words2 list ≡ 1
filled_bit m n words words2 emptied list lists marked within leaves none some =
    let same : words2 ≡ words = subst (λ (o : Option ℕ). LeavesBits n o words words2) none leaves in
    ap (λ (x : List ℕ). bit_of x list) same ∙ (marked.0 list within ∙ has (list_at list lists) some)
  where
    has : (rows : Rows) → rows ≢ [] → filled rows ≡ 1
    has [] some = absurd (some refl)
    has (x ∷ xs) some = refl
