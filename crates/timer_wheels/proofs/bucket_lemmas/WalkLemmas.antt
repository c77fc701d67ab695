-- Lemmas for `walks`: the loop invariants of copying, counting and emptying one list.
use Rattle.std.proofs.Common.{◌≡◌, ◌<◌, ◌≤◌, ◌+◌, ℕ, List, [], ◌∷◌, ◌++◌, length, refl, sym, ◌∙◌, ap, arith, append_assoc, length-append, get_or-set_same, true, IsSome, Option, Some, None, slice_set, is_some}
use Rattle.std.proofs.lemmas.List.{set-get_or, length-map}
use Rattle.timer_links.proofs.Rows.{length_list_at}
use Rattle.timer_base.proofs.Basics.{some_same, some_none, none_some, empty_when}
use Rattle.timer_links.specs.Lists.{node_at, first_key, row_count, AreApart, IsNext, PopsFront}
use Rattle.timer_wheels.specs.Types.{Timer, Node, list_at, KeyedLists, Row, Rows}
use Rattle.timer_wheels.specs.BucketLists.{row_timers, row_timer}
use Rattle.timer_wheels.proofs.bucket_lemmas.RowLemmas.{append-nil, timers-append, set_twice}

-- after some steps these rows of the list are behind, those are left, and the key is that of the next one
pub record IsWalking (l step : ℕ) (lists : KeyedLists) (at : Option ℕ) (past : Rows) : Type 0 where
  pub left : Rows
  pub rows : list_at l lists ≡ past ++ left
  pub next : at ≡ first_key left
  pub count : length past ≡ step

abbrev pub begun : (l : ℕ) (lists : KeyedLists) (at : Option ℕ) → at ≡ first_key (list_at l lists) → IsWalking l 0 lists at []
begun l lists at e = record { left = list_at l lists; rows = refl; next = e; count = refl }

-- the next row, if there is one
pub record IsNextRow (l step : ℕ) (lists : KeyedLists) (key : ℕ) (past left : Rows) : Type 0 where
  pub node : Node
  pub rest : Rows
  pub front : left ≡ (key, node) ∷ rest
  pub rows : list_at l lists ≡ past ++ (key, node) ∷ rest
  pub count : length past ≡ step

next_of : (l step : ℕ) (lists : KeyedLists) (key : ℕ) (past left : Rows) → list_at l lists ≡ past ++ left
    → Some key ≡ first_key left → length past ≡ step → IsNextRow l step lists key past left
next_of l step lists key past [] r e c = absurd (some_none key e)
next_of l step lists key past (x ∷ xs) r e c =
    let k : x ∷ xs ≡ (key, x.1) ∷ xs = ap (λ (y : ℕ). (y, x.1) ∷ xs) (some_same x.0 key (sym e)) in
    record { node = x.1; rest = xs; front = k; rows = r ∙ ap (λ (y : Rows). past ++ y) k; count = c }

pub next_row : (l step : ℕ) (lists : KeyedLists) (at : Option ℕ) (key : ℕ) (past : Rows)
    → (w : IsWalking l step lists at past) → at ≡ Some key → IsNextRow l step lists key past w.left
next_row l step lists at key past w e = next_of l step lists key past w.left w.rows (sym e ∙ w.next) w.count

-- after as many steps as there are rows none is left
none_left : (l step : ℕ) (lists : KeyedLists) (at : Option ℕ) (past : Rows) → (w : IsWalking l step lists at past)
    → row_count lists ≤ step → w.left ≡ []
none_left l step lists at past w h =
    let b : length (list_at l lists) ≡ length past + length w.left = ap (λ (y : Rows). length y) w.rows ∙ length-append past w.left in
    empty_when w.left (omega (arith, length_list_at lists l, w.count))

pub ended_count : (l step : ℕ) (lists : KeyedLists) (at : Option ℕ) (past : Rows) → IsWalking l step lists at past
    → row_count lists ≤ step → list_at l lists ≡ past
ended_count l step lists at past w h =
    w.rows ∙ (ap (λ (y : Rows). past ++ y) (none_left l step lists at past w h) ∙ append-nil past)

module _ (l step : ℕ) (lists : KeyedLists) (b : l < length lists) (a : AreApart lists) (key : ℕ) (past : Rows) {left : Rows}
    (w : IsNextRow l step lists key past left) where
  pub found : node_at key lists ≡ Some w.node
  found = (a l past (key, w.node) w.rest b w.rows).0

abbrev pub walked : (l step : ℕ) (lists : KeyedLists) (key : ℕ) (past : Rows) {left : Rows} (w : IsNextRow l step lists key past left)
    → (at : Option ℕ) → at ≡ first_key w.rest → IsWalking l (step + 1) lists at (past ++ (key, w.node) ∷ [])
walked l step lists key past w at e = record {
  left = w.rest;
  rows = w.rows ∙ sym (append_assoc past ((key, w.node) ∷ []) w.rest);
  next = e;
  count = omega (arith, length-append past ((key, w.node) ∷ []), w.count);
}

-- A walk that changes the rows that it passes: the lists are what `change` makes of those behind and those left.

pub record IsChanging (change : Rows → Rows → KeyedLists) (l step : ℕ) (old lists : KeyedLists) (at : Option ℕ) : Type 0 where
  pub past : Rows
  pub walk : IsWalking l step old at past
  pub is : lists ≡ change past walk.left

pub record IsNextChanged (change : Rows → Rows → KeyedLists) (l step : ℕ) (old lists : KeyedLists) (key : ℕ) : Type 0 where
  pub past : Rows
  pub left : Rows
  pub row : IsNextRow l step old key past left
  pub is : lists ≡ change past ((key, row.node) ∷ row.rest)

module _ (change : Rows → Rows → KeyedLists) (l : ℕ) (old : KeyedLists) where
  pub change_begun : (at : Option ℕ) → at ≡ first_key (list_at l old) → old ≡ change [] (list_at l old) → IsChanging change l 0 old old at
  change_begun at e i = record { past = []; walk = begun l old at e; is = i }

  pub change_next : (step : ℕ) (lists : KeyedLists) (at : Option ℕ) (key : ℕ) → IsChanging change l step old lists at
      → at ≡ Some key → IsNextChanged change l step old lists key
  change_next step lists at key s e =
      let w = next_row l step old at key s.past s.walk e in
      record { past = s.past; left = s.walk.left; row = w; is = s.is ∙ ap (change s.past) w.front }

  pub change_more : (step : ℕ) (lists new : KeyedLists) (at : Option ℕ) (key : ℕ) → (w : IsNextChanged change l step old lists key)
      → new ≡ change (w.past ++ (key, w.row.node) ∷ []) w.row.rest → at ≡ first_key w.row.rest → IsChanging change l (step + 1) old new at
  change_more step lists new at key w i e =
      record { past = w.past ++ (key, w.row.node) ∷ []; walk = walked l step old key w.past w.row at e; is = i }

  pub change_ended : (step : ℕ) (lists : KeyedLists) (at : Option ℕ) → IsChanging change l step old lists at → row_count old ≤ step
      → lists ≡ change (list_at l old) []
  change_ended step lists at s h =
      s.is ∙ (ap (change s.past) (none_left l step old at s.past s.walk h)
      ∙ ap (λ (y : Rows). change y []) (sym (ended_count l step old at s.past s.walk h)))

-- A walk that leaves the lists as they are, with a fact of the rows that it passed.

pub record IsGathering (P : Rows → Type 0) (l step : ℕ) (lists : KeyedLists) (at : Option ℕ) : Type 0 where
  pub past : Rows
  pub walk : IsWalking l step lists at past
  pub holds : P past

pub gathered_none : {P : Rows → Type 0} (l : ℕ) (lists : KeyedLists) (at : Option ℕ) → at ≡ first_key (list_at l lists) → P []
    → IsGathering P l 0 lists at
gathered_none l lists at e h = record { past = []; walk = begun l lists at e; holds = h }

module _ {P : Rows → Type 0} {l step : ℕ} {lists : KeyedLists} {at : Option ℕ} (g : IsGathering P l step lists at) where
  -- once no row is left it holds of all
  pub gathered_all : row_count lists ≤ step → P (list_at l lists)
  gathered_all h = rw (ended_count l step lists at g.past g.walk h) g.holds

  module _ (b : l < length lists) (a : AreApart lists) (key : ℕ) (e : at ≡ Some key) where
    here : IsNextRow l step lists key g.past g.walk.left
    here = next_row l step lists at key g.past g.walk e

    here_found : node_at key lists ≡ Some here.node
    here_found = found l step lists b a key g.past here

    pub here_in_use : IsSome (node_at key lists)
    here_in_use = rw here_found refl

    pub here_is_some : None ≡ node_at key lists → ⊥
    here_is_some n = none_some here.node (n ∙ here_found)

    -- one more row
    pub gathered_one : {Q : Rows → Type 0} (next : Option ℕ) → IsNext key lists next
        → ((node : Node) → node_at key lists ≡ Some node → P g.past → Q (g.past ++ (key, node) ∷ [])) → IsGathering Q l (step + 1) lists next
    gathered_one next n f = record {
      past = g.past ++ (key, here.node) ∷ [];
      walk = walked l step lists key g.past here next (n l g.past here.node here.rest b here.rows);
      holds = f here.node here_found g.holds;
    }

-- One list is counted, and copied.

abbrev pub IsCounted : ℕ → Rows → Type 0
IsCounted step past = length past ≡ step

pub counted_one : (step key : ℕ) (node : Node) (past : Rows) → IsCounted step past → IsCounted (step + 1) (past ++ (key, node) ∷ [])
counted_one step key node past h = omega (arith, h, length-append past ((key, node) ∷ []))

abbrev pub IsCopied : List Timer → List Timer → Rows → Type 0
IsCopied old new past = new ≡ old ++ row_timers past

pub copied_one : (key : ℕ) (node same : Node) (found : Option Node) (old new more : List Timer) (past : Rows) → Some same ≡ found
    → more ≡ new ++ same.timer ∷ [] → found ≡ Some node → IsCopied old new past → IsCopied old more (past ++ (key, node) ∷ [])
copied_one key node same found old new more past f m e h = rw (
  m,
  h,
  some_same same node (f ∙ e),
  timers-append past ((key, node) ∷ []),
  append_assoc old (row_timers past) (node.timer ∷ []),
) refl

-- while a row is left, fewer timers were copied than the list has
pub copied_fits : {l step : ℕ} {lists : KeyedLists} {at : Option ℕ} (old new : List Timer) (key : ℕ)
    → IsGathering (IsCopied old new) l step lists at → at ≡ Some key → length new < length old + length (list_at l lists)
copied_fits {l = l} {step = step} {lists = lists} {at = at} old new key g e =
    let w = next_row l step lists at key g.past g.walk e in
    omega (
      arith,
      ap (λ (y : Rows). length y) w.rows,
      length-append g.past ((key, w.node) ∷ w.rest),
      ap (λ (y : List Timer). length y) g.holds,
      length-append old (row_timers g.past),
      length-map g.past row_timer,
    )

-- One list is emptied.

-- after some steps these rows of the list are left
pub record IsEmptying (l step : ℕ) (old new : KeyedLists) : Type 0 where
  pub left : Rows
  pub is : new ≡ slice_set old l left
  pub count : length left + step ≡ length (list_at l old)

pub emptying-begun : (l : ℕ) (lists : KeyedLists) → IsEmptying l 0 lists lists
emptying-begun l lists = record { left = list_at l lists; is = sym (set-get_or lists l []); count = omega arith }

pub emptied-some : (l step : ℕ) (old new more : KeyedLists) (popped : Option Row) → l < length old
    → IsEmptying l step old new → is_some popped ≡ true → PopsFront l new popped more → IsEmptying l (step + 1) old more
emptied-some l step old new more None b s e p = absurd (cc)
emptied-some l step old new more (Some row) b s e p =
    let front : s.left ≡ row ∷ p.0 = sym (ap (list_at l) s.is ∙ get_or-set_same old l s.left [] b) ∙ p.1 in
    record {
      left = p.0;
      is = p.2 ∙ (ap (λ (y : KeyedLists). slice_set y l p.0) s.is ∙ set_twice old l s.left p.0);
      count = omega (arith, s.count, ap (λ (y : Rows). length y) front);
    }

pub emptied-count : (l step : ℕ) (old new : KeyedLists) → IsEmptying l step old new → row_count old ≤ step → new ≡ slice_set old l []
emptied-count l step old new s h =
    s.is ∙ ap (slice_set old l) (empty_when s.left (omega (arith, length_list_at old l, s.count)))

-- the lists so far are empty, and the others are unchanged
pub record AreEmptied (count : ℕ) (old new : KeyedLists) : Type 0 where
  pub same_length : length new ≡ length old
  pub emptied : (s : ℕ) → s < count → list_at s new ≡ []
  pub others : (s : ℕ) → count ≤ s → list_at s new ≡ list_at s old
