-- Lemmas for `sweep_bucket`: its loop invariant.
use Rattle.std.proofs.Common.{◌≡◌, ◌≢◌, ◌<◌, ◌≤◌, ◌+◌, ◌-◌, ℕ, [], ◌∷◌, ◌++◌, length, refl, sym, ◌∙◌, ap, inl, inr, length-set, append_assoc, get_or-set_same, get_or-set_other, filter, map, IsSome, Option, Some, slice_set}
use Rattle.std.proofs.lemmas.List.{set-get_or, map-append}
use Rattle.std.proofs.lemmas.Bool.{cases_eq, eq-eqb, ne_eqb}
use Rattle.timer_links.specs.declared.kept.Node.{Node}
use Rattle.timer_links.specs.Lists.{node_at, first_key, list_at, row_count, without_key, moved_back, AreApart, IsNext, SetsRounds, KeyedLists, Row, Rows}
use Rattle.timer_wheels.specs.hashed.Sweep.{with_fewer_rounds, has_no_rounds, has_rounds, due_now, due_later, half_swept, swept}
use Rattle.timer_wheels.proofs.bucket_lemmas.RowLemmas.{append-nil, filter-append, set_twice, set_swapped}
use Rattle.timer_wheels.proofs.bucket_lemmas.WalkLemmas.{IsChanging, IsNextChanged, change_begun, change_next, change_more, change_ended}

-- both lists are replaced
rewritten : (v : KeyedLists) (i j : ℕ) (a b c : Rows) → i ≢ j
    → slice_set (slice_set (slice_set v i a) j b) i c ≡ slice_set (slice_set v i c) j b
rewritten v i j a b c n =
    set_swapped (slice_set v i a) j i b c (λ (e : j ≡ i). n (sym e))
    ∙ ap (λ (y : KeyedLists). slice_set y j b) (set_twice v i a c)

-- One more row.

now-append : (rows : Rows) (r : Row) → r.1.rounds ≡ 0 → due_now (rows ++ r ∷ []) ≡ due_now rows ++ r ∷ []
now-append rows r h = filter-append has_no_rounds rows (r ∷ []) ∙ rw (eq-eqb r.1.rounds 0 h) refl

now-later : (rows : Rows) (r : Row) → r.1.rounds ≢ 0 → due_now (rows ++ r ∷ []) ≡ due_now rows
now-later rows r h = filter-append has_no_rounds rows (r ∷ []) ∙ rw (ne_eqb r.1.rounds 0 h) (append-nil (due_now rows))

later-now : (rows : Rows) (r : Row) → r.1.rounds ≡ 0 → due_later (rows ++ r ∷ []) ≡ due_later rows
later-now rows r h = ap (map (with_fewer_rounds 1)) (filter-append has_rounds rows (r ∷ [])
    ∙ rw (eq-eqb r.1.rounds 0 h) (append-nil (filter has_rounds rows)))

later-append : (rows : Rows) (r : Row) → r.1.rounds ≢ 0 → due_later (rows ++ r ∷ []) ≡ due_later rows ++ with_fewer_rounds 1 r ∷ []
later-append rows r h = ap (map (with_fewer_rounds 1)) (filter-append has_rounds rows (r ∷ []) ∙ rw (ne_eqb r.1.rounds 0 h) refl)
    ∙ map-append (with_fewer_rounds 1) (filter has_rounds rows) (r ∷ [])

module _ (l due : ℕ) (old : KeyedLists) (n : l ≢ due) (lb : l < length old) (db : due < length old) where
  pub at_list : (past left : Rows) → list_at l (half_swept l due past left old) ≡ due_later past ++ left
  at_list past left = get_or-set_other (slice_set old l (due_later past ++ left)) due l (list_at due old ++ due_now past) [] n
      ∙ get_or-set_same old l (due_later past ++ left) [] lb

  pub same_length : (past left : Rows) → length (half_swept l due past left old) ≡ length old
  same_length past left = length-set (slice_set old l (due_later past ++ left)) due (list_at due old ++ due_now past)
      ∙ length-set old l (due_later past ++ left)

  pub at_due : (past left : Rows) → list_at due (half_swept l due past left old) ≡ list_at due old ++ due_now past
  at_due past left = get_or-set_same (slice_set old l (due_later past ++ left)) due (list_at due old ++ due_now past) []
      (rw (length-set old l (due_later past ++ left)) db)

  -- a row that is due
  pub due_step : (past rest : Rows) (r : Row) → r.1.rounds ≡ 0 → AreApart (half_swept l due past (r ∷ rest) old)
      → moved_back r.0 due r.1 (half_swept l due past (r ∷ rest) old) ≡ half_swept l due (past ++ r ∷ []) rest old
  due_step past rest r z a =
      let w : KeyedLists = half_swept l due past (r ∷ rest) old in
      let m : map (without_key r.0) w ≡ half_swept l due past rest old =
      (a l (due_later past) r rest (rw (same_length past (r ∷ rest)) lb) (at_list past (r ∷ rest))).1
      ∙ rewritten old l due (due_later past ++ r ∷ rest) (list_at due old ++ due_now past) (due_later past ++ rest) n in
      rw (
        m,
        at_due past rest,
        set_twice (slice_set old l (due_later past ++ rest)) due (list_at due old ++ due_now past) ((list_at due old ++ due_now past) ++ r ∷ []),
        now-append past r z,
        later-now past r z,
        append_assoc (list_at due old) (due_now past) (r ∷ []),
      ) refl

  -- a row that stays
  pub later_step : (past rest : Rows) (r : Row) → r.1.rounds ≢ 0
      → slice_set (half_swept l due past (r ∷ rest) old) l (due_later past ++ with_fewer_rounds 1 r ∷ rest)
      ≡ half_swept l due (past ++ r ∷ []) rest old
  later_step past rest r z =
      rewritten old l due (due_later past ++ r ∷ rest) (list_at due old ++ due_now past) (due_later past
      ++ with_fewer_rounds 1 r ∷ rest) n
      ∙ rw (now-later past r z, later-append past r z, append_assoc (due_later past) (with_fewer_rounds 1 r ∷ []) rest) refl

-- some rows of the list were swept, and the key is that of the next one
abbrev sweeping : ℕ → ℕ → KeyedLists → Rows → Rows → KeyedLists
sweeping l due old past left = half_swept l due past left old

abbrev pub IsSweeping : ℕ → ℕ → ℕ → KeyedLists → KeyedLists → Option ℕ → Type 0
IsSweeping l due step old lists at = IsChanging (sweeping l due old) l step old lists at

pub begun : (l due : ℕ) (old : KeyedLists) (at : Option ℕ) → at ≡ first_key (list_at l old) → IsSweeping l due 0 old old at
begun l due old at e = change_begun (sweeping l due old) l old at e
    (rw (set-get_or old l [], append-nil (list_at due old), set-get_or old due []) refl)

pub ended_count : (l due step : ℕ) (old lists : KeyedLists) (at : Option ℕ) → IsSweeping l due step old lists at
    → row_count old ≤ step → lists ≡ swept l due old
ended_count l due step old lists at s h = change_ended (sweeping l due old) l old step lists at s h

module _ (l due step : ℕ) (old lists : KeyedLists) (n : l ≢ due) (lb : l < length old) (db : due < length old) (key : ℕ)
    (at : Option ℕ) (s : IsSweeping l due step old lists at) (q : at ≡ Some key) where
  w : IsNextChanged (sweeping l due old) l step old lists key
  w = change_next (sweeping l due old) l old step lists at key s q

  in_range : l < length lists
  in_range = rw (w.is, same_length l due old n lb db w.past ((key, w.row.node) ∷ w.row.rest)) lb

  standing : list_at l lists ≡ due_later w.past ++ (key, w.row.node) ∷ w.row.rest
  standing = ap (list_at l) w.is ∙ at_list l due old n lb db w.past ((key, w.row.node) ∷ w.row.rest)

  found : AreApart lists → node_at key lists ≡ Some w.row.node
  found a = (a l (due_later w.past) (key, w.row.node) w.row.rest in_range standing).0

  pub in_use : AreApart lists → IsSome (node_at key lists)
  in_use a = rw (found a) refl

  -- one timer lost a round or became due
  pub passed : (new : KeyedLists) (next : Option ℕ) → AreApart lists
      → ((node : Node) → node_at key lists ≡ Some node → node.rounds ≡ 0 → new ≡ moved_back key due node lists)
      → ((node : Node) → node_at key lists ≡ Some node → node.rounds ≢ 0 → SetsRounds key (node.rounds - 1) lists new)
      → IsNext key lists next → IsSweeping l due (step + 1) old new next
  passed new next a now later f = change_more (sweeping l due old) l old step lists new next key w (elim (cases_eq w.row.node.rounds 0) [
    | inl z ↦
        now w.row.node (found a) z
        ∙ (ap (moved_back key due w.row.node) w.is
        ∙ due_step l due old n lb db w.past w.row.rest (key, w.row.node) z (rw w.is at a))
    | inr z ↦
        later w.row.node (found a) z l (due_later w.past) w.row.node w.row.rest in_range standing
        ∙ (ap (λ (y : KeyedLists). slice_set y l (due_later w.past ++ with_fewer_rounds 1 (key, w.row.node) ∷ w.row.rest)) w.is
        ∙ later_step l due old n lb db w.past w.row.rest (key, w.row.node) z)
  ]) (f l (due_later w.past) w.row.node w.row.rest in_range standing)
