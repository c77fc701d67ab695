-- Lemmas for `revolutions`: the loop invariants of its walks, which measure rounds and take them away.
use Rattle.std.proofs.Common.{◌≡◌, ◌<◌, ◌≤◌, ◌+◌, ◌-◌, ℕ, [], ◌∷◌, ◌++◌, length, refl, sym, ◌∙◌, ap, inl, inr, arith, append_assoc, length-set, get_or-set_same, get_or-set_other, IsSome, Option, Some, min, map, slice_set}
use Rattle.std.specs.List.{AllByRecursion}
use Rattle.std.proofs.lemmas.Bool.{cases_eq}
use Rattle.std.proofs.lemmas.List.{map-append, set-get_or}
use Rattle.timer_base.proofs.OrderLaws.{All-weaken}
use Rattle.timer_links.specs.declared.kept.Node.{Node}
use Rattle.timer_links.specs.Lists.{node_at, first_key, list_at, row_count, AreApart, IsNext, HasRounds, SetsRounds, KeyedLists, Row, Rows}
use Rattle.timer_wheels.specs.hashed.Sweep.{HasRoundsLeft, with_fewer_rounds}
use Rattle.timer_wheels.proofs.bucket_lemmas.RowLemmas.{all-append, all-rest, append-nil, set_twice}
use Rattle.timer_wheels.proofs.bucket_lemmas.WalkLemmas.{IsChanging, IsNextChanged, change_begun, change_next, change_more, change_ended}

-- The fewest rounds.

-- the rows have at least this many rounds
pub record AreMeasuredRows (most fewest : ℕ) (rows : Rows) : Type 0 where
  pub at_most : fewest ≤ most
  pub each : AllByRecursion (HasRoundsLeft fewest) rows

pub measured_none : (most : ℕ) → AreMeasuredRows most most []
measured_none most = record { at_most = omega arith; each = tt }

fewer_left : (a b : ℕ) (rows : Rows) → b ≤ a → AllByRecursion (HasRoundsLeft a) rows → AllByRecursion (HasRoundsLeft b) rows
fewer_left a b rows h f = All-weaken (HasRoundsLeft a) (HasRoundsLeft b) rows (λ row k. omega arith) f

pub measured_one : (most fewest rounds less key : ℕ) (node : Node) (rows : Rows) → rounds ≡ node.rounds → less ≡ min fewest rounds
    → AreMeasuredRows most fewest rows → AreMeasuredRows most less (rows ++ (key, node) ∷ [])
measured_one most fewest rounds less key node rows r k m = record {
  at_most = omega (arith, m.at_most);
  each = all-append (HasRoundsLeft less) rows ((key, node) ∷ []) (fewer_left fewest less rows (omega arith) m.each) (omega arith, tt);
}

-- the rows of the lists so far have at least this many rounds
pub record AreMeasured (count : ℕ) (lists : KeyedLists) (most fewest : ℕ) : Type 0 where
  pub at_most : fewest ≤ most
  pub each : (s : ℕ) → s < count → AllByRecursion (HasRoundsLeft fewest) (list_at s lists)

pub none-measured : (lists : KeyedLists) (most : ℕ) → AreMeasured 0 lists most most
none-measured lists most = record { at_most = omega arith; each = λ s h. absurd (omega arith) }

pub one-measured : (l : ℕ) (lists : KeyedLists) (most fewest less : ℕ) → AreMeasured l lists most fewest → less ≤ fewest
    → AllByRecursion (HasRoundsLeft less) (list_at l lists) → AreMeasured (l + 1) lists most less
one-measured l lists most fewest less m h f = record {
  at_most = omega (arith, m.at_most);
  each = λ s b. elim (cases_eq s l) [
    | inl e ↦ rw e f
    | inr x ↦ fewer_left fewest less (list_at s lists) h (m.each s (omega arith))
  ];
}

-- Rounds are taken from one list.

abbrev fewer : ℕ → Rows → Rows
fewer k rows = map (with_fewer_rounds k) rows

-- these rows have lost their rounds, and those are left
abbrev counting : ℕ → ℕ → KeyedLists → Rows → Rows → KeyedLists
counting l k old past left = slice_set old l (fewer k past ++ left)

abbrev pub IsCounting : ℕ → ℕ → ℕ → KeyedLists → KeyedLists → Option ℕ → Type 0
IsCounting l step k old lists at = IsChanging (counting l k old) l step old lists at

pub counting-begun : (l k : ℕ) (old : KeyedLists) (at : Option ℕ) → at ≡ first_key (list_at l old) → IsCounting l 0 k old old at
counting-begun l k old at e = change_begun (counting l k old) l old at e (sym (set-get_or old l []))

pub counting-enough : (l step k : ℕ) (old lists : KeyedLists) (at : Option ℕ) → IsCounting l step k old lists at
    → row_count old ≤ step → lists ≡ slice_set old l (fewer k (list_at l old))
counting-enough l step k old lists at s h = change_ended (counting l k old) l old step lists at s h
    ∙ ap (slice_set old l) (append-nil (fewer k (list_at l old)))

module _ (l step k : ℕ) (old lists : KeyedLists) (b : l < length old) (key : ℕ) (at : Option ℕ) (s : IsCounting l step k old lists at)
    (q : at ≡ Some key) where
  w : IsNextChanged (counting l k old) l step old lists key
  w = change_next (counting l k old) l old step lists at key s q

  counting-in_range : l < length lists
  counting-in_range = rw (w.is, length-set old l (fewer k w.past ++ (key, w.row.node) ∷ w.row.rest)) b

  counting-standing : list_at l lists ≡ fewer k w.past ++ (key, w.row.node) ∷ w.row.rest
  counting-standing = ap (list_at l) w.is ∙ get_or-set_same old l (fewer k w.past ++ (key, w.row.node) ∷ w.row.rest) [] b

  counting-found : AreApart lists → node_at key lists ≡ Some w.row.node
  counting-found a = (a l (fewer k w.past) (key, w.row.node) w.row.rest counting-in_range counting-standing).0

  pub counting-in_use : AreApart lists → IsSome (node_at key lists)
  counting-in_use a = rw (counting-found a) refl

  pub counting-enough_left : (rounds : ℕ) → AreApart lists → HasRounds key lists rounds → AllByRecursion (HasRoundsLeft k) (list_at l old)
      → k ≤ rounds
  counting-enough_left rounds a r f =
      let here = all-rest (HasRoundsLeft k) w.past ((key, w.row.node) ∷ w.row.rest) (rw w.row.rows at f) in
      omega (arith, r w.row.node (counting-found a), here.0)

  pub counting-one : (rounds less : ℕ) (new : KeyedLists) (next : Option ℕ) → AreApart lists → HasRounds key lists rounds
      → less ≡ rounds - k
      → SetsRounds key less lists new → IsNext key lists next → IsCounting l (step + 1) k old new next
  counting-one rounds less new next a r e t n =
      let row : Row = (key, w.row.node) in
      let is_less : less ≡ w.row.node.rounds - k = omega (arith, r w.row.node (counting-found a)) in
      let more : fewer k (w.past ++ row ∷ []) ≡ fewer k w.past ++ with_fewer_rounds k row ∷ [] =
      map-append (with_fewer_rounds k) w.past (row ∷ []) in
      change_more (counting l k old) l old step lists new next key w
      (t l (fewer k w.past) w.row.node w.row.rest counting-in_range counting-standing
      ∙ (ap (λ (y : KeyedLists). slice_set y l (fewer k w.past ++ (key, record w.row.node { rounds = less }) ∷ w.row.rest)) w.is
      ∙ rw (
        set_twice old l (fewer k w.past ++ row ∷ w.row.rest) (fewer k w.past ++ (key, record w.row.node { rounds = less }) ∷ w.row.rest),
        is_less,
        more,
        append_assoc (fewer k w.past) (with_fewer_rounds k row ∷ []) w.row.rest,
      ) refl))
      (n l (fewer k w.past) w.row.node w.row.rest counting-in_range counting-standing)

-- the lists so far have lost their rounds, and the others are unchanged
pub record AreCounted (count k : ℕ) (old new : KeyedLists) : Type 0 where
  pub same_length : length new ≡ length old
  pub counted : (s : ℕ) → s < count → list_at s new ≡ fewer k (list_at s old)
  pub others : (s : ℕ) → count ≤ s → list_at s new ≡ list_at s old

pub none-counted : (k : ℕ) (lists : KeyedLists) → AreCounted 0 k lists lists
none-counted k lists = record { same_length = refl; counted = λ s h. absurd (omega arith); others = λ s h. refl }

pub one-counted : (l k : ℕ) (old new more : KeyedLists) → l < length old → AreCounted l k old new
    → more ≡ slice_set new l (fewer k (list_at l new))
    → AreCounted (l + 1) k old more
one-counted l k old new more b a e = record {
  same_length = ap (λ (y : KeyedLists). length y) e ∙ (length-set new l (fewer k (list_at l new)) ∙ a.same_length);
  counted = λ s h. elim (cases_eq s l) [
    | inl q ↦ rw (q, e, get_or-set_same new l (fewer k (list_at l new)) [] (omega (arith, a.same_length)), a.others l (omega arith)) refl
    | inr x ↦ rw (e, get_or-set_other new l s (fewer k (list_at l new)) [] x) (a.counted s (omega arith))
  ];
  others = λ s h. rw (e, get_or-set_other new l s (fewer k (list_at l new)) [] (omega arith)) (a.others s (omega arith));
}

pub still_enough : (l count k : ℕ) (old new : KeyedLists) → l < count → AreCounted l k old new
    → ((s : ℕ) → s < count → AllByRecursion (HasRoundsLeft k) (list_at s old)) → AllByRecursion (HasRoundsLeft k) (list_at l new)
still_enough l count k old new h a f = rw (a.others l (omega arith)) (f l h)
