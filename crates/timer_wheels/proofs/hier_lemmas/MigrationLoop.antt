-- Lemmas for `empty_bucket`: the loop invariant of migrating one by one, and a bucket that is due as a whole.
use Rattle.std.proofs.Common.{◌≡◌, ◌≢◌, ◌<◌, ◌≤◌, ◌+◌, ℕ, suc, List, [], ◌∷◌, ◌++◌, length, refl, sym, ◌∙◌, ap, subst, arith, append_assoc, length-set, get_or-set_same, get_or-set_other, true, false, slice_set, Option, Some, None, IsSome}
use Rattle.std.specs.List.{AllByRecursion}
use Rattle.std.proofs.lemmas.List.{set-get_or}
use Rattle.std.proofs.lemmas.Bool.{eq-eqb, ne_eqb}
use Rattle.timer_links.proofs.Rows.{length_list_at}
use Rattle.timer_base.proofs.Basics.{some_same, none_some, some_none}
use Rattle.timer_base.specs.Pending.{is_due_at}
use Rattle.timer_links.specs.declared.kept.Node.{Node}
use Rattle.timer_links.specs.Lists.{list_at, with_row, row_count, front_moved, first_row_moved, appended, node_at, first_key, AreApart, IsNext, KeyedLists, Row, Rows}
use Rattle.timer_wheels.specs.Digits.{slots, bucket}
use Rattle.timer_wheels.specs.Types.{Timer}
use Rattle.timer_wheels.specs.BucketLists.{row_timer}
use Rattle.timer_wheels.specs.hier.Migration.{target, migrate_rows, migrated, left_rows, first_deadline, second_deadline, timer_in_front, timer_behind, MayMigrate, IsOfTick}
use Rattle.timer_wheels.proofs.hier_lemmas.MigrationLemmas.{target_due, target_left}
use Rattle.timer_wheels.proofs.bucket_lemmas.RowLemmas.{append-nil, set_twice, set_swapped}
use Rattle.timer_wheels.proofs.bucket_lemmas.WalkLemmas.{IsNextRow, begun, next_row, found, walked}

-- Lists that are updated twice.

-- some rows of the list have moved, and moving the rest leads to the same lists
pub record IsEmptying (table : List ℕ) (l tick moves : ℕ) (old lists : KeyedLists) : Type 0 where
  pub in_range : l < length old
  pub leads : migrated table tick l lists ≡ migrated table tick l old
  pub has_lists : length lists ≡ length old
  pub rows : AllByRecursion (MayMigrate table tick l) (list_at l lists)
  pub moves_are : moves + length (left_rows tick (list_at l lists)) ≡ length (left_rows tick (list_at l old))
  pub few : moves + length (list_at l lists) ≤ length (list_at l old)

module _ (table : List ℕ) (l tick : ℕ) (lists : KeyedLists) (row : Row) (rest : Rows) (b : l < length lists)
    (at : list_at l lists ≡ row ∷ rest) (n : target table tick row ≢ l) where
  abbrev to : ℕ
  to = target table tick row

  abbrev after : KeyedLists
  after = with_row (target table tick row) row (slice_set lists l rest)

  moved_is : front_moved l to lists ≡ after
  moved_is = ap (first_row_moved l to lists) at

  left_at : list_at l after ≡ rest
  left_at =
      get_or-set_other (slice_set lists l rest) to l (list_at to (slice_set lists l rest) ++ row ∷ []) [] (λ (e : l ≡ to). n (sym e))
      ∙ get_or-set_same lists l rest [] b

  to_same : list_at to (slice_set lists l rest) ≡ list_at to (slice_set lists l [])
  to_same = get_or-set_other lists l to rest [] n ∙ sym (get_or-set_other lists l to [] [] n)

  emptied_is : slice_set after l [] ≡ with_row to row (slice_set lists l [])
  emptied_is =
      set_swapped (slice_set lists l rest) to l (list_at to (slice_set lists l rest) ++ row ∷ []) [] n
      ∙ (ap (λ (y : KeyedLists). slice_set y to (list_at to (slice_set lists l rest) ++ row ∷ [])) (set_twice lists l rest [])
      ∙ ap (λ (y : Rows). slice_set (slice_set lists l []) to (y ++ row ∷ [])) to_same)

  leads_same : migrated table tick l after ≡ migrated table tick l lists
  leads_same =
      ap (λ (y : Rows). migrate_rows table tick y (slice_set after l [])) left_at
      ∙ (ap (migrate_rows table tick rest) emptied_is
      ∙ ap (λ (y : Rows). migrate_rows table tick y (slice_set lists l [])) (sym at))

  length_same : length after ≡ length lists
  length_same = length-set (slice_set lists l rest) to (list_at to (slice_set lists l rest) ++ row ∷ []) ∙ length-set lists l rest

pub emptying_begun : (table : List ℕ) (l tick : ℕ) (lists : KeyedLists) → l < length lists
    → AllByRecursion (MayMigrate table tick l) (list_at l lists) → IsEmptying table l tick 0 lists lists
emptying_begun table l tick lists h a = record {
  in_range = h;
  leads = refl;
  has_lists = refl;
  rows = a;
  moves_are = omega arith;
  few = omega arith;
}

due_more : (tick : ℕ) (row : Row) (rest : Rows) → is_due_at tick (row_timer row) ≡ true
    → length (left_rows tick (row ∷ rest)) ≡ length (left_rows tick rest)
due_more tick row rest k = rw k refl

left_more : (tick : ℕ) (row : Row) (rest : Rows) → is_due_at tick (row_timer row) ≡ false
    → length (left_rows tick (row ∷ rest)) ≡ suc (length (left_rows tick rest))
left_more tick row rest k = rw k refl

-- the first row, if there is one
pub record IsFirstRow (table : List ℕ) (l tick d : ℕ) (lists : KeyedLists) : Type 0 where
  pub row : Row
  pub rest : Rows
  pub at : list_at l lists ≡ row ∷ rest
  pub deadline : (row_timer row).deadline ≡ d
  pub first : MayMigrate table tick l row
  pub others : AllByRecursion (MayMigrate table tick l) rest

first_in : (table : List ℕ) (l tick d : ℕ) (lists : KeyedLists) (rows : Rows) → list_at l lists ≡ rows
    → AllByRecursion (MayMigrate table tick l) rows → first_deadline rows ≡ Some d → IsFirstRow table l tick d lists
first_in table l tick d lists [] at a e = absurd (some_none d (sym e))
first_in table l tick d lists (row ∷ rest) at a e = record {
  row = row;
  rest = rest;
  at = at;
  deadline = some_same (row_timer row).deadline d e;
  first = a.0;
  others = a.1;
}

pub first_row : {table : List ℕ} {l tick moves d : ℕ} {old lists : KeyedLists}
    → IsEmptying table l tick moves old lists → Some d ≡ first_deadline (list_at l lists) → IsFirstRow table l tick d lists
first_row {table} {l} {tick} {moves} {d} {old} {lists} s e = first_in table l tick d lists (list_at l lists) refl s.rows (sym e)

-- a first timer has its deadline
pub front_deadline_is : (rows : Rows) (o : Option Timer) (t : Timer) → o ≡ timer_in_front rows → o ≡ Some t → Some t.deadline ≡ first_deadline rows
front_deadline_is [] o t e q = absurd (none_some t (sym e ∙ q))
front_deadline_is (x ∷ xs) o t e q = ap (λ (u : Timer). Some u.deadline) (sym (some_same (row_timer x) t (sym e ∙ q)))

pub no_front : (rows : Rows) → None ≡ timer_in_front rows → None ≡ first_deadline rows
no_front [] e = refl
no_front (x ∷ xs) e = absurd (none_some (row_timer x) e)

none_first : (rows : Rows) → first_deadline rows ≡ None → rows ≡ []
none_first [] e = refl
none_first (x ∷ xs) e = absurd (some_none (row_timer x).deadline e)

pub record IsEmptied (table : List ℕ) (l tick moves : ℕ) (old lists : KeyedLists) : Type 0 where
  pub lists_are : lists ≡ migrated table tick l old
  pub moves_are : moves ≡ length (left_rows tick (list_at l old))
  pub emptied : list_at l lists ≡ []

pub ended_none : {table : List ℕ} {l tick moves : ℕ} {old lists : KeyedLists} → IsEmptying table l tick moves old lists
    → None ≡ first_deadline (list_at l lists) → IsEmptied table l tick moves old lists
ended_none {table} {l} {tick} {moves} {old} {lists} s e =
    let none : list_at l lists ≡ [] = none_first (list_at l lists) (sym e) in
    record {
      lists_are = sym (ap (λ (y : Rows). migrate_rows table tick y (slice_set lists l [])) none
          ∙ (ap (slice_set lists l) (sym none) ∙ set-get_or lists l [])) ∙ s.leads;
      moves_are = omega (arith, s.moves_are, ap (λ (y : Rows). length (left_rows tick y)) none);
      emptied = none;
    }

module _ {table : List ℕ} {l tick moves d : ℕ} {old lists : KeyedLists} (new : KeyedLists)
    (s : IsEmptying table l tick moves old lists) (f : IsFirstRow table l tick d lists) where
  b2 : l < length lists
  b2 = rw s.has_lists s.in_range

  count_is : length (list_at l lists) ≡ suc (length f.rest)
  count_is = ap (λ (y : Rows). length y) f.at

  new_is : (to : ℕ) → to ≡ target table tick f.row → new ≡ front_moved l to lists
      → new ≡ with_row (target table tick f.row) f.row (slice_set lists l f.rest)
  new_is dest q e = e ∙ (ap (λ (v : ℕ). front_moved l v lists) q ∙ moved_is table l tick lists f.row f.rest b2 f.at f.first.elsewhere)

  rest_at : (to : ℕ) → to ≡ target table tick f.row → new ≡ front_moved l to lists → list_at l new ≡ f.rest
  rest_at to q e = ap (list_at l) (new_is to q e) ∙ left_at table l tick lists f.row f.rest b2 f.at f.first.elsewhere

  next : (to moves2 : ℕ) → to ≡ target table tick f.row → new ≡ front_moved l to lists
      → moves2 + length (left_rows tick f.rest) ≡ moves + length (left_rows tick (f.row ∷ f.rest))
      → moves2 ≤ moves + 1
      → IsEmptying table l tick moves2 old new
  next to moves2 q e h w =
      let r : list_at l new ≡ f.rest = rest_at to q e in
      record {
        in_range = s.in_range;
        leads = ap (migrated table tick l) (new_is to q e) ∙ (leads_same table l tick lists f.row f.rest b2 f.at f.first.elsewhere
            ∙ s.leads);
        has_lists = ap (λ (y : KeyedLists). length y) (new_is to q e)
            ∙ (length_same table l tick lists f.row f.rest b2 f.at f.first.elsewhere ∙ s.has_lists);
        rows = subst (AllByRecursion (MayMigrate table tick l)) (sym r) f.others;
        moves_are = ap (λ (y : Rows). moves2 + length (left_rows tick y)) r
            ∙ (h ∙ (ap (λ (y : Rows). moves + length (left_rows tick y)) (sym f.at) ∙ s.moves_are));
        few = omega (arith, s.few, count_is, ap (λ (y : Rows). length y) r);
      }

  is_due_row : d ≡ tick → is_due_at tick (row_timer f.row) ≡ true
  is_due_row e = eq-eqb (row_timer f.row).deadline tick (f.deadline ∙ e)

  is_left_row : d ≢ tick → is_due_at tick (row_timer f.row) ≡ false
  is_left_row n = ne_eqb (row_timer f.row).deadline tick (λ e. n (sym f.deadline ∙ e))

  -- the list that it goes to
  pub due_target : (to : ℕ) → to ≡ slots table → d ≡ tick → to ≡ target table tick f.row
  due_target dest q e = q ∙ sym (target_due table tick f.row (is_due_row e))

  pub left_target : (to : ℕ) → to ≡ bucket table tick d → d ≢ tick → to ≡ target table tick f.row
  left_target dest q n = q ∙ (ap (bucket table tick) (sym f.deadline) ∙ sym (target_left table tick f.row (is_left_row n)))

  pub next_due : (to moves2 : ℕ) → to ≡ slots table → d ≡ tick → new ≡ front_moved l to lists → moves2 ≡ moves
      → IsEmptying table l tick moves2 old new
  next_due to moves2 q e p y =
      next to moves2 (due_target to q e) p (omega (arith, due_more tick f.row f.rest (is_due_row e))) (omega arith)

  pub next_left : (to moves2 : ℕ) → to ≡ bucket table tick d → d ≢ tick → new ≡ front_moved l to lists → moves2 ≡ moves + 1
      → IsEmptying table l tick moves2 old new
  next_left to moves2 q n p y =
      next to moves2 (left_target to q n) p (omega (arith, left_more tick f.row f.rest (is_left_row n))) (omega arith)

  pub ahead_after : (to : ℕ) (o : Option ℕ) → to ≡ target table tick f.row → new ≡ front_moved l to lists
      → o ≡ second_deadline (list_at l lists) → o ≡ first_deadline (list_at l new)
  ahead_after to o q p h = h ∙ (ap second_deadline f.at ∙ ap first_deadline (sym (rest_at to q p)))

  pub next_timer : (to : ℕ) (o : Option Timer) → to ≡ target table tick f.row → new ≡ front_moved l to lists
      → o ≡ timer_behind (list_at l lists) → o ≡ timer_in_front (list_at l new)
  next_timer to o q p h = h ∙ (ap timer_behind f.at ∙ ap timer_in_front (sym (rest_at to q p)))

  -- the list that it goes to, and the others
  pub gone_to : (to : ℕ) → to ≡ target table tick f.row → new ≡ front_moved l to lists → to < length lists
      → list_at to new ≡ list_at to lists ++ f.row ∷ []
  gone_to to q e h =
      let apart : to ≢ l = λ (x : to ≡ l). f.first.elsewhere (sym q ∙ x) in
      ap (list_at to) (e ∙ ap (first_row_moved l to lists) f.at)
      ∙ (get_or-set_same (slice_set lists l f.rest) to (list_at to (slice_set lists l f.rest) ++ f.row ∷ []) []
      (rw (length-set lists l f.rest) h)
      ∙ ap (λ (y : Rows). y ++ f.row ∷ []) (get_or-set_other lists l to f.rest [] apart))

  pub gone_past : (to s : ℕ) → new ≡ front_moved l to lists → s ≢ l → s ≢ to → list_at s new ≡ list_at s lists
  gone_past to s e n m =
      ap (list_at s) (e ∙ ap (first_row_moved l to lists) f.at)
      ∙ (get_or-set_other (slice_set lists l f.rest) to s (list_at to (slice_set lists l f.rest) ++ f.row ∷ []) [] m
      ∙ get_or-set_other lists l s f.rest [] n)

  -- fewer are left
  pub shorter : (to : ℕ) → to ≡ target table tick f.row → new ≡ front_moved l to lists
      → length (list_at l new) < length (list_at l lists)
  shorter to q e = omega (arith, count_is, ap (λ (y : Rows). length y) (rest_at to q e))

  pub moves_fit : row_count old < 18446744073709551616 → moves + 1 < 18446744073709551616
  moves_fit h = omega (arith, s.few, count_is, length_list_at old l)

  pub goes_elsewhere : (to : ℕ) → to ≡ target table tick f.row → to ≢ l
  goes_elsewhere to q = λ (e : to ≡ l). f.first.elsewhere (sym q ∙ e)

-- A bucket whose rows are all due moves as a whole.

migrate_rows_whole : (table : List ℕ) (tick : ℕ) (rows : Rows) (lists : KeyedLists) → slots table < length lists
    → AllByRecursion (IsOfTick tick) rows → migrate_rows table tick rows lists
    ≡ slice_set lists (slots table) (list_at (slots table) lists ++ rows)
migrate_rows_whole table tick [] lists b a = sym (ap (slice_set lists (slots table)) (append-nil (list_at (slots table) lists))
    ∙ set-get_or lists (slots table) [])
migrate_rows_whole table tick (x ∷ xs) lists b a =
    let to : target table tick x ≡ slots table = target_due table tick x (eq-eqb (row_timer x).deadline tick a.0) in
    let had : Rows = list_at (slots table) lists in
    let more : KeyedLists = with_row (slots table) x lists in
    let b2 : slots table < length more = rw (length-set lists (slots table) (list_at (slots table) lists ++ x ∷ [])) b in
    ap (λ (k : ℕ). migrate_rows table tick xs (with_row k x lists)) to
    ∙ (migrate_rows_whole table tick xs more b2 a.1
    ∙ (ap (λ (y : Rows). slice_set more (slots table) (y ++ xs)) (get_or-set_same lists (slots table) (had ++ x ∷ []) [] b)
    ∙ (set_twice lists (slots table) (had ++ x ∷ []) ((had ++ x ∷ []) ++ xs)
    ∙ ap (slice_set lists (slots table)) (append_assoc had (x ∷ []) xs))))

migrated_whole : (table : List ℕ) (tick l : ℕ) (lists : KeyedLists) → slots table < length lists → slots table ≢ l
    → AllByRecursion (IsOfTick tick) (list_at l lists) → migrated table tick l lists ≡ appended l (slots table) lists
migrated_whole table tick l lists b n a =
    migrate_rows_whole table tick (list_at l lists) (slice_set lists l []) (rw (length-set lists l []) b) a
    ∙ ap (λ (y : Rows). slice_set (slice_set lists l []) (slots table) (y ++ list_at l lists))
    (get_or-set_other lists l (slots table) [] [] n)

pub append_whole : (table : List ℕ) (k tick l : ℕ) (lists : KeyedLists) → k ≡ slots table → length lists ≡ slots table + 1
    → l < slots table → AllByRecursion (IsOfTick tick) (list_at l lists) → appended l k lists ≡ migrated table tick l lists
append_whole table k tick l lists e b h a =
    let n : slots table ≢ l = λ (x : slots table ≡ l). omega arith in
    ap (λ (y : ℕ). appended l y lists) e ∙ sym (migrated_whole table tick l lists (omega arith) n a)

pub none_left_over : (tick : ℕ) (rows : Rows) → AllByRecursion (IsOfTick tick) rows → left_rows tick rows ≡ []
none_left_over tick [] a = refl
none_left_over tick (x ∷ xs) a = rw (eq-eqb (row_timer x).deadline tick a.0) (none_left_over tick xs a.1)

-- The first two rows, by their keys.

-- the node under this key has this deadline
pub record IsAt (key : ℕ) (lists : KeyedLists) (deadline : Option ℕ) : Type 0 where
  pub node : Node
  pub found : node_at key lists ≡ Some node
  pub is : deadline ≡ Some node.timer.deadline

module _ {key : ℕ} {lists : KeyedLists} {deadline : Option ℕ} (f : IsAt key lists deadline) where
  pub never_none : None ≡ node_at key lists → ⊥
  never_none e = none_some f.node (e ∙ f.found)

  pub deadline_is : (node : Node) → Some node ≡ node_at key lists → Some node.timer.deadline ≡ deadline
  deadline_is node e = ap (λ (n : Node). Some n.timer.deadline) (some_same node f.node (e ∙ f.found)) ∙ sym f.is

  pub is_in_use : IsSome (node_at key lists)
  is_in_use = rw f.found refl

no_deadline : (rows : Rows) → first_key rows ≡ None → None ≡ first_deadline rows
no_deadline [] e = refl
no_deadline (x ∷ xs) e = absurd (some_none x.0 e)

none_in_front : (rows : Rows) → first_key rows ≡ None → None ≡ timer_in_front rows
none_in_front [] e = refl
none_in_front (x ∷ xs) e = absurd (some_none x.0 e)

module _ (l first : ℕ) (lists : KeyedLists) (b : l < length lists) (e : Some first ≡ first_key (list_at l lists)) where
  first_is : IsNextRow l 0 lists first [] (list_at l lists)
  first_is = next_row l 0 lists (Some first) first [] (begun l lists (Some first) e) refl

  pub front_of : AreApart lists → IsAt first lists (first_deadline (list_at l lists))
  front_of a = record { node = first_is.node; found = found l 0 lists b a first [] first_is; is = ap first_deadline first_is.rows }

  pub front_timer_is : AreApart lists → (node : Node) → Some node ≡ node_at first lists
      → Some node.timer ≡ timer_in_front (list_at l lists)
  front_timer_is a node e = ap (λ (n : Node). Some n.timer) (some_same node first_is.node (e ∙ found l 0 lists b a first [] first_is))
      ∙ sym (ap timer_in_front first_is.rows)

  module _ (next : Option ℕ) (n : IsNext first lists next) where
    next_is : next ≡ first_key first_is.rest
    next_is = n l [] first_is.node first_is.rest b first_is.rows

    pub second_of : (key : ℕ) → AreApart lists → next ≡ Some key → IsAt key lists (second_deadline (list_at l lists))
    second_of key a q =
        let past : Rows = (first, first_is.node) ∷ [] in
        let w = next_row l 1 lists next key past (walked l 0 lists first [] first_is next next_is) q in
        record { node = w.node; found = found l 1 lists b a key past w; is = ap second_deadline w.rows }

    pub second_timer_is : (key : ℕ) → AreApart lists → next ≡ Some key → (node : Node) → Some node ≡ node_at key lists
        → Some node.timer ≡ timer_behind (list_at l lists)
    second_timer_is key a q node e =
        let past : Rows = (first, first_is.node) ∷ [] in
        let w = next_row l 1 lists next key past (walked l 0 lists first [] first_is next next_is) q in
        ap (λ (n : Node). Some n.timer) (some_same node w.node (e ∙ found l 1 lists b a key past w)) ∙ sym (ap timer_behind w.rows)

    pub no_second_timer : next ≡ None → None ≡ timer_behind (list_at l lists)
    no_second_timer q = none_in_front first_is.rest (sym next_is ∙ q) ∙ sym (ap timer_behind first_is.rows)

    -- or no row is behind the first one
    pub no_second : next ≡ None → None ≡ second_deadline (list_at l lists)
    no_second q = no_deadline first_is.rest (sym next_is ∙ q) ∙ sym (ap second_deadline first_is.rows)
