-- A restart in place: the node under a key is set to one of a later deadline, and no link changes.
use Rattle.std.proofs.Common.{◌≡◌, ◌<◌, ◌≤◌, ℕ, List, [], ◌∷◌, ◌++◌, length, refl, sym, ◌∙◌, ap, subst, inl, inr, arith, length-set, get_or-set_same, get_or-set_other, map, slice_set, Some}
use Rattle.std.specs.List.{AllByRecursion}
use Rattle.std.proofs.lemmas.Bool.{cases_eq}
use Rattle.timer_base.proofs.HeldLaws.{start_when_later}
use Rattle.timer_base.specs.Order.{AreBelow}
use Rattle.timer_base.specs.WheelState.{IsPending, held_at, after_start, after_held_start, after_removal}
use Rattle.timer_links.proofs.Rows.{StandsIn, stands_in}
use Rattle.timer_links.specs.Lists.{without_key, AreApart, SetsNode}
use Rattle.timer_wheels.specs.Types.{LAST, Handle, Timer, Node, list_at, KeyedLists, Row, Rows}
use Rattle.timer_wheels.specs.BucketLists.{row_timer, row_timers, rows_below, wheel_state, AreDue, AreBuckets, EachRow}
use Rattle.timer_wheels.specs.Occupied.{filled, AreMarked}
use Rattle.timer_wheels.proofs.bucket_lemmas.RowLemmas.{IsInserted, IsNotAmong-below, rows_below-inserted, all-append, all-front, all-rest, set_twice}
use Rattle.timer_wheels.proofs.bucket_lemmas.Calls.{AreBelow-pending, pending_in-newest, all-inserted, distinct-inserted}
use Rattle.timer_wheels.proofs.bucket_lemmas.Handles.{held_node, removed_state}
use Rattle.timer_wheels.proofs.bucket_lemmas.Updates.{older, older_pending, removed, standing_pending}

-- a newest row is inserted into a bucket, anywhere
module _ {n last_tick now last : ℕ} {lists : KeyedLists} (b : AreBuckets n last_tick now last lists) (place : ℕ) (node : Node)
    (new : KeyedLists) (i : IsInserted (place, node) (rows_below n lists) (rows_below n new)) (due_stays : list_at n new ≡ list_at n lists)
    (fresh : last < node.timer.serial) where
  below : AreBelow node.timer.serial (row_timers (rows_below n lists))
  below = AreBelow-pending last_tick now last node.timer.serial (rows_below n lists) fresh b.pending

  pub inserted_sound : length new ≡ length lists → now < node.timer.deadline → node.timer.deadline ≤ last_tick → node.timer.serial ≤ LAST
      → AreBuckets n last_tick now node.timer.serial new
  inserted_sound len later range serial = record {
    last_in_range = b.last_in_range;
    tick_in_range = b.tick_in_range;
    serial_in_range = serial;
    has_lists = len ∙ b.has_lists;
    pending = all-inserted i (λ row. IsPending last_tick now node.timer.serial (row_timer row))
        (record { later = later; in_range = range; serial = omega arith }) (older_pending b node.timer.serial fresh);
    distinct = distinct-inserted i (IsNotAmong-below node.timer.serial (row_timers (rows_below n lists)) below) b.distinct;
    due = subst (AreDue now node.timer.serial) (sym due_stays) (older b node.timer.serial fresh);
    due_in_order = rw due_stays b.due_in_order;
  }

  pub inserted_state : wheel_state n last_tick now node.timer.serial new ≡ after_start place node.timer (wheel_state n last_tick now last lists)
  inserted_state = rw (pending_in-newest i below, due_stays) refl

-- a pending timer is replaced by one of a later deadline, where it stands
module _ {n last_tick now last : ℕ} {lists : KeyedLists} (b : AreBuckets n last_tick now last lists) (apart : AreApart lists)
    (handle : Handle) (t : Timer) (e : held_at handle (wheel_state n last_tick now last lists) ≡ Some t) (ahead : now < t.deadline)
    (node : Node) (new : KeyedLists) (set : SetsNode handle.place node lists new) where
  abbrev pub was : Node
  was = (held_node b apart handle t e).node

  abbrev there : StandsIn handle.place was lists
  there = stands_in handle.place was lists (held_node b apart handle t e).at

  abbrev rest : KeyedLists
  rest = map (without_key handle.place) lists

  abbrev taken : KeyedLists
  taken = slice_set lists there.l (there.front ++ there.rest)

  was_deadline : was.timer.deadline ≡ t.deadline
  was_deadline = ap (λ (u : Timer). u.deadline) (held_node b apart handle t e).timer

  in_bucket : there.l < n
  in_bucket = standing_pending b there.l there.front (handle.place, was) there.rest there.in_range there.at (rw was_deadline ahead)

  rest_is : rest ≡ taken
  rest_is = (apart there.l there.front (handle.place, was) there.rest there.in_range there.at).1

  new_is : new ≡ slice_set lists there.l (there.front ++ (handle.place, node) ∷ there.rest)
  new_is = set there.l there.front was there.rest there.in_range there.at

  new_twice : new ≡ slice_set taken there.l (there.front ++ (handle.place, node) ∷ there.rest)
  new_twice = new_is ∙ sym (set_twice lists there.l (there.front ++ there.rest) (there.front ++ (handle.place, node) ∷ there.rest))

  taken_length : length taken ≡ length lists
  taken_length = length-set lists there.l (there.front ++ there.rest)

  taken_at : list_at there.l taken ≡ there.front ++ there.rest
  taken_at = get_or-set_same lists there.l (there.front ++ there.rest) [] there.in_range

  taken_sound : AreBuckets n last_tick now last taken
  taken_sound = subst (AreBuckets n last_tick now last) rest_is (removed b handle.place)

  i : IsInserted (handle.place, node) (rows_below n taken) (rows_below n new)
  i = subst (λ (y : KeyedLists). IsInserted (handle.place, node) (rows_below n taken) (rows_below n y)) (sym new_twice)
      (rows_below-inserted n there.l (handle.place, node) there.front there.rest taken in_bucket
      (let k : there.l < length lists = there.in_range in omega (arith, taken_length)) taken_at)

  due_stays : list_at n new ≡ list_at n taken
  due_stays = ap (list_at n) new_twice ∙ get_or-set_other taken there.l n (there.front ++ (handle.place, node) ∷ there.rest) []
      (let k : there.l < n = in_bucket in omega arith)

  new_length : length new ≡ length taken
  new_length = ap (λ (y : KeyedLists). length y) new_twice ∙ length-set taken there.l (there.front ++ (handle.place, node) ∷ there.rest)

  module _ (fresh : last < node.timer.serial) (later : now < node.timer.deadline) where
    pub postponed_sound : node.timer.deadline ≤ last_tick → node.timer.serial ≤ LAST → AreBuckets n last_tick now node.timer.serial new
    postponed_sound range serial = inserted_sound taken_sound handle.place node new i due_stays fresh new_length later range serial

    pub postponed_state : wheel_state n last_tick now node.timer.serial new
        ≡ after_held_start handle.place node.timer (after_removal handle (wheel_state n last_tick now last lists))
    postponed_state =
        inserted_state taken_sound handle.place node new i due_stays fresh
        ∙ (ap (λ (y : KeyedLists). after_start handle.place node.timer (wheel_state n last_tick now last y)) (sym rest_is)
        ∙ (ap (after_start handle.place node.timer) (removed_state b apart handle t e)
        ∙ sym (start_when_later handle.place node.timer (after_removal handle (wheel_state n last_tick now last lists)) later)))

  -- what holds of each row of its bucket holds afterwards, if it holds of the new one
  pub postponed_each : (fact : ℕ → Row → Type 0) → ((s : ℕ) → fact s (handle.place, was) → fact s (handle.place, node))
      → EachRow fact n lists → EachRow fact n new
  postponed_each fact f a s h = elim (cases_eq s there.l) [
    | inl q ↦
        let here : AllByRecursion (fact s) (there.front ++ (handle.place, was) ∷ there.rest) =
        subst (AllByRecursion (fact s)) (ap (λ (l : ℕ). list_at l lists) q ∙ there.at) (a s h) in
        let behind = all-rest (fact s) there.front ((handle.place, was) ∷ there.rest) here in
        subst (AllByRecursion (fact s)) (sym (ap (λ (l : ℕ). list_at l new) q ∙ (ap (list_at there.l) new_is
        ∙ get_or-set_same lists there.l (there.front ++ (handle.place, node) ∷ there.rest) [] there.in_range)))
        (all-append (fact s) there.front ((handle.place, node) ∷ there.rest)
        (all-front (fact s) there.front ((handle.place, was) ∷ there.rest) here) (f s behind.0, behind.1))
    | inr x ↦ subst (AllByRecursion (fact s)) (sym (ap (list_at s) new_is
        ∙ get_or-set_other lists there.l s (there.front ++ (handle.place, node) ∷ there.rest) [] x)) (a s h)
  ]

  pub was_at : was.timer.deadline ≡ t.deadline
  was_at = was_deadline

  -- each list has rows where it had
  some_in_middle : (front rest : Rows) (x : Row) → filled (front ++ x ∷ rest) ≡ 1
  some_in_middle [] rest x = refl
  some_in_middle (y ∷ ys) rest x = refl

  postponed_filled : (s : ℕ) → filled (list_at s new) ≡ filled (list_at s lists)
  postponed_filled s = elim (cases_eq s there.l) [
    | inl q ↦
        ap (λ (l : ℕ). filled (list_at l new)) q
        ∙ (ap (λ (y : KeyedLists). filled (list_at there.l y)) new_is
        ∙ (ap filled (get_or-set_same lists there.l (there.front ++ (handle.place, node) ∷ there.rest) [] there.in_range)
        ∙ (some_in_middle there.front there.rest (handle.place, node)
        ∙ (sym (some_in_middle there.front there.rest (handle.place, was))
        ∙ (ap filled (sym there.at) ∙ ap (λ (l : ℕ). filled (list_at l lists)) (sym q))))))
    | inr x ↦ ap filled (ap (list_at s) new_is
        ∙ get_or-set_other lists there.l s (there.front ++ (handle.place, node) ∷ there.rest) [] x)
  ]

  pub postponed_marked : (m : ℕ) (words : List ℕ) → AreMarked m words lists → AreMarked m words new
  postponed_marked m words t = ((λ s k. t.0 s k ∙ sym (postponed_filled s)), t.1)
