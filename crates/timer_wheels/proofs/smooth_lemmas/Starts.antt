-- A timer that is started now: where the bits of the lists lead it, and that its row leaves all others where the law says.
use Rattle.std.proofs.Common.{◌≡◌, ◌≢◌, ◌<◌, ◌≤◌, ◌+◌, ℕ, zero, suc, List, [], ◌∷◌, ◌++◌, length, refl, sym, ◌∙◌, ap, inl, inr, subst, arith, get_or-set_same, get_or-set_other, true, false, ◌==◌, ◌&&◌, nat_lt, if◌then◌else◌}
use Rattle.std.specs.List.{AllByRecursion}
use Rattle.std.proofs.lemmas.Bool.{cases_eq}
use Rattle.std.proofs.lemmas.Bool.Decides.{nat_tests}
use Rattle.timer_base.proofs.Basics.{either}
use Rattle.timer_links.specs.Lists.{with_row}
use Rattle.timer_wheels.specs.Types.{LAST, Timer, list_at, KeyedLists, Row, Rows}
use Rattle.timer_wheels.specs.BucketLists.{row_timer, AreInOrder, EachRow}
use Rattle.timer_wheels.specs.Digits.{IsTable, HasDigits, level}
use Rattle.timer_wheels.specs.Occupied.{bit_of}
use Rattle.timer_wheels.specs.smooth.Smooth.{slot_in, smooth_list, is_in_next, next_list, moved_to, mark, descend, descend_by, smooth_level, IsSmooth, Stands}
use Rattle.timer_wheels.proofs.bucket_lemmas.AllLemmas.{all-both}
use Rattle.timer_wheels.proofs.bucket_lemmas.RowLemmas.{all-append, all-front, all-rest}
use Rattle.timer_wheels.proofs.smooth_lemmas.Descent.{descend_is}
use Rattle.timer_wheels.proofs.smooth_lemmas.Laws.{started_stands}
use Rattle.timer_wheels.proofs.smooth_lemmas.Places.{front_kept}

-- Where the bits lead.

-- a mark by the bit alone: an empty bucket has moved on up to any serial, and another one up to none
abbrev pub bit_mark : List ℕ → ℕ → List ℕ → ℕ → ℕ
bit_mark table now words k = if bit_of words (next_list table now k) == 0 then LAST else 0

module _ (table : List ℕ) (now : ℕ) (words : List ℕ) where
  by_bit_marks : (d serial k : ℕ) → 0 < serial → serial ≤ LAST
      → descend_by table now words d k ≡ descend table now (bit_mark table now words) d serial k
  by_bit_marks d serial k z r = descend_is table now words (bit_mark table now words) d serial k
      (λ j p b e. elim (either (bit_of words (next_list table now j) == 0)) [
        | inl q ↦ let l : nat_lt LAST serial ≡ false = grind (arith, nat_tests) in rw (q, l) refl
        | inr q ↦ let l : nat_lt 0 serial ≡ true = grind (arith, nat_tests) in rw (q, l) refl
      ])

  -- it stops at a next bucket only if that one has timers
  pub stops_at_timers : (d k : ℕ) → 0 < descend_by table now words d k → is_in_next table now (descend_by table now words d k) d ≡ true
      → (bit_of words (next_list table now (descend_by table now words d k)) == 0) ≡ false
  stops_at_timers d zero z e = absurd (omega arith)
  stops_at_timers d (suc k) z e = elim (either (is_in_next table now (suc k) d && (bit_of words (next_list table now (suc k)) == 0))) [
    | inl b ↦ rw b (stops_at_timers d k (rw b at z) (rw b at e))
    | inr b ↦
        let there : is_in_next table now (suc k) d ≡ true = rw b at e in
        rw b (rw there at b)
  ]

  -- an empty bucket's bit
  open_by : (k serial : ℕ) → 0 < serial → serial ≤ bit_mark table now words k → bit_of words (next_list table now k) ≡ 0
  open_by k serial z h = elim (cases_eq (bit_of words (next_list table now k)) 0) [
    | inl e ↦ e
    | inr n ↦ absurd (let c : bit_mark table now words k ≡ 0 = closed k n in omega arith)
  ] where
    closed : (k : ℕ) → bit_of words (next_list table now k) ≢ 0 → bit_mark table now words k ≡ 0
    closed k n = let b : (bit_of words (next_list table now k) == 0) ≡ false = grind (arith, nat_tests) in rw b refl

  -- how a timer that is started now stands, by the bits
  pub record GoesByBits (k : ℕ) (t : Timer) : Type 0 where
    pub wheel : k < length table
    pub ahead : slot_in table k now < slot_in table k t.deadline
    pub near : slot_in table (suc k) t.deadline ≤ slot_in table (suc k) now + 1
    -- each next bucket above that it is in is empty
    pub passed : (j : ℕ) → k < j → j < length table → slot_in table j t.deadline ≡ slot_in table j now + 1
        → bit_of words (next_list table now j) ≡ 0

  pub goes_by_bits : (t : Timer) → IsTable table → HasDigits table t.deadline → now < t.deadline → 0 < t.serial → t.serial ≤ LAST
      → GoesByBits (descend_by table now words t.deadline (level table now t.deadline)) t
  goes_by_bits t i h l z r =
      let st = started_stands table now (bit_mark table now words) t i h l in
      let q : smooth_level table now (bit_mark table now words) t ≡ descend_by table now words t.deadline (level table now t.deadline) =
      sym (by_bit_marks t.deadline t.serial (level table now t.deadline) z r) in
      subst (λ (x : ℕ). GoesByBits x t) q (record {
        wheel = st.wheel;
        ahead = st.ahead;
        near = st.near;
        passed = λ j a b e. open_by j t.serial z (st.passed j a b e);
      })

-- The row of the last start comes to the back of a list.

rises_behind : (serial : ℕ) (rows : Rows) (row : Row) → serial < (row_timer row).serial → serial ≤ moved_to rows
    → serial ≤ moved_to (rows ++ row ∷ [])
rises_behind serial [] row l h = omega arith
rises_behind serial (x ∷ xs) row l h = h

module _ (table : List ℕ) (now n to on : ℕ) (mid : KeyedLists) (row : Row) (exists : to < length mid) where
  pub newest_there : list_at to (with_row to row mid) ≡ list_at to mid ++ row ∷ []
  newest_there = get_or-set_same mid to (list_at to mid ++ row ∷ []) [] exists

  pub newest_others : (s : ℕ) → s ≢ to → list_at s (with_row to row mid) ≡ list_at s mid
  newest_others s x = get_or-set_other mid to s (list_at to mid ++ row ∷ []) [] x

  -- marks rise, as far as a timer that was started before is concerned
  rise_for : (serial j : ℕ) → serial < (row_timer row).serial → serial ≤ mark table now mid j → serial ≤ mark table now (with_row to row mid) j
  rise_for serial j l h = elim (cases_eq (next_list table now j) to) [
    | inl e ↦
        let was : mark table now mid j ≡ moved_to (list_at to mid) = ap (λ (x : ℕ). moved_to (list_at x mid)) e in
        let is : mark table now (with_row to row mid) j ≡ moved_to (list_at to mid ++ row ∷ []) =
        ap (λ (x : ℕ). moved_to (list_at x (with_row to row mid))) e ∙ ap moved_to newest_there in
        omega (arith, rises_behind serial (list_at to mid) row l (omega arith))
    | inr x ↦ omega (arith, ap moved_to (newest_others (next_list table now j) x))
  ]

  -- what is known of a row that was there
  record Before (s : ℕ) (u : Row) : Type 0 where
    placed : IsSmooth table now (mark table now mid) s u
    older : (row_timer u).serial < (row_timer row).serial

  before_stays : (s : ℕ) (u : Row) → Before s u → moved_to (list_at s (with_row to row mid)) < (row_timer u).serial
      → IsSmooth table now (mark table now (with_row to row mid)) s u
  before_stays s u b front = record {
    on = b.placed.on;
    stands = record {
      wheel = b.placed.stands.wheel;
      at_list = b.placed.stands.at_list;
      ahead = b.placed.stands.ahead;
      near = b.placed.stands.near;
      passed = λ j a c e. rise_for (row_timer u).serial j b.older (b.placed.stands.passed j a c e);
      kept = λ z e. subst (λ (x : ℕ). moved_to (list_at x (with_row to row mid)) < (row_timer u).serial)
          (b.placed.stands.at_list ∙ ap (smooth_list table b.placed.on) e) front;
    };
    no_rounds = b.placed.no_rounds;
  }

  module _ (no_rounds : row.1.rounds ≡ 0) (ordered : AreInOrder n (with_row to row mid))
      (older : EachRow (λ s u. (row_timer u).serial < (row_timer row).serial) n mid)
      (placed : EachRow (IsSmooth table now (mark table now mid)) n mid)
      (stands : Stands table now (mark table now (with_row to row mid)) to on (row_timer row)) where
    befores : (s : ℕ) → s < n → AllByRecursion (Before s) (list_at s mid)
    befores s h = all-both (IsSmooth table now (mark table now mid) s) (λ u. (row_timer u).serial < (row_timer row).serial) (Before s)
        (list_at s mid) (λ u p o. record { placed = p; older = o }) (placed s h) (older s h)

    fronts : (s : ℕ) → s < n → AllByRecursion (λ u. moved_to (list_at s (with_row to row mid)) < (row_timer u).serial)
        (list_at s (with_row to row mid))
    fronts s h = front_kept (list_at s (with_row to row mid)) (ordered s h)

    pub places_newest : EachRow (IsSmooth table now (mark table now (with_row to row mid))) n (with_row to row mid)
    places_newest s h = elim (cases_eq s to) [
      | inl e ↦
          let is : list_at s (with_row to row mid) ≡ list_at s mid ++ row ∷ [] =
          ap (λ (x : ℕ). list_at x (with_row to row mid)) e ∙ (newest_there ∙ ap (λ (x : ℕ). list_at x mid ++ row ∷ []) (sym e)) in
          let f : AllByRecursion (λ u. moved_to (list_at s (with_row to row mid)) < (row_timer u).serial) (list_at s mid ++ row ∷ []) =
          subst (AllByRecursion (λ u. moved_to (list_at s (with_row to row mid)) < (row_timer u).serial)) is (fronts s h) in
          let here : IsSmooth table now (mark table now (with_row to row mid)) s row = record {
            on = on;
            stands = subst (λ (x : ℕ). Stands table now (mark table now (with_row to row mid)) x on (row_timer row)) (sym e) stands;
            no_rounds = no_rounds;
          } in
          subst (AllByRecursion (IsSmooth table now (mark table now (with_row to row mid)) s)) (sym is)
          (all-append (IsSmooth table now (mark table now (with_row to row mid)) s) (list_at s mid) (row ∷ [])
          (all-both (Before s) (λ u. moved_to (list_at s (with_row to row mid)) < (row_timer u).serial)
          (IsSmooth table now (mark table now (with_row to row mid)) s) (list_at s mid) (before_stays s) (befores s h)
          (all-front (λ u. moved_to (list_at s (with_row to row mid)) < (row_timer u).serial) (list_at s mid) (row ∷ []) f)) (here, tt))
      | inr x ↦
          let is : list_at s (with_row to row mid) ≡ list_at s mid = newest_others s x in
          subst (AllByRecursion (IsSmooth table now (mark table now (with_row to row mid)) s)) (sym is)
          (all-both (Before s) (λ u. moved_to (list_at s (with_row to row mid)) < (row_timer u).serial)
          (IsSmooth table now (mark table now (with_row to row mid)) s) (list_at s mid) (before_stays s) (befores s h)
          (subst (AllByRecursion (λ u. moved_to (list_at s (with_row to row mid)) < (row_timer u).serial)) is (fronts s h)))
    ]

  -- its own bucket has not moved on up to it
  pub newest_kept : AreInOrder n (with_row to row mid) → to < n → moved_to (list_at to (with_row to row mid)) < (row_timer row).serial
  newest_kept ordered h =
      let f : AllByRecursion (λ u. moved_to (list_at to (with_row to row mid)) < (row_timer u).serial) (list_at to mid ++ row ∷ []) =
      subst (AllByRecursion (λ u. moved_to (list_at to (with_row to row mid)) < (row_timer u).serial)) newest_there
      (front_kept (list_at to (with_row to row mid)) (ordered to h)) in
      (all-rest (λ u. moved_to (list_at to (with_row to row mid)) < (row_timer u).serial) (list_at to mid) (row ∷ []) f).0
