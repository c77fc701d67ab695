-- The places of all rows of a smooth wheel: after rows left their lists, and after a row came to the back of one.
use Rattle.std.proofs.Common.{◌≡◌, ◌≢◌, ◌<◌, ◌≤◌, ◌+◌, ◌-◌, ◌*◌, ℕ, List, [], ◌∷◌, ◌++◌, length, refl, sym, ◌∙◌, ap, inl, inr, subst, arith, get_or-set_same, get_or-set_other}
use Rattle.std.specs.List.{AllByRecursion}
use Rattle.std.proofs.lemmas.Bool.{cases_eq}
use Rattle.timer_base.specs.declared.limits.TheConstants.{LAST}
use Rattle.timer_base.specs.Order.{AreRising}
use Rattle.timer_base.proofs.OrderLaws.{AreRising-weaken}
use Rattle.timer_links.specs.Lists.{list_at, with_row, KeyedLists, Row, Rows}
use Rattle.timer_wheels.specs.BucketLists.{row_timer, row_timers, AreInOrder, EachRow}
use Rattle.timer_wheels.specs.Digits.{IsTable, radix}
use Rattle.timer_wheels.specs.smooth.Smooth.{slot_in, smooth_list, next_list, moved_to, mark, HasTurns, Stands, IsSmooth}
use Rattle.timer_wheels.proofs.bucket_lemmas.AllLemmas.{all-both}
use Rattle.timer_wheels.proofs.bucket_lemmas.RowLemmas.{all-append}
use Rattle.timer_wheels.proofs.smooth_lemmas.Laws.{others_stand}
use Rattle.timer_wheels.proofs.smooth_lemmas.Lists.{one_wheel, same_rest_of, radix_above, ahead_within}

-- a bucket has not moved on up to the serial of a row that is left in it
rising_above : (low : ℕ) (rows : Rows) → AreRising low (row_timers rows) → AllByRecursion (λ row. low < (row_timer row).serial) rows
rising_above low [] r = tt
rising_above low (x ∷ xs) r = (
  r.0,
  rising_above low xs (AreRising-weaken (row_timer x).serial low (row_timers xs)
      (let h : low < (row_timer x).serial = r.0 in omega arith) r.1),
)

pub weaker : (P Q : Row → Type 0) (rows : Rows) → ((row : Row) → P row → Q row) → AllByRecursion P rows → AllByRecursion Q rows
weaker P Q [] f a = tt
weaker P Q (x ∷ xs) f a = (f x a.0, weaker P Q xs f a.1)

pub front_kept : (rows : Rows) → AreRising 0 (row_timers rows) → AllByRecursion (λ row. moved_to rows < (row_timer row).serial) rows
front_kept [] r = tt
front_kept (x ∷ xs) r =
    let z : 0 < (row_timer x).serial = r.0 in (
      omega arith,
      weaker (λ row. (row_timer x).serial < (row_timer row).serial) (λ row. (row_timer x).serial - 1 < (row_timer row).serial) xs
          (λ row h. omega arith) (rising_above (row_timer x).serial xs r.1),
    )

-- what is known of a row of list s before, and that its bucket in the new lists has not moved on up to its serial
record Known (table : List ℕ) (now s : ℕ) (old new : KeyedLists) (row : Row) : Type 0 where
  placed : IsSmooth table now (mark table now old) s row
  kept : moved_to (list_at s new) < (row_timer row).serial

placed_by : (table : List ℕ) (now s : ℕ) (old new : KeyedLists) → ((j : ℕ) → 0 < j → j < length table → mark table now old j ≤ mark table now new j)
    → (row : Row) → Known table now s old new row → IsSmooth table now (mark table now new) s row
placed_by table now s old new rise row h = record {
  on = h.placed.on;
  stands = others_stand table now (mark table now old) (mark table now new) s h.placed.on (row_timer row) rise kept h.placed.stands;
  no_rounds = h.placed.no_rounds;
} where
  kept : 0 < h.placed.on → slot_in table h.placed.on (row_timer row).deadline ≡ slot_in table h.placed.on now + 1
      → mark table now new h.placed.on < (row_timer row).serial
  kept z e =
      let q : next_list table now h.placed.on ≡ s =
      sym (h.placed.stands.at_list ∙ ap (smooth_list table h.placed.on) e) in
      subst (λ (x : ℕ). moved_to (list_at x new) < (row_timer row).serial) (sym q) h.kept

known_row : (table : List ℕ) (now s : ℕ) (old new : KeyedLists) (row : Row) → IsSmooth table now (mark table now old) s row
    → moved_to (list_at s new) < (row_timer row).serial → Known table now s old new row
known_row table now s old new row a b = record { placed = a; kept = b }

-- Rows left their lists: marks rise.

-- what holds of each row of a list holds of each that is left
abbrev pub AreLeft : ℕ → KeyedLists → KeyedLists → Type 1
AreLeft n old new = (s : ℕ) → s < n → (P : Row → Type 0) → AllByRecursion P (list_at s old) → AllByRecursion P (list_at s new)

pub places_left : (table : List ℕ) (now n : ℕ) (old new : KeyedLists) → AreLeft n old new
    → ((j : ℕ) → 0 < j → j < length table → mark table now old j ≤ mark table now new j) → AreInOrder n new
    → EachRow (IsSmooth table now (mark table now old)) n old → EachRow (IsSmooth table now (mark table now new)) n new
places_left table now n old new left rise ordered placed s b =
    let known : AllByRecursion (Known table now s old new) (list_at s new) =
    all-both (IsSmooth table now (mark table now old) s) (λ row. moved_to (list_at s new) < (row_timer row).serial) (Known table now s old new) (list_at s new)
    (known_row table now s old new) (left s b (IsSmooth table now (mark table now old) s) (placed s b)) (front_kept (list_at s new) (ordered s b)) in
    weaker (Known table now s old new) (IsSmooth table now (mark table now new) s) (list_at s new) (placed_by table now s old new rise) known

-- A row came to the back of a list.

moved_to-behind : (rows : Rows) (row : Row) → rows ≢ [] → moved_to (rows ++ row ∷ []) ≡ moved_to rows
moved_to-behind [] row n = absurd (n refl)
moved_to-behind (x ∷ xs) row n = refl

none_moved : (rows : Rows) → rows ≡ [] → moved_to rows ≡ LAST
none_moved rows e = ap moved_to e

module _ (table : List ℕ) (now n to on : ℕ) (mid : KeyedLists) (row : Row) (i : IsTable table) (turns : HasTurns table)
    (exists : to < length mid) (serial : (row_timer row).serial ≤ LAST)
    (stands : Stands table now (mark table now mid) to on (row_timer row)) where
  -- it does not come to an empty next bucket
  not_open : 0 < on → to ≡ next_list table now on → list_at to mid ≢ []
  not_open z e = λ (none : list_at to mid ≡ []).
      let slot : slot_in table on (row_timer row).deadline ≡ slot_in table on now + 1 = same_rest_of (2 * radix on table) (slot_in table on now)
      (slot_in table on (row_timer row).deadline) (slot_in table on now + 1) (omega (arith, radix_above table on i)) stands.ahead (omega arith)
      (ahead_within table now on (row_timer row).deadline i (record { wheel = stands.wheel; ahead = stands.ahead; near = stands.near }))
      (omega (arith, radix_above table on i)) (omega (arith, stands.at_list, e)) in
      let kept : mark table now mid on < (row_timer row).serial = stands.kept z slot in
      let all : mark table now mid on ≡ LAST = none_moved (list_at (next_list table now on) mid)
      (ap (λ (x : ℕ). list_at x mid) (sym e) ∙ none) in
      omega arith

  pub marks_same : (j : ℕ) → 0 < j → j < length table → mark table now (with_row to row mid) j ≡ mark table now mid j
  marks_same j z b = elim (cases_eq (next_list table now j) to) [
    | inl e ↦
        let w : j ≡ on = one_wheel table j on (slot_in table j now + 1) (slot_in table on (row_timer row).deadline) i turns b stands.wheel
        (e ∙ stands.at_list) in
        let there : list_at to (with_row to row mid) ≡ list_at to mid ++ row ∷ [] =
        get_or-set_same mid to (list_at to mid ++ row ∷ []) [] exists in
        let some : list_at to mid ≢ [] = not_open (omega arith) (sym e ∙ ap (next_list table now) w) in
        ap (λ (x : ℕ). moved_to (list_at x (with_row to row mid))) e
        ∙ (ap moved_to there ∙ (moved_to-behind (list_at to mid) row some
        ∙ ap (λ (x : ℕ). moved_to (list_at x mid)) (sym e)))
    | inr x ↦ ap moved_to (get_or-set_other mid to (next_list table now j) (list_at to mid ++ row ∷ []) [] x)
  ]

  rise : (j : ℕ) → 0 < j → j < length table → mark table now mid j ≤ mark table now (with_row to row mid) j
  rise j z b = omega (arith, marks_same j z b)

  module _ (no_rounds : row.1.rounds ≡ 0) (ordered : AreInOrder n (with_row to row mid))
      (placed : EachRow (IsSmooth table now (mark table now mid)) n mid) where
    with_known : (s : ℕ) → s < n → AllByRecursion (IsSmooth table now (mark table now mid) s) (list_at s (with_row to row mid))
    with_known s b = elim (cases_eq s to) [
      | inl e ↦
          let here : IsSmooth table now (mark table now mid) s row = record {
            on = on;
            stands = subst (λ (x : ℕ). Stands table now (mark table now mid) x on (row_timer row)) (sym e) stands;
            no_rounds = no_rounds;
          } in
          let there : list_at s (with_row to row mid) ≡ list_at s mid ++ row ∷ [] =
          ap (λ (x : ℕ). list_at x (with_row to row mid)) e
          ∙ (get_or-set_same mid to (list_at to mid ++ row ∷ []) [] exists ∙ ap (λ (x : ℕ). list_at x mid ++ row ∷ []) (sym e)) in
          subst (AllByRecursion (IsSmooth table now (mark table now mid) s)) (sym there)
          (all-append (IsSmooth table now (mark table now mid) s) (list_at s mid) (row ∷ []) (placed s b) (here, tt))
      | inr x ↦ subst (AllByRecursion (IsSmooth table now (mark table now mid) s))
          (sym (get_or-set_other mid to s (list_at to mid ++ row ∷ []) [] x)) (placed s b)
    ]

    pub places_with_row : EachRow (IsSmooth table now (mark table now (with_row to row mid))) n (with_row to row mid)
    places_with_row s b =
        let known : AllByRecursion (Known table now s mid (with_row to row mid)) (list_at s (with_row to row mid)) =
        all-both (IsSmooth table now (mark table now mid) s) (λ r. moved_to (list_at s (with_row to row mid)) < (row_timer r).serial)
        (Known table now s mid (with_row to row mid)) (list_at s (with_row to row mid))
        (known_row table now s mid (with_row to row mid)) (with_known s b) (front_kept (list_at s (with_row to row mid)) (ordered s b)) in
        weaker (Known table now s mid (with_row to row mid)) (IsSmooth table now (mark table now (with_row to row mid)) s)
        (list_at s (with_row to row mid)) (placed_by table now s mid (with_row to row mid) rise) known

-- The front row of a list leaves it.

moved_to-rest : (row : Row) (rest : Rows) → (row_timer row).serial ≤ LAST → AreRising 0 (row_timers (row ∷ rest))
    → (moved_to (row ∷ rest) ≤ moved_to rest) × ((row_timer row).serial ≤ moved_to rest)
moved_to-rest row [] h r = let z : 0 < (row_timer row).serial = r.0 in (omega arith, h)
moved_to-rest row (y ∷ ys) h r =
    let z : 0 < (row_timer row).serial = r.0 in
    let l : (row_timer row).serial < (row_timer y).serial = r.1.0 in
    (omega arith, omega arith)

pub front_gone : (row : Row) (rest : Rows) → (row_timer row).serial ≤ LAST → AreRising 0 (row_timers (row ∷ rest))
    → (moved_to (row ∷ rest) ≤ moved_to rest) × ((row_timer row).serial ≤ moved_to rest)
front_gone = moved_to-rest
