-- The potential of the lists of a smooth wheel: the wheels of all timers, added up. Each move lowers it.
use Rattle.std.proofs.Common.{◌≡◌, ◌<◌, ◌≤◌, ◌+◌, ◌-◌, ◌*◌, ◌/◌, ◌%◌, ℕ, zero, suc, List, [], ◌∷◌, ◌++◌, length, refl, sym, ◌∙◌, ap, inl, inr, arith, slice_set, length-set, get_or-set_same, get_or-set_other, nat_lt, true, false}
use Rattle.std.proofs.Math.Nat.{mul-le-mul_left}
use Rattle.std.proofs.lemmas.Bool.{cases_eq, cases_lt}
use Rattle.std.proofs.lemmas.Bool.Decides.{nat_tests}
use Rattle.timer_links.specs.Lists.{list_at, with_row, appended, KeyedLists, Row, Rows}
use Rattle.timer_wheels.specs.Digits.{IsTable, radix}
use Rattle.timer_wheels.specs.smooth.Smooth.{smooth_list, height, heights, HasTurns}
use Rattle.timer_wheels.proofs.smooth_lemmas.Lists.{radix_above}

-- the wheel of a list
pub height_is : (table : List ℕ) (k i : ℕ) → IsTable table → HasTurns table → k < length table → height table (smooth_list table k i) ≡ k
height_is table k i t h b =
    let r : 0 < radix k table = radix_above table k t in
    let m : i % (2 * radix k table) < 2 * radix k table = omega arith in
    elim (cases_lt (k + 1) (length table)) [
      | inl l ↦
          let q : smooth_list table k i / 128 ≡ k = omega (arith, h k l) in
          let c : nat_lt (smooth_list table k i / 128) (length table) ≡ true = grind (arith, nat_tests) in
          rw c q
      | inr l ↦ elim (cases_lt (smooth_list table k i / 128) (length table)) [
        | inl d ↦
            let c : nat_lt (smooth_list table k i / 128) (length table) ≡ true = grind (arith, nat_tests) in
            rw c (let q : smooth_list table k i / 128 ≡ k = omega arith in q)
        | inr d ↦
            let c : nat_lt (smooth_list table k i / 128) (length table) ≡ false = grind (arith, nat_tests) in
            rw c (let q : length table - 1 ≡ k = omega arith in q)
      ]
    ]

pub height_most : (table : List ℕ) (s : ℕ) → height table s ≤ length table - 1
height_most table s = elim (cases_lt (s / 128) (length table)) [
  | inl d ↦
      let c : nat_lt (s / 128) (length table) ≡ true = grind (arith, nat_tests) in
      rw c (let q : s / 128 ≤ length table - 1 = omega arith in q)
  | inr d ↦
      let c : nat_lt (s / 128) (length table) ≡ false = grind (arith, nat_tests) in
      rw c (let q : length table - 1 ≤ length table - 1 = omega arith in q)
]

-- one list changes
pub heights_above : (table : List ℕ) (n s : ℕ) (rows : Rows) (lists : KeyedLists) → n ≤ s
    → heights table n (slice_set lists s rows) ≡ heights table n lists
heights_above table zero s rows lists h = refl
heights_above table (suc n) s rows lists h =
    let e : list_at n (slice_set lists s rows) ≡ list_at n lists = get_or-set_other lists s n rows [] (λ (q : n ≡ s). omega arith) in
    rw (heights_above table n s rows lists (omega arith), e) refl

pub heights_set : (table : List ℕ) (n s : ℕ) (rows : Rows) (lists : KeyedLists) → s < n → s < length lists
    → heights table n (slice_set lists s rows) + height table s * length (list_at s lists) ≡ heights table n lists + height table s * length rows
heights_set table zero s rows lists h b = absurd (omega arith)
heights_set table (suc n) s rows lists h b = elim (cases_eq s n) [
  | inl e ↦
      let new : list_at s (slice_set lists s rows) ≡ rows = get_or-set_same lists s rows [] b in
      let here : height table n * length (list_at n (slice_set lists s rows)) ≡ height table s * length rows =
      ap (λ (x : ℕ). height table x * length (list_at x (slice_set lists s rows))) (sym e) ∙ ap (λ (r : Rows). height table s * length r) new in
      let was : height table n * length (list_at n lists) ≡ height table s * length (list_at s lists) =
      ap (λ (x : ℕ). height table x * length (list_at x lists)) (sym e) in
      let low : heights table n (slice_set lists s rows) ≡ heights table n lists = heights_above table n s rows lists (omega arith) in
      sums (heights table n (slice_set lists s rows)) (height table n * length (list_at n (slice_set lists s rows)))
      (height table s * length (list_at s lists)) (heights table n lists) (height table n * length (list_at n lists))
      (height table s * length rows) low here was
  | inr x ↦
      let ih = heights_set table n s rows lists (omega arith) b in
      let same : height table n * length (list_at n (slice_set lists s rows)) ≡ height table n * length (list_at n lists) =
      ap (λ (r : Rows). height table n * length r) (get_or-set_other lists s n rows [] (λ (q : n ≡ s). absurd (x (sym q)))) in
      sums2 (heights table n (slice_set lists s rows)) (height table n * length (list_at n (slice_set lists s rows)))
      (height table s * length (list_at s lists)) (heights table n lists) (height table n * length (list_at n lists))
      (height table s * length rows) ih same
] where
  sums : (a b c d e f : ℕ) → a ≡ d → b ≡ f → e ≡ c → a + b + c ≡ d + e + f
  sums a b c d e f p q r = omega arith

  sums2 : (a b c d e f : ℕ) → a + c ≡ d + f → b ≡ e → a + b + c ≡ d + e + f
  sums2 a b c d e f p q = omega arith

-- no list gets longer
pub heights_mono : (table : List ℕ) (n : ℕ) (old new : KeyedLists) → ((s : ℕ) → s < n → length (list_at s new) ≤ length (list_at s old))
    → heights table n new ≤ heights table n old
heights_mono table zero old new f = omega arith
heights_mono table (suc n) old new f =
    let ih = heights_mono table n old new (λ s h. f s (omega arith)) in
    let m : height table n * length (list_at n new) ≤ height table n * length (list_at n old) =
    mul-le-mul_left (height table n) (f n (omega arith)) in
    add (heights table n new) (height table n * length (list_at n new)) (heights table n old) (height table n * length (list_at n old)) ih m
  where
    add : (a b c d : ℕ) → a ≤ c → b ≤ d → a + b ≤ c + d
    add a b c d p q = omega arith

-- a row comes to the back of a list
pub length-behind : (rows : Rows) (row : Row) → length (rows ++ row ∷ []) ≡ length rows + 1
length-behind [] row = refl
length-behind (x ∷ xs) row = let e : suc (length (xs ++ row ∷ [])) ≡ suc (length xs + 1) = ap suc (length-behind xs row) in omega arith

pub heights_push : (table : List ℕ) (n s : ℕ) (row : Row) (lists : KeyedLists) → s < n → s < length lists
    → heights table n (with_row s row lists) ≡ heights table n lists + height table s
heights_push table n s row lists h b =
    let e = heights_set table n s (list_at s lists ++ row ∷ []) lists h b in
    let l : height table s * length (list_at s lists ++ row ∷ []) ≡ height table s * (length (list_at s lists) + 1) =
    ap (λ (x : ℕ). height table s * x) (length-behind (list_at s lists) row) in
    let m : height table s * (length (list_at s lists) + 1) ≡ height table s * length (list_at s lists) + height table s = omega arith in
    omega arith

pub heights_push_above : (table : List ℕ) (n s : ℕ) (row : Row) (lists : KeyedLists) → n ≤ s
    → heights table n (with_row s row lists) ≡ heights table n lists
heights_push_above table n s row lists h = heights_above table n s (list_at s lists ++ row ∷ []) lists h

-- a row moves to another list
pub heights_moved : (table : List ℕ) (n from to : ℕ) (lists : KeyedLists) (row : Row) (rest : Rows) → n < length lists → from < n → to < n
    → list_at from lists ≡ row ∷ rest
    → heights table n (with_row to row (slice_set lists from rest)) + height table from ≡ heights table n lists + height table to
heights_moved table n from to lists row rest len a b at =
    let e = heights_set table n from rest lists a (omega arith) in
    let was : height table from * length (list_at from lists) ≡ height table from * suc (length rest) =
    ap (λ (r : Rows). height table from * length r) at in
    let m : height table from * suc (length rest) ≡ height table from * length rest + height table from = omega arith in
    let p = heights_push table n to row (slice_set lists from rest) b (omega (arith, length-set lists from rest)) in
    omega arith

-- a list of the lowest wheel goes to a list above the first n
pub heights_due : (table : List ℕ) (n from : ℕ) (lists : KeyedLists) → n < length lists → from < n → height table from ≡ 0
    → heights table n (appended from n lists) ≡ heights table n lists
heights_due table n from lists len a z =
    let e = heights_set table n from [] lists a (omega arith) in
    let was : height table from * length (list_at from lists) ≡ 0 * length (list_at from lists) =
    ap (λ (x : ℕ). x * length (list_at from lists)) z in
    let is : height table from * 0 ≡ 0 = omega arith in
    let above = heights_above table n n (list_at n lists ++ list_at from lists) (slice_set lists from []) (omega arith) in
    omega arith
