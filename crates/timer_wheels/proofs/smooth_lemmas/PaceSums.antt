-- Lemmas for `Paces` and `early_moves`: sums of paces, and next buckets that stay in time.
use Rattle.std.proofs.Common.{◌≡◌, ◌≢◌, ◌<◌, ◌≤◌, ◌+◌, ◌-◌, ◌*◌, ◌/◌, ℕ, zero, suc, List, [], ◌∷◌, length, refl, sym, ◌∙◌, ap, inl, inr, subst, arith}
use Rattle.std.proofs.Math.Nat.{div-mul-le_self, mul-le-mul_left}
use Rattle.std.proofs.lemmas.Bool.{cases_eq}
use Rattle.timer_links.specs.Lists.{row_count}
use Rattle.timer_wheels.specs.Types.{Ghosts, list_at, KeyedLists, Table}
use Rattle.timer_wheels.specs.smooth.Wheels.{next_len, potential_of, OthersShrink}
use Rattle.timer_wheels.specs.Digits.{IsTable, weight, lowest_radix}
use Rattle.timer_wheels.specs.smooth.Paces.{pace_at, sum_below, pace_sum, pace_for, most_pace, FitPaces, HasMoved, tick_bound}
use Rattle.timer_wheels.specs.smooth.Smooth.{slot_in, next_list, next_lengths, ticks_to_half}
use Rattle.timer_wheels.specs.Tables.{radices, wide}
use Rattle.timer_links.specs.declared.ring.TheConstants.{INDEXES}
use Rattle.timer_wheels.specs.declared.buckets.Buckets.{Buckets}
use Rattle.timer_wheels.specs.declared.smooth.slot_lists.TheConstants.{MOST_WHEELS}
use Rattle.timer_wheels.proofs.smooth_lemmas.Pace.{pace_begun}
use Rattle.timer_wheels.proofs.smooth_lemmas.Weights.{weight_some, halves}
use Rattle.timer_wheels.proofs.table_lemmas.TableLaws.{of_table}

-- Sums.

pub one_of_sum : (paces : List ℕ) (n i : ℕ) → i < n → pace_at paces i ≤ sum_below paces n
one_of_sum paces zero i h = absurd (omega arith)
one_of_sum paces (suc n) i h = elim (cases_eq i n) [
  | inl e ↦ let was : pace_at paces n ≡ pace_at paces i = ap (pace_at paces) (sym e) in omega arith
  | inr x ↦ omega (arith, one_of_sum paces n i (omega arith))
]

pub sums_mono : (paces : List ℕ) (n m : ℕ) → n ≤ m → sum_below paces n ≤ sum_below paces m
sums_mono paces n zero h = let e : n ≡ 0 = omega arith in omega (arith, ap (sum_below paces) e)
sums_mono paces n (suc m) h = elim (cases_eq n (suc m)) [
  | inl e ↦ omega (arith, ap (sum_below paces) e)
  | inr x ↦ omega (arith, sums_mono paces n m (omega arith))
]

-- the most paces of the wheels below k, in sum
abbrev most_below : List ℕ → ℕ → ℕ → ℕ
most_below table n zero = 0
most_below table n (suc k) = most_below table n k + most_pace table n k

sum_fits : (table : List ℕ) (n : ℕ) (paces : List ℕ) → FitPaces table n paces → (k : ℕ) → sum_below paces k ≤ most_below table n k
sum_fits table n paces f zero = omega arith
sum_fits table n paces f (suc k) = omega (arith, f k, sum_fits table n paces f k)

pub sum_bound : (n : ℕ) (paces : List ℕ) → FitPaces wide n paces → pace_sum paces ≤ tick_bound n
unfolding wide
sum_bound n paces f =
    let share : (s : ℕ) → 63 * s ≤ n → 2 * s ≤ 2 * n / 63 = λ s h. omega arith in
    let s : ℕ = n / 64 + n / 4096 + n / 262144 + n / 16777216 + n / 1073741824 + n / 68719476736 + n / 4398046511104
    + n / 281474976710656 + n / 18014398509481984 in
    let shares : 63 * s ≤ n = omega arith in
    let sum : pace_sum paces ≤ 0 + 0 + 2 * (n / 64 + 1) + 2 * (n / 4096 + 1) + 2 * (n / 262144 + 1) + 2 * (n / 16777216 + 1)
    + 2 * (n / 1073741824 + 1) + 2 * (n / 68719476736 + 1) + 2 * (n / 4398046511104 + 1) + 2 * (n / 281474976710656 + 1)
    + 2 * (n / 18014398509481984 + 1) = sum_fits wide n paces f 10 in
    omega (arith, share s shares)

-- The pace that is fixed.

pub few_wheels : (t : Table) (k : ℕ) → k < length (radices t) → k < MOST_WHEELS
few_wheels t k h = omega (arith, (of_table t).few_wheels)

-- a slot above the lowest wheel is at least 16 ticks
sixteen : (r : ℕ) (rs : List ℕ) (k : ℕ) → IsTable rs → 16 ≤ r → 16 ≤ r * weight k rs
sixteen r rs k i h = omega (arith, mul-le-mul_left r (weight_some rs k i))

sixteen_of : (table : List ℕ) (k : ℕ) → IsTable table → 16 ≤ lowest_radix table → 0 < k → 16 ≤ weight k table
sixteen_of [] k i m z = absurd (omega arith)
sixteen_of (r ∷ rs) zero i m z = absurd (omega arith)
sixteen_of (r ∷ rs) (suc k) i m z = sixteen r rs k i.1 m

pub sixteen_ticks : (t : Table) (k : ℕ) → IsTable (radices t) → 0 < k → 16 ≤ weight k (radices t)
sixteen_ticks t k i z = sixteen_of (radices t) k i (of_table t).many z

quotient_few : (n w : ℕ) → 16 ≤ w → n ≤ INDEXES → n / w ≤ 268435456
quotient_few n w h l =
    let a : n / w * w ≤ n = div-mul-le_self n w in
    let b : n / w * 16 ≤ n / w * w = mul-le-mul_left (n / w) h in
    omega arith

pub held_quotient : (t : Table) (k n : ℕ) → 0 < k → n ≤ INDEXES → n / weight k (radices t) ≤ 268435456
held_quotient t k n z l = quotient_few n (weight k (radices t)) (sixteen_ticks t k (of_table t).is_table z) l

-- a list is no longer than all together
pub one_of_rows : (l : ℕ) (lists : KeyedLists) → length (list_at l lists) ≤ row_count lists
one_of_rows l [] = omega arith
one_of_rows zero (rows ∷ lists) = omega arith
one_of_rows (suc l) (rows ∷ lists) = omega (arith, one_of_rows l lists)

-- it is enough for all timers that are held
pub enough : {N : Type 0} {kept : Ghosts N} (t : Table) (b : Buckets N kept) (k n : ℕ) → 0 < k → n ≡ row_count b.links.lists
    → slot_in (radices t) k b.tick * weight k (radices t) ≡ b.tick
    → next_len t b k ≤ pace_for (radices t) n k * ticks_to_half (radices t) b.tick k
enough t b k n z e h =
    let half = halves t k (of_table t).is_table z in
    let p : n ≤ pace_for (radices t) n k * ticks_to_half (radices t) b.tick k =
    pace_begun (radices t) k b.tick n half.half half.is half.some h in
    let one = one_of_rows (next_list (radices t) b.tick k) b.links.lists in
    omega arith

-- Wheel by wheel.

-- the wheels up to w have moved, and the others have not yet
pub record AreMoving {N : Type 0} {ghosts : Ghosts N} (t : Table) (old new : Buckets N ghosts) (paces paces2 : List ℕ) (moves w : ℕ) : Type 0 where
  pub at_most : moves ≤ sum_below paces w
  pub falls : potential_of t new + moves ≡ potential_of t old
  pub done : (k : ℕ) → 0 < k → k < w → k < length (radices t) → HasMoved t old new paces paces2 k
  pub rest : (k : ℕ) → 0 < k → w ≤ k → k < length (radices t) → next_len t new k ≤ next_len t old k
  pub kept : (k : ℕ) → w ≤ k → pace_at paces2 k ≡ pace_at paces k
  pub lower : (k : ℕ) → pace_at paces2 k ≤ pace_at paces k

pub moving_more : {N : Type 0} {kept : Ghosts N} (t : Table) (old mid new : Buckets N kept) (paces paces2 paces3 : List ℕ) (moves w more : ℕ) → AreMoving t old mid paces paces2 moves w
    → 0 < w → w < length (radices t) → HasMoved t mid new paces2 paces3 w → OthersShrink t w mid new
    → ((k : ℕ) → k ≢ w → pace_at paces3 k ≡ pace_at paces2 k) → more ≤ pace_at paces2 w → potential_of t new + more ≡ potential_of t mid
    → AreMoving t old new paces paces3 (moves + more) (w + 1)
moving_more t old mid new paces paces2 paces3 moves w more m z l moved others paces_same most falls = record {
  at_most =
      let e : sum_below paces (w + 1) ≡ sum_below paces w + pace_at paces w =
      (let q : w + 1 ≡ suc w = omega arith in ap (sum_below paces) q) in
      omega (arith, m.at_most, m.kept w (omega arith));
  falls = omega (arith, m.falls);
  done = λ k a b c. elim (cases_eq k w) [
    | inl e ↦ subst (λ (x : ℕ). HasMoved t old new paces paces3 x) (sym e) here
    | inr n ↦ before k a (omega arith) c n
  ];
  rest = λ k a b c. omega (arith, others k a c (λ (e : k ≡ w). omega arith), m.rest k a (omega arith) c);
  kept = λ k b. paces_same k (λ (e : k ≡ w). omega arith) ∙ m.kept k (omega arith);
  lower = λ k. elim (cases_eq k w) [
    | inl e ↦ subst (λ (x : ℕ). pace_at paces3 x ≤ pace_at paces x) (sym e) lower_here
    | inr n ↦ omega (arith, paces_same k n, m.lower k)
  ];
} where
  here : HasMoved t old new paces paces3 w
  here = record {
    fewer = omega (arith, moved.fewer, m.kept w (omega arith), m.rest w z (omega arith) l);
    pace = elim moved.pace [
      | inl e ↦ inl (e ∙ m.kept w (omega arith))
      | inr e ↦ inr e
    ];
  }

  before : (k : ℕ) → 0 < k → k < w → k < length (radices t) → k ≢ w → HasMoved t old new paces paces3 k
  before k a b c n = record {
    fewer = omega (arith, others k a c n, (m.done k a b c).fewer);
    pace = elim (m.done k a b c).pace [
      | inl e ↦ inl (paces_same k n ∙ e)
      | inr e ↦ inr (paces_same k n ∙ e.0, (let o = others k a c n in let f = e.1 in omega arith))
    ];
  }

  lower_here : pace_at paces3 w ≤ pace_at paces w
  lower_here = elim moved.pace [
    | inl e ↦ omega (arith, m.kept w (omega arith))
    | inr e ↦ (let f = e.0 in omega arith)
  ]

-- with no pace nothing is left to move
pub none_to_move : {N : Type 0} {kept : Ghosts N} (t : Table) (b : Buckets N kept) (paces : List ℕ) → 0 ≡ pace_sum paces → (k : ℕ) → k < length (radices t)
    → HasMoved t b b paces paces k
none_to_move t b paces e k l =
    let z : pace_at paces k ≡ 0 = omega (arith, one_of_sum paces MOST_WHEELS k (few_wheels t k l)) in
    record { fewer = omega arith; pace = inl refl }

-- the paces of the wheels up to w are fixed
pub record AreFixed {N : Type 0} {kept : Ghosts N} (t : Table) (b : Buckets N kept) (paces paces2 : List ℕ) (w : ℕ) : Type 0 where
  pub begun : (k : ℕ) → 0 < k → k < w → k < length (radices t) → slot_in (radices t) k b.tick * weight k (radices t) ≡ b.tick
      → next_len t b k ≤ pace_at paces2 k * ticks_to_half (radices t) b.tick k
  pub others : (k : ℕ) → slot_in (radices t) k b.tick * weight k (radices t) ≢ b.tick → pace_at paces2 k ≡ pace_at paces k
  pub fit : (n : ℕ) → row_count b.links.lists ≤ n → FitPaces (radices t) n paces → FitPaces (radices t) n paces2

-- How many timers the next buckets have.

-- how many timers the next buckets of wheels 1 to n have
abbrev pub next_lens : {N : Type 0} {kept : Ghosts N} → Table → Buckets N kept → ℕ → ℕ
next_lens t b n = next_lengths (radices t) b.tick b.links.lists n

pub lens_more : {N : Type 0} {kept : Ghosts N} (t : Table) (b : Buckets N kept) (w : ℕ) → 0 < w → next_lens t b w ≡ next_lens t b (w - 1) + next_len t b w
lens_more t b zero z = absurd (omega arith)
lens_more t b (suc n) z =
    let e : suc n - 1 ≡ n = omega arith in
    ap (λ (x : ℕ). next_lens t b x + next_len t b (suc n)) (sym e)

lens_fewer : {N : Type 0} {kept : Ghosts N} (t : Table) (b c : Buckets N kept) (n : ℕ) → ((k : ℕ) → 0 < k → k ≤ n → next_len t c k ≤ next_len t b k)
    → next_lens t c n ≤ next_lens t b n
lens_fewer t b c zero f = omega arith
lens_fewer t b c (suc n) f = omega (arith, lens_fewer t b c n (λ k z l. f k z (omega arith)), f (suc n) (omega arith) (omega arith))

-- what a tick moves, wheel by wheel, is at most what stands there
pub counted_more : {N : Type 0} {kept : Ghosts N} (t : Table) (old mid new : Buckets N kept) (moves w more : ℕ) → 0 < w → w < length (radices t)
    → moves + next_lens t mid (w - 1) ≤ next_lens t old (w - 1) → next_len t mid w ≤ next_len t old w
    → more + next_len t new w ≡ next_len t mid w → OthersShrink t w mid new
    → moves + more + next_lens t new (w + 1 - 1) ≤ next_lens t old (w + 1 - 1)
counted_more t old mid new moves w more above in_table so_far fewer here others =
    let e : w + 1 - 1 ≡ w = omega arith in
    let below : next_lens t new (w - 1) ≤ next_lens t mid (w - 1) =
    lens_fewer t mid new (w - 1) (λ k z l. others k z (omega arith) (λ (q : k ≡ w). omega arith)) in
    subst (λ (x : ℕ). moves + more + next_lens t new x ≤ next_lens t old x) (sym e)
    (omega (arith, lens_more t new w above, lens_more t old w above))
