-- Lemmas about `IsFiled`: a start files a timer, and a later deadline or ticks before the visit keep it filed. Which bucket
-- a tick empties.
use Rattle.std.proofs.Common.{◌≡◌, ◌≢◌, ◌<◌, ◌≤◌, ◌+◌, ◌-◌, ◌*◌, ◌/◌, ◌%◌, ℕ, List, [], ◌∷◌, sym, ◌∙◌, ap, inl, inr, arith}
use Rattle.std.proofs.lemmas.Bool.{cases_eq}
use Rattle.std.proofs.Math.Nat.{mul-div_right}
use Rattle.timer_wheels.specs.Types.{Row}
use Rattle.timer_wheels.specs.BucketLists.{row_timer}
use Rattle.timer_wheels.specs.Digits.{IsTable, HasDigits, level, digit, slots, bucket, list_of_slot, emptied, BucketAtTick}
use Rattle.timer_wheels.specs.lazy.Filed.{IsAhead, IsFiled}
use Rattle.timer_wheels.specs.hier.Leap.{list_visit, timer_visit}
use Rattle.timer_wheels.proofs.table_lemmas.DigitLaws.{bucket_far, bucket_at_tick, emptied_here, emptied_above, less_quotient, quotient_not_zero, visit_here, visit_above}
use Rattle.timer_wheels.proofs.table_lemmas.VisitLaws.{visit_near, visit_far, visit_later, visit_in_time, level_stays, list_first, list_is}

-- the visit of a bucket has the bucket
visit_bucket : (table : List ℕ) (a d : ℕ) → IsTable table → HasDigits table d → a < d
    → bucket table a (timer_visit table a d) ≡ bucket table a d
visit_bucket [] a d t i h = absurd (let z : d ≡ 0 = i in omega arith)
visit_bucket (r ∷ rs) a d t i h = elim (cases_eq (a / r) (d / r)) [
  | inl e ↦ ap (bucket (r ∷ rs) a) (visit_near r rs a d e)
  | inr e ↦
      let v : ℕ = timer_visit rs (a / r) (d / r) in
      let less : a / r < d / r = less_quotient r a d h t.0 e in
      let later : a / r < v = visit_later rs (a / r) (d / r) t.1 less in
      let q : r * v / r ≡ v = mul-div_right v t.0 in
      let ih : bucket rs (a / r) v ≡ bucket rs (a / r) (d / r) = visit_bucket rs (a / r) (d / r) t.1 i less in
      ap (bucket (r ∷ rs) a) (visit_far r rs a d e)
      ∙ (bucket_far r rs a (r * v) (λ (x : a / r ≡ r * v / r). let y : a / r ≡ v = x ∙ q in omega arith)
      ∙ (ap (λ (x : ℕ). r + bucket rs (a / r) x) q
      ∙ (ap (λ (x : ℕ). r + x) ih ∙ sym (bucket_far r rs a d e))))
]

-- a timer that comes to its own bucket
module _ (table : List ℕ) (now d s : ℕ) (t : IsTable table) (i : HasDigits table d) (h : now < d) (at : bucket table now d ≡ s) where
  visit_is : list_visit table s now ≡ timer_visit table now d
  visit_is = ap (λ (x : ℕ). list_visit table x now) (sym at) ∙ list_is table now d t i h

  pub is_ahead : IsAhead table now s
  is_ahead = record {
    later = omega (arith, visit_is, visit_later table now d t h);
    is_bucket = ap (bucket table now) visit_is ∙ (visit_bucket table now d t i h ∙ at);
  }

  pub not_after : list_visit table s now ≤ d
  not_after = omega (arith, visit_is, visit_in_time table now d t)

pub is_filed : (table : List ℕ) (now s : ℕ) (row : Row) → IsTable table → HasDigits table (row_timer row).deadline
    → now < (row_timer row).deadline → bucket table now (row_timer row).deadline ≡ s → row.1.rounds ≡ 0 → 0 < (row_timer row).serial
    → IsFiled table now s row
is_filed table now s row t i h at z p = record {
  ahead = is_ahead table now (row_timer row).deadline s t i h at;
  in_time = not_after table now (row_timer row).deadline s t i h at;
  no_rounds = z;
  numbered = p;
}

-- a later deadline, in place
pub still_filed : (table : List ℕ) (now s : ℕ) (row row2 : Row) → (row_timer row).deadline ≤ (row_timer row2).deadline
    → row2.1.rounds ≡ 0 → 0 < (row_timer row2).serial → IsFiled table now s row → IsFiled table now s row2
still_filed table now s row row2 h z p f = record {
  ahead = f.ahead;
  in_time = let k : list_visit table s now ≤ (row_timer row).deadline = f.in_time in omega arith;
  no_rounds = z;
  numbered = p;
}

-- A bucket that is ahead.

module _ (table : List ℕ) (a s : ℕ) (t : IsTable table) (i : HasDigits table (list_visit table s a)) (f : IsAhead table a s) where
  abbrev v : ℕ
  v = list_visit table s a

  at_tick : BucketAtTick table a v
  at_tick = bucket_at_tick table a v t i f.later

  -- it is one of the buckets
  pub ahead_in_range : s < slots table
  ahead_in_range = omega (arith, at_tick.in_range, f.is_bucket)

  own_visit : timer_visit table a v ≡ v
  own_visit = sym (list_is table a v t i f.later) ∙ ap (λ (x : ℕ). list_visit table x a) f.is_bucket

  -- until its visit it stays ahead, and its visit does not get later
  pub ahead_until : (b : ℕ) → a ≤ b → b < v → IsAhead table b s × (list_visit table s b ≤ v)
  ahead_until b h k =
      let stays : level table b v ≡ level table a v = level_stays table a b v t i f.later h (omega (arith, own_visit)) in
      let at : bucket table b v ≡ s = ap (λ (x : ℕ). list_of_slot table x (digit table x v)) stays ∙ f.is_bucket in
      (is_ahead table b v s t i k at, not_after table b v s t i k at)

  -- the tick that visits it empties it
  pub emptied_there : a + 1 ≡ v → s ≡ emptied table (a + 1)
  emptied_there e = elim at_tick.is [
    | inl y ↦ sym f.is_bucket ∙ y.0
    | inr y ↦ absurd (y.1.0 (sym e))
  ]

  -- and a tick that empties another one comes before its visit
  pub visited_later : s ≢ emptied table (a + 1) → a + 1 < v
  visited_later n = elim at_tick.is [
    | inl y ↦ absurd (n (sym f.is_bucket ∙ y.0))
    | inr y ↦ (let apart : v ≢ a + 1 = y.1.0 in let first : a < v = f.later in omega arith)
  ]

  -- a list that does not come after it is not visited later
  pub visited_first : (l : ℕ) → l ≤ s → list_visit table l a ≤ v
  visited_first l h = omega (arith, list_first table l a v t i f.later (omega (arith, f.is_bucket)), own_visit)

-- The bucket that a tick empties.

-- it is visited then
visit_of_emptied : (table : List ℕ) (t : ℕ) → IsTable table → HasDigits table t → t ≢ 0 → list_visit table (emptied table t) t ≡ t
visit_of_emptied [] t i h n = absurd (n h)
visit_of_emptied (r ∷ rs) t i h n = elim (cases_eq (t % r) 0) [
  | inl e ↦
      let z : 0 < r = i.0 in
      let ih : list_visit rs (emptied rs (t / r)) (t / r) ≡ t / r = visit_of_emptied rs (t / r) i.1 h (quotient_not_zero r t z n e) in
      let f : r + emptied rs (t / r) - r ≡ emptied rs (t / r) = omega arith in
      rw (emptied_above r rs t e, visit_above r rs (r + emptied rs (t / r)) t (omega arith), f, ih) (omega arith)
  | inr e ↦
      let z : 0 < r = i.0 in
      rw (emptied_here r rs t e, visit_here r rs (t % r) t (omega arith)) (omega arith)
]

-- no timer comes to it then
pub goes_elsewhere : (table : List ℕ) (t d : ℕ) → IsTable table → HasDigits table t → HasDigits table d → t ≢ 0 → t < d
    → bucket table t d ≢ emptied table t
goes_elsewhere table t d i ht hd n h e =
    let f : t < list_visit table (emptied table t) t = (is_ahead table t d (emptied table t) i hd h e).later in
    omega (arith, visit_of_emptied table t i ht n)
