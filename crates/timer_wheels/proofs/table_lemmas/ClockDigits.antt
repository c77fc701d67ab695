-- The buckets and visits of `Table::Clock`, by quotients: seconds, minutes, hours and days.
use Rattle.std.proofs.Common.{◌≡◌, ◌≢◌, ◌<◌, ◌≤◌, ◌+◌, ◌-◌, ◌*◌, ◌/◌, ◌%◌, ℕ, List, [], ◌∷◌, refl, sym, ◌∙◌, arith}
use Rattle.timer_wheels.specs.Digits.{bucket, emptied}
use Rattle.timer_wheels.specs.Tables.{clock}
use Rattle.timer_wheels.proofs.table_lemmas.DigitLaws.{bucket_near, bucket_far, emptied_here, emptied_above, visit_here, visit_above}
use Rattle.timer_wheels.specs.hier.Leap.{list_visit}

-- the wheels from the minutes on, those from the hours on, and that of the days
abbrev minutes : List ℕ
minutes = 60 ∷ 24 ∷ 100 ∷ []

abbrev hours : List ℕ
hours = 24 ∷ 100 ∷ []

abbrev days : List ℕ
days = 100 ∷ []

clock_is : clock ≡ 60 ∷ minutes
unfolding clock
clock_is = refl

days_end : (t : ℕ) → t ≤ 8639999 → t / 60 / 60 / 24 / 100 ≡ 0
days_end t h = omega arith

-- The four wheels.

-- Now is before the deadline: both are in one minute, hour or day if the deadline's has begun.
module _ (a d : ℕ) where
  pub bucket_second : a < d → 60 * (d / 60) ≤ a → d - 60 * (d / 60) ≡ bucket clock a d
  bucket_second l b =
      let e : a / 60 ≡ d / 60 = omega arith in
      rw clock_is (omega (arith, bucket_near 60 minutes a d e))

  pub bucket_minute : a < d → a < 60 * (d / 60) → 3600 * (d / 60 / 60) ≤ a
      → 60 + (d / 60 - 60 * (d / 60 / 60)) ≡ bucket clock a d
  bucket_minute l f b =
      let n : a / 60 ≢ d / 60 = omega arith in
      let e : a / 60 / 60 ≡ d / 60 / 60 = omega arith in
      rw clock_is (omega (arith, bucket_far 60 minutes a d n, bucket_near 60 hours (a / 60) (d / 60) e))

  pub bucket_hour : a < d → a < 3600 * (d / 60 / 60) → 86400 * (d / 60 / 60 / 24) ≤ a
      → 120 + (d / 60 / 60 - 24 * (d / 60 / 60 / 24)) ≡ bucket clock a d
  bucket_hour l f b =
      let n : a / 60 ≢ d / 60 = omega arith in
      let m : a / 60 / 60 ≢ d / 60 / 60 = omega arith in
      let e : a / 60 / 60 / 24 ≡ d / 60 / 60 / 24 = omega arith in
      let days_up = bucket_near 24 days (a / 60 / 60) (d / 60 / 60) e in
      rw clock_is (omega (arith, bucket_far 60 minutes a d n, bucket_far 60 hours (a / 60) (d / 60) m))

  pub bucket_day : a < d → d ≤ 8639999 → a < 86400 * (d / 60 / 60 / 24) → 144 + d / 60 / 60 / 24 ≡ bucket clock a d
  bucket_day l r f =
      let n : a / 60 ≢ d / 60 = omega arith in
      let m : a / 60 / 60 ≢ d / 60 / 60 = omega arith in
      let k : a / 60 / 60 / 24 ≢ d / 60 / 60 / 24 = omega arith in
      let e : d / 60 / 60 / 24 / 100 ≡ 0 = days_end d r in
      let top = bucket_near 100 [] (a / 60 / 60 / 24) (d / 60 / 60 / 24) (days_end a (omega arith) ∙ sym e) in
      let last = bucket_far 24 days (a / 60 / 60) (d / 60 / 60) k in
      rw clock_is (omega (arith, bucket_far 60 minutes a d n, bucket_far 60 hours (a / 60) (d / 60) m))

module _ (t : ℕ) where
  pub emptied_second : t % 60 ≢ 0 → t % 60 ≡ emptied clock t
  emptied_second n = rw clock_is (sym (emptied_here 60 minutes t n))

  pub emptied_minute : t % 60 ≡ 0 → t / 60 % 60 ≢ 0 → 60 + t / 60 % 60 ≡ emptied clock t
  emptied_minute e n = rw clock_is (omega (arith, emptied_above 60 minutes t e, emptied_here 60 hours (t / 60) n))

  pub emptied_hour : t % 60 ≡ 0 → t / 60 % 60 ≡ 0 → t / 60 / 60 % 24 ≢ 0 → 120 + t / 60 / 60 % 24 ≡ emptied clock t
  emptied_hour e f n =
      let last = emptied_here 24 days (t / 60 / 60) n in
      rw clock_is (omega (arith, emptied_above 60 minutes t e, emptied_above 60 hours (t / 60) f))

  pub emptied_day : 0 < t → t ≤ 8639999 → t % 60 ≡ 0 → t / 60 % 60 ≡ 0 → t / 60 / 60 % 24 ≡ 0 → 144 + t / 60 / 60 / 24 ≡ emptied clock t
  emptied_day p r e f g =
      let w : t / 60 / 60 / 24 / 100 ≡ 0 = days_end t r in
      let n : t / 60 / 60 / 24 % 100 ≢ 0 = omega arith in
      let top = emptied_here 100 [] (t / 60 / 60 / 24) n in
      let last = emptied_above 24 days (t / 60 / 60) g in
      rw clock_is (omega (arith, emptied_above 60 minutes t e, emptied_above 60 hours (t / 60) f))

module _ (l now : ℕ) where
  pub clock_visit_second : l < 60 → 60 * (now / 60) + l ≡ list_visit clock l now
  clock_visit_second h = rw clock_is (sym (visit_here 60 minutes l now h))

  pub clock_visit_minute : 60 ≤ l → l < 120 → 60 * (60 * (now / 60 / 60) + (l - 60)) ≡ list_visit clock l now
  clock_visit_minute a b =
      let last = visit_here 60 hours (l - 60) (now / 60) (omega arith) in
      rw clock_is (omega (arith, visit_above 60 minutes l now a))

  pub clock_visit_hour : 120 ≤ l → l < 144 → 60 * (60 * (24 * (now / 60 / 60 / 24) + (l - 120))) ≡ list_visit clock l now
  clock_visit_hour a b =
      let last = visit_here 24 days (l - 60 - 60) (now / 60 / 60) (omega arith) in
      let above = visit_above 60 hours (l - 60) (now / 60) (omega arith) in
      rw clock_is (omega (arith, visit_above 60 minutes l now (omega arith)))

  pub clock_visit_day : 144 ≤ l → l < 244 → now ≤ 8639999 → 60 * (60 * (24 * (l - 144))) ≡ list_visit clock l now
  clock_visit_day a b r =
      let top = visit_here 100 [] (l - 60 - 60 - 24) (now / 60 / 60 / 24) (omega arith) in
      let last = visit_above 24 days (l - 60 - 60) (now / 60 / 60) (omega arith) in
      let above = visit_above 60 hours (l - 60) (now / 60) (omega arith) in
      rw clock_is (omega (arith, days_end now r, visit_above 60 minutes l now (omega arith)))

-- what the functions of the table return
pub ruleset clock_buckets = (bucket_second, bucket_minute, bucket_hour, bucket_day)

pub ruleset clock_emptied = (emptied_second, emptied_minute, emptied_hour, emptied_day)

pub ruleset clock_visits = (clock_visit_second, clock_visit_minute, clock_visit_hour, clock_visit_day)
