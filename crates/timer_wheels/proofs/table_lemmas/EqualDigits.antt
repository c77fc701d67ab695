-- Tables of equal digits: their slots and weights, and buckets and visits by one digit after another.
use Rattle.std.proofs.Common.{◌≡◌, ◌≢◌, ◌<◌, ◌≤◌, ◌+◌, ◌-◌, ◌*◌, ◌/◌, ◌%◌, ◌^◌, ◌==◌, nat_eq, ℕ, zero, suc, length, refl, sym, ◌∙◌, ap, subst, arith, inl, inr}
use Rattle.std.proofs.lemmas.Bool.{cases_eq}
use Rattle.std.proofs.lemmas.Nat.{pow-add, pow_pos}
use Rattle.std.proofs.Math.Nat.{div-div-eq-div-mul, div-le_self, div-mul-le_self, div-lt_iff_lt-mul, mul-le-mul_right, mul-suc, mul-zero, mul_comm, mul_left_comm, pow-le-pow_right, mod-eq_of_lt, mod-lt}
use Rattle.timer_wheels.specs.Digits.{copies, equals, AreFew, IsTable, HasDigits, radix, weight, span, last_of, lowest_radix, slots_below, slots, level, bucket, emptied}
use Rattle.timer_wheels.specs.hier.Leap.{list_visit}
use Rattle.timer_wheels.specs.smooth.Smooth.{slot_in, smooth_list}
use Rattle.timer_wheels.proofs.table_lemmas.DigitLaws.{quotient_is, bucket_near, bucket_far, emptied_here, emptied_above, quotient_not_zero, visit_here, visit_above, less_quotient, level_near, level_far}

-- Powers of two.

more : (b k : ℕ) → 2 ^ (b * suc k) ≡ 2 ^ (b * k) * 2 ^ b
more b k = ap (λ (e : ℕ). 2 ^ e) (mul-suc b k) ∙ pow-add 2 (b * k) b

none : (b : ℕ) → 2 ^ (b * zero) ≡ 1
none b = ap (λ (e : ℕ). 2 ^ e) (mul-zero b)

pow_mono : (i j : ℕ) → i ≤ j → 2 ^ i ≤ 2 ^ j
pow_mono i j h = pow-le-pow_right (let z : 0 < 2 = omega arith in z) h

few_values : (b : ℕ) → b ≤ 6 → 2 ^ b ≤ 64
few_values b h = pow_mono b 6 h

two_values : (b : ℕ) → 0 < b → 2 ≤ 2 ^ b
two_values b h = pow_mono 1 b (omega arith)

pub few_radix : (b : ℕ) → b ≤ 6 → 1 * 2 ^ b % 18446744073709551616 ≤ 64
few_radix b h = omega (arith, few_values b h)

few_bits : (b n : ℕ) → b ≤ 6 → n ≤ 10 → b * n ≤ 60
few_bits b n h k = omega (arith, mul-le-mul_right n h)

-- n wheels of r slots.

module _ (r : ℕ) where
  pub are_table : (n : ℕ) → 0 < r → IsTable (copies r n)
  are_table zero h = tt
  are_table (suc n) h = (h, are_table n h)

  length_is : (n : ℕ) → length (copies r n) ≡ n
  length_is zero = refl
  length_is (suc n) = ap suc (length_is n)

  pub slots_below_is : (n k : ℕ) → k ≤ n → slots_below k (copies r n) ≡ r * k
  slots_below_is zero k h = let e : k ≡ 0 = omega arith in rw e (sym (mul-zero r))
  slots_below_is (suc n) zero h = sym (mul-zero r)
  slots_below_is (suc n) (suc k) h = omega (arith, slots_below_is n k (omega arith), mul-suc r k)

  slots_is : (n : ℕ) → slots (copies r n) ≡ r * n
  slots_is n = ap (λ (k : ℕ). slots_below k (copies r n)) (length_is n) ∙ slots_below_is n n (omega arith)

  pub radix_is : (n k : ℕ) → k < n → radix k (copies r n) ≡ r
  radix_is zero k h = absurd (omega arith)
  radix_is (suc n) zero h = refl
  radix_is (suc n) (suc k) h = radix_is n k (omega arith)

  lowest_is : (n : ℕ) → 0 < n → lowest_radix (copies r n) ≡ r
  lowest_is zero h = absurd (omega arith)
  lowest_is (suc n) h = refl

  -- the wheel of a bucket
  level_step : (n a d : ℕ) → 0 < r → HasDigits (copies r n) d → a < d → bucket (copies r n) a d / r ≡ level (copies r n) a d
  level_step zero a d z h l = absurd (let e : d ≡ 0 = h in omega arith)
  level_step (suc n) a d z h l = elim (cases_eq (a / r) (d / r)) [
    | inl e ↦ quotient_is r 0 (d % r) (bucket (copies r (suc n)) a d) (mod-lt d z) (omega (arith, mul-zero r, bucket_near r (copies r n) a d e))
        ∙ sym (level_near r (copies r n) a d e)
    | inr e ↦
        let b : ℕ = bucket (copies r n) (a / r) (d / r) in
        quotient_is r (suc (b / r)) (b % r) (bucket (copies r (suc n)) a d) (mod-lt b z)
        (omega (arith, mul-suc r (b / r), bucket_far r (copies r n) a d e))
        ∙ (ap suc (level_step n (a / r) (d / r) z h (less_quotient r a d l z e)) ∙ sym (level_far r (copies r n) a d e))
  ]

-- n digits of b bits.

module _ (b : ℕ) where
  pub has_digits : (n t : ℕ) → t < 2 ^ (b * n) → HasDigits (copies (2 ^ b) n) t
  has_digits zero t h = omega (arith, none b)
  has_digits (suc n) t h = has_digits n (t / 2 ^ b) ((div-lt_iff_lt-mul (pow_pos b)).1 (subst (λ (x : ℕ). t < x) (more b n) h))

  weight_is : (n k : ℕ) → k < n → weight k (copies (2 ^ b) n) ≡ 2 ^ (b * k)
  weight_is zero k h = absurd (omega arith)
  weight_is (suc n) zero h = sym (none b)
  weight_is (suc n) (suc k) h = ap (λ (x : ℕ). 2 ^ b * x) (weight_is n k (omega arith)) ∙ (mul_comm (2 ^ b) (2 ^ (b * k)) ∙ sym (more b k))

  span_is : (n : ℕ) → span (copies (2 ^ b) n) ≡ 2 ^ (b * n)
  span_is zero = sym (none b)
  span_is (suc n) = ap (λ (x : ℕ). 2 ^ b * x) (span_is n) ∙ (mul_comm (2 ^ b) (2 ^ (b * n)) ∙ sym (more b n))

  -- a tick of the clock, in bits
  below_end : (n t : ℕ) → t ≤ last_of (copies (2 ^ b) n) → t < 2 ^ (b * n)
  below_end n t h = omega (arith, span_is n, pow_pos (b * n))

  digits_in : (n t : ℕ) → t ≤ last_of (copies (2 ^ b) n) → HasDigits (copies (2 ^ b) n) t
  digits_in n t h = has_digits n t (below_end n t h)

  visit_step : (n k s a : ℕ) → k < n → s < 2 ^ b
      → list_visit (copies (2 ^ b) n) (2 ^ b * k + s) a ≡ (a / 2 ^ (b * k) - a / 2 ^ (b * k) % 2 ^ b + s) * 2 ^ (b * k)
  visit_step zero k s a h c = absurd (omega arith)
  visit_step (suc n) zero s a h c =
      let e : 2 ^ b * zero + s ≡ s = omega (arith, mul-zero (2 ^ b)) in
      let d : a / 1 ≡ a = omega arith in
      rw (e, none b, d, visit_here (2 ^ b) (copies (2 ^ b) n) s a c) (omega (arith, pow_pos b))
  visit_step (suc n) (suc k) s a h c =
      let r : ℕ = 2 ^ b in
      let w : ℕ = 2 ^ (b * k) in
      let p : 2 ^ (b * suc k) ≡ r * w = more b k ∙ mul_comm w r in
      let q : a / 2 ^ (b * suc k) ≡ a / r / w = ap (λ (x : ℕ). a / x) p ∙ sym (div-div-eq-div-mul a r w) in
      let e : r * suc k + s - r ≡ r * k + s = omega (arith, mul-suc r k) in
      let g : r ≤ r * suc k + s = omega (arith, mul-suc r k) in
      visit_above r (copies r n) (r * suc k + s) a g
      ∙ (ap (λ (l : ℕ). r * list_visit (copies r n) l (a / r)) e
      ∙ (ap (λ (x : ℕ). r * x) (visit_step n k s (a / r) (omega arith) c)
      ∙ (ap (λ (y : ℕ). r * ((y - y % r + s) * w)) (sym q)
      ∙ (mul_left_comm r (a / 2 ^ (b * suc k) - a / 2 ^ (b * suc k) % r + s) w
      ∙ ap (λ (x : ℕ). (a / 2 ^ (b * suc k) - a / 2 ^ (b * suc k) % r + s) * x) (sym p)))))

  -- no bit is lost
  in_word : (n k s a : ℕ) → b ≤ 6 → n ≤ 10 → k < n → s < 2 ^ b → a < 2 ^ (b * n)
      → (a / 2 ^ (b * k) - a / 2 ^ (b * k) % 2 ^ b + s) * 2 ^ (b * k) < 18446744073709551616
  in_word n k s a few most h c l =
      let p : ℕ = 2 ^ (b * k) in
      let bits : b * k ≤ 54 = omega (arith, mul-le-mul_right k few) in
      let small : p ≤ 2 ^ 54 = pow_mono (b * k) 54 bits in
      let whole : 2 ^ (b * n) ≤ 2 ^ 60 = pow_mono (b * n) 60 (few_bits b n few most) in
      let q : ℕ = a / 2 ^ (b * k) in
      let rest : ℕ = q % 2 ^ b in
      let less : q - rest ≤ q = omega arith in
      let s1 : s ≤ 63 = omega (arith, few_values b few) in
      let f : (q - rest) * p ≤ q * p = mul-le-mul_right p less in
      let m : s * p ≤ 63 * p = mul-le-mul_right p s1 in
      omega (arith, div-mul-le_self a (2 ^ (b * k)))

-- The wheels that a loop has passed: `below` slots are theirs, and the others are a table of `rest` digits.

-- of a timer's bucket
pub record IsBucketAbove (r n now deadline below a d : ℕ) : Type 0 where
  pub rest : ℕ
  pub passed : below + r * rest ≡ r * n
  pub later : a < d
  pub digits : HasDigits (copies r rest) d
  pub is : bucket (copies r n) now deadline ≡ below + bucket (copies r rest) a d

-- of the list that a tick empties
pub record IsEmptiedAbove (r n tick below t : ℕ) : Type 0 where
  pub rest : ℕ
  pub passed : below + r * rest ≡ r * n
  pub later : 0 < t
  pub digits : HasDigits (copies r rest) t
  pub is : emptied (copies r n) tick ≡ below + emptied (copies r rest) t

module _ (r n now deadline below a d : ℕ) (z : 0 < r) where
  bucket_step : (rest : ℕ) → below + r * rest ≡ r * n → a < d → HasDigits (copies r rest) d
      → bucket (copies r n) now deadline ≡ below + bucket (copies r rest) a d → a / r ≢ d / r
      → IsBucketAbove r n now deadline (below + r) (a / r) (d / r)
  bucket_step zero p l h e ne = absurd (let y : d ≡ 0 = h in omega arith)
  bucket_step (suc rest) p l h e ne = record {
    rest = rest;
    passed = omega (arith, p, mul-suc r rest);
    later = less_quotient r a d l z ne;
    digits = h;
    is = omega (arith, e, bucket_far r (copies r rest) a d ne);
  }

  bucket_end : (rest : ℕ) → below + r * rest ≡ r * n → a < d → HasDigits (copies r rest) d
      → bucket (copies r n) now deadline ≡ below + bucket (copies r rest) a d → a / r ≡ d / r
      → bucket (copies r n) now deadline ≡ below + d % r
  bucket_end zero p l h e same = absurd (let y : d ≡ 0 = h in omega arith)
  bucket_end (suc rest) p l h e same = omega (arith, e, bucket_near r (copies r rest) a d same)

  bucket_left : (rest : ℕ) → below + r * rest ≡ r * n → a < d → HasDigits (copies r rest) d → below + r ≤ r * n
  bucket_left zero p l h = absurd (let y : d ≡ 0 = h in omega arith)
  bucket_left (suc rest) p l h = omega (arith, p, mul-suc r rest)

  pub bucket_room : IsBucketAbove r n now deadline below a d → below + r ≤ r * n
  bucket_room i = bucket_left i.rest i.passed i.later i.digits

  pub bucket_more : IsBucketAbove r n now deadline below a d → a / r ≢ d / r → IsBucketAbove r n now deadline (below + r) (a / r) (d / r)
  bucket_more i = bucket_step i.rest i.passed i.later i.digits i.is

  pub bucket_found : IsBucketAbove r n now deadline below a d → a / r ≡ d / r
      → bucket (copies r n) now deadline ≡ below + d % r
  bucket_found i = bucket_end i.rest i.passed i.later i.digits i.is

module _ (r n tick below t : ℕ) (z : 0 < r) where
  emptied_step : (rest : ℕ) → below + r * rest ≡ r * n → 0 < t → HasDigits (copies r rest) t
      → emptied (copies r n) tick ≡ below + emptied (copies r rest) t → t % r ≡ 0
      → IsEmptiedAbove r n tick (below + r) (t / r)
  emptied_step zero p l h e zeros = absurd (let y : t ≡ 0 = h in omega arith)
  emptied_step (suc rest) p l h e zeros = record {
    rest = rest;
    passed = omega (arith, p, mul-suc r rest);
    later = omega (arith, quotient_not_zero r t z (let y : t ≢ 0 = omega arith in y) zeros);
    digits = h;
    is = omega (arith, e, emptied_above r (copies r rest) t zeros);
  }

  emptied_end : (rest : ℕ) → below + r * rest ≡ r * n → 0 < t → HasDigits (copies r rest) t
      → emptied (copies r n) tick ≡ below + emptied (copies r rest) t → t % r ≢ 0
      → emptied (copies r n) tick ≡ below + t % r
  emptied_end zero p l h e ne = absurd (let y : t ≡ 0 = h in omega arith)
  emptied_end (suc rest) p l h e ne = omega (arith, e, emptied_here r (copies r rest) t ne)

  emptied_left : (rest : ℕ) → below + r * rest ≡ r * n → 0 < t → HasDigits (copies r rest) t → below + r ≤ r * n
  emptied_left zero p l h = absurd (let y : t ≡ 0 = h in omega arith)
  emptied_left (suc rest) p l h = omega (arith, p, mul-suc r rest)

  pub emptied_room : IsEmptiedAbove r n tick below t → below + r ≤ r * n
  emptied_room i = emptied_left i.rest i.passed i.later i.digits

  pub emptied_more : IsEmptiedAbove r n tick below t → t % r ≡ 0 → IsEmptiedAbove r n tick (below + r) (t / r)
  emptied_more i = emptied_step i.rest i.passed i.later i.digits i.is

  pub emptied_found : IsEmptiedAbove r n tick below t → t % r ≢ 0 → emptied (copies r n) tick ≡ below + t % r
  emptied_found i = emptied_end i.rest i.passed i.later i.digits i.is

-- What the functions of such a table return. `r` is a radix that they have in a variable.

module _ (b n : ℕ) (f : AreFew b n) where
  positive : 0 < 2 ^ b
  positive = pow_pos b

  pub begun_bucket : (r now deadline : ℕ) → r ≡ 2 ^ b → now < deadline → deadline ≤ last_of (equals b n)
      → IsBucketAbove r n now deadline 0 now deadline
  unfolding equals
  begun_bucket r now deadline e l h = rw e (record {
    rest = n;
    passed = omega arith;
    later = l;
    digits = digits_in b n deadline h;
    is = omega arith;
  })

  pub begun_emptied : (r tick : ℕ) → r ≡ 2 ^ b → 0 < tick → tick ≤ last_of (equals b n) → IsEmptiedAbove r n tick 0 tick
  unfolding equals
  begun_emptied r tick e l h = rw e (record {
    rest = n;
    passed = omega arith;
    later = l;
    digits = digits_in b n tick h;
    is = omega arith;
  })

  pub last_by_bits : 1 * 2 ^ (b * n) % 18446744073709551616 - 1 ≡ last_of (equals b n)
  unfolding equals
  last_by_bits = omega (arith, span_is b n, pow_mono (b * n) 60 (few_bits b n f.1 f.3))

  pub wheels_are : n ≡ length (equals b n)
  unfolding equals
  wheels_are = sym (length_is (2 ^ b) n)

  pub slots_of_equals : slots (equals b n) ≡ 2 ^ b * n
  unfolding equals
  slots_of_equals = slots_is (2 ^ b) n

  few_lists : 2 ^ b * n ≤ 640
  few_lists = omega (arith, mul-le-mul_right n (few_values b f.1), f.3)

  pub lists_are : n * 2 ^ b % 18446744073709551616 ≡ slots (equals b n)
  lists_are = omega (arith, slots_of_equals, few_lists, mul_comm (2 ^ b) n)

  pub lists_are_few : n * 2 ^ b % 18446744073709551616 ≤ 640
  lists_are_few = omega (arith, few_lists, mul_comm (2 ^ b) n)

  pub weight_by_bits : (k s : ℕ) → k < length (equals b n) → s ≡ b * k → 1 * 2 ^ s % 18446744073709551616 ≡ weight k (equals b n)
  unfolding equals
  weight_by_bits k s h e =
      let w : k < n = omega (arith, h, length_is (2 ^ b) n) in
      let small : 2 ^ (b * k) ≤ 2 ^ 54 = pow_mono (b * k) 54 (omega (arith, mul-le-mul_right k f.1, f.3)) in
      rw e (omega (arith, weight_is b n k w))

  pub slot_by_bits : (k s t : ℕ) → k < length (equals b n) → s ≡ b * k → t / 2 ^ s ≡ slot_in (equals b n) k t
  unfolding equals
  slot_by_bits k s t h e = rw e (ap (λ (x : ℕ). t / x) (sym (weight_is b n k (omega (arith, h, length_is (2 ^ b) n)))))

  pub few_below : (k : ℕ) → k < length (equals b n) → b * k ≤ 54
  few_below k h = omega (arith, mul-le-mul_right k f.1, f.3, wheels_are)

  pub few_wheels : (k : ℕ) → k < length (equals b n) → k ≤ 9
  few_wheels k h = omega (arith, f.3, wheels_are)

  pub last_in_word : last_of (equals b n) ≤ 1152921504606846975
  unfolding equals
  last_in_word = omega (arith, span_is b n, pow_mono (b * n) 60 (few_bits b n f.1 f.3))

  module _ (r : ℕ) (e : r ≡ 2 ^ b) where
    pub lowest_is_radix : r ≡ lowest_radix (equals b n)
    unfolding equals
    lowest_is_radix = e ∙ sym (lowest_is (2 ^ b) n f.2)

    pub revolutions_are : (t : ℕ) → t / r ≡ t / lowest_radix (equals b n)
    revolutions_are t = ap (λ (x : ℕ). t / x) lowest_is_radix

    pub rollover_is : (t : ℕ) → nat_eq (t % r) 0 ≡ (t % lowest_radix (equals b n) == 0)
    rollover_is t = ap (λ (x : ℕ). nat_eq (t % x) 0) lowest_is_radix

    pub shrinks : (t : ℕ) → 0 < t → t / r < t
    shrinks t h =
        let two : 2 ≤ r = omega (arith, e, two_values b f.0) in
        let twice : 2 * (t / r) ≤ r * (t / r) = mul-le-mul_right (t / r) two in
        omega (arith, div-mul-le_self t r, mul_comm r (t / r))

    radix_of_equals : (k : ℕ) → k < length (equals b n) → r ≡ radix k (equals b n)
    unfolding equals
    radix_of_equals k h = e ∙ sym (radix_is (2 ^ b) n k (omega (arith, h, length_is (2 ^ b) n)))

    some : 0 < r
    some = omega (arith, e, positive)

    all_slots : r * n ≡ slots (equals b n)
    all_slots = ap (λ (x : ℕ). x * n) e ∙ sym slots_of_equals

    pub next_bucket : (now deadline below a d : ℕ) → IsBucketAbove r n now deadline below a d → a / r ≢ d / r
        → IsBucketAbove r n now deadline (below + r) (a / r) (d / r)
    next_bucket now deadline below a d = bucket_more r n now deadline below a d some

    pub bucket_is : (now deadline below a d : ℕ) → IsBucketAbove r n now deadline below a d → a / r ≡ d / r
        → below + d % r ≡ bucket (equals b n) now deadline
    unfolding equals
    bucket_is now deadline below a d i h =
        sym (bucket_found r n now deadline below a d some i h) ∙ ap (λ (x : ℕ). bucket (copies x n) now deadline) e

    pub bucket_in_slots : (now deadline below a d : ℕ) → IsBucketAbove r n now deadline below a d → below + d % r < slots (equals b n)
    bucket_in_slots now deadline below a d i =
        omega (arith, bucket_room r n now deadline below a d some i, mod-lt d some, all_slots)

    pub next_emptied : (tick below t : ℕ) → IsEmptiedAbove r n tick below t → t % r ≡ 0 → IsEmptiedAbove r n tick (below + r) (t / r)
    next_emptied tick below t = emptied_more r n tick below t some

    pub emptied_is : (tick below t : ℕ) → IsEmptiedAbove r n tick below t → t % r ≢ 0 → below + t % r ≡ emptied (equals b n) tick
    unfolding equals
    emptied_is tick below t i h = sym (emptied_found r n tick below t some i h) ∙ ap (λ (x : ℕ). emptied (copies x n) tick) e

    pub emptied_in_slots : (tick below t : ℕ) → IsEmptiedAbove r n tick below t → below + t % r < slots (equals b n)
    emptied_in_slots tick below t i = omega (arith, emptied_room r n tick below t some i, mod-lt t some, all_slots)

    -- the slots of a wheel in two revolutions
    pub turns_are : (k : ℕ) → k < length (equals b n) → 2 * r ≡ 2 * radix k (equals b n)
    turns_are k h = ap (λ (x : ℕ). 2 * x) (radix_of_equals k h)

    pub turn_is : (k s : ℕ) → k < length (equals b n) → 128 * k + s % (2 * r) ≡ smooth_list (equals b n) k s
    turn_is k s h = ap (λ (x : ℕ). 128 * k + s % (2 * x)) (radix_of_equals k h)

    pub wheel_in_range : (l : ℕ) → l < slots (equals b n) → l / r < length (equals b n)
    wheel_in_range l h = rw (← wheels_are, e) ((div-lt_iff_lt-mul positive).1 (omega (arith, h, slots_of_equals, mul_comm (2 ^ b) n)))

  visit_of_equals : (l a : ℕ) → l < slots (equals b n) → a ≤ last_of (equals b n)
      → (a / 2 ^ (b * (l / 2 ^ b)) - a / 2 ^ (b * (l / 2 ^ b)) % 2 ^ b + l % 2 ^ b) * 2 ^ (b * (l / 2 ^ b)) % 18446744073709551616
      ≡ list_visit (equals b n) l a
  unfolding equals
  visit_of_equals l a h c =
      let k : ℕ = l / 2 ^ b in
      let e : 2 ^ b * k + l % 2 ^ b ≡ l = omega (arith, positive) in
      let w : k < n = (div-lt_iff_lt-mul positive).1 (omega (arith, h, slots_is (2 ^ b) n, mul_comm (2 ^ b) n)) in
      mod-eq_of_lt (in_word b n k (l % 2 ^ b) a f.1 f.3 w (mod-lt l positive) (below_end b n a c))
      ∙ (sym (visit_step b n k (l % 2 ^ b) a w (mod-lt l positive)) ∙ ap (λ (x : ℕ). list_visit (copies (2 ^ b) n) x a) e)

  pub visit_in_word : (r s l a : ℕ) → r ≡ 2 ^ b → a ≤ last_of (equals b n) → a / 2 ^ s - a / 2 ^ s % r + l % r ≤ 2305843009213693951
  visit_in_word r s l a e h =
      omega (arith, mod-lt l (let z : 0 < r = omega (arith, e, positive) in z), few_values b f.1, last_in_word, div-le_self a (2 ^ s))

  pub visit_by_bits : (r s l a : ℕ) → r ≡ 2 ^ b → s ≡ b * (l / r) → l < slots (equals b n) → a ≤ last_of (equals b n)
      → (a / 2 ^ s - a / 2 ^ s % r + l % r) * 2 ^ s % 18446744073709551616 ≡ list_visit (equals b n) l a
  visit_by_bits r s l a e d h c = rw (d, e) (visit_of_equals l a h c)

-- what the functions of the tables return
pub ruleset list_rules = (lists_are, lists_are_few)
