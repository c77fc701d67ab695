use Rattle.std.proofs.Common.{◌≡◌, ℕ, ◌+◌, ◌*◌, ◌%◌, ◌^◌, ◌<◌, ◌≤◌, List, take, get_or, length, arith, lit≤}
use Rattle.std.proofs.lemmas.List.{length-take-le}
use Rattle.std.proofs.lemmas.Int.Digits.{digits_more, digits_value_more}
use Rattle.std.proofs.lemmas.Str.Parse.{numerals_by_value, tells_digits, digits_value_short}
use Rattle.std.specs.Char.{digit_value}
use Rattle.std.specs.Str.Parse.{AllDigits, digits_value}
use Rattle.timer_script.proofs.lines.read_digits.Goals as goal

-- one more digit, which doesn't wrap around
more : (s : List ℕ) (i j value byte digit : ℕ) → i ≡ j → j < length s → AllDigits 10 (take i s) → byte ≡ get_or s j 0
    → (digit_value byte < 10) × (digit ≡ digit_value byte) → (i ≤ 19 → value ≡ digits_value 10 (take i s))
    → AllDigits 10 (take (i + 1) s) × (i + 1 ≤ 19 → (value * 10 % 18446744073709551616 + digit) % 18446744073709551616 ≡ digits_value 10 (take (i + 1) s))
more s i j value byte digit same within all read h is =
    let inside : i < length s = omega arith in
    let at : byte ≡ get_or s i 0 = rw same read in (
      digits_more 10 s i inside all (rw (← at) h.0),
      λ few.
          let small : digits_value 10 (take i s) < 10 ^ 18 =
          digits_value_short (numerals_by_value _ tells_digits) (take i s) 18 all (let l = length-take-le i s (omega arith) in omega arith) in
          let is_value : value ≡ digits_value 10 (take i s) = is (omega arith) in
          let power : 10 ^ 18 ≤ 1000000000000000000 = lit≤ tt in
          let d = h.0 in
          let e = h.1 in
          rw (digits_value_more 10 s i inside, ← at, ← is_value, ← e) (omega arith),
    )

pub loop-b-preserved : goal.loop-b-preserved
loop-b-preserved c =
    let i = c.loop-b.invariant in
    let h = more _ _ _ _ _ _ i.counted c.loop-b-test.true i.digits c.from.ensures c.in-Some.ensures.value i.value in
    record { counted = omega arith; digits = h.0; value = h.1 }
