use Rattle.std.proofs.Common.{◌≡◌, ◌==◌, ◌≤◌, ◌&&◌, ◌||◌, nat_lt, true, false, take, get_or, refl, le-ltb, lt-ltb, ne_eqb}
use Rattle.std.proofs.lemmas.Bool.{and_left, and_right, or_left, or_right, or_from}
use Rattle.std.proofs.lemmas.List.{take_rest}
use Rattle.std.specs.Str.Parse.{digits_value}
use Rattle.timer_script.specs.Types.{LAST}
use Rattle.timer_script.specs.Lines.{number_at}
use Rattle.timer_script.proofs.LineLemmas.{digit_count_at}
use Rattle.timer_script.proofs.lines.read_number.Goals.{else-len-gt1-via-then-len-gt1+else-bytes-eq48, else-len-gt1-via-else-len-gt1, then-len-gt-MOST_DIGITS-via-then-len-gt-MOST_DIGITS, then-len-gt-MOST_DIGITS-via-else-len-gt-MOST_DIGITS+then-value-gt-LAST}
use Rattle.timer_script.proofs.lines.read_number.Goals as goal

pub returns-then-len-gt-MOST_DIGITS : goal.returns-then-len-gt-MOST_DIGITS
unfolding number_at
returns-then-len-gt-MOST_DIGITS c =
    let s = c.args.bytes.now in
    let len = c.read_digits-value.result.1 in
    let d = c.read_digits-value.ensures in
    let over : (nat_lt 19 len || nat_lt LAST (digits_value 10 (take len s))) ≡ true = elim c.then-len-gt-MOST_DIGITS.branch [
      | then-len-gt-MOST_DIGITS-via-then-len-gt-MOST_DIGITS w ↦ or_left _ _ (lt-ltb 19 len w.if-len-gt-MOST_DIGITS.true)
      | then-len-gt-MOST_DIGITS-via-else-len-gt-MOST_DIGITS+then-value-gt-LAST w ↦
          or_right _ _ (lt-ltb LAST (digits_value 10 (take len s)) (rw (← d.value w.if-len-gt-MOST_DIGITS.false) w.if-value-gt-LAST.true))
    ] in
    rw (digit_count_at s len d.digits d.within d.stop, or_right (len == 0) _ (or_right (nat_lt 1 len && (get_or s 0 0 == 48)) _ over)) refl

pub returns : goal.returns
unfolding number_at
returns c =
    let s = c.args.bytes.now in
    let len = c.read_digits-value.result.1 in
    let d = c.read_digits-value.ensures in
    let zero_first : (nat_lt 1 len && (get_or s 0 0 == 48)) ≡ false = elim c.else-len-gt1.branch [
      | else-len-gt1-via-then-len-gt1+else-bytes-eq48 w ↦ and_right _ _ (ne_eqb _ _ w.if-bytes-eq48.false)
      | else-len-gt1-via-else-len-gt1 w ↦ and_left _ _ (le-ltb 1 len w.if-len-gt1.false)
    ] in
    let few : len ≤ 19 = c.if-len-gt-MOST_DIGITS.false in
    let range = or_from _ _ (le-ltb 19 len few) (le-ltb LAST _ c.if-value-gt-LAST.false) in
    let none = ne_eqb len 0 c.if-len-eq0.false in
    rw (digit_count_at s len d.digits d.within d.stop, ← d.value few, or_from _ _ none (or_from _ _ zero_first range), take_rest s len) refl
