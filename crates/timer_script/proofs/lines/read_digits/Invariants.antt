use Rattle.std.proofs.Common.{◌≡◌, ◌≤◌, take}
use Rattle.std.specs.Str.Parse.{AllDigits, digits_value}
use Rattle.timer_script.proofs.lines.read_digits.Given as goal

abbrev pub invariant-loop-b : goal.invariant-loop-b
invariant-loop-b l = record {
  counted : l.len ≡ l.b-index;
  digits : AllDigits 10 (take l.len l.bytes);
  value : l.len ≤ 19 → l.value ≡ digits_value 10 (take l.len l.bytes);
}
