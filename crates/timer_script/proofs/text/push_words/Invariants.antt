use Rattle.std.proofs.Common.{◌≡◌, ◌+◌, ◌*◌, ◌≤◌, ◌<◌, ◌++◌, ◌∷◌, [], length, drop}
use Rattle.timer_script.specs.Text.{numbers}
use Rattle.timer_script.specs.declared.text.TheConstants.{ROOM, MAX_DIGITS, MAX_WORD}
use Rattle.timer_script.proofs.text.push_words.Given as goal

-- the numbers from i on and the last byte stand at the end of the buffer, and there is room for the numbers before
abbrev pub invariant-loop-i : goal.invariant-loop-i
invariant-loop-i l = record {
  written : drop l.at l.buffer ≡ numbers (drop l.i l.all) ++ l.last ∷ [];
  room : MAX_DIGITS * l.i + MAX_WORD ≤ l.at;
  within : l.at < ROOM;
  size : length l.buffer ≡ ROOM;
  left : l.i ≤ length l.all;
}

abbrev pub decreases-loop-i : goal.decreases-loop-i
decreases-loop-i l = l.i
