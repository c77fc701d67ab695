use Rattle.std.proofs.Common.{◌≡◌, ◌-◌, List, ℕ, length, take, drop, sym, ◌∙◌, ap, arith, length-drop}
use Rattle.std.specs.Int.{w64, from_be_bytes}
use Rattle.std.proofs.lemmas.List.{drop-drop, take_all}
use Rattle.timer_journal.specs.Format.{checksum, stated_length, stated_lines, stated_checksum}
use Rattle.timer_journal.proofs.Reading.{too_short, other_checksum, whole_if}
use Rattle.timer_journal.proofs.format.whole_group.Goals as goal

-- a range up to the end is what is behind its start
to_end : (n : ℕ) (bytes : List ℕ) → take (length bytes - n) (drop n bytes) ≡ drop n bytes
to_end n bytes = take_all (length bytes - n) (drop n bytes) (omega (arith, length-drop n bytes))

pub returns-then-bytes-lt-HEAD : goal.returns-then-bytes-lt-HEAD
returns-then-bytes-lt-HEAD c = too_short c.args.bytes.now (omega (arith, c.if-bytes-lt-HEAD.true))

pub returns-then-len-rest : goal.returns-then-len-rest
returns-then-len-rest c = too_short c.args.bytes.now (omega (arith, c.if-len-rest.true, c.number_at-len.ensures, c.if-bytes-lt-HEAD.false, length-drop 16 c.args.bytes.now))

pub returns-then-checksum-sum : goal.returns-then-checksum-sum
returns-then-checksum-sum c =
    let bytes = c.args.bytes.now in
    let lines_are : c.split_at.result.0.now ≡ stated_lines bytes = c.split_at.ensures.front ∙ (λ i. take (c.number_at-len.ensures i) (to_end 16 bytes i)) in
    let sum_is : c.number_at-sum.result ≡ stated_checksum bytes = c.number_at-sum.ensures ∙ (λ i. from_be_bytes w64 (take 8 (to_end 8 bytes i))) in
    other_checksum bytes (λ same. c.if-checksum-sum.true (c.checksum.ensures ∙ ap checksum lines_are ∙ same ∙ sym sum_is))

pub returns : goal.returns
returns c =
    let bytes = c.args.bytes.now in
    let lines_are : c.split_at.result.0.now ≡ stated_lines bytes = c.split_at.ensures.front ∙ (λ i. take (c.number_at-len.ensures i) (to_end 16 bytes i)) in
    let sum_is : c.number_at-sum.result ≡ stated_checksum bytes = c.number_at-sum.ensures ∙ (λ i. from_be_bytes w64 (take 8 (to_end 8 bytes i))) in
    let same : checksum (stated_lines bytes) ≡ stated_checksum bytes = sym (c.checksum.ensures ∙ ap checksum lines_are) ∙ c.if-checksum-sum.false ∙ sum_is in (
      whole_if bytes (omega (arith, c.if-len-rest.false, c.number_at-len.ensures, c.if-bytes-lt-HEAD.false, length-drop 16 bytes)) same,
      lines_are,
      c.split_at.ensures.back ∙ (λ i. drop (c.number_at-len.ensures i) (to_end 16 bytes i)) ∙ drop-drop (stated_length bytes) 16 bytes,
    )
