use Rattle.std.proofs.lemmas.Bool.{cases_lt, false_from_ne_true}
use Rattle.std.proofs.Common.{◌≡◌, ◌<◌, ◌≤◌, ◌+◌, ◌++◌, inl, inr, ℕ, List, length, take, drop, get_or, arith, sym, ap, ◌∙◌, lit≤, take-append-drop, get_or-take}
use Rattle.std.proofs.lemmas.List.{get_or_past, length-take-le, length-append, take-append-le, take_rest}
use Rattle.std.proofs.lemmas.Nat.{le_bytes_4}
use Rattle.std.specs.Int.{from_le_bytes, to_le_bytes, w32}
use Rattle.timer_script.specs.Lines.{has_word}
use Rattle.timer_script.proofs.LineLemmas.{has_word_sound, has_word_after}
use Rattle.timer_script.proofs.lines.has_word.Goals.{then-bytes-word-via-then-bytes-word, then-bytes-word-via-else-bytes-word+then-front}
use Rattle.timer_script.proofs.lines.has_word.Goals as goal

-- the front is the number's bytes
front_is : (s : List ℕ) (n : ℕ) → 4 ≤ length s → ((i : ℕ) → get_or s i 0 < 256) → n ≡ from_le_bytes w32 (take 4 s) → to_le_bytes w32 n ≡ take 4 s
front_is s n long bytes is =
    let small : (i : ℕ) → get_or (take 4 s) i 0 < 256 = λ i.
    elim (cases_lt i 4) [
      | inl before ↦ rw (get_or-take 4 s i 0 before) (bytes i)
      | inr past ↦ rw (get_or_past (take 4 s) i 0 (rw (length-take-le 4 s long) past)) (lit≤ tt)
    ] in
    le_bytes_4 (take 4 s) n (length-take-le 4 s long) small is

-- both with one front
rest_decides : (word bytes : List ℕ) → take 4 word ≡ take 4 bytes → has_word (drop 4 word) (drop 4 bytes) ≡ has_word word bytes
rest_decides word bytes same =
    sym (has_word_after (take 4 word) (drop 4 word) (drop 4 bytes))
    ∙ ap (λ w. has_word w (take 4 word ++ drop 4 bytes)) (take-append-drop 4 word)
    ∙ ap (λ t. has_word word (t ++ drop 4 bytes)) same
    ∙ ap (has_word word) (take-append-drop 4 bytes)

pub returns-then-bytes-word-clause-value : goal.returns-then-bytes-word-clause-value
returns-then-bytes-word-clause-value c =
    let word = c.args.word.now in
    let bytes = c.args.bytes.now in
    sym (false_from_ne_true (has_word word bytes) λ begins.
    let is = has_word_sound word bytes begins in
    elim c.then-bytes-word.branch [
      | then-bytes-word-via-then-bytes-word w ↦
          let short : length bytes < length word = w.if-bytes-word.true in
          let longer : length bytes ≡ length word + length (drop (length word) bytes) = ap length is ∙ length-append word _ in
          absurd (omega arith)
      | then-bytes-word-via-else-bytes-word+then-front w ↦
          let fronts : take 4 bytes ≡ take 4 word = ap (take 4) is ∙ take-append-le 4 word _ c.requires in
          absurd (w.if-front.true (w.front.ensures ∙ ap (from_le_bytes w32) fronts ∙ sym w.front-else-bytes-word.ensures))
    ])

pub returns-clause-value : goal.returns-clause-value
unfolding has_word
returns-clause-value c =
    let word = c.args.word.now in
    let bytes = c.args.bytes.now in
    let q = c.requires in
    let long = c.if-bytes-word.false in
    let of_bytes = front_is bytes _ (omega arith) (λ i. let f = c.type_inv.bytes i in omega arith) c.front.ensures in
    let of_word = front_is word _ q (λ i. let f = c.type_inv.word i in omega arith) c.front-else-bytes-word.ensures in
    let same : take 4 word ≡ take 4 bytes = sym of_word ∙ ap (to_le_bytes w32) (sym c.if-front.false) ∙ of_bytes in
    (rw (take_rest bytes 4, take_rest word 4) at c.starts_with.ensures.value) ∙ rest_decides word bytes same
