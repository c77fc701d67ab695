-- Bytes are the line of an event exactly if the reader reads all of them.
use Rattle.std.proofs.Common.{◌≡◌, ◌⊎◌, ◌==◌, ◌+◌, ◌-◌, ◌≤◌, false, zero, suc, ℕ, List, [], ◌++◌, length, take, drop, get_or-drop, Option, Some, None, inl, inr, refl, sym, ap, subst, ◌∙◌, arith, append-nil, eq-eqb, slice_index, length-drop}
use Rattle.std.specs.Prelude.{IfSome}
use Rattle.std.proofs.lemmas.Bool.{both_ways}
use Rattle.std.proofs.lemmas.Option.{none-some}
use Rattle.std.proofs.NetLemmas.Options.{same_parts}
use Rattle.timer_script.specs.Types.{Event, Field, Grammar}
use Rattle.timer_script.specs.declared.lines.Grammar.TheVariants.{Script, Stream}
use Rattle.timer_script.specs.Script.{IsIn, line, IsScriptWord, IsStreamWord, IsWord}
use Rattle.timer_script.specs.Lines.{line_in}
use Rattle.timer_script.specs.Diagnosis.{IsLine, IsDigit, IsByteAt, AreBytesBefore, IsDigitAt, IsAfterZero, LeavesRange, IsEndOf, IsInNumber}
use Rattle.timer_script.proofs.Results.{emptied}
use Rattle.timer_script.proofs.LineLemmas.{read_again, read_sound}

pub line_whole : (grammar : Grammar) (bytes rest : List ℕ) (event : Event) → line_in grammar bytes ≡ Some (event, rest) → rest ≡ []
    → IsLine grammar bytes
line_whole grammar bytes rest event read none =
    let (fits, is) = read_sound grammar bytes rest event read in
    (event, fits, is ∙ ap (λ t. line event ++ t) none ∙ append-nil (line event))

-- the line of an event is read whole
read_whole : (grammar : Grammar) (bytes : List ℕ) (event : Event) → IsIn grammar event → bytes ≡ line event
    → line_in grammar bytes ≡ Some (event, [])
read_whole grammar bytes event fits is = ap (line_in grammar) (is ∙ sym (append-nil (line event))) ∙ read_again grammar event [] fits

pub unread_no_line : (grammar : Grammar) (bytes : List ℕ) → line_in grammar bytes ≡ None → IsLine grammar bytes → ⊥
unread_no_line grammar bytes unread (event, fits, is) = none-some _ (sym unread ∙ read_whole grammar bytes event fits is)

pub rest_no_line : (grammar : Grammar) (bytes rest : List ℕ) (event : Event) → line_in grammar bytes ≡ Some (event, rest)
    → (length rest == 0) ≡ false → IsLine grammar bytes
    → ⊥
rest_no_line grammar bytes rest event read more (other, fits, is) =
    let parts = same_parts event other rest [] (sym read ∙ read_whole grammar bytes other fits is) in
    both_ways _ more (eq-eqb (length rest) 0 (ap length parts.1))

-- whether bytes are a line
pub ruleset whole_lines = (line_whole, rest_no_line, unread_no_line, emptied)

-- ---- words

pub word_of_script : (grammar : Grammar) (word : List ℕ) → IsScriptWord word → IsWord grammar word
word_of_script Script word is = is
word_of_script Stream word is = inl is

pub no_word_of_script : (grammar : Grammar) (word : List ℕ) → grammar ≡ Script → ¬ (IsScriptWord word) → ¬ (IsWord grammar word)
no_word_of_script grammar word is none = subst (λ g. ¬ (IsWord g word)) (sym is) none

pub word_of_stream : {A : Type 0} (result : Option A) (grammar : Grammar) (word : List ℕ) → grammar ≡ Stream
    → IfSome result (λ _. IsStreamWord word) → IfSome result (λ _. IsWord grammar word)
word_of_stream None grammar word is some = some
word_of_stream (Some x) grammar word is some = subst (λ g. IsWord g word) (sym is) (inr some)

pub no_word_at_all : (grammar : Grammar) (word : List ℕ) → ¬ (IsScriptWord word) → ¬ (IsStreamWord word) → ¬ (IsWord grammar word)
no_word_at_all Script word script stream = script
no_word_at_all Stream word script stream = λ is. elim is [ inl one ↦ script one | inr one ↦ stream one ]

script_word_some : (word : List ℕ) → IsScriptWord word → 1 ≤ length word
script_word_some word is = elim is [
  | inl e ↦ omega (arith, ap length e)
  | inr a ↦ elim a [
    | inl e ↦ omega (arith, ap length e)
    | inr b ↦ elim b [
      | inl e ↦ omega (arith, ap length e)
      | inr c ↦ elim c [ inl e ↦ omega (arith, ap length e) | inr e ↦ omega (arith, ap length e) ]
    ]
  ]
]

stream_word_some : (word : List ℕ) → IsStreamWord word → 1 ≤ length word
stream_word_some word is = elim is [
  | inl a ↦ elim a [
    | inl e ↦ omega (arith, ap length e)
    | inr b ↦ elim b [ inl e ↦ omega (arith, ap length e) | inr e ↦ omega (arith, ap length e) ]
  ]
  | inr e ↦ omega (arith, ap length e)
]

word_long : (grammar : Grammar) (word : List ℕ) → IsWord grammar word → 1 ≤ length word
word_long Script word is = script_word_some word is
word_long Stream word is = elim is [ inl one ↦ script_word_some word one | inr one ↦ stream_word_some word one ]

-- a word is not empty
pub word_some : (grammar : Grammar) (bytes : List ℕ) (at : ℕ) → IsWord grammar (take at bytes) → 1 ≤ at
word_some grammar bytes zero is = let long : 1 ≤ length (take {A = ℕ} zero bytes) = word_long grammar (take zero bytes) is in absurd (omega arith)
word_some grammar bytes (suc n) is = omega arith

-- which words begin lines in a grammar
pub ruleset words_in_grammars = (word_of_script, no_word_of_script, word_of_stream, no_word_at_all)

-- ---- the digits of a number

pub after_zero : (bytes : List ℕ) (at len : ℕ) → IsInNumber bytes at len → len ≡ 1 → slice_index bytes (at - 1) ≡ 48 → IsAfterZero bytes at
after_zero bytes at len number one nought =
    let i = number.some in
    ((omega (arith, one), nought), (omega (arith, one), ap (λ n. slice_index bytes (at - n - 1)) (sym one) ∙ number.space))

pub leaves_range : (bytes : List ℕ) (at len : ℕ) → IsInNumber bytes at len → IsDigitAt bytes at
    → (len ≡ 1 → slice_index bytes (at - 1) ≡ 48 → ⊥) → LeavesRange bytes at
leaves_range bytes at len number digit other =
    (digit, (at - len - 1, (let i = number.some in omega arith), number.space), λ z. no_zero len number other z)
  where
    no_zero : (n : ℕ) → IsInNumber bytes at n → (n ≡ 1 → slice_index bytes (at - 1) ≡ 48 → ⊥) → IsAfterZero bytes at → ⊥
    no_zero zero number other z =
        let here : slice_index bytes (at - 1) ≡ 32 = ap (slice_index bytes) (let e : at - 1 ≡ at - 0 - 1 = omega arith in e) ∙ number.space in
        let there = z.0.1 in omega arith
    no_zero (suc zero) number other z = other refl z.0.1
    no_zero (suc (suc k)) number other z =
        let i = number.some in
        let same : at - suc (suc k) + k ≡ at - 1 - 1 = omega arith in
        let digit : IsDigit (slice_index bytes (at - 1 - 1)) = subst (λ j. IsDigit (slice_index bytes j)) same (number.digits k (omega arith)) in
        let low = digit.0 in
        let space = z.1.1 in omega arith

-- so many digits after a space
pub in_number : (bytes rest : List ℕ) (at len : ℕ) → rest ≡ drop (at + 1) bytes → IsByteAt 32 bytes at → len ≤ length rest
    → AreBytesBefore IsDigit rest len → (len ≡ 0) ⊎ IsDigitAt bytes (at + 1 + len) → IsInNumber bytes (at + 1 + len) len
in_number bytes rest at len is space within are stuck = record {
  within = omega (arith, space.0, within, ap length is, length-drop (at + 1) bytes);
  some = omega arith;
  space = ap (slice_index bytes) (let e : at + 1 + len - len - 1 ≡ at = omega arith in e) ∙ space.1;
  digits = λ i less. subst IsDigit
      (ap (λ z. slice_index z i) is ∙ get_or-drop (at + 1) bytes i 0
      ∙ ap (slice_index bytes) (let e : at + 1 + i ≡ at + 1 + len - len + i = omega arith in e)) (are i less);
  stuck = stuck;
}

-- and no more
pub end_of_number : (grammar : Grammar) (bytes rest : List ℕ) (at len : ℕ) (field : Field) → rest ≡ drop (at + 1) bytes → IsByteAt 32 bytes at → len ≤ length rest
    → AreBytesBefore IsDigit rest len → (len ≡ 0 → ⊥) → ¬ (IsDigitAt bytes (at + 1 + len)) → IsEndOf grammar (Some field) bytes (at + 1 + len)
end_of_number grammar bytes rest at zero field is space within are some last = absurd (some refl)
end_of_number grammar bytes rest at (suc k) field is space within are some last = record {
  some = omega arith;
  within = omega (arith, space.0, within, ap length is, length-drop (at + 1) bytes);
  no_space = λ e.
      let same : slice_index rest k ≡ 32 = ap (λ z. slice_index z k) is ∙ get_or-drop (at + 1) bytes k 0
      ∙ ap (slice_index bytes) (let e : at + 1 + k ≡ at + 1 + suc k - 1 = omega arith in e) ∙ e in
      let digit = are k (omega arith) in
      let low = digit.0 in omega arith;
  behind = ((at, omega arith, space.1), last);
}

pub ruleset digit_reasons = (after_zero, leaves_range)
