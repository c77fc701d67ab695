-- A text is split at the first of a byte in one way only, and a number has one spelling.
use Rattle.std.proofs.Common.{◌≡◌, ◌≢◌, ◌<◌, ◌≤◌, ◌^◌, ◌+◌, ◌-◌, ℕ, zero, suc, true, List, [], ◌∷◌, ◌++◌, length, take, drop, get_or, slice_index, decimal, refl, nat_eq, not, Bool, false, sym, ap, subst, ◌∙◌, arith, take_at, drop_at, inl, inr}
use Rattle.std.specs.List.{AllByRecursion}
use Rattle.std.specs.Cmp.Lexicographic.{bytes_decides, pointwise}
use Rattle.std.specs.Str.Parse.{AllDigits}
use Rattle.std.proofs.lemmas.List.{drop-drop, take_rest, take-append-drop, nil_from_length, length-drop}
use Rattle.std.proofs.lemmas.Bool.{cases_lt}
use Rattle.std.proofs.lemmas.Fmt.{decimal_is_IsNumeral}
use Rattle.std.proofs.lemmas.Str.Parse.{tells_digits}
use Rattle.timer_script.specs.Lines.{has_word}
use Rattle.timer_durable.specs.Types.{LAST}
use Rattle.timer_durable.specs.Beginning.{IsWithout, BeginsWithLine}

pub digits_without : (end : ℕ) (digits : List ℕ) → end < 48 → AllDigits 10 digits → IsWithout end digits
digits_without end [] low all = tt
digits_without end (c ∷ cs) low all =
    let (range, rest) = tells_digits.parts c cs all in
    ((λ same. omega (arith, range.0)), digits_without end cs low rest)

pub decimal_without : (end n : ℕ) → end < 48 → n ≤ LAST → IsWithout end (decimal n)
decimal_without end n low fits = digits_without end (decimal n) low (decimal_is_IsNumeral n (omega arith)).0.1

pub one_split : (end : ℕ) (a b r s : List ℕ) → IsWithout end a → IsWithout end b → a ++ end ∷ r ≡ b ++ end ∷ s → (a ≡ b) × (r ≡ s)
one_split end [] [] r s no_a no_b same = (refl, ap (drop 1) same)
one_split end [] (y ∷ b) r s no_a no_b same = absurd (no_b.0 (sym (ap (λ l. get_or l 0 0) same)))
one_split end (x ∷ a) [] r s no_a no_b same = absurd (no_a.0 (ap (λ l. get_or l 0 0) same))
one_split end (x ∷ a) (y ∷ b) r s no_a no_b same =
    let (rest, tail) = one_split end a b r s no_a.1 no_b.1 (ap (drop 1) same) in
    ((λ i. ap (λ l. get_or l 0 0) same i ∷ rest i), tail)

pub same_behind : (a r s : List ℕ) → a ++ r ≡ a ++ s → r ≡ s
same_behind a r s same = sym (drop_at a r (length a) refl) ∙ ap (drop (length a)) same ∙ drop_at a s (length a) refl

-- a text without a byte is not split at it
pub no_split : (end : ℕ) (a b r : List ℕ) → IsWithout end a → a ≡ b ++ end ∷ r → ⊥
no_split end [] [] r without is = absurd cc
no_split end [] (y ∷ b) r without is = absurd cc
no_split end (x ∷ a) [] r without is = without.0 (ap (λ l. get_or l 0 0) is)
no_split end (x ∷ a) (y ∷ b) r without is = no_split end a b r without.1 (ap (drop 1) is)

pub has_word_again : (word rest : List ℕ) → has_word word (word ++ rest) ≡ true
unfolding has_word
has_word_again word rest = rw (take_at word rest (length word) refl) ((bytes_decides word word).1 refl)

-- the bytes are split at the first place of a byte
split_there : (end len : ℕ) (bytes : List ℕ) → len < length bytes → slice_index bytes len ≡ end → bytes ≡ take len bytes ++ end ∷ drop 1 (drop len bytes)
split_there end zero [] in_it at = absurd (omega arith)
split_there end zero (b ∷ bytes) in_it at = λ i. at i ∷ bytes
split_there end (suc len) [] in_it at = absurd (omega arith)
split_there end (suc len) (b ∷ bytes) in_it at = ap (λ l. b ∷ l) (split_there end len bytes (omega arith) at)

pub split_at_first : (end len : ℕ) (bytes : List ℕ) → len < length bytes → slice_index bytes len ≡ end → bytes ≡ take len bytes ++ end ∷ drop (len + 1) bytes
split_at_first end len bytes in_it at = split_there end len bytes in_it at ∙ ap (λ t. take len bytes ++ end ∷ t) (drop-drop 1 len bytes)

-- a number before the first of a byte is all that is before it
pub number_before : (end n len : ℕ) (bytes rest : List ℕ) → end < 48 → n ≤ LAST → len < length bytes → IsWithout end (take len bytes) → slice_index bytes len ≡ end
    → bytes ≡ decimal n ++ end ∷ rest → take len bytes ≡ decimal n
number_before end n len bytes rest low fits in_it before at is =
    (one_split end (take len bytes) (decimal n) (drop (len + 1) bytes) rest before (decimal_without end n low fits)
    (sym (split_at_first end len bytes in_it at) ∙ is)).0

pub formatted_is : (a b : List ℕ) (t : Bool) → t ≡ not (pointwise nat_eq a b) → t ≡ true → a ≡ b → ⊥
formatted_is a b t is so same = absurd (let e = (bytes_decides a b).1 same in let no : not (pointwise nat_eq a b) ≡ false = ap not e in cc)

pub split_behind : (end len : ℕ) (bytes front : List ℕ) → len < length bytes → slice_index bytes len ≡ end → take len bytes ≡ front
    → bytes ≡ front ++ end ∷ take (length bytes - (len + 1)) (drop (len + 1) bytes)
split_behind end len bytes front in_it at is =
    split_at_first end len bytes in_it at ∙ ap (λ t. t ++ end ∷ drop (len + 1) bytes) is
    ∙ ap (λ t. front ++ end ∷ t) (sym (take_rest bytes (len + 1)))

pub first_part : (len : ℕ) (bytes line : List ℕ) → len ≤ length bytes → IsWithout 10 (take len bytes) → (len < length bytes → slice_index bytes len ≡ 10)
    → line ≡ take len bytes → BeginsWithLine bytes line
first_part len bytes line within before at is = record {
  rest = drop len bytes;
  parts = sym (take-append-drop len bytes) ∙ ap (λ l. l ++ drop len bytes) (sym is);
  bare = subst (IsWithout 10) (sym is) before;
  end = elim (cases_lt len (length bytes)) [
    | inl in_it ↦ inr (drop (len + 1) bytes, same_behind (take len bytes) _ _ (take-append-drop len bytes ∙ split_at_first 10 len bytes in_it (at in_it)))
    | inr past ↦ inl (nil_from_length (drop len bytes) (omega (arith, length-drop len bytes, past)))
  ];
}
