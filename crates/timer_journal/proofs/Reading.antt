-- What reading finds: a group and what is behind it, or no group. The bytes that are read are those of the groups.
use Rattle.std.proofs.Common.{◌≡◌, inl, inr, ℕ, zero, suc, ◌+◌, ◌<◌, ◌≤◌, true, false, ◌≢◌, ◌&&◌, ◌==◌, nat_le, List, [], ◌∷◌, ◌++◌, length, get_or, take, drop, Some, None, refl, sym, ◌∙◌, ap, subst, append_assoc, length-append, length-take, length-drop, take-append-drop, arith}
use Rattle.std.specs.Int.{w64, to_be_bytes}
use Rattle.std.proofs.lemmas.List.{drop-drop, get_or-append-add, get_or-take, get_or_past, get_or-drop}
use Rattle.std.proofs.lemmas.Bool.{cases_lt}
use Rattle.std.proofs.lemmas.Nat.{be_bytes_8}
use Rattle.timer_journal.specs.Format.{checksum, body_of, blocks, stated_length, stated_checksum, stated_lines, is_whole, first_group, groups_after, groups_of, tail_after, tail_of}
use Rattle.timer_journal.proofs.Tests.{le_holds, le_test, le_fails, eq_holds, eq_test, eq_fails, both, both_hold, no_second, found, not_found, some_or_none}

-- to skip bytes is to drop them
groups-skip : (n : ℕ) (bytes : List ℕ) → groups_after n bytes ≡ groups_of (drop n bytes)
groups-skip zero bytes = refl
groups-skip (suc n) [] = refl
groups-skip (suc n) (byte ∷ bytes) = groups-skip n bytes

tail-skip : (n : ℕ) (bytes : List ℕ) → tail_after n bytes ≡ tail_of (drop n bytes)
tail-skip zero bytes = refl
tail-skip (suc n) [] = refl
tail-skip (suc n) (byte ∷ bytes) = tail-skip n bytes

-- what a file says, after its first group
pub read_first : (bytes lines behind : List ℕ) → first_group bytes ≡ Some (lines, behind) → (groups_of bytes ≡ lines ∷ groups_of behind) × (tail_of bytes ≡ tail_of behind)
read_first [] lines behind is = absurd cc
read_first (gate ∷ bytes) lines behind is =
    let n = 16 + stated_length bytes in
    let f = found ((gate == 6) && is_whole bytes) (stated_lines bytes, drop n bytes) (lines, behind) is in
    let lines_are : stated_lines bytes ≡ lines = ap (λ (p : List ℕ × List ℕ). p.0) f.1 in
    let behind_is : drop n bytes ≡ behind = ap (λ (p : List ℕ × List ℕ). p.1) f.1 in
    let groups : groups_of (gate ∷ bytes) ≡ stated_lines bytes ∷ groups_of (drop n bytes) = rw f.0 (ap (λ (gs : List (List ℕ)). stated_lines bytes ∷ gs) (groups-skip n bytes)) in
    let tail : tail_of (gate ∷ bytes) ≡ tail_of (drop n bytes) = rw f.0 (tail-skip n bytes) in
    (groups ∙ (λ i. lines_are i ∷ groups_of (behind_is i)), tail ∙ ap tail_of behind_is)

-- or with none
pub read_none : (bytes : List ℕ) → first_group bytes ≡ None → (groups_of bytes ≡ []) × (tail_of bytes ≡ bytes)
read_none [] is = (refl, refl)
read_none (gate ∷ bytes) is =
    let none = not_found ((gate == 6) && is_whole bytes) (stated_lines bytes, drop (16 + stated_length bytes) bytes) is in
    (rw none refl, rw none refl)

abbrev pub IsBytes : List ℕ → Type 0
IsBytes bytes = (i : ℕ) → get_or bytes i 0 < 256

bytes-drop : (n : ℕ) (bytes : List ℕ) → IsBytes bytes → IsBytes (drop n bytes)
bytes-drop n bytes are i = subst (λ (k : ℕ). k < 256) (sym (get_or-drop n bytes i 0)) (are (n + i))

bytes-take : (n : ℕ) (bytes : List ℕ) → IsBytes bytes → IsBytes (take n bytes)
bytes-take n bytes are i = elim (cases_lt i n) [
  | inl lt ↦ subst (λ (k : ℕ). k < 256) (sym (get_or-take n bytes i 0 lt)) (are i)
  | inr le ↦ subst (λ (k : ℕ). k < 256) (sym (get_or_past (take n bytes) i 0 (omega (arith, le, length-take n bytes)))) (omega arith)
]

bytes-rest : (byte : ℕ) (bytes : List ℕ) → IsBytes (byte ∷ bytes) → IsBytes bytes
bytes-rest byte bytes are i = are (suc i)

whole_holds : (bytes : List ℕ) → is_whole bytes ≡ true → (16 + stated_length bytes ≤ length bytes) × (checksum (stated_lines bytes) ≡ stated_checksum bytes)
unfolding is_whole
whole_holds bytes is =
    let both = both_hold (nat_le (16 + stated_length bytes) (length bytes)) (checksum (stated_lines bytes) == stated_checksum bytes) is in
    (le_holds (16 + stated_length bytes) (length bytes) both.0, eq_holds (checksum (stated_lines bytes)) (stated_checksum bytes) both.1)

-- a whole group is its length, its checksum and its lines
whole_is : (bytes : List ℕ) → IsBytes bytes → is_whole bytes ≡ true → bytes ≡ body_of (stated_lines bytes) ++ drop (16 + stated_length bytes) bytes
whole_is bytes are is =
    let n = stated_length bytes in
    let lines = stated_lines bytes in
    let holds = whole_holds bytes is in
    let size : length lines ≡ n = omega (arith, length-take n (drop 16 bytes), length-drop 16 bytes, holds.0) in
    let first : to_be_bytes w64 (length lines) ≡ take 8 bytes =
    be_bytes_8 (take 8 bytes) (length lines) (omega (arith, length-take 8 bytes, holds.0)) (bytes-take 8 bytes are) size in
    let second : to_be_bytes w64 (checksum lines) ≡ take 8 (drop 8 bytes) =
    be_bytes_8 (take 8 (drop 8 bytes)) (checksum lines) (omega (arith, length-take 8 (drop 8 bytes), length-drop 8 bytes, holds.0)) (bytes-take 8 (drop 8 bytes) (bytes-drop 8 bytes are)) holds.1 in
    let behind = drop (16 + n) bytes in
    let from_16 : lines ++ behind ≡ drop 16 bytes = ap (λ (l : List ℕ). lines ++ l) (sym (drop-drop n 16 bytes)) ∙ take-append-drop n (drop 16 bytes) in
    let from_8 : to_be_bytes w64 (checksum lines) ++ (lines ++ behind) ≡ drop 8 bytes =
    (λ i. second i ++ from_16 i) ∙ ap (λ (l : List ℕ). take 8 (drop 8 bytes) ++ l) (sym (drop-drop 8 8 bytes)) ∙ take-append-drop 8 (drop 8 bytes) in
    let whole : to_be_bytes w64 (length lines) ++ (to_be_bytes w64 (checksum lines) ++ (lines ++ behind)) ≡ bytes = (λ i. first i ++ from_8 i) ∙ take-append-drop 8 bytes in
    sym (append_assoc (to_be_bytes w64 (length lines)) (to_be_bytes w64 (checksum lines) ++ lines) behind
    ∙ ap (λ (l : List ℕ). to_be_bytes w64 (length lines) ++ l) (append_assoc (to_be_bytes w64 (checksum lines)) lines behind) ∙ whole)

first_is : (bytes lines behind : List ℕ) → IsBytes bytes → first_group bytes ≡ Some (lines, behind) → bytes ≡ (6 ∷ body_of lines) ++ behind
first_is [] lines behind are is = absurd cc
first_is (gate ∷ bytes) lines behind are is =
    let n = 16 + stated_length bytes in
    let f = found ((gate == 6) && is_whole bytes) (stated_lines bytes, drop n bytes) (lines, behind) is in
    let both = both_hold (gate == 6) (is_whole bytes) f.0 in
    let six : gate ≡ 6 = eq_holds gate 6 both.0 in
    let lines_are : stated_lines bytes ≡ lines = ap (λ (p : List ℕ × List ℕ). p.0) f.1 in
    let behind_is : drop n bytes ≡ behind = ap (λ (p : List ℕ × List ℕ). p.1) f.1 in
    (λ i. six i ∷ whole_is bytes (bytes-rest gate bytes are) both.1 i) ∙ (λ i. (6 ∷ body_of (lines_are i)) ++ behind_is i)

split_in : (n : ℕ) (bytes : List ℕ) → length bytes ≤ n → IsBytes bytes → bytes ≡ blocks (groups_of bytes) ++ tail_of bytes
split_in zero [] short are = refl
split_in zero (byte ∷ bytes) short are = absurd (omega arith)
split_in (suc n) bytes short are = elim (some_or_none (first_group bytes)) [
  | inl none ↦
      let is = read_none bytes none in
      sym (λ i. blocks (is.0 i) ++ is.1 i)
  | inr some ↦
      let lines = some.0.0 in
      let behind = some.0.1 in
      let read = read_first bytes lines behind some.1 in
      let parts = first_is bytes lines behind are some.1 in
      let shorter : length behind ≤ n = omega (arith, short, ap length parts, length-append (6 ∷ body_of lines) behind, size (body_of lines)) in
      let behind_are : IsBytes behind = behind_bytes bytes (6 ∷ body_of lines) behind parts are in
      parts ∙ ap (λ (l : List ℕ). (6 ∷ body_of lines) ++ l) (split_in n behind shorter behind_are)
      ∙ sym (append_assoc (6 ∷ body_of lines) (blocks (groups_of behind)) (tail_of behind))
      ∙ sym (λ i. blocks (read.0 i) ++ read.1 i)
]
  where
    size : (l : List ℕ) → length (6 ∷ l) ≡ length l + 1
    size l = omega arith

    behind_bytes : (all front back : List ℕ) → all ≡ front ++ back → IsBytes all → IsBytes back
    behind_bytes all front back is are i = subst (λ (k : ℕ). k < 256) (at i) (are (length front + i))
      where
        at : (i : ℕ) → get_or all (length front + i) 0 ≡ get_or back i 0
        at i = ap (λ (l : List ℕ). get_or l (length front + i) 0) is ∙ get_or-append-add front back i 0

-- a file is its groups and what is behind them
pub split : (bytes : List ℕ) → IsBytes bytes → bytes ≡ blocks (groups_of bytes) ++ tail_of bytes
split bytes are = split_in (length bytes) bytes (omega arith) are

-- what is behind a group is shorter
pub behind_shorter : (bytes lines behind : List ℕ) → first_group bytes ≡ Some (lines, behind) → length behind < length bytes
behind_shorter [] lines behind is = absurd cc
behind_shorter (gate ∷ bytes) lines behind is =
    let n = 16 + stated_length bytes in
    let f = found ((gate == 6) && is_whole bytes) (stated_lines bytes, drop n bytes) (lines, behind) is in
    let behind_is : drop n bytes ≡ behind = ap (λ (p : List ℕ × List ℕ). p.1) f.1 in
    omega (arith, ap length behind_is, length-drop n bytes)

-- ---- the test of a group

pub too_short : (bytes : List ℕ) → length bytes < 16 + stated_length bytes → is_whole bytes ≡ false
unfolding is_whole
too_short bytes short = rw (le_fails (16 + stated_length bytes) (length bytes) short) refl

pub other_checksum : (bytes : List ℕ) → checksum (stated_lines bytes) ≢ stated_checksum bytes → is_whole bytes ≡ false
unfolding is_whole
other_checksum bytes other = rw (eq_fails (checksum (stated_lines bytes)) (stated_checksum bytes) other) (no_second (nat_le (16 + stated_length bytes) (length bytes)))

pub whole_if : (bytes : List ℕ) → 16 + stated_length bytes ≤ length bytes → checksum (stated_lines bytes) ≡ stated_checksum bytes → is_whole bytes ≡ true
unfolding is_whole
whole_if bytes long same = both (nat_le (16 + stated_length bytes) (length bytes)) (checksum (stated_lines bytes) == stated_checksum bytes)
    (le_test (16 + stated_length bytes) (length bytes) long) (eq_test (checksum (stated_lines bytes)) (stated_checksum bytes) same)
