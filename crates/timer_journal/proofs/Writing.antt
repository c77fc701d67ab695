-- What is written as a group is read as that group.
use Rattle.std.proofs.Common.{◌≡◌, inl, inr, ℕ, zero, suc, ◌+◌, ◌*◌, ◌%◌, ◌<◌, ◌≤◌, ◌^◌, true, false, not, ◌==◌, nat_le, List, [], ◌∷◌, ◌++◌, length, take, drop, Some, None, refl, sym, ◌∙◌, ap, subst, append_assoc, append-nil, length-append, length-take, true≢false, arith}
use Rattle.std.specs.Int.{w64, to_be_bytes, from_be_bytes}
use Rattle.std.specs.List.{AllByRecursion}
use Rattle.std.proofs.lemmas.List.{take_at, drop_at, drop-drop, take-take}
use Rattle.std.proofs.lemmas.Bool.{cases_eq, cases_lt}
use Rattle.std.proofs.lemmas.Nat.{from_be_bytes-to_be_bytes_8}
use Rattle.timer_journal.specs.Format.{checksum_from, checksum, body_of, blocks, stated_length, stated_checksum, stated_lines, is_whole, first_group, groups_of, tail_of, is_torn_group, is_torn_end, Says}
use Rattle.timer_journal.proofs.Tests.{le_holds, le_test, eq_test, eq_fails, both, both_hold, no_second, second, one_holds}
use Rattle.timer_journal.proofs.Reading.{read_first, read_none}

-- ---- one group

checksum_fits : (sum : ℕ) (bytes : List ℕ) → sum < 2 ^ 64 → checksum_from sum bytes < 2 ^ 64
checksum_fits sum [] fits = fits
checksum_fits sum (byte ∷ bytes) fits = checksum_fits ((sum + byte) % 2 ^ 64 * 1099511628211 % 2 ^ 64) bytes (omega arith)

pub length-body : (lines : List ℕ) → length (body_of lines) ≡ length lines + 16
length-body lines = omega (arith, eight (length lines), eight (checksum lines), length-append (to_be_bytes w64 (length lines)) (to_be_bytes w64 (checksum lines) ++ lines), length-append (to_be_bytes w64 (checksum lines)) lines)
  where
    eight : (n : ℕ) → length (to_be_bytes w64 n) ≡ 8
    eight n = refl

first_whole : (bytes lines behind : List ℕ) → is_whole bytes ≡ true → stated_lines bytes ≡ lines → drop (16 + stated_length bytes) bytes ≡ behind → first_group (6 ∷ bytes) ≡ Some (lines, behind)
first_whole bytes lines behind whole lines_are behind_is = rw whole (λ i. Some (lines_are i, behind_is i))

module _ (lines rest : List ℕ) (fits : length lines < 2 ^ 64) where
  abbrev body : List ℕ
  body = body_of lines ++ rest

  abbrev head : List ℕ
  head = to_be_bytes w64 (length lines)

  abbrev sum : List ℕ
  sum = to_be_bytes w64 (checksum lines)

  parts : body ≡ head ++ ((sum ++ lines) ++ rest)
  parts = append_assoc head (sum ++ lines) rest

  from_8 : drop 8 body ≡ sum ++ (lines ++ rest)
  from_8 = ap (λ (l : List ℕ). drop 8 l) parts ∙ drop_at head ((sum ++ lines) ++ rest) 8 refl ∙ append_assoc sum lines rest

  from_16 : drop 16 body ≡ lines ++ rest
  from_16 = sym (drop-drop 8 8 body) ∙ ap (λ (l : List ℕ). drop 8 l) from_8 ∙ drop_at sum (lines ++ rest) 8 refl

  pub says_length : stated_length body ≡ length lines
  says_length = ap (λ (l : List ℕ). from_be_bytes w64 (take 8 l)) parts ∙ ap (from_be_bytes w64) (take_at head ((sum ++ lines) ++ rest) 8 refl) ∙ from_be_bytes-to_be_bytes_8 (length lines) fits

  says_checksum : stated_checksum body ≡ checksum lines
  says_checksum = ap (λ (l : List ℕ). from_be_bytes w64 (take 8 l)) from_8 ∙ ap (from_be_bytes w64) (take_at sum (lines ++ rest) 8 refl) ∙ from_be_bytes-to_be_bytes_8 (checksum lines) (checksum_fits 1 lines (omega arith))

  says_lines : stated_lines body ≡ lines
  says_lines = (λ i. take (says_length i) (from_16 i)) ∙ take_at lines rest (length lines) refl

  says_behind : drop (16 + stated_length body) body ≡ rest
  says_behind = sym (drop-drop (stated_length body) 16 body) ∙ (λ i. drop (says_length i) (from_16 i)) ∙ drop_at lines rest (length lines) refl

  is_all_there : is_whole body ≡ true
  unfolding is_whole
  is_all_there = both (nat_le (16 + stated_length body) (length body)) (checksum (stated_lines body) == stated_checksum body)
      (le_test (16 + stated_length body) (length body) (omega (arith, says_length, length-append (body_of lines) rest, length-body lines)))
      (eq_test (checksum (stated_lines body)) (stated_checksum body) (ap checksum says_lines ∙ sym says_checksum))

  pub read_group : (groups_of ((6 ∷ body_of lines) ++ rest) ≡ lines ∷ groups_of rest) × (tail_of ((6 ∷ body_of lines) ++ rest) ≡ tail_of rest)
  read_group = read_first (6 ∷ body) lines rest (first_whole body lines rest is_all_there says_lines says_behind)

-- ---- several

abbrev pub AllFit : List (List ℕ) → Type 0
AllFit groups = AllByRecursion (λ lines. length lines < 2 ^ 64) groups

-- groups fit if their bytes do
pub all_fit : (groups : List (List ℕ)) → length (blocks groups) < 2 ^ 64 → AllFit groups
all_fit [] fits = tt
all_fit (lines ∷ groups) fits =
    let size = length-append (6 ∷ body_of lines) (blocks groups) in
    (omega (arith, fits, size, length-body lines), all_fit groups (omega (arith, fits, size)))

pub read_blocks : (groups : List (List ℕ)) (rest : List ℕ) → AllFit groups → (groups_of (blocks groups ++ rest) ≡ groups ++ groups_of rest) × (tail_of (blocks groups ++ rest) ≡ tail_of rest)
read_blocks [] rest fit = (refl, refl)
read_blocks (lines ∷ groups) rest fit =
    let parts = append_assoc (6 ∷ body_of lines) (blocks groups) rest in
    let one = read_group lines (blocks groups ++ rest) fit.0 in
    let more = read_blocks groups rest fit.1 in
    (ap groups_of parts ∙ one.0 ∙ ap (λ (gs : List (List ℕ)). lines ∷ gs) more.0, ap tail_of parts ∙ one.1 ∙ more.1)

pub blocks-push : (groups : List (List ℕ)) (lines rest : List ℕ) → blocks (groups ++ lines ∷ []) ++ rest ≡ blocks groups ++ ((6 ∷ body_of lines) ++ rest)
blocks-push [] lines rest = ap (λ (l : List ℕ). l ++ rest) (append-nil (6 ∷ body_of lines))
blocks-push (first ∷ groups) lines rest =
    append_assoc (6 ∷ body_of first) (blocks (groups ++ lines ∷ [])) rest ∙ ap (λ (l : List ℕ). (6 ∷ body_of first) ++ l) (blocks-push groups lines rest)
    ∙ sym (append_assoc (6 ∷ body_of first) (blocks groups) ((6 ∷ body_of lines) ++ rest))

-- ---- what may be behind them

none_of_nothing : is_whole [] ≡ false
unfolding is_whole
none_of_nothing = refl

-- it has no whole group
torn_nothing : (tail : List ℕ) → is_torn_end tail ≡ true → first_group tail ≡ None
torn_nothing [] torn = refl
torn_nothing (gate ∷ []) torn = rw (none_of_nothing, no_second (gate == 6)) refl
torn_nothing (gate ∷ byte ∷ bytes) torn = elim (cases_eq gate 6) [
  | inl six ↦
      let open_gate : false ≡ true = subst (λ (k : ℕ). is_torn_end (k ∷ byte ∷ bytes) ≡ true) six torn in
      absurd (true≢false (sym open_gate))
  | inr other ↦ rw (eq_fails gate 6 other) refl
]

pub says_end : (groups : List (List ℕ)) (tail : List ℕ) → AllFit groups → is_torn_end tail ≡ true → Says groups (blocks groups ++ tail)
says_end groups tail fit torn =
    let read = read_blocks groups tail fit in
    let none = read_none tail (torn_nothing tail torn) in
    record {
      whole = read.0 ∙ ap (λ (gs : List (List ℕ)). groups ++ gs) none.0 ∙ append-nil groups;
      end = ap is_torn_end (read.1 ∙ none.1) ∙ torn;
    }

pub closed_end : (bytes : List ℕ) → is_torn_end (21 ∷ bytes) ≡ true
closed_end [] = refl
closed_end (byte ∷ bytes) = refl

pub short_end : (bytes : List ℕ) → length bytes ≤ 1 → is_torn_end bytes ≡ true
short_end [] short = refl
short_end (gate ∷ []) short = refl
short_end (gate ∷ byte ∷ bytes) short = absurd (omega arith)

-- a front of such an end is one
pub torn_front : (n : ℕ) (tail : List ℕ) → is_torn_end tail ≡ true → is_torn_end (take n tail) ≡ true
torn_front zero tail torn = refl
torn_front (suc n) [] torn = refl
torn_front (suc zero) (gate ∷ bytes) torn = refl
torn_front (suc (suc n)) (gate ∷ []) torn = refl
torn_front (suc (suc n)) (gate ∷ byte ∷ bytes) torn = elim (one_holds (gate == 21) (is_torn_group gate (byte ∷ bytes)) torn) [
  | inl closed ↦ rw closed refl
  | inr short ↦
      let holds = both_hold (not (gate == 6)) (nat_le (length (byte ∷ bytes)) (17 + stated_length (byte ∷ bytes))) short in
      second (gate == 21) (is_torn_group gate (byte ∷ take n bytes)) (both (not (gate == 6)) (nat_le (length (byte ∷ take n bytes)) (17 + stated_length (byte ∷ take n bytes))) holds.0 (le_test (length (byte ∷ take n bytes)) (17 + stated_length (byte ∷ take n bytes)) (fewer (le_holds (length (byte ∷ bytes)) (17 + stated_length (byte ∷ bytes)) holds.1))))
]
  where
    fewer : length (byte ∷ bytes) ≤ 17 + stated_length (byte ∷ bytes) → length (byte ∷ take n bytes) ≤ 17 + stated_length (byte ∷ take n bytes)
    fewer le = elim (cases_lt n 7) [
      | inl few ↦ omega (arith, few, length-take n bytes)
      | inr many ↦
          let same : stated_length (byte ∷ take n bytes) ≡ stated_length (byte ∷ bytes) = ap (λ (l : List ℕ). from_be_bytes w64 (byte ∷ l)) (take-take 7 n bytes many) in
          omega (arith, le, same, length-take n bytes)
    ]
