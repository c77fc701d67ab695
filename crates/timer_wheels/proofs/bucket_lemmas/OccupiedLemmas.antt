-- Lemmas about the bits of the lists, of so many words.
use Rattle.std.proofs.Common.{◌≡◌, ◌≢◌, ◌<◌, ◌≤◌, ◌+◌, ◌-◌, ◌*◌, ◌/◌, ◌%◌, ◌^◌, ℕ, zero, suc, List, [], ◌∷◌, ◌++◌, length, refl, sym, ◌∙◌, ap, inl, inr, arith, length-set, get_or-set_same, get_or-set_other, slice_index_or, slice_set, bit_and, bit_or, Some}
use Rattle.std.specs.Int.{bit_at, w64, trailing_zeros}
use Rattle.std.proofs.lemmas.Bool.{cases_eq, cases_lt}
use Rattle.std.proofs.lemmas.Nat.Bits.{bit_at_set_same, bit_at_set_other, bit_at_clear_same, bit_at_clear_other, bit_at-trailing_zeros, bit_at-zero, bit_at-suc, bit_at_above}
use Rattle.std.proofs.lemmas.Nat.{pow-add}
use Rattle.std.proofs.Math.Nat.{div-div-eq-div-mul}
use Rattle.timer_links.specs.Lists.{list_at, front_moved, first_row_moved, KeyedLists, Row, Rows}
use Rattle.timer_wheels.specs.Occupied.{bit_of, filled, AreMarked, AreMarkedBut, IsClearFrom, IsFirstSet, IsLowestSet}

-- One word is written.

module _ (words : List ℕ) (l v n : ℕ) (len : length words ≡ n) (h : l < 64 * n) where
  abbrev written : List ℕ
  written = slice_set words (l / 64) v

  word_here : slice_index_or written (l / 64) 0 ≡ v
  word_here = get_or-set_same words (l / 64) v 0 (omega arith)

  pub written_here : bit_of written l ≡ bit_at v (l % 64)
  written_here = ap (λ (x : ℕ). bit_at x (l % 64)) word_here

  pub written_others : (s : ℕ) → s ≢ l → ((i : ℕ) → i < 64 → i ≢ l % 64 → bit_at v i ≡ bit_at (slice_index_or words (l / 64) 0) i)
      → bit_of written s ≡ bit_of words s
  written_others s other f = elim (cases_eq (s / 64) (l / 64)) [
    | inl e ↦ rw (e, word_here) (f (s % 64) (omega arith) (omega arith))
    | inr e ↦ ap (λ (x : ℕ). bit_at x (s % 64)) (get_or-set_other words (l / 64) (s / 64) v 0 e)
  ]

module _ (words : List ℕ) (l n : ℕ) (len : length words ≡ n) (h : l < 64 * n) where
  -- the word of the bit, and that word with the bit and without it
  abbrev word : ℕ
  word = slice_index_or words (l / 64) 0

  abbrev with_bit : ℕ
  with_bit = bit_or word (1 * 2 ^ (l % 64) % 18446744073709551616)

  abbrev without_bit : ℕ
  without_bit = bit_and word (18446744073709551615 - 1 * 2 ^ (l % 64) % 18446744073709551616)

  pub set_here : bit_of (slice_set words (l / 64) with_bit) l ≡ 1
  set_here = written_here words l with_bit n len h ∙ bit_at_set_same w64 word (l % 64) (omega arith)

  pub set_others : (s : ℕ) → s ≢ l → bit_of (slice_set words (l / 64) with_bit) s ≡ bit_of words s
  set_others s other = written_others words l with_bit n len h s other (λ i b m. bit_at_set_other w64 word (l % 64) (omega arith) i m)

  pub clear_here : bit_of (slice_set words (l / 64) without_bit) l ≡ 0
  clear_here = written_here words l without_bit n len h ∙ bit_at_clear_same w64 word (l % 64) (omega arith)

  pub clear_others : (s : ℕ) → s ≢ l → bit_of (slice_set words (l / 64) without_bit) s ≡ bit_of words s
  clear_others s other = written_others words l without_bit n len h s other (λ i b m. bit_at_clear_other w64 word (l % 64) (omega arith) i b m)

-- The first bit.

-- the words below number k have no bit
abbrev pub AreClear : ℕ → List ℕ → Type 0
AreClear k words = (s : ℕ) → s < 64 * k → bit_of words s ≡ 0

pub clear_word : (k : ℕ) (words : List ℕ) → slice_index_or words k 0 ≡ 0 → AreClear k words → AreClear (k + 1) words
clear_word k words z c s h = elim (cases_lt s (64 * k)) [
  | inl b ↦ c s b
  | inr b ↦
      let e : s / 64 ≡ k = omega arith in
      rw (e, z) (bit_at-zero (s % 64))
]

bit_there : (k j : ℕ) (words : List ℕ) → j < 64 → bit_of words (64 * k + j) ≡ bit_at (slice_index_or words k 0) j
bit_there k j words h =
    let p : (64 * k + j) / 64 ≡ k = omega arith in
    let q : (64 * k + j) % 64 ≡ j = omega arith in
    rw (p, q) refl

before_bit : (k : ℕ) (words : List ℕ) (s : ℕ) → 64 * k ≤ s → s < 64 * k + 64
    → bit_of words s ≡ bit_at (slice_index_or words k 0) (s - 64 * k)
before_bit k words s a b = let e : s ≡ 64 * k + (s - 64 * k) = omega arith
    in ap (bit_of words) e ∙ bit_there k (s - 64 * k) words (omega arith)

pub lowest_set : (word : ℕ) → word ≢ 0 → word < 2 ^ 64 → IsLowestSet word (trailing_zeros w64 word)
lowest_set word n r = let t = bit_at-trailing_zeros w64 word (omega arith) r in record { in_range = t.0; is_set = t.1; below = t.2 }

pub first_bit : (k j n : ℕ) (words : List ℕ) → k < n → IsLowestSet (slice_index_or words k 0) j → AreClear k words
    → IsFirstSet (64 * n) words (Some (64 * k + j))
first_bit k j n words h t c =
    let b : j < 64 = t.in_range in (
      omega arith,
      bit_there k j words b ∙ t.is_set,
      (λ (s : ℕ) (q : s < 64 * k + j). elim (cases_lt s (64 * k)) [
        | inl l ↦ c s l
        | inr l ↦ before_bit k words s l (omega arith) ∙ t.below (s - 64 * k) (omega arith)
      ]),
    )

-- The bits of a word from one of them on.

shifted : (n b i : ℕ) → bit_at (n / 2 ^ b) i ≡ bit_at n (b + i)
shifted n zero i =
    let e : n / 2 ^ 0 ≡ n = omega arith in
    let z : 0 + i ≡ i = omega arith in
    ap (λ (x : ℕ). bit_at x i) e ∙ ap (bit_at n) (sym z)
shifted n (suc b) i =
    let p : 2 ^ suc b ≡ 2 * 2 ^ b = (let q : suc b ≡ 1 + b = omega arith in ap (λ (k : ℕ). 2 ^ k) q ∙ pow-add 2 1 b) in
    let e : n / 2 ^ suc b ≡ n / 2 / 2 ^ b = ap (λ (x : ℕ). n / x) p ∙ sym (div-div-eq-div-mul n 2 (2 ^ b)) in
    let next : suc b + i ≡ suc (b + i) = omega arith in
    ap (λ (x : ℕ). bit_at x i) e ∙ (shifted (n / 2) b i ∙ (sym (bit_at-suc n (b + i)) ∙ ap (bit_at n) (sym next)))

module _ (n b : ℕ) where
  at_rest : (i : ℕ) → b ≤ i → bit_at n i ≡ bit_at (n / 2 ^ b) (i - b)
  at_rest i h = (let e : i ≡ b + (i - b) = omega arith in ap (bit_at n) e) ∙ sym (shifted n b (i - b))

  pub clear_rest : n / 2 ^ b ≡ 0 → (i : ℕ) → b ≤ i → bit_at n i ≡ 0
  clear_rest z i h = at_rest i h ∙ (ap (λ (x : ℕ). bit_at x (i - b)) z ∙ bit_at-zero (i - b))

  pub clear_below : (low : ℕ) → IsLowestSet (n / 2 ^ b) low → (i : ℕ) → b ≤ i → i < b + low → bit_at n i ≡ 0
  clear_below low f i h l = at_rest i h ∙ f.below (i - b) (omega arith)

  pub set_below : (low : ℕ) → IsLowestSet (n / 2 ^ b) low → n < 2 ^ 64 → b + low ≤ 64
  set_below low f r = elim (cases_lt (b + low) 64) [
    | inl c ↦ omega arith
    | inr c ↦
        let above : bit_at n (b + low) ≡ 0 = bit_at_above n 64 (b + low) r c in
        let set = f.is_set in
        absurd (omega (arith, shifted n b low))
  ]

  pub set_first : IsLowestSet (n / 2 ^ b) 0 → bit_at n b ≡ 1
  set_first f = at_rest b (omega arith) ∙ (let z : b - b ≡ 0 = omega arith in ap (bit_at (n / 2 ^ b)) z ∙ f.is_set)

-- the same of the bits of lists
pub clear_lists : (words : List ℕ) (list clear : ℕ) → list % 64 + clear ≤ 64
    → ((i : ℕ) → list % 64 ≤ i → i < list % 64 + clear → bit_at (slice_index_or words (list / 64) 0) i ≡ 0)
    → (s : ℕ) → list ≤ s → s < list + clear → bit_of words s ≡ 0
clear_lists words list clear few f s a b =
    let w : s / 64 ≡ list / 64 = omega arith in
    ap (λ (x : ℕ). bit_at (slice_index_or words x 0) (s % 64)) w ∙ f (s % 64) (omega arith) (omega arith)

-- The bits and the lists.

pub marked_none : (n : ℕ) (words : List ℕ) (lists : KeyedLists) → ((s : ℕ) → bit_of words s ≡ 0) → ((s : ℕ) → s < n → list_at s lists ≡ [])
    → AreMarked n words lists
marked_none n words lists w e = ((λ s h. w s ∙ sym (ap filled (e s h))), (λ s a b. w s))

pub no_rows_there : (rows : Rows) → filled rows ≡ 0 → rows ≡ []
no_rows_there [] e = refl
no_rows_there (x ∷ xs) e = absurd (omega arith)

pub filled_behind : (rows : Rows) (row : Row) → filled (rows ++ row ∷ []) ≡ 1
filled_behind [] row = refl
filled_behind (x ∷ xs) row = refl

-- the bits are those of the same lists
pub marked_same : (n : ℕ) (words : List ℕ) (old new : KeyedLists) → ((s : ℕ) → s < n → list_at s new ≡ list_at s old)
    → AreMarked n words old → AreMarked n words new
marked_same n words old new e t = ((λ s h. t.0 s h ∙ sym (ap filled (e s h))), t.1)

-- the bits from n on stay clear
clear_too : (n l : ℕ) (words words2 : List ℕ) → l < n → ((s : ℕ) → s ≢ l → bit_of words2 s ≡ bit_of words s) → IsClearFrom n words
    → IsClearFrom n words2
clear_too n l words words2 h o c s a b = o s (omega arith) ∙ c s a b

-- one list is replaced, and its bit is that of its rows
pub marked_set : (n : ℕ) (words words2 : List ℕ) (l : ℕ) (rows : Rows) (lists : KeyedLists) → l < n → l < length lists
    → bit_of words2 l ≡ filled rows → ((s : ℕ) → s ≢ l → bit_of words2 s ≡ bit_of words s) → AreMarked n words lists
    → AreMarked n words2 (slice_set lists l rows)
marked_set n words words2 l rows lists f b h o t = (
  (λ (s : ℕ) (k : s < n). elim (cases_eq s l) [
    | inl e ↦ rw (e, get_or-set_same lists l rows [] b) h
    | inr m ↦ rw (o s m, get_or-set_other lists l s rows [] m) (t.0 s k)
  ]),
  clear_too n l words words2 f o t.1,
)

pub marked_all : (n : ℕ) (words : List ℕ) (l : ℕ) (lists : KeyedLists) → bit_of words l ≡ filled (list_at l lists)
    → AreMarkedBut n l words lists → AreMarked n words lists
marked_all n words l lists e t = (
  (λ (s : ℕ) (h : s < n). elim (cases_eq s l) [
    | inl q ↦ rw q e
    | inr m ↦ t.0 s h m
  ]),
  t.1,
)

-- the first row of a list moves to another
pub moved_same : (l to s : ℕ) (lists : KeyedLists) (rows : Rows) → s ≢ l → s ≢ to
    → list_at s (first_row_moved l to lists rows) ≡ list_at s lists
moved_same l to s lists [] n m = refl
moved_same l to s lists (row ∷ rest) n m = get_or-set_other (slice_set lists l rest) to s (list_at to (slice_set lists l rest)
    ++ row ∷ []) [] m ∙ get_or-set_other lists l s rest [] n

pub marked_due : (n : ℕ) (words : List ℕ) (l to : ℕ) (lists new : KeyedLists) → to ≡ n → new ≡ front_moved l to lists
    → AreMarkedBut n l words lists → AreMarkedBut n l words new
marked_due n words l to lists new q e t = (
  (λ (s : ℕ) (h : s < n) (d : s ≢ l).
      let m : s ≢ to = omega arith in
      rw (e, moved_same l to s lists (list_at l lists) d m) (t.0 s h d)),
  t.1,
)

pub marked_left : (n : ℕ) (words words2 : List ℕ) (l to : ℕ) (row : Row) (rest : Rows) (lists new : KeyedLists) → to < n
    → to < length lists → bit_of words2 to ≡ 1 → ((s : ℕ) → s ≢ to → bit_of words2 s ≡ bit_of words s)
    → list_at l lists ≡ row ∷ rest → new ≡ front_moved l to lists → AreMarkedBut n l words lists → AreMarkedBut n l words2 new
marked_left n words words2 l to row rest lists new f b z o at e t = (
  (λ (s : ℕ) (h : s < n) (d : s ≢ l). elim (cases_eq s to) [
    | inl q ↦ rw (
      q,
      z,
      e,
      at,
      get_or-set_same (slice_set lists l rest) to (list_at to (slice_set lists l rest) ++ row ∷ []) [] (rw (length-set lists l rest) b),
      filled_behind (list_at to (slice_set lists l rest)) row,
    ) refl
    | inr m ↦ rw (o s m, e, moved_same l to s lists (list_at l lists) d m) (t.0 s h d)
  ]),
  clear_too n to words words2 f o t.1,
)
