-- The positions of line feeds in lines.
use Rattle.std.proofs.Common.{◌==◌, ◌&&◌, not, Bool, true, false, cond, inl, inr, ◌≡◌, zero, suc, ℕ, ◌+◌, ◌-◌, ◌*◌, ◌/◌, ◌%◌, ◌<◌, ◌≤◌, nat_lt, List, [], ◌∷◌, ◌++◌, length, get_or, take, decimal, refl, sym, ap, subst, ◌∙◌, arith, append_assoc, length-append, lit≤}
use Rattle.std.specs.List.{AllByRecursion}
use Rattle.std.specs.Fmt.{digits, digits_onto, digit_glyph}
use Rattle.std.proofs.lemmas.Fmt.{length-decimal-le}
use Rattle.std.proofs.lemmas.List.{take_more}
use Rattle.timer_script.specs.Types.{LAST, MAX_LINE}
use Rattle.timer_base.proofs.Basics.{either}
use Rattle.timer_script.specs.Script.{HasNoFeed}
use Rattle.timer_script.specs.Text.{numbers}

pub no_feed-append : (xs ys : List ℕ) → HasNoFeed xs → HasNoFeed ys → HasNoFeed (xs ++ ys)
no_feed-append [] ys a b = b
no_feed-append (x ∷ xs) ys a b = (a.0, no_feed-append xs ys a.1 b)

-- whether no line feed is among the bytes
abbrev pub is_bare : List ℕ → Bool
is_bare [] = true
is_bare (b ∷ bytes) = not (b == 10) && is_bare bytes

pub no_feed_if_bare : (bytes : List ℕ) → is_bare bytes ≡ true → HasNoFeed bytes
no_feed_if_bare [] e = tt
no_feed_if_bare (b ∷ bytes) e = elim (either (b == 10)) [
  | inl k ↦ (let h : false ≡ true = rw k at e in absurd cc)
  | inr k ↦ (λ is. (let h : (10 == 10) ≡ false = rw is at k in absurd cc), no_feed_if_bare bytes (rw k at e))
]

-- a number has no line feed
digit_bare : (d : ℕ) → digit_glyph false d ≡ 10 → ⊥
digit_bare d e = elim (either (nat_lt d 10)) [
  | inl k ↦ (let h : 48 + d ≡ 10 = ap (λ t. cond t (48 + d) (87 + d)) (sym k) ∙ e in absurd (omega arith))
  | inr k ↦ (let h : 87 + d ≡ 10 = ap (λ t. cond t (48 + d) (87 + d)) (sym k) ∙ e in absurd (omega arith))
]

onto_bare : (k n : ℕ) (acc : List ℕ) → HasNoFeed acc → HasNoFeed (digits_onto k 10 false n acc)
onto_bare zero n acc h = h
onto_bare (suc k) n acc h =
    let front : List ℕ = digit_glyph false (n % 10) ∷ acc in
    let more : HasNoFeed front = (digit_bare (n % 10), h) in
    elim (either (n / 10 == 0)) [
      | inl z ↦ rw z more
      | inr z ↦ rw z (onto_bare k (n / 10) front more)
    ]

pub decimal_bare : (n : ℕ) → HasNoFeed (decimal n)
unfolding digits
decimal_bare n = onto_bare 64 n [] tt

-- a space and a number, for each of these: so many bytes at most
pub numbers_bare : (ns : List ℕ) → HasNoFeed (numbers ns)
numbers_bare [] = tt
numbers_bare (n ∷ ns) = no_feed-append (32 ∷ decimal n) (numbers ns) (λ e. absurd cc, decimal_bare n) (numbers_bare ns)

numbers_short : (ns : List ℕ) → AllByRecursion (λ n. n ≤ LAST) ns → length (numbers ns) ≤ 20 * length ns
numbers_short [] fit = omega arith
numbers_short (n ∷ ns) fit =
    let digits : length (decimal n) ≤ 19 = length-decimal-le 19 n (lit≤ tt) (omega (arith, fit.0)) (omega arith) in
    omega (arith, digits, length-append (32 ∷ decimal n) (numbers ns), numbers_short ns fit.1)

-- a line is some bytes with no line feed, and then one
pub record IsFed (bytes : List ℕ) : Type 0 where
  pub front : List ℕ
  pub is : bytes ≡ front ++ 10 ∷ []
  pub no_feed : HasNoFeed front
  pub short : length front < MAX_LINE

-- numbers up to the end of a line
abbrev pub ended : List ℕ → List ℕ
ended [] = 10 ∷ []
ended (n ∷ ns) = 32 ∷ (decimal n ++ ended ns)

ended_is : (ns : List ℕ) → ended ns ≡ numbers ns ++ 10 ∷ []
ended_is [] = refl
ended_is (n ∷ ns) =
    ap (λ t. 32 ∷ (decimal n ++ t)) (ended_is ns) ∙ ap (λ t. 32 ∷ t) (sym (append_assoc (decimal n) (numbers ns) (10 ∷ [])))

-- a word and numbers
pub fed : (word ns bytes : List ℕ) → HasNoFeed word → length word + 20 * length ns < MAX_LINE
    → AllByRecursion (λ n. n ≤ LAST) ns → bytes ≡ word ++ ended ns → IsFed bytes
fed word ns bytes free small fit is = record {
  front = word ++ numbers ns;
  is = is ∙ ap (λ t. word ++ t) (ended_is ns) ∙ sym (append_assoc word (numbers ns) (10 ∷ []));
  no_feed = no_feed-append word (numbers ns) free (numbers_bare ns);
  short = omega (arith, small, length-append word (numbers ns), numbers_short ns fit);
}

-- bytes split at their first line feed in one way
pub first_feed : (xs ys more other : List ℕ) → HasNoFeed xs → HasNoFeed ys → xs ++ 10 ∷ more ≡ ys ++ 10 ∷ other → (xs ≡ ys) × (more ≡ other)
first_feed [] [] more other a b e = (refl, cc)
first_feed [] (y ∷ ys) more other a b e = absurd (b.0 (sym (cc)))
first_feed (x ∷ xs) [] more other a b e = absurd (a.0 cc)
first_feed (x ∷ xs) (y ∷ ys) more other a b e =
    let h = first_feed xs ys more other a.1 b.1 (cc) in
    let first : x ≡ y = cc in
    (rw (first, h.0) refl, h.1)

-- bytes without a line feed are no longer than those before the first one
pub no_feed_long : (xs ys more other : List ℕ) → HasNoFeed xs → xs ++ more ≡ ys ++ 10 ∷ other → length xs ≤ length ys
no_feed_long [] ys more other a e = omega arith
no_feed_long (x ∷ xs) [] more other a e = absurd (a.0 cc)
no_feed_long (x ∷ xs) (y ∷ ys) more other a e = let h = no_feed_long xs ys more other a.1 (cc) in omega arith

pub at_feed : (xs more : List ℕ) → (xs ++ 10 ∷ []) ++ more ≡ xs ++ 10 ∷ more
at_feed xs more = append_assoc xs (10 ∷ []) more

-- one more byte
last_byte : (bytes : List ℕ) (n : ℕ) → 0 < n → n ≤ length bytes → take n bytes ≡ take (n - 1) bytes ++ get_or bytes (n - 1) 0 ∷ []
last_byte bytes n some within =
    let same : n - 1 + 1 ≡ n = omega arith in
    subst (λ k. take k bytes ≡ take (n - 1) bytes ++ get_or bytes (n - 1) 0 ∷ []) same (take_more bytes (n - 1) 0 (omega arith))

-- which is no line feed
pub no_feed-take : (old bytes : List ℕ) (n : ℕ) → 0 < n → n ≤ length bytes → HasNoFeed old → HasNoFeed (take (n - 1) bytes)
    → (get_or bytes (n - 1) 0 ≡ 10 → ⊥) → HasNoFeed (old ++ take n bytes)
no_feed-take old bytes n some within a b c = no_feed-append old (take n bytes) a (subst HasNoFeed (sym (last_byte bytes n some within))
    (no_feed-append (take (n - 1) bytes) (get_or bytes (n - 1) 0 ∷ []) b (c, tt)))

-- which is one
pub feed-take : (old bytes : List ℕ) (n : ℕ) → 0 < n → n ≤ length bytes → get_or bytes (n - 1) 0 ≡ 10
    → old ++ take n bytes ≡ (old ++ take (n - 1) bytes) ++ 10 ∷ []
feed-take old bytes n some within is =
    rw (last_byte bytes n some within, is) (sym (append_assoc old (take (n - 1) bytes) (10 ∷ [])))
