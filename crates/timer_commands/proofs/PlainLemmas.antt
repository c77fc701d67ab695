-- Text in which no line says when to wake up, and whole lines of a text.
use Rattle.std.proofs.Common.{◌≡◌, ◌≢◌, ◌==◌, ℕ, suc, ◌+◌, ◌≤◌, Bool, true, false, not, cond, ne_eqb, List, [], ◌∷◌, ◌++◌, length, refl, sym, ap, subst, ◌∙◌, append_assoc, length-append, nat_lt, zero, inl, inr, ◌⊎◌, arith}
use Rattle.std.specs.List.{filter, concat}
use Rattle.std.proofs.lemmas.Bool.Decides.{nat_tests}
use Rattle.timer_base.proofs.Basics.{either}
use Rattle.timer_script.specs.Script.{HasNoFeed}
use Rattle.timer_script.specs.Text.{out_line, lines_of}
use Rattle.timer_script.specs.Types.{Out}
use Rattle.timer_script.proofs.TextLemmas.{IsOutLine, out_line_is}
use Rattle.timer_durable.specs.Answers.{lines_in, after_lines, put_first, cut_lines, is_answer, answers_of}

-- no line begins with the letter w, but for the first one if that has begun before
abbrev pub IsPlain : Bool → List ℕ → Type 0
IsPlain fresh [] = Unit {0}
IsPlain true (byte ∷ bytes) = (byte ≢ 119) × IsPlain (byte == 10) bytes
IsPlain false (byte ∷ bytes) = IsPlain (byte == 10) bytes

pub plain_front : (fresh : Bool) (a b : List ℕ) → IsPlain fresh (a ++ b) → IsPlain fresh a
plain_front fresh [] b h = tt
plain_front true (x ∷ a) b h = (h.0, plain_front (x == 10) a b h.1)
plain_front false (x ∷ a) b h = plain_front (x == 10) a b h

-- ---- the answers in it

answer_kept : (x : ℕ) (line : List ℕ) (lines : List (List ℕ)) → x ≢ 119
    → concat (filter is_answer ((x ∷ line) ∷ lines)) ≡ x ∷ (line ++ concat (filter is_answer lines))
answer_kept x line lines other = ap (λ b. concat (cond (not b) ((x ∷ line) ∷ filter is_answer lines) (filter is_answer lines))) (ne_eqb x 119 other)

one_byte_more : (x y : ℕ) (lines : List (List ℕ)) (t : List ℕ) → x ≢ 119 → concat (filter is_answer (put_first x lines)) ≡ x ∷ t
    → concat (filter is_answer (put_first x (put_first y lines))) ≡ x ∷ y ∷ t
one_byte_more x y [] t other is =
    answer_kept x (y ∷ []) [] other ∙ ap (λ l. x ∷ y ∷ l) (let e : [] ≡ t = cc_tail x [] t (sym (answer_kept x [] [] other) ∙ is) in e)
  where
    cc_tail : (x : ℕ) (a b : List ℕ) → x ∷ a ≡ x ∷ b → a ≡ b
    cc_tail x a b e = cc
one_byte_more x y (line ∷ lines) t other is =
    answer_kept x (y ∷ line) lines other
    ∙ ap (λ l. x ∷ y ∷ l) (cc_tail x (line ++ concat (filter is_answer lines)) t (sym (answer_kept x line lines other) ∙ is))
  where
    cc_tail : (x : ℕ) (a b : List ℕ) → x ∷ a ≡ x ∷ b → a ≡ b
    cc_tail x a b e = cc

record AnswersAll (text : List ℕ) : Type 0 where
  pub fresh : IsPlain true text → answers_of text ≡ text
  pub begun : (x : ℕ) → x ≢ 119 → IsPlain false text → concat (filter is_answer (put_first x (cut_lines text))) ≡ x ∷ text

-- a byte more, of which it is known whether it ends the line
fresh_more : (fed : Bool) (y : ℕ) (t : List ℕ) → AnswersAll t → y ≢ 119 → IsPlain fed t
    → concat (filter is_answer (cond fed ((y ∷ []) ∷ cut_lines t) (put_first y (cut_lines t)))) ≡ y ∷ t
fresh_more true y t h other plain = answer_kept y [] (cut_lines t) other ∙ ap (λ l. y ∷ l) (h.fresh plain)
fresh_more false y t h other plain = h.begun y other plain

begun_more : (fed : Bool) (x y : ℕ) (t : List ℕ) → AnswersAll t → x ≢ 119 → IsPlain fed t
    → concat (filter is_answer (put_first x (cond fed ((y ∷ []) ∷ cut_lines t) (put_first y (cut_lines t))))) ≡ x ∷ y ∷ t
begun_more true x y t h other plain = answer_kept x (y ∷ []) (cut_lines t) other ∙ ap (λ l. x ∷ y ∷ l) (h.fresh plain)
begun_more false x y t h other plain = one_byte_more x y (cut_lines t) t other (h.begun x other plain)

answers_all : (text : List ℕ) → AnswersAll text
answers_all [] = record { fresh = λ plain. refl; begun = λ x other plain. answer_kept x [] [] other }
answers_all (y ∷ t) = record {
  fresh = λ plain. fresh_more (y == 10) y t (answers_all t) plain.0 plain.1;
  begun = λ x other plain. begun_more (y == 10) x y t (answers_all t) other plain;
}

pub plain_answers : (text : List ℕ) → IsPlain true text → answers_of text ≡ text
plain_answers text plain = (answers_all text).fresh plain

-- ---- the text of outs

bare_plain : (xs t : List ℕ) → HasNoFeed xs → IsPlain true t → IsPlain false (xs ++ 10 ∷ t)
bare_plain [] t free plain = plain
bare_plain (x ∷ xs) t free plain = subst (λ fresh. IsPlain fresh (xs ++ 10 ∷ t)) (sym (ne_eqb x 10 free.0)) (bare_plain xs t free.1 plain)

pub line_plain : (line t : List ℕ) → IsOutLine line → IsPlain true t → IsPlain true (line ++ t)
line_plain line t l plain =
    let letter = l.letter in
    let other : l.first ≢ 119 = λ e. absurd (omega (arith, letter.1, e)) in
    subst (IsPlain true) (sym (ap (λ b. b ++ t) l.is ∙ append_assoc (l.first ∷ l.rest) (10 ∷ []) t))
    (other, subst (λ fresh. IsPlain fresh (l.rest ++ 10 ∷ t)) (sym (ne_eqb l.first 10 l.no_feed.0)) (bare_plain l.rest t l.no_feed.1 plain))

pub outs_plain : (outs : List Out) (t : List ℕ) → IsPlain true t → IsPlain true (lines_of outs ++ t)
outs_plain [] t plain = plain
outs_plain (out ∷ outs) t plain =
    subst (IsPlain true) (sym (append_assoc (out_line out) (lines_of outs) t))
    (line_plain (out_line out) (lines_of outs ++ t) (out_line_is out) (outs_plain outs t plain))

-- ---- whole lines

-- they are none, or end with a line feed
abbrev pub AreWhole : List ℕ → Type 0
AreWhole text = (text ≡ []) ⊎ ((front : List ℕ) × (text ≡ front ++ 10 ∷ []))

lines_more : (fed : Bool) (m n k : ℕ) → m ≡ n + k → cond fed (suc m) m ≡ cond fed (suc n) n + k
lines_more true m n k is = omega (arith, is)
lines_more false m n k is = is

pub lines_join : (a b : List ℕ) → lines_in (a ++ b) ≡ lines_in a + lines_in b
lines_join [] b = omega arith
lines_join (x ∷ a) b = lines_more (x == 10) (lines_in (a ++ b)) (lines_in a) (lines_in b) (lines_join a b)

after_byte : (fed : Bool) (x n : ℕ) (t q : List ℕ) → (x == 10) ≡ fed → 1 ≤ n → after_lines n t ≡ q → after_lines (cond fed (suc n) n) (x ∷ t) ≡ q
after_byte true x n t q is some h = ap (λ b. cond b (after_lines n t) (after_lines (suc n) t)) is ∙ h
after_byte false x (suc n) t q is some h = ap (λ b. cond b (after_lines n t) (after_lines (suc n) t)) is ∙ h
after_byte false x zero t q is some h = absurd (omega arith)

after_fed : (f q : List ℕ) → after_lines (lines_in (f ++ 10 ∷ [])) ((f ++ 10 ∷ []) ++ q) ≡ q
after_fed [] q = refl
after_fed (x ∷ f) q = after_byte (x == 10) x (lines_in (f ++ 10 ∷ [])) ((f ++ 10 ∷ []) ++ q) q refl
    (let k = lines_join f (10 ∷ []) in omega arith) (after_fed f q)

pub after_whole : (text q : List ℕ) → AreWhole text → after_lines (lines_in text) (text ++ q) ≡ q
after_whole text q whole = elim whole [
  | inl none ↦ ap (λ t. after_lines (lines_in t) (t ++ q)) none
  | inr fed ↦ ap (λ t. after_lines (lines_in t) (t ++ q)) fed.1 ∙ after_fed fed.0 q
]

-- of two fronts of one text the shorter one is a front of the other
pub front_of : (xs ys a b : List ℕ) → xs ++ a ≡ ys ++ b → length xs ≤ length ys → (q : List ℕ) × (ys ≡ xs ++ q)
front_of [] ys a b e short = (ys, refl)
front_of (x ∷ xs) [] a b e short = absurd (omega arith)
front_of (x ∷ xs) (y ∷ ys) a b e short =
    let h = front_of xs ys a b (cc) (omega arith) in
    let first : x ≡ y = cc in
    (h.0, ap (λ t. y ∷ t) h.1 ∙ ap (λ c. c ∷ (xs ++ h.0)) (sym first))

-- bytes at whose end a line ends have a line
some_line : (xs f : List ℕ) (byte : ℕ) (q : List ℕ) → xs ++ byte ∷ q ≡ f ++ 10 ∷ [] → 1 ≤ lines_in (byte ∷ q)
some_line [] f byte q e = omega (arith, ap lines_in e, lines_join f (10 ∷ []))
some_line (x ∷ xs) [] byte q e = absurd (omega (arith, ap length e, length_more xs byte q))
  where
    length_more : (xs : List ℕ) (byte : ℕ) (q : List ℕ) → 1 ≤ length (xs ++ byte ∷ q)
    length_more [] byte q = omega arith
    length_more (x ∷ xs) byte q = omega arith
some_line (x ∷ xs) (y ∷ f) byte q e = some_line xs f byte q (cc)

-- whole lines are no longer than another front with as many lines
not_longer : (got other q : List ℕ) → AreWhole got → got ≡ other ++ q → 1 ≤ length q → lines_in got ≤ lines_in other → ⊥
not_longer got other [] whole is some few = absurd (omega arith)
not_longer got other (byte ∷ q) whole is some few = elim whole [
  | inl none ↦ absurd (omega (arith, ap length (sym none ∙ is), length-append other (byte ∷ q)))
  | inr fed ↦ absurd (omega (arith, some_line other fed.0 byte q (sym is ∙ fed.1), few, ap lines_in is, lines_join other (byte ∷ q)))
]

compared : (m n : ℕ) → (m ≤ n) ⊎ (n + 1 ≤ m)
compared m n = elim (either (nat_lt n m)) [ inl k ↦ inr (lt-true n m k) | inr k ↦ inl (lt-false n m k) ]
  where
    lt-true : (n m : ℕ) → nat_lt n m ≡ true → n + 1 ≤ m
    lt-true n m k = grind (arith, nat_tests, k)

    lt-false : (n m : ℕ) → nat_lt n m ≡ false → m ≤ n
    lt-false n m k = grind (arith, nat_tests, k)

-- whole lines with no more lines than another front of the text are a front of that one
pub whole_front_of : (got rest other since : List ℕ) → AreWhole got → got ++ rest ≡ other ++ since → lines_in got ≤ lines_in other
    → (q : List ℕ) × (other ≡ got ++ q)
whole_front_of got rest other since whole e few = elim (compared (length got) (length other)) [
  | inl short ↦ front_of got other rest since e short
  | inr long ↦ (
      let h = front_of other got since rest (sym e) (omega arith) in
      absurd (not_longer got other h.0 whole h.1 (omega (arith, long, ap length h.1, length-append other h.0)) few)
      )
]
