-- The text of a dump is read as its lines, and what is read is the text of the lines.
use Rattle.std.proofs.Common.{◌≡◌, ◌≤◌, ◌+◌, ◌-◌, ℕ, List, [], ◌∷◌, ◌++◌, length, length-append, drop, Option, Some, None, decimal, codes, refl, sym, ap, subst, ◌∙◌, arith, inl, inr, append_assoc, append-nil, lit≤}
use Rattle.std.specs.List.{AllByRecursion}
use Rattle.std.proofs.lemmas.Bool.{cases_Bool}
use Rattle.std.proofs.lemmas.Option.{none-some}
use Rattle.std.proofs.NetLemmas.Options.{and_then_some, same_parts}
use Rattle.timer_facility.specs.declared.saved.StateLine.{StateLine}
use Rattle.timer_facility.specs.declared.saved.StateLine.TheVariants as Saved
use Rattle.timer_script.specs.Lines.{◌>>=◌, or_try, has_word, strip}
use Rattle.timer_script.specs.SavedText.{IsNext, IsSpelled, state_text, AreStateLines, BeginsNoStateLine, next_at, open_at, closed_at, client_at, timer_line_at, end_at, frame_at, state_line_at}
use Rattle.timer_script.specs.Text.{state_line}
use Rattle.timer_script.proofs.LineLemmas.{has_word_sound, field_again, field_then}
use Rattle.timer_script.proofs.Results.{all_append}

-- A next number.

next_again : (next : ℕ) (rest : List ℕ) → IsNext next → next_at (decimal (next - 1) ++ (10 ∷ rest)) ≡ Some (next, rest)
unfolding next_at
next_again next rest fits =
    rw (field_again 10 (next - 1) rest (omega (arith, fits.1)) (lit≤ tt))
    (ap (λ n. Some (n, rest)) (let back : next - 1 + 1 ≡ next = omega (arith, fits.0) in back))

next_then : {A P : Type 0} (bytes : List ℕ) (f : ℕ × List ℕ → Option A) (y : A) → (next_at bytes >>= f) ≡ Some y
    → ((next : ℕ) (rest : List ℕ) → IsNext next → bytes ≡ decimal (next - 1) ++ 10 ∷ rest → f (next, rest) ≡ Some y → P) → P
unfolding next_at
next_then bytes f y e more =
    and_then_some _ (next_at bytes) _ e λ m read e₁.
    field_then 10 bytes _ m read λ n rest fits is e₂.
    let back : n + 1 - 1 ≡ n = omega arith in
    more (n + 1) rest (omega arith, omega (arith, fits)) (is ∙ ap (λ k. decimal k ++ 10 ∷ rest) (sym back)) (ap f (same_pair e₂) ∙ e₁)
  where
    same_pair : {p q : ℕ × List ℕ} → ◌≡◌ {A = Option (ℕ × List ℕ)} (Some p) (Some q) → p ≡ q
    same_pair h = cc

-- A line.

same_line : (word bytes rest after : List ℕ) (line read : StateLine)
    → ◌≡◌ {A = Option (StateLine × List ℕ)} (Some (read, after)) (Some (line, rest)) → IsSpelled read
    → word ++ bytes ≡ state_line read ++ after → IsSpelled line × (word ++ bytes ≡ state_line line ++ rest)
same_line word bytes rest after line read e fits is =
    let (line_is, rest_is) = same_parts read line after rest e in
    subst (λ (x : StateLine). IsSpelled x × (word ++ bytes ≡ state_line x ++ rest)) line_is
    (subst (λ (r : List ℕ). IsSpelled read × (word ++ bytes ≡ state_line read ++ r)) rest_is (fits, is))

by_word : (word bytes rest : List ℕ) (line : StateLine) (f : List ℕ → Option (StateLine × List ℕ)) (other : Option (StateLine × List ℕ))
    → or_try (strip word bytes) f other ≡ Some (line, rest)
    → ((s : List ℕ) → f s ≡ Some (line, rest) → IsSpelled line × (word ++ s ≡ state_line line ++ rest))
    → (other ≡ Some (line, rest) → IsSpelled line × (bytes ≡ state_line line ++ rest)) → IsSpelled line × (bytes ≡ state_line line ++ rest)
by_word word bytes rest line f other e some none = elim (cases_Bool (has_word word bytes)) [
  | inl begins ↦
      let (fits, is) = some (drop (length word) bytes) (rw begins at e) in
      (fits, has_word_sound word bytes begins ∙ is)
  | inr not_so ↦ none (rw not_so at e)
]

-- the line is read back
pub state_again : (line : StateLine) (rest : List ℕ) → IsSpelled line → state_line_at (state_line line ++ rest) ≡ Some (line, rest)
unfolding state_line_at frame_at open_at closed_at client_at timer_line_at end_at has_word
state_again (Saved.Open now next_serial) rest fits = simp append_assoc (rw (
  field_again 32 now _ fits.0 (lit≤ tt),
  next_again next_serial _ fits.1,
) refl)
state_again (Saved.Closed now next_serial) rest fits = simp append_assoc (rw (
  field_again 32 now _ fits.0 (lit≤ tt),
  next_again next_serial _ fits.1,
) refl)
state_again (Saved.Number client next) rest fits = simp append_assoc (rw (
  field_again 32 client _ fits.0 (lit≤ tt),
  next_again next _ fits.1,
) refl)
state_again (Saved.Pending t) rest fits = simp append_assoc (rw (
  field_again 32 t.serial _ fits.0 (lit≤ tt),
  field_again 32 t.client _ fits.1 (lit≤ tt),
  field_again 32 t.number _ fits.2 (lit≤ tt),
  field_again 32 t.deadline _ fits.3 (lit≤ tt),
  field_again 10 t.action _ fits.4 (lit≤ tt),
) refl)
state_again (Saved.End pending) rest fits = simp append_assoc (rw (field_again 10 pending _ fits (lit≤ tt)) refl)

open_sound : (bytes rest : List ℕ) (line : StateLine) → open_at bytes ≡ Some (line, rest)
    → IsSpelled line × (codes "state open " ++ bytes ≡ state_line line ++ rest)
unfolding open_at
open_sound bytes rest line e =
    field_then 32 bytes _ _ e λ now r1 fits1 is1 e1.
    next_then r1 _ _ e1 λ next r2 fits2 is2 e2.
    same_line (codes "state open ") bytes rest r2 line (Saved.Open now next) e2 (fits1, fits2) (rw (is1, is2) (simp append_assoc refl))

closed_sound : (bytes rest : List ℕ) (line : StateLine) → closed_at bytes ≡ Some (line, rest)
    → IsSpelled line × (codes "state closed " ++ bytes ≡ state_line line ++ rest)
unfolding closed_at
closed_sound bytes rest line e =
    field_then 32 bytes _ _ e λ now r1 fits1 is1 e1.
    next_then r1 _ _ e1 λ next r2 fits2 is2 e2.
    same_line (codes "state closed ") bytes rest r2 line (Saved.Closed now next) e2 (fits1, fits2) (rw (is1, is2) (simp append_assoc refl))

client_sound : (bytes rest : List ℕ) (line : StateLine) → client_at bytes ≡ Some (line, rest)
    → IsSpelled line × (codes "number " ++ bytes ≡ state_line line ++ rest)
unfolding client_at
client_sound bytes rest line e =
    field_then 32 bytes _ _ e λ client r1 fits1 is1 e1.
    next_then r1 _ _ e1 λ next r2 fits2 is2 e2.
    same_line (codes "number ") bytes rest r2 line (Saved.Number client next) e2 (fits1, fits2) (rw (is1, is2) (simp append_assoc refl))

timer_sound : (bytes rest : List ℕ) (line : StateLine) → timer_line_at bytes ≡ Some (line, rest)
    → IsSpelled line × (codes "timer " ++ bytes ≡ state_line line ++ rest)
unfolding timer_line_at
timer_sound bytes rest line e =
    field_then 32 bytes _ _ e λ serial r1 fits1 is1 e1.
    field_then 32 r1 _ _ e1 λ client r2 fits2 is2 e2.
    field_then 32 r2 _ _ e2 λ number r3 fits3 is3 e3.
    field_then 32 r3 _ _ e3 λ deadline r4 fits4 is4 e4.
    field_then 10 r4 _ _ e4 λ action r5 fits5 is5 e5.
    same_line (codes "timer ") bytes rest r5 line
    (Saved.Pending (record { serial = serial; client = client; number = number; deadline = deadline; action = action })) e5
    (fits1, fits2, fits3, fits4, fits5) (rw (is1, is2, is3, is4, is5) (simp append_assoc refl))

end_sound : (bytes rest : List ℕ) (line : StateLine) → end_at bytes ≡ Some (line, rest)
    → IsSpelled line × (codes "state end " ++ bytes ≡ state_line line ++ rest)
unfolding end_at
end_sound bytes rest line e =
    field_then 10 bytes _ _ e λ pending r1 fits1 is1 e1.
    same_line (codes "state end ") bytes rest r1 line (Saved.End pending) e1 fits1 (rw is1 (simp append_assoc refl))

-- what is read is the text of the line
pub state_sound : (bytes rest : List ℕ) (line : StateLine) → state_line_at bytes ≡ Some (line, rest)
    → IsSpelled line × (bytes ≡ state_line line ++ rest)
unfolding state_line_at frame_at
state_sound bytes rest line e =
    by_word (codes "timer ") bytes rest line timer_line_at _ e (λ s. timer_sound s rest line) λ e1.
    by_word (codes "number ") bytes rest line client_at _ e1 (λ s. client_sound s rest line) λ e2.
    by_word (codes "state open ") bytes rest line open_at _ e2 (λ s. open_sound s rest line) λ e3.
    by_word (codes "state closed ") bytes rest line closed_at _ e3 (λ s. closed_sound s rest line) λ e4.
    by_word (codes "state end ") bytes rest line end_at _ e4 (λ s. end_sound s rest line) λ e5.
    absurd (none-some _ e5)

-- A text.

pub no_state_line : (bytes : List ℕ) → state_line_at bytes ≡ None → BeginsNoStateLine bytes
no_state_line bytes none line more fits e = none-some _ (sym none ∙ ap state_line_at e ∙ state_again line more fits)

pub line_long : (line : StateLine) → 1 ≤ length (state_line line)
line_long (Saved.Open now next_serial) = omega arith
line_long (Saved.Closed now next_serial) = omega arith
line_long (Saved.Number client next) = omega arith
line_long (Saved.Pending t) = omega arith
line_long (Saved.End pending) = omega arith

pub state_line_shorter : (rest after : List ℕ) (line : StateLine) → state_line_at rest ≡ Some (line, after) → length after + 1 ≤ length rest
state_line_shorter rest after line read =
    let (fits, is) = state_sound rest after line read in
    omega (arith, ap length is, length-append (state_line line) after, line_long line)

text_push : (xs : List StateLine) (x : StateLine) (rest : List ℕ) → state_text (xs ++ x ∷ []) ++ rest ≡ state_text xs ++ (state_line x ++ rest)
text_push [] x rest = ap (λ t. t ++ rest) (append-nil (state_line x))
text_push (y ∷ ys) x rest =
    append_assoc (state_line y) (state_text (ys ++ x ∷ [])) rest ∙ ap (λ t. state_line y ++ t) (text_push ys x rest)
    ∙ sym (append_assoc (state_line y) (state_text ys) (state_line x ++ rest))

pub lines_more : {bytes rest : List ℕ} {lines : List StateLine} (after : List ℕ) (line : StateLine) → AreStateLines bytes lines rest
    → state_line_at rest ≡ Some (line, after) → AreStateLines bytes (lines ++ line ∷ []) after
lines_more {bytes} {rest} {lines} after line h read =
    let (fits, is) = state_sound rest after line read in
    record {
      parts = h.parts ∙ ap (λ t. state_text lines ++ t) is ∙ sym (text_push lines line after);
      spelled = all_append IsSpelled lines (line ∷ []) h.spelled (fits, tt);
    }

-- ---- lines whose text begins with that of others

-- a line at the front of other lines is the first of them
pub first_line : (x y : StateLine) (after rest : List ℕ) → IsSpelled x → IsSpelled y → state_line x ++ after ≡ state_line y ++ rest
    → (x ≡ y) × (after ≡ rest)
first_line x y after rest f g e = same_parts x y after rest (sym (state_again x after f) ∙ ap state_line_at e ∙ state_again y rest g)

-- the lines that are left
pub record IsRestOf (xs ys : List StateLine) (rest : List ℕ) : Type 0 where
  pub more : List StateLine
  pub all_are : xs ≡ ys ++ more
  pub rest_is : rest ≡ state_text more
  pub spelled : AllByRecursion IsSpelled more

pub rest_of : (xs ys : List StateLine) (rest : List ℕ) → AllByRecursion IsSpelled xs → AllByRecursion IsSpelled ys
    → state_text xs ≡ state_text ys ++ rest → IsRestOf xs ys rest
rest_of xs [] rest f g e = record { more = xs; all_are = refl; rest_is = sym e; spelled = f }
rest_of [] (y ∷ ys) rest f g e = absurd (omega (
  arith,
  ap length e,
  length-append (state_line y) (state_text ys),
  line_long y,
  length-append (state_line y ++ state_text ys) rest,
))
rest_of (x ∷ xs) (y ∷ ys) rest f g e =
    let (first, others) = first_line x y (state_text xs) (state_text ys ++ rest) f.0 g.0
    (e ∙ append_assoc (state_line y) (state_text ys) rest) in
    let left = rest_of xs ys rest f.1 g.1 others in record {
      more = left.more;
      all_are = both_same first left.all_are;
      rest_is = left.rest_is;
      spelled = left.spelled;
    }
  where
    both_same : {x y : StateLine} {xs ys : List StateLine} → x ≡ y → xs ≡ ys → x ∷ xs ≡ y ∷ ys
    both_same d h = cc

one_text : (xs ys : List StateLine) → AllByRecursion IsSpelled xs → AllByRecursion IsSpelled ys
    → state_text xs ++ [] ≡ state_text ys ++ [] → xs ≡ ys
one_text [] [] f g e = refl
one_text [] (y ∷ ys) f g e = absurd (omega (
  arith,
  ap length e,
  length-append (state_line y) (state_text ys),
  line_long y,
  length-append (state_line y ++ state_text ys) [],
))
one_text (x ∷ xs) [] f g e = absurd (omega (
  arith,
  ap length e,
  length-append (state_line x) (state_text xs),
  line_long x,
  length-append (state_line x ++ state_text xs) [],
))
one_text (x ∷ xs) (y ∷ ys) f g e =
    let same = sym (append_assoc (state_line x) (state_text xs) []) ∙ e ∙ append_assoc (state_line y) (state_text ys) [] in
    let (first, others) = same_parts x y (state_text xs ++ []) (state_text ys ++ [])
    (sym (state_again x (state_text xs ++ []) f.0) ∙ ap state_line_at same ∙ state_again y (state_text ys ++ []) g.0) in
    rw (first, one_text xs ys f.1 g.1 others) refl

-- a text is that of one list of lines
pub one_state_text : {bytes : List ℕ} (xs ys : List StateLine) → AreStateLines bytes xs [] → AreStateLines bytes ys [] → xs ≡ ys
one_state_text xs ys a b = one_text xs ys a.spelled b.spelled (sym a.parts ∙ b.parts)
