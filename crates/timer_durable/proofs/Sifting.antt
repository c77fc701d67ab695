-- Texts without their wake-ups, one byte after another.
use Rattle.std.proofs.Common.{◌≡◌, ℕ, zero, suc, ◌-◌, ◌==◌, ◌<◌, Bool, true, false, not, cond, List, [], ◌∷◌, ◌++◌, Option, None, Some, refl, sym, ap, ◌∙◌, arith}
use Rattle.std.specs.List.{filter, concat}
use Rattle.timer_durable.specs.Answers.{lines_in, after_lines, put_first, cut_lines, is_answer, answers_of, first_of, begun_in, first_at}

-- the first byte of the line that has begun, after one more byte, and after some
abbrev pub begun_after : Option ℕ → ℕ → Option ℕ
begun_after begun byte = cond (byte == 10) None (Some (first_at begun byte))

abbrev pub begun_by : Option ℕ → List ℕ → Option ℕ
begun_by begun [] = begun
begun_by begun (byte ∷ bytes) = begun_by (begun_after begun byte) bytes

-- the answers of a text behind such a line, and their bytes alone of that line
abbrev pub sift : Option ℕ → List ℕ → List ℕ
sift begun [] = []
sift begun (byte ∷ bytes) = cond (first_at begun byte == 119) (sift (begun_after begun byte) bytes) (byte ∷ sift (begun_after begun byte) bytes)

-- ---- lines that are cut

-- the first line goes on with one that begins with this byte
abbrev continued : ℕ → List (List ℕ) → List ℕ
continued first [] = []
continued first (line ∷ lines) = cond (first == 119) (concat (filter is_answer lines)) (line ++ concat (filter is_answer lines))

record IsSifted (text : List ℕ) : Type 0 where
  pub fresh : sift None text ≡ answers_of text
  pub behind : (first : ℕ) → sift (Some first) text ≡ continued first (cut_lines text)

kept_line : (marked : Bool) (line : List ℕ) (lines : List (List ℕ)) (x : List ℕ) → x ≡ concat lines
    → cond marked x (line ++ x) ≡ concat (cond (not marked) (line ∷ lines) lines)
kept_line true line lines x is = is
kept_line false line lines x is = ap (λ z. line ++ z) is

kept_byte : (marked : Bool) (byte : ℕ) (line : List ℕ) (lines : List (List ℕ)) (x : List ℕ) → x ≡ cond marked (concat lines) (line ++ concat lines)
    → cond marked x (byte ∷ x) ≡ concat (cond (not marked) ((byte ∷ line) ∷ lines) lines)
kept_byte true byte line lines x is = is
kept_byte false byte line lines x is = ap (λ z. byte ∷ z) is

fresh_byte : (byte : ℕ) (lines : List (List ℕ)) (x : List ℕ) → x ≡ continued byte lines
    → cond (byte == 119) x (byte ∷ x) ≡ concat (filter is_answer (put_first byte lines))
fresh_byte byte [] x is = kept_line (byte == 119) (byte ∷ []) [] x is
fresh_byte byte (line ∷ lines) x is = kept_byte (byte == 119) byte line (filter is_answer lines) x is

fresh_step : (fed : Bool) (byte : ℕ) (bytes : List ℕ) → IsSifted bytes
    → cond (byte == 119) (sift (cond fed None (Some byte)) bytes) (byte ∷ sift (cond fed None (Some byte)) bytes)
    ≡ concat (filter is_answer (cond fed ((byte ∷ []) ∷ cut_lines bytes) (put_first byte (cut_lines bytes))))
fresh_step true byte bytes h = kept_line (byte == 119) (byte ∷ []) (filter is_answer (cut_lines bytes)) (sift None bytes) h.fresh
fresh_step false byte bytes h = fresh_byte byte (cut_lines bytes) (sift (Some byte) bytes) (h.behind byte)

behind_line : (marked : Bool) (byte : ℕ) (x y : List ℕ) → x ≡ y → cond marked x (byte ∷ x) ≡ cond marked y ((byte ∷ []) ++ y)
behind_line marked byte x y is = ap (λ z. cond marked z (byte ∷ z)) is

behind_more : (marked : Bool) (byte : ℕ) (line x y : List ℕ) → x ≡ cond marked y (line ++ y)
    → cond marked x (byte ∷ x) ≡ cond marked y ((byte ∷ line) ++ y)
behind_more true byte line x y is = is
behind_more false byte line x y is = ap (λ z. byte ∷ z) is

behind_byte : (first byte : ℕ) (lines : List (List ℕ)) (x : List ℕ) → x ≡ continued first lines
    → cond (first == 119) x (byte ∷ x) ≡ continued first (put_first byte lines)
behind_byte first byte [] x is = behind_line (first == 119) byte x [] is
behind_byte first byte (line ∷ lines) x is = behind_more (first == 119) byte line x (concat (filter is_answer lines)) is

behind_step : (fed : Bool) (first byte : ℕ) (bytes : List ℕ) → IsSifted bytes
    → cond (first == 119) (sift (cond fed None (Some first)) bytes) (byte ∷ sift (cond fed None (Some first)) bytes)
    ≡ continued first (cond fed ((byte ∷ []) ∷ cut_lines bytes) (put_first byte (cut_lines bytes)))
behind_step true first byte bytes h = behind_line (first == 119) byte (sift None bytes) (answers_of bytes) h.fresh
behind_step false first byte bytes h = behind_byte first byte (cut_lines bytes) (sift (Some first) bytes) (h.behind first)

sifted : (text : List ℕ) → IsSifted text
sifted [] = record { fresh = refl; behind = λ first. refl }
sifted (byte ∷ bytes) = record {
  fresh = fresh_step (byte == 10) byte bytes (sifted bytes);
  behind = λ first. behind_step (byte == 10) first byte bytes (sifted bytes);
}

-- ---- a text that goes on

one_more : (marked : Bool) (byte : ℕ) (p q r : List ℕ) → p ≡ q ++ r → cond marked p (byte ∷ p) ≡ cond marked q (byte ∷ q) ++ r
one_more true byte p q r is = is
one_more false byte p q r is = ap (λ z. byte ∷ z) is

sift-append : (begun : Option ℕ) (a b : List ℕ) → sift begun (a ++ b) ≡ sift begun a ++ sift (begun_by begun a) b
sift-append begun [] b = refl
sift-append begun (byte ∷ a) b =
    let next = begun_after begun byte in
    one_more (first_at begun byte == 119) byte (sift next (a ++ b)) (sift next a) (sift (begun_by next a) b) (sift-append next a b)

begun_by-append : (begun : Option ℕ) (a b : List ℕ) → begun_by begun (a ++ b) ≡ begun_by (begun_by begun a) b
begun_by-append begun [] b = refl
begun_by-append begun (byte ∷ a) b = begun_by-append (begun_after begun byte) a b

-- ---- the line that has begun

-- the line that a text of so many lines ends with, behind such a line
abbrev ended_by : ℕ → Option ℕ → List ℕ → Option ℕ
ended_by zero None text = first_of text
ended_by zero (Some first) text = Some first
ended_by (suc n) begun text = first_of (after_lines (suc n) text)

fed_byte : (n : ℕ) (bytes : List ℕ) → ended_by n None bytes ≡ first_of (after_lines n bytes)
fed_byte zero bytes = refl
fed_byte (suc n) bytes = refl

-- a byte more, of which it is known whether it ends the line
abbrev byte_ended : Bool → ℕ → Option ℕ → ℕ → List ℕ → Option ℕ
byte_ended fed zero begun byte bytes = Some (first_at begun byte)
byte_ended fed (suc n) begun byte bytes = first_of (cond fed (after_lines n bytes) (after_lines (suc n) bytes))

ended_byte : (n : ℕ) (begun : Option ℕ) (byte : ℕ) (bytes : List ℕ)
    → byte_ended (byte == 10) n begun byte bytes ≡ ended_by n begun (byte ∷ bytes)
ended_byte zero None byte bytes = refl
ended_byte zero (Some first) byte bytes = refl
ended_byte (suc n) begun byte bytes = refl

ended_step : (fed : Bool) (n : ℕ) (begun : Option ℕ) (byte : ℕ) (bytes : List ℕ) → ((begun : Option ℕ) → begun_by begun bytes ≡ ended_by n begun bytes)
    → begun_by (cond fed None (Some (first_at begun byte))) bytes ≡ byte_ended fed (cond fed (suc n) n) begun byte bytes
ended_step true n begun byte bytes h = h None ∙ fed_byte n bytes
ended_step false zero begun byte bytes h = h (Some (first_at begun byte))
ended_step false (suc n) begun byte bytes h = h (Some (first_at begun byte))

ended : (begun : Option ℕ) (text : List ℕ) → begun_by begun text ≡ ended_by (lines_in text) begun text
ended None [] = refl
ended (Some first) [] = refl
ended begun (byte ∷ bytes) = ended_step (byte == 10) (lines_in bytes) begun byte bytes (λ b. ended b bytes)
    ∙ ended_byte (lines_in (byte ∷ bytes)) begun byte bytes

begun_is : (text : List ℕ) → begun_by None text ≡ begun_in text
begun_is text = ended None text ∙ fed_byte (lines_in text) text

-- ---- behind a text

pub begun_more : (begun : Option ℕ) (before text : List ℕ) → begun ≡ begun_in before → begun_by begun text ≡ begun_in (before ++ text)
begun_more begun before text is = ap (λ b. begun_by b text) (is ∙ sym (begun_is before)) ∙ sym (begun_by-append None before text)
    ∙ begun_is (before ++ text)

pub answers_more : (begun : Option ℕ) (before text : List ℕ) → begun ≡ begun_in before
    → answers_of (before ++ text) ≡ answers_of before ++ sift begun text
answers_more begun before text is =
    let all = sifted (before ++ text) in
    let front = sifted before in
    sym all.fresh ∙ sift-append None before text ∙ ap (λ z. z ++ sift (begun_by None before) text) front.fresh
    ∙ ap (λ b. answers_of before ++ sift b text) (begun_is before ∙ sym is)

-- ---- one byte of a text

unmarked : (marked : Bool) (x y : List ℕ) → marked ≡ false → cond marked x y ≡ y
unmarked true x y is = absurd cc
unmarked false x y is = refl

one_left : (fed : Bool) (n left : ℕ) (rest : List ℕ) → left ≡ cond fed (suc n - 1) (suc n)
    → cond fed (after_lines n rest) (after_lines (suc n) rest) ≡ after_lines left rest
one_left true n left rest is = let same : n ≡ left = omega (arith, is) in ap (λ k. after_lines k rest) same
one_left false n left rest is = ap (λ k. after_lines k rest) (sym is)

skipped : (left left' byte : ℕ) (rest : List ℕ) → 0 < left → left' ≡ cond (byte == 10) (left - 1) left
    → after_lines left (byte ∷ rest) ≡ after_lines left' rest
skipped zero left' byte rest some is = absurd (omega arith)
skipped (suc n) left' byte rest some is = one_left (byte == 10) n left' rest is

-- it is of an answer that is passed over
pub skipped_byte : (to whole : List ℕ) (left left' first byte : ℕ) (line line' : Option ℕ) (rest text : List ℕ) → text ≡ byte ∷ rest
    → first ≡ first_at line byte → line' ≡ cond (byte == 10) None (Some first) → (first == 119) ≡ false → 0 < left
    → left' ≡ cond (byte == 10) (left - 1) left → to ++ after_lines left (sift line text) ≡ whole → to ++ after_lines left' (sift line' rest) ≡ whole
skipped_byte to whole left left' first byte line line' rest text parts first_is line_is other some less all =
    let behind : sift (begun_after line byte) rest ≡ sift line' rest =
    ap (λ b. sift b rest) (ap (λ f. cond (byte == 10) None (Some f)) (sym first_is) ∙ sym line_is) in
    let kept : sift line text ≡ byte ∷ sift line' rest = ap (sift line) parts
    ∙ unmarked (first_at line byte == 119) (sift (begun_after line byte) rest) (byte ∷ sift (begun_after line byte) rest)
    (ap (λ f. f == 119) (sym first_is) ∙ other) ∙ ap (λ s. byte ∷ s) behind in
    ap (λ z. to ++ z) (sym (ap (after_lines left) kept ∙ skipped left left' byte (sift line' rest) some less)) ∙ all
