-- The laws of text to which marked lines are added. They are in specs/ since the decorator of `show` cites them.
use Rattle.std.proofs.Common.{◌≡◌, ◌≢◌, ◌<◌, ◌⊎◌, ℕ, true, not, cond, ne_eqb, List, [], ◌∷◌, ◌++◌, refl, sym, ap, subst, ◌∙◌, append-nil, inl, inr, arith, lit≤}
use Rattle.std.specs.List.{filter, concat}
use Rattle.std.proofs.lemmas.List.Elements.{filter-append}
use Rattle.std.proofs.lemmas.List.Folds.{concat-append}
use Rattle.timer_script.specs.Types.{Out}
use Rattle.timer_script.specs.Script.{HasNoFeed}
use Rattle.timer_script.specs.Decorator.{IsLawful}
use Rattle.timer_script.specs.Text.{out_line, lines_of}
use Rattle.timer_script.proofs.Results.{all_append}
use Rattle.timer_script.proofs.TextLemmas.{IsOutLine, out_line_is}
use Rattle.timer_commands.specs.declared.shows.Shows.{Shows}
use Rattle.timer_commands.specs.Indented.{EndsWithFeed, is_unmarked, AddsMarked, AddsPictures}

-- ---- lines that are added

pub adds_nothing : (mark : ℕ) → AddsMarked mark [] []
adds_nothing mark = record { lines = []; each = tt; text_is = refl; answer_is = refl }

pub adds_join : (mark : ℕ) (a b x y : List ℕ) → AddsMarked mark a x → AddsMarked mark b y → AddsMarked mark (a ++ b) (x ++ y)
adds_join mark a b x y f g = record {
  lines = f.lines ++ g.lines;
  each = all_append EndsWithFeed f.lines g.lines f.each g.each;
  text_is = ap (λ t. t ++ y) f.text_is ∙ ap (λ t. concat f.lines ++ t) g.text_is
      ∙ sym (concat-append f.lines g.lines);
  answer_is = ap (λ t. t ++ b) f.answer_is ∙ ap (λ t. concat (filter (is_unmarked mark) f.lines) ++ t) g.answer_is
      ∙ sym (concat-append (filter (is_unmarked mark) f.lines) (filter (is_unmarked mark) g.lines))
      ∙ ap concat (sym (filter-append (is_unmarked mark) f.lines g.lines));
}

-- ---- the lines of an answer

-- no line of an answer begins with the mark: they begin with letters from c to t
abbrev pub IsUnused : ℕ → Type 0
IsUnused mark = (mark < 99) ⊎ (116 < mark)

-- a line that is not marked stays
adds_one : (mark : ℕ) (front : List ℕ) → HasNoFeed front → is_unmarked mark (front ++ 10 ∷ []) ≡ true
    → AddsMarked mark (front ++ 10 ∷ []) (front ++ 10 ∷ [])
adds_one mark front free unmarked =
    let line : List ℕ = front ++ 10 ∷ [] in
    record {
      lines = line ∷ [];
      each = (record { front = front; is = refl; no_feed = free }, tt);
      text_is = sym (append-nil line);
      answer_is = sym (append-nil line) ∙ ap (λ t. concat (cond t (line ∷ []) [])) (sym unmarked);
    }

-- a line of an answer stays
pub adds_line_of : (mark : ℕ) → IsUnused mark → (bytes : List ℕ) → IsOutLine bytes → AddsMarked mark bytes bytes
adds_line_of mark u bytes l =
    let letter = l.letter in
    let other : l.first ≢ mark = λ e. elim u [
      | inl low ↦ absurd (omega (arith, letter.0, e))
      | inr high ↦ absurd (omega (arith, letter.1, e))
    ] in
    subst (λ b. AddsMarked mark b b) (sym l.is)
    (adds_one mark (l.first ∷ l.rest) l.no_feed (ap not (ne_eqb l.first mark other)))

pub adds_outs : (mark : ℕ) → IsUnused mark → (outs : List Out) → AddsMarked mark (lines_of outs) (lines_of outs)
adds_outs mark u [] = adds_nothing mark
adds_outs mark u (o ∷ outs) = adds_join mark (out_line o) (lines_of outs) (out_line o) (lines_of outs)
    (adds_line_of mark u (out_line o) (out_line_is o)) (adds_outs mark u outs)

pub pictures_are_lawful : (shows : Shows) → IsLawful (AddsPictures shows)
pictures_are_lawful shows =
    record { kept = adds_outs 32 (inl (lit≤ tt)); joined = adds_join 32 }
