-- Text with lines added between its own: lines that begin with a byte with which none of its own does.
use Rattle.std.specs.Prelude.{◌≡◌, ℕ, ◌==◌, Bool, true, false, not, List, [], ◌∷◌, ◌++◌, codes, decimal}
use Rattle.std.specs.List.{filter, concat, AllByRecursion}
use Rattle.timer_script.specs.Script.{HasNoFeed}
use Rattle.timer_script.specs.Decorator.{Decoration, IsNothing}
use Rattle.timer_commands.specs.declared.shows.Shows.{Shows}
use Rattle.timer_commands.specs.Shows.{is_covered}

-- some bytes without a line feed, and then one
pub record EndsWithFeed (bytes : List ℕ) : Type 0 where
  pub front : List ℕ
  pub is : bytes ≡ front ++ 10 ∷ []
  pub no_feed : HasNoFeed front

-- the line does not begin with this byte
abbrev pub is_unmarked : ℕ → List ℕ → Bool
is_unmarked mark [] = true
is_unmarked mark (first ∷ rest) = not (first == mark)

-- the text is lines, and the answer is those of them that do not begin with this byte
pub record AddsMarked (mark : ℕ) (answer text : List ℕ) : Type 0 where
  pub lines : List (List ℕ)
  pub each : AllByRecursion EndsWithFeed lines
  pub text_is : text ≡ concat lines
  pub answer_is : answer ≡ concat (filter (is_unmarked mark) lines)

-- the line of the clock
abbrev pub clock_line : ℕ → List ℕ
clock_line now = codes "  now " ++ decimal now ++ codes "\n"

-- indented lines, the first of which has the tick
abbrev pub IsPicture : ℕ → List ℕ → Type 0
IsPicture now text = (more : List ℕ) × (text ≡ clock_line now ++ more) × AddsMarked 32 [] text

-- a picture at a tick that is covered, and else nothing
abbrev pub IsPictureIf : Bool → ℕ → List ℕ → Type 0
IsPictureIf true now text = IsPicture now text
IsPictureIf false now text = text ≡ []

-- after the answer to each line comes a picture, if the tick is covered; and there may be indented lines within it
abbrev pub AddsPictures : Shows → Decoration
AddsPictures shows = record {
  Within = AddsMarked 32;
  After = λ serial s added. IsPictureIf (is_covered shows s.now) s.now added;
  AfterRead = IsNothing;
}

-- the text grew by a picture
abbrev pub HasGrownByPicture : ℕ → List ℕ → List ℕ → Type 0
HasGrownByPicture now old new = (added : List ℕ) × (new ≡ old ++ added) × IsPicture now added

-- the text grew by indented lines
abbrev pub HasGrownByIndented : List ℕ → List ℕ → Type 0
HasGrownByIndented old new = (added : List ℕ) × (new ≡ old ++ added) × AddsMarked 32 [] added

-- it grew by bytes without a line feed
abbrev pub HasGrownByBare : List ℕ → List ℕ → Type 0
HasGrownByBare old new = (more : List ℕ) × (new ≡ old ++ more) × HasNoFeed more

-- it grew by the rest of a line
abbrev pub HasGrownByEnd : List ℕ → List ℕ → Type 0
HasGrownByEnd old new = (rest : List ℕ) × (new ≡ old ++ rest ++ 10 ∷ []) × HasNoFeed rest
