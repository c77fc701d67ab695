-- The spelling of a script is unique, and so is the first bad line.
use Rattle.std.proofs.Common.{◌≡◌, ℕ, ◌+◌, ◌≤◌, List, [], ◌∷◌, ◌++◌, length, Some, None, refl, sym, ap, ◌∙◌, arith, append_assoc}
use Rattle.std.specs.List.{AllByRecursion}
use Rattle.std.proofs.lemmas.Option.{none-some}
use Rattle.std.proofs.NetLemmas.Options.{same_parts}
use Rattle.std.proofs.lemmas.List.{length-append, append-nil}
use Rattle.timer_facility.specs.declared.event.Event.{Event}
use Rattle.timer_script.specs.Types.{Grammar}
use Rattle.timer_script.specs.declared.lines.Grammar.TheVariants.{Script, Stream}
use Rattle.timer_script.specs.Script.{IsIn, line, spelling, AreLinesOf, IsScript, BeginsNoLine, IsBadLineOf, IsBadLine}
use Rattle.timer_script.specs.Lines.{has_word, other_at, line_at, other_own_at, own_line_at, stream_at, line_in}
use Rattle.timer_script.proofs.Results.{all_append, emptied, not_emptied}
use Rattle.timer_script.proofs.LineLemmas.{in_stream, read_again, read_sound}

-- the first lines of two texts that are one
one_line : (grammar : Grammar) (d e : Event) (xs ys : List ℕ) → IsIn grammar d → IsIn grammar e → line d ++ xs ≡ line e ++ ys
    → (d ≡ e) × (xs ≡ ys)
one_line grammar d e xs ys fit_d fit_e same =
    same_parts d e xs ys (sym (read_again grammar d xs fit_d) ∙ ap (line_in grammar) same ∙ read_again grammar e ys fit_e)

no_line_none : (grammar : Grammar) (bytes : List ℕ) → line_in grammar bytes ≡ None → BeginsNoLine grammar bytes
no_line_none grammar bytes none event more fits e = none-some _ (sym none ∙ ap (line_in grammar) e ∙ read_again grammar event more fits)

-- no event is read of no bytes
read_of_some : (grammar : Grammar) (bytes : List ℕ) (event : Event) → line_in grammar (bytes ++ []) ≡ Some (event, [])
    → 1 ≤ length bytes
unfolding stream_at line_at other_at own_line_at other_own_at has_word
read_of_some Script [] event read = absurd (none-some _ read)
read_of_some Stream [] event read = absurd (none-some _ read)
read_of_some grammar (b ∷ bytes) event read = omega arith

line_long : (grammar : Grammar) (event : Event) → IsIn grammar event → 1 ≤ length (line event)
line_long grammar event fits = read_of_some grammar (line event) event (read_again grammar event [] fits)

end_is_no_line : (grammar : Grammar) → BeginsNoLine grammar []
end_is_no_line grammar event more fits e =
    let h = line_long grammar event fits in absurd (omega (arith, ap length e, length-append (line event) more))

-- lines, and bytes after them that begin with none, are read in one way
same_lines : (grammar : Grammar) (xs ys : List Event) (rest other : List ℕ) → AllByRecursion (IsIn grammar) xs
    → AllByRecursion (IsIn grammar) ys → BeginsNoLine grammar rest → BeginsNoLine grammar other → spelling xs ++ rest ≡ spelling ys ++ other → (xs ≡ ys) × (rest ≡ other)
same_lines grammar [] [] rest other fx fy bad worse e = (refl, e)
same_lines grammar [] (y ∷ ys) rest other fx fy bad worse e =
    absurd (bad y (spelling ys ++ other) fy.0 (e ∙ append_assoc (line y) (spelling ys) other))
same_lines grammar (x ∷ xs) [] rest other fx fy bad worse e =
    absurd (worse x (spelling xs ++ rest) fx.0 (sym e ∙ append_assoc (line x) (spelling xs) rest))
same_lines grammar (x ∷ xs) (y ∷ ys) rest other fx fy bad worse e =
    let (first, others) = one_line grammar x y (spelling xs ++ rest) (spelling ys ++ other) fx.0 fy.0
    (sym (append_assoc (line x) (spelling xs) rest) ∙ e ∙ append_assoc (line y) (spelling ys) other) in
    let (events, after) = same_lines grammar xs ys rest other fx.1 fy.1 bad worse others in
    (rw (first, events) refl, after)

pub one_spelling : (grammar : Grammar) (xs ys : List Event) (bytes : List ℕ) → AreLinesOf grammar xs bytes
    → AreLinesOf grammar ys bytes → xs ≡ ys
one_spelling grammar xs ys bytes a b = (same_lines grammar xs ys [] [] a.in_range b.in_range (end_is_no_line grammar)
    (end_is_no_line grammar) (ap (λ t. t ++ []) (sym a.lines ∙ b.lines))).0

in_streams : (events : List Event) → AllByRecursion (IsIn Script) events → AllByRecursion (IsIn Stream) events
in_streams [] fits = tt
in_streams (event ∷ events) fits = (in_stream event fits.0, in_streams events fits.1)

-- a script is a stream
pub script_streams : (events : List Event) (bytes : List ℕ) → IsScript events bytes → AreLinesOf Stream events bytes
script_streams events bytes script = record { lines = script.lines; in_range = in_streams events script.in_range }

-- nothing follows a whole script
pub no_bad_line : (grammar : Grammar) (xs : List Event) (bytes : List ℕ) (n : ℕ) → AreLinesOf grammar xs bytes
    → IsBadLineOf grammar bytes n → ⊥
no_bad_line grammar xs bytes n script bad =
    let (_, none) = same_lines grammar xs bad.before [] bad.rest script.in_range bad.in_range (end_is_no_line grammar) bad.bad
    (append-nil (spelling xs) ∙ sym script.lines ∙ bad.parts) in
    let some = bad.some in
    omega (arith, ap length none)

pub one_bad_line_is : (grammar : Grammar) (bytes : List ℕ) (m n : ℕ) → IsBadLineOf grammar bytes m → IsBadLineOf grammar bytes n → m ≡ n
one_bad_line_is grammar bytes m n a b =
    let (same, _) = same_lines grammar a.before b.before a.rest b.rest a.in_range b.in_range a.bad b.bad (sym a.parts ∙ b.parts) in
    a.counted ∙ ap (λ xs. length xs + 1) same ∙ sym b.counted

-- ---- steps of the loop

spelling_push : (xs : List Event) (x : Event) (rest : List ℕ) → spelling (xs ++ x ∷ []) ++ rest ≡ spelling xs ++ (line x ++ rest)
spelling_push [] x rest = ap (λ t. t ++ rest) (append-nil (line x))
spelling_push (y ∷ ys) x rest =
    append_assoc (line y) (spelling (ys ++ x ∷ [])) rest ∙ ap (λ t. line y ++ t) (spelling_push ys x rest)
    ∙ sym (append_assoc (line y) (spelling ys) (line x ++ rest))

-- the lines before the rest were read as these events
pub record HasReadTo (bytes rest : List ℕ) (events : List Event) : Type 0 where
  pub parts : bytes ≡ spelling events ++ rest
  pub in_range : AllByRecursion (IsIn Script) events

pub read_nothing : (bytes : List ℕ) → HasReadTo bytes bytes []
read_nothing bytes = record { parts = refl; in_range = tt }

-- a line is shorter than what it stands at the front of
pub read_shorter : (grammar : Grammar) (rest after : List ℕ) (event : Event) → line_in grammar rest ≡ Some (event, after)
    → length after + 1 ≤ length rest
read_shorter grammar rest after event read =
    let (fits, is) = read_sound grammar rest after event read in
    let long = line_long grammar event fits in
    omega (arith, ap length is, length-append (line event) after)

pub line_shorter : (rest after : List ℕ) (event : Event) → line_at rest ≡ Some (event, after) → length after + 1 ≤ length rest
line_shorter rest after event read = read_shorter Script rest after event read

pub read_more : (bytes rest after : List ℕ) (events : List Event) (event : Event) → HasReadTo bytes rest events
    → line_at rest ≡ Some (event, after) → HasReadTo bytes after (events ++ event ∷ [])
read_more bytes rest after events event h read =
    let (fits, is) = read_sound Script rest after event read in
    record {
      parts = h.parts ∙ ap (λ t. spelling events ++ t) is ∙ sym (spelling_push events event after);
      in_range = all_append (IsIn Script) events (event ∷ []) h.in_range (fits, tt);
    }

pub read_all : (bytes rest : List ℕ) (events : List Event) → HasReadTo bytes rest events → rest ≡ [] → IsScript events bytes
read_all bytes rest events h none = record {
  lines = h.parts ∙ ap (λ t. spelling events ++ t) none ∙ append-nil (spelling events);
  in_range = h.in_range;
}

pub read_bad : (bytes rest : List ℕ) (events : List Event) (n : ℕ) → HasReadTo bytes rest events → 1 ≤ length rest
    → line_at rest ≡ None → n ≡ length events + 1 → IsBadLine bytes n
read_bad bytes rest events n h some none is = record {
  before = events;
  rest = rest;
  parts = h.parts;
  in_range = h.in_range;
  some = some;
  bad = no_line_none Script rest none;
  counted = is;
}

-- the steps of a script that is read
pub ruleset reading = (read_nothing, read_all, read_bad, line_shorter, emptied, not_emptied)
