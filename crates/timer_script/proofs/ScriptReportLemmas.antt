-- Bytes are cut into lines, and the report grows line by line. If no line is bad,
-- the bytes are a script, and a script has no bad line.
use Rattle.std.proofs.Common.{◌≡◌, ◌==◌, ◌+◌, ◌-◌, ◌<◌, ◌≤◌, inl, inr, false, if◌then◌else◌, ℕ, List, [], ◌∷◌, ◌++◌, length, get_or, take, drop, Option, Some, None, refl, sym, ap, subst, ◌∙◌, arith, append_assoc, append-nil, take-append-drop, eqb-true, eq-eqb, ne_eqb, lit≤, cond, Bool, true}
use Rattle.std.specs.List.{flat_map, enumerate_from, count_by, AllByRecursion, concat}
use Rattle.std.proofs.lemmas.List.Sums.{sum_by-cons}
use Rattle.std.proofs.lemmas.Bool.{both_ways, cases_lt}
use Rattle.std.proofs.lemmas.List.{nil_from_length, length-drop, take_rest}
use Rattle.timer_base.proofs.Basics.{either}
use Rattle.timer_script.specs.Script.{HasNoFeed, AreFieldsInRange, line, spelling, IsScript}
use Rattle.timer_script.specs.declared.lines.Grammar.TheVariants.{Script}
use Rattle.timer_script.specs.Diagnosis.{IsVerdict}
use Rattle.timer_script.specs.ScriptReport.{push_front, cut_lines, AreVerdicts, verdict_line, is_bad, IsScriptReport}
use Rattle.timer_script.proofs.FeedLemmas.{no_feed-take, feed-take, IsFed}
use Rattle.timer_script.proofs.LineLemmas.{line_fed}
use Rattle.timer_script.specs.Types.{Event, LineFault}

-- ---- one line

-- a byte that is no line feed goes before the first line
cut_step : (b : ℕ) (rest : List ℕ) (lines : List (List ℕ)) → (b == 10) ≡ false → cut_lines rest ≡ lines
    → cut_lines (b ∷ rest) ≡ push_front b lines
cut_step b rest lines other is = ap (λ t. if t then (b ∷ []) ∷ cut_lines rest else push_front b (cut_lines rest)) other
    ∙ ap (push_front b) is

pub cut_line : (front rest : List ℕ) → HasNoFeed front → cut_lines (front ++ 10 ∷ rest) ≡ (front ++ 10 ∷ []) ∷ cut_lines rest
cut_line [] rest free = refl
cut_line (b ∷ front) rest free = cut_step b (front ++ 10 ∷ rest) ((front ++ 10 ∷ []) ∷ cut_lines rest) (ne_eqb b 10 free.0)
    (cut_line front rest free.1)

-- bytes with no line feed are one line
cut_last : (front : List ℕ) → HasNoFeed front → 1 ≤ length front → cut_lines front ≡ front ∷ []
cut_last [] free some = absurd (omega arith)
cut_last (b ∷ []) free some = cut_step b [] [] (ne_eqb b 10 free.0) refl
cut_last (b ∷ c ∷ front) free some = cut_step b (c ∷ front) ((c ∷ front) ∷ []) (ne_eqb b 10 free.0)
    (cut_last (c ∷ front) free.1 (omega arith))

-- the bytes up to the first line feed, or all of them, are the first line
pub cut_at : (bytes : List ℕ) (n : ℕ) → 0 < n → n ≤ length bytes → HasNoFeed (take (n - 1) bytes)
    → (n < length bytes → get_or bytes (n - 1) 0 ≡ 10)
    → cut_lines bytes ≡ take n bytes ∷ cut_lines (drop n bytes)
cut_at bytes n some within free whole =
    elim (either (get_or bytes (n - 1) 0 == 10)) [
      | inl is ↦
          let taken : take n bytes ≡ take (n - 1) bytes ++ 10 ∷ [] = feed-take [] bytes n some within (eqb-true _ 10 is) in
          let split : bytes ≡ take (n - 1) bytes ++ 10 ∷ drop n bytes =
          sym (take-append-drop n bytes) ∙ ap (λ t. t ++ drop n bytes) taken ∙ append_assoc (take (n - 1) bytes) (10 ∷ []) (drop n bytes) in
          ap cut_lines split ∙ cut_line (take (n - 1) bytes) (drop n bytes) free ∙ ap (λ t. t ∷ cut_lines (drop n bytes)) (sym taken)
      | inr not ↦
          let other : get_or bytes (n - 1) 0 ≡ 10 → ⊥ = λ e. both_ways _ not (eq-eqb _ 10 e) in
          elim (cases_lt n (length bytes)) [
            | inl less ↦ absurd (other (whole less))
            | inr all ↦
                let none : drop n bytes ≡ [] = nil_from_length _ (omega (arith, length-drop n bytes)) in
                let same : take n bytes ≡ bytes = sym (append-nil (take n bytes)) ∙ ap (λ t. take n bytes ++ t) (sym none)
                ∙ take-append-drop n bytes in
                cut_last bytes (subst HasNoFeed same (no_feed-take [] bytes n some within tt free other)) (omega arith)
                ∙ ap (λ t. t ∷ []) (sym same) ∙ ap (λ t. take n bytes ∷ cut_lines t) (sym none)
          ]
    ]

-- ---- the report

-- the report of the lines from the n-th on
abbrev pub report_from : ℕ → List (Option LineFault) → List ℕ
report_from n verdicts = flat_map (λ numbered. verdict_line numbered.0 numbered.1) (enumerate_from n verdicts)

-- how many of them are bad
abbrev pub bad_lines : List (Option LineFault) → ℕ
bad_lines verdicts = count_by is_bad verdicts

-- how many a verdict counts for
abbrev pub count_of : Option LineFault → ℕ
count_of verdict = cond (is_bad verdict) 1 0

pub bad-more : (verdict : Option LineFault) (rest : List (Option LineFault)) → bad_lines (verdict ∷ rest) ≡ count_of verdict + bad_lines rest
bad-more verdict rest = sum_by-cons (λ x. cond (is_bad x) 1 0) verdict rest

-- the verdicts on all lines, if these are on those that are left
pub record Leads (script : List ℕ) (others : List (Option LineFault)) (lines bad : ℕ) (text : List ℕ) : Type 0 where
  pub all : List (Option LineFault)
  pub right : AreVerdicts all (cut_lines script)
  pub text_is : text ++ report_from (lines + 1) others ≡ report_from 1 all
  pub counted : bad + bad_lines others ≡ bad_lines all

-- the lines before the rest are reported in the text, which are this many, and so many are bad
pub record HasReportedTo (script rest : List ℕ) (lines bad : ℕ) (text : List ℕ) : Type 0 where
  pub leads : (others : List (Option LineFault)) → AreVerdicts others (cut_lines rest) → Leads script others lines bad text
  pub short : lines + length rest ≤ length script
  pub few : bad ≤ lines

pub reported_all : (script rest : List ℕ) (lines bad : ℕ) (text : List ℕ) → HasReportedTo script rest lines bad text → rest ≡ []
    → IsScriptReport script text bad
reported_all script rest lines bad text h none =
    let l = h.leads [] (subst (λ r. AreVerdicts [] (cut_lines r)) (sym none) tt) in
    record {
      verdicts = l.all;
      right = l.right;
      text_is = sym (append-nil text) ∙ l.text_is;
      counted = let k = l.counted in omega arith;
    }

-- ---- one turn of the loop

at_most_one : (verdict : Option LineFault) → count_of verdict ≤ 1
at_most_one None = lit≤ tt
at_most_one (Some fault) = lit≤ tt

-- one more line has this verdict, and if it is bad its fault is in the text
pub line_more : (script rest : List ℕ) (n lines bad bad' : ℕ) (text new : List ℕ) (verdict : Option LineFault)
    → HasReportedTo script rest lines bad text → 0 < n → n ≤ length rest → HasNoFeed (take (n - 1) rest)
    → (n < length rest → get_or rest (n - 1) 0 ≡ 10) → IsVerdict Script verdict (take n rest)
    → new ≡ text ++ verdict_line (lines + 1) verdict → bad' ≡ bad + count_of verdict
    → HasReportedTo script (take (length rest - n) (drop n rest)) (lines + 1) bad' new
line_more script rest n lines bad bad' text new verdict h some within free whole right joined one_more =
    let after : List ℕ = drop n rest in
    let cut = cut_at rest n some within free whole in
    let shorter : length after + 1 ≤ length rest = omega (arith, length-drop n rest) in
    subst (λ r. HasReportedTo script r (lines + 1) bad' new) (sym (take_rest rest n)) (record {
      leads = λ others rights.
          let l = h.leads (verdict ∷ others) (subst (AreVerdicts (verdict ∷ others)) (sym cut) (right, rights)) in
          record {
            all = l.all;
            right = l.right;
            text_is = ap (λ t. t ++ report_from (lines + 1 + 1) others) joined
                ∙ append_assoc text (verdict_line (lines + 1) verdict) (report_from (lines + 1 + 1) others) ∙ l.text_is;
            counted = let k = l.counted in omega (arith, bad-more verdict others);
          };
      short = let s = h.short in omega arith;
      few = let f = h.few in let m = at_most_one verdict in omega arith;
    })

-- ---- scripts, of which no line is bad

-- the lines one after another are the bytes
join_front : (b : ℕ) (lines : List (List ℕ)) → concat (push_front b lines) ≡ b ∷ concat lines
join_front b [] = refl
join_front b (first ∷ rest) = refl

join_step : (t : Bool) (b : ℕ) (rest : List ℕ) (lines : List (List ℕ)) → concat lines ≡ rest
    → concat (if t then (b ∷ []) ∷ lines else push_front b lines) ≡ b ∷ rest
join_step true b rest lines is = ap (λ r. b ∷ r) is
join_step false b rest lines is = join_front b lines ∙ ap (λ r. b ∷ r) is

join_cut : (bytes : List ℕ) → concat (cut_lines bytes) ≡ bytes
join_cut [] = refl
join_cut (b ∷ rest) = join_step (b == 10) b rest (cut_lines rest) (join_cut rest)

-- lines of which none is bad have an empty report, and are those of events
record AreGoodLines (n : ℕ) (verdicts : List (Option LineFault)) (lines : List (List ℕ)) : Type 0 where
  pub empty : report_from n verdicts ≡ []
  pub events : List Event
  pub joined : concat lines ≡ spelling events
  pub in_range : AllByRecursion AreFieldsInRange events

all_good : (n : ℕ) (verdicts : List (Option LineFault)) (lines : List (List ℕ)) → AreVerdicts verdicts lines → 0 ≡ bad_lines verdicts
    → AreGoodLines n verdicts lines
all_good n [] [] right none = record { empty = refl; events = []; joined = refl; in_range = tt }
all_good n [] (first ∷ rest) right none = absurd right
all_good n (verdict ∷ verdicts) [] right none = absurd right
all_good n (None ∷ verdicts) (first ∷ rest) right none =
    let (event, fits, is) = right.0 in
    let h = all_good (n + 1) verdicts rest right.1 (omega (arith, none, bad-more None verdicts)) in
    record {
      empty = h.empty;
      events = event ∷ h.events;
      joined = ap (λ t. t ++ concat rest) is ∙ ap (λ t. line event ++ t) h.joined;
      in_range = (fits, h.in_range);
    }
all_good n (Some fault ∷ verdicts) (first ∷ rest) right none = absurd (omega (arith, none, bad-more (Some fault) verdicts))

pub no_bad_lines : (bytes text : List ℕ) → IsScriptReport bytes text 0 → (text ≡ []) × ((events : List Event) × IsScript events bytes)
no_bad_lines bytes text r =
    let h = all_good 1 r.verdicts (cut_lines bytes) r.right r.counted in
    (r.text_is ∙ h.empty, (h.events, record { lines = sym (join_cut bytes) ∙ h.joined; in_range = h.in_range }))

-- the line of an event is the first line
cut_event : (event : Event) (rest : List ℕ) → AreFieldsInRange event → cut_lines (line event ++ rest) ≡ line event ∷ cut_lines rest
cut_event event rest fits =
    let f : IsFed (line event) = line_fed event fits in
    ap cut_lines (ap (λ t. t ++ rest) f.is ∙ append_assoc f.front (10 ∷ []) rest) ∙ cut_line f.front rest f.no_feed
    ∙ ap (λ t. t ∷ cut_lines rest) (sym f.is)

good_more : (event : Event) (rest : List ℕ) (verdicts : List (Option LineFault)) → AreFieldsInRange event
    → ((others : List (Option LineFault)) → AreVerdicts others (cut_lines rest) → bad_lines others ≡ 0)
    → AreVerdicts verdicts (line event ∷ cut_lines rest) → bad_lines verdicts ≡ 0
good_more event rest [] fits more right = absurd right
good_more event rest (None ∷ others) fits more right = omega (arith, bad-more None others, more others right.1)
good_more event rest (Some fault ∷ others) fits more right = absurd (right.0.0 (event, fits, refl))

script_good : (events : List Event) (verdicts : List (Option LineFault)) → AllByRecursion AreFieldsInRange events
    → AreVerdicts verdicts (cut_lines (spelling events)) → bad_lines verdicts ≡ 0
script_good [] [] fits right = refl
script_good [] (verdict ∷ others) fits right = absurd right
script_good (event ∷ events) verdicts fits right =
    good_more event (spelling events) verdicts fits.0 (λ others. script_good events others fits.1)
    (subst (AreVerdicts verdicts) (cut_event event (spelling events) fits.0) right)

pub script_has_none : (events : List Event) (bytes text : List ℕ) (bad : ℕ) → IsScript events bytes → IsScriptReport bytes text bad → bad ≡ 0
script_has_none events bytes text bad script r =
    r.counted ∙ script_good events r.verdicts script.in_range (subst (λ b. AreVerdicts r.verdicts (cut_lines b)) script.lines r.right)
