-- A text begins with one preamble at most.
use Rattle.std.proofs.Common.{◌≡◌, ◌≢◌, ◌<◌, ◌≤◌, ◌^◌, ◌+◌, ◌-◌, ℕ, List, [], ◌∷◌, ◌++◌, length, length-append, take, drop, codes, decimal, Option, None, Some, refl, sym, ap, subst, ◌∙◌, arith, append_assoc, take_at, drop_at, IfNone, IfErr, Result, Ok, Err}
use Rattle.std.specs.Result.{IsErrAnd}
use Rattle.std.proofs.lemmas.Fmt.{decimal_injective}
use Rattle.timer_durable.specs.Types.{LAST, Beginning, BeginFault}
use Rattle.timer_durable.specs.Beginning.{first_line, counts_line, preamble_of, IsCounted, MatchFound, WhyNotKept}
use Rattle.timer_durable.specs.declared.fault.BeginFault.TheVariants as faults
use Rattle.timer_journal.specs.Journal.{text_of}
use Rattle.timer_durable.specs.Opening.{WhyNotRecovered, WhyNotOpened}
use Rattle.timer_durable.proofs.Splitting.{decimal_without, one_split, same_behind}

if_none : {A : Type 0} {P : Type 0} (o : Option A) → P → IfNone o P
if_none None p = p
if_none (Some x) p = tt

pub none_read : {A : Type 0} (o : Option A) (bytes : List ℕ)
    → ((b : Beginning) (len : ℕ) (rest : List ℕ) → IsCounted b → len ≤ LAST → bytes ≢ counts_line b len ++ rest)
    → IfNone o ((b : Beginning) (len : ℕ) (rest : List ℕ) → IsCounted b → len ≤ LAST → bytes ≢ counts_line b len ++ rest)
none_read o bytes none = if_none o none

-- ---- the second line

pub same_number : (end m n : ℕ) (r s : List ℕ) → end < 48 → m ≤ LAST → n ≤ LAST → decimal m ++ end ∷ r ≡ decimal n ++ end ∷ s → (m ≡ n) × (r ≡ s)
same_number end m n r s low m_fits n_fits same =
    let (digits, rest) = one_split end (decimal m) (decimal n) r s (decimal_without end m low m_fits) (decimal_without end n low n_fits) same in
    (decimal_injective m n (omega arith) (omega arith) digits, rest)

spread : (b l s a t k n rest : List ℕ) → b ++ l ++ s ++ a ++ t ++ k ++ n ++ rest ≡ b ++ (l ++ (s ++ (a ++ (t ++ (k ++ (n ++ rest))))))
spread b l s a t k n rest =
    append_assoc (b ++ l ++ s ++ a ++ t ++ k) n rest
    ∙ append_assoc (b ++ l ++ s ++ a ++ t) k (n ++ rest)
    ∙ append_assoc (b ++ l ++ s ++ a) t (k ++ (n ++ rest))
    ∙ append_assoc (b ++ l ++ s) a (t ++ (k ++ (n ++ rest)))
    ∙ append_assoc (b ++ l) s (a ++ (t ++ (k ++ (n ++ rest))))
    ∙ append_assoc b l (s ++ (a ++ (t ++ (k ++ (n ++ rest)))))

-- the numbers of the line, and what follows it
pub behind_word : Beginning → ℕ → List ℕ → List ℕ
behind_word b len rest = decimal b.lines ++ 32 ∷ (decimal b.answers ++ 32 ∷ (decimal len ++ 10 ∷ rest))

pub counts_spread : (b : Beginning) (len : ℕ) (rest : List ℕ) → counts_line b len ++ rest ≡ codes "begins " ++ behind_word b len rest
unfolding counts_line behind_word
counts_spread b len rest = spread (codes "begins ") (decimal b.lines) (codes " ") (decimal b.answers) (codes " ") (decimal len) (codes "\n") rest

pub word_off : (bytes found : List ℕ) (b : Beginning) (len : ℕ) (rest : List ℕ) → bytes ≡ codes "begins " ++ found → bytes ≡ counts_line b len ++ rest
    → found ≡ behind_word b len rest
word_off bytes found b len rest is line = same_behind (codes "begins ") found (behind_word b len rest) (sym is ∙ line ∙ counts_spread b len rest)

pub lines_off : (found more : List ℕ) (n : ℕ) (b : Beginning) (len : ℕ) (rest : List ℕ) → IsCounted b → n ≤ LAST → found ≡ behind_word b len rest
    → found ≡ decimal n ++ 32 ∷ more → (n ≡ b.lines) × (more ≡ decimal b.answers ++ 32 ∷ (decimal len ++ 10 ∷ rest))
unfolding behind_word
lines_off found more n b len rest counted fits is read = same_number 32 n b.lines more _ (omega arith) fits counted.0 (sym read ∙ is)

pub counts_parts : (b c : Beginning) (m n : ℕ) (r s : List ℕ) → IsCounted b → IsCounted c → m ≤ LAST → n ≤ LAST
    → counts_line b m ++ r ≡ counts_line c n ++ s → (b ≡ c) × (m ≡ n) × (r ≡ s)
unfolding behind_word
counts_parts b c m n r s b_counted c_counted m_fits n_fits same =
    let off = word_off (counts_line b m ++ r) (behind_word b m r) c n s (counts_spread b m r) same in
    let (lines, first) = lines_off (behind_word b m r) _ b.lines c n s c_counted b_counted.0 off refl in
    let (answers, second) = same_number 32 b.answers c.answers _ _ (omega arith) b_counted.1 c_counted.1 first in
    let (len, rest) = same_number 10 m n r s (omega arith) m_fits n_fits second in
    ((λ i. record { lines = lines i; answers = answers i }), len, rest)

-- ---- all of it

pub preamble_spread : (options : List ℕ) (b : Beginning) (state lines : List ℕ)
    → preamble_of options b state ++ lines ≡ first_line options ++ (counts_line b (length state) ++ (state ++ lines))
unfolding preamble_of
preamble_spread options b state lines =
    append_assoc (first_line options ++ counts_line b (length state)) state lines
    ∙ append_assoc (first_line options) (counts_line b (length state)) (state ++ lines)

-- what follows the first line is the second, the state and the lines
pub first_line_off : (text options found : List ℕ) (b : Beginning) (state lines : List ℕ) → text ≡ first_line options ++ found
    → text ≡ preamble_of options b state ++ lines → found ≡ counts_line b (length state) ++ (state ++ lines)
first_line_off text options found b state lines is all =
    same_behind (first_line options) found _ (sym is ∙ all ∙ preamble_spread options b state lines)

pub same_front : (s t l m : List ℕ) → length s ≡ length t → s ++ l ≡ t ++ m → (s ≡ t) × (l ≡ m)
same_front s t l m long same = (
  sym (take_at s l (length s) refl) ∙ ap (take (length s)) same ∙ take_at t m (length s) (sym long),
  sym (drop_at s l (length s) refl) ∙ ap (drop (length s)) same ∙ drop_at t m (length s) (sym long),
)

pub one_preamble : (options : List ℕ) (b c : Beginning) (s t l m : List ℕ) → IsCounted b → IsCounted c → length s ≤ LAST → length t ≤ LAST
    → preamble_of options b s ++ l ≡ preamble_of options c t ++ m → (b ≡ c) × (s ≡ t) × (l ≡ m)
one_preamble options b c s t l m b_counted c_counted s_fits t_fits same =
    let off = first_line_off (preamble_of options b s ++ l) options _ c t m (preamble_spread options b s l) same in
    let (counts, len, rest) = counts_parts b c (length s) (length t) (s ++ l) (t ++ m) b_counted c_counted s_fits t_fits off in
    let (state, lines) = same_front s t l m len rest in
    (counts, state, lines)

-- a preamble says the state that follows it
pub too_short : (text options found more : List ℕ) (b c : Beginning) (len : ℕ) (state lines : List ℕ) → IsCounted b → IsCounted c → len ≤ LAST → length state ≤ LAST
    → text ≡ first_line options ++ found → found ≡ counts_line b len ++ more → length more < len → text ≡ preamble_of options c state ++ lines → ⊥
too_short text options found more b c len state lines b_counted c_counted len_fits fits is read short all =
    let off = first_line_off text options found c state lines is all in
    let (_, same, rest) = counts_parts b c len (length state) more (state ++ lines) b_counted c_counted len_fits fits (sym read ∙ off) in
    omega (arith, same, short, ap length rest, length-append state lines)

pub parts_make_it : (text options found more : List ℕ) (b : Beginning) (len : ℕ) (state lines : List ℕ) → text ≡ first_line options ++ found
    → found ≡ counts_line b len ++ more → len ≡ length state → more ≡ state ++ lines → text ≡ preamble_of options b state ++ lines
parts_make_it text options found more b len state lines is read long parts =
    is ∙ ap (λ t. first_line options ++ t) (read ∙ (λ i. counts_line b (long i) ++ parts i)) ∙ sym (preamble_spread options b state lines)

-- ---- the first line

pub first_line_spread : (options rest : List ℕ) → first_line options ++ rest ≡ codes "timers-journal 1 " ++ (options ++ 10 ∷ rest)
unfolding first_line
first_line_spread options rest =
    append_assoc (codes "timers-journal 1 " ++ options) (10 ∷ []) rest ∙ append_assoc (codes "timers-journal 1 ") options (10 ∷ rest)

pub other_options_why : (options text rest : List ℕ) (fault : BeginFault) → text ≡ codes "timers-journal 1 " ++ rest
    → ((r : List ℕ) → rest ≢ options ++ 10 ∷ r) → MatchFound fault rest → WhyNotKept options text fault
other_options_why options text rest (faults.OtherOptions found) is none begins =
    ((rest, is, begins), λ r all. none r (same_behind (codes "timers-journal 1 ") rest _ (sym is ∙ all ∙ first_line_spread options r)))
other_options_why options text rest (faults.Journal fault) is none why = why
other_options_why options text rest faults.NoJournal is none why = absurd why
other_options_why options text rest faults.OtherVersion is none why = absurd why
other_options_why options text rest faults.NoBeginning is none why = absurd why

-- ---- a file

pub opened_why : (options file text : List ℕ) (fault : BeginFault) → text ≡ text_of file → WhyNotKept options text fault → WhyNotOpened options file fault
opened_why options file text (faults.Journal fault) is why = subst (WhyNotRecovered file) (sym why) tt
opened_why options file text faults.NoJournal is why = subst (λ t. WhyNotKept options t faults.NoJournal) is why
opened_why options file text faults.OtherVersion is why = subst (λ t. WhyNotKept options t faults.OtherVersion) is why
opened_why options file text (faults.OtherOptions found) is why = subst (λ t. WhyNotKept options t (faults.OtherOptions found)) is why
opened_why options file text faults.NoBeginning is why = subst (λ t. WhyNotKept options t faults.NoBeginning) is why

pub err_is : {A E : Type 0} (r : Result A E) (x : E) (P : E → Type 0) → IsErrAnd r (λ y. y ≡ x) → P x → IfErr r P
err_is (Ok a) x P so p = tt
err_is (Err y) x P so p = subst P (sym so) p

pub some_preamble : (options : List ℕ) (b : Beginning) (s l : List ℕ) → preamble_of options b s ++ l ≢ []
some_preamble options b s l none =
    let e : [] ≡ codes "timers-journal 1 " ++ (options ++ 10 ∷ (counts_line b (length s) ++ (s ++ l))) =
    sym none ∙ preamble_spread options b s l ∙ first_line_spread options (counts_line b (length s) ++ (s ++ l)) in
    absurd (let k = ap length e in omega arith)
