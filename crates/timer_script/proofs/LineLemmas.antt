-- What is read from the front of the bytes is their spelling, and what is spelled so is read.
use Rattle.std.proofs.Common.{rules, ◌⊎◌, ◌≡◌, ◌≢◌, [], ℕ, ◌^◌, ◌<◌, ◌≤◌, ◌==◌, nat_lt, true, false, ◌&&◌, List, ◌∷◌, ◌++◌, length, length-append, get_or, take, drop, slice_index, lt_irrefl, ◌-◌, Option, Some, None, decimal, codes, refl, sym, ap, subst, ◌∙◌, arith, inl, inr, drop_at, take_at, take-append-drop, append_assoc, lit≤, le-ltb, lt-ltb, ne_eqb, eq-eqb, get_or-take, get_or-drop, add-zero, le_refl}
use Rattle.std.specs.Cmp.Lexicographic.{bytes_decides}
use Rattle.std.proofs.lemmas.Bool.{and_left, and_right, and_from, and_parts, or_from, or_parts, both_ways, cases_lt, cases_Bool, leb-true, le-leb, ltb-false, eqb-false}
use Rattle.std.proofs.lemmas.List.{get_or_append_left, nil_from_length, length-take-le, take_rest}
use Rattle.std.proofs.lemmas.Bool.Decides.{nat_tests}
use Rattle.std.proofs.lemmas.Option.{none-some}
use Rattle.std.proofs.lemmas.Fmt.{decimal_is_IsNumeral, decimal_digit, first_decimal, decimal-digits_value, length-decimal-le}
use Rattle.std.proofs.lemmas.Str.Parse.{numerals_by_value, tells_digits}
use Rattle.std.specs.Char.{digit_value}
use Rattle.std.specs.Str.Parse.{AllDigits, digits_value}
use Rattle.std.specs.Net.Reader.{digit_count, read_number}
use Rattle.std.proofs.NetLemmas.Numbers.{NoDigit, digit_count-append, digit_count_none, read_number_sound}
use Rattle.std.proofs.NetLemmas.Options.{cond_some, cond_none, and_then_some, same_parts}
use Rattle.timer_script.specs.Types.{LAST, MAX_TICKS, MAX_LINE, Event, Grammar}
use Rattle.timer_script.specs.declared.lines.Grammar.TheVariants.{Script, Stream}
use Rattle.timer_facility.specs.declared.event.Event.TheVariants as Events
use Rattle.timer_script.specs.Script.{AreFieldsInRange, IsIn, line, HasNoFeed, BeginsNoLine}
use Rattle.timer_script.proofs.FeedLemmas.{IsFed, fed, no_feed_long, at_feed}
use Rattle.timer_script.specs.Lines.{Read, ◌>>=◌, or_try, has_word, strip, number_at, field_at, tick_count_at, or_else, other_at, line_at, other_own_at, own_line_at, stream_at, line_in}
-- made by tools/facts: imports of what readers compute
use Rattle.timer_script.specs.Lines.{start_at, stop_at, restart_at, tick_at, close_at, at_line_at, start_at_line_at, restart_at_line_at, state_line_at}

-- ---- a word

pub has_word_sound : (word bytes : List ℕ) → has_word word bytes ≡ true → bytes ≡ word ++ drop (length word) bytes
unfolding has_word
has_word_sound word bytes same =
    sym (take-append-drop (length word) bytes)
    ∙ ap (λ t. t ++ drop (length word) bytes) (sym ((bytes_decides word (take (length word) bytes)).0 same))

strip_sound : (word bytes rest : List ℕ) → strip word bytes ≡ Some rest → bytes ≡ word ++ rest
strip_sound word bytes rest e =
    let (same, tail) = cond_some _ _ _ e in
    has_word_sound word bytes same ∙ ap (λ t. word ++ t) tail

pub strip_again : (word rest : List ℕ) → strip word (word ++ rest) ≡ Some rest
unfolding has_word
strip_again word rest = rw (
  take_at word rest (length word) refl,
  (bytes_decides word word).1 refl,
  drop_at word rest (length word) refl,
) refl

-- behind a common front the rest decides
pub has_word_after : (front word bytes : List ℕ) → has_word (front ++ word) (front ++ bytes) ≡ has_word word bytes
unfolding has_word
has_word_after [] word bytes = refl
has_word_after (x ∷ xs) word bytes = rw (eq-eqb x x refl) (has_word_after xs word bytes)

-- one byte
pub byte_none : (end : ℕ) (bytes : List ℕ) → length bytes ≡ 0 → strip (end ∷ []) bytes ≡ None
unfolding has_word
byte_none end bytes none = rw (nil_from_length bytes none) refl

pub byte_other : (end : ℕ) (bytes : List ℕ) → slice_index bytes 0 ≢ end → 0 < length bytes → strip (end ∷ []) bytes ≡ None
unfolding has_word
byte_other end [] other some = absurd (lt_irrefl 0 some)
byte_other end (b ∷ bs) other some = rw (ne_eqb end b (λ e. other (sym e))) refl

pub byte_same : (end : ℕ) (bytes : List ℕ) → slice_index bytes 0 ≡ end → 0 < length bytes
    → strip (end ∷ []) bytes ≡ Some (take (length bytes - 1) (drop 1 bytes))
byte_same end [] is some = absurd (lt_irrefl 0 some)
byte_same end (b ∷ bs) is some = rw (← is, take_rest (b ∷ bs) 1) (strip_again (b ∷ []) bs)

pub ruleset bytes_of_fields = (byte_none, byte_other, byte_same, nat_tests)

-- ---- a number

-- a decimal has one digit, or begins with another digit than 0
no_leading_zero : (n : ℕ) (rest : List ℕ) → n ≤ LAST → (nat_lt 1 (length (decimal n)) && (get_or (decimal n ++ rest) 0 0 == 48)) ≡ false
no_leading_zero n rest fits =
    let small : n < 2 ^ 64 = omega arith in
    elim (cases_lt n 10) [
      | inl one ↦ and_left _ _ (le-ltb 1 (length (decimal n)) (omega (arith, ap length (decimal_digit n one))))
      | inr more ↦
          let first = first_decimal n (omega arith) small in
          let same = get_or_append_left (decimal n) rest 0 0 (decimal_is_IsNumeral n small).0.0 in
          and_right _ _ (ne_eqb (get_or (decimal n ++ rest) 0 0) 48 (omega arith))
    ]

-- digits that no digit follows are all those at the front
pub digit_count_at : (s : List ℕ) (len : ℕ) → AllDigits 10 (take len s) → len ≤ length s → 10 ≤ digit_value (get_or s len 0)
    → digit_count 10 s ≡ len
digit_count_at s len all within stop =
    let next : NoDigit 10 (drop len s) = rw (get_or-drop len s 0 0, add-zero) stop in
    let count = rw (take-append-drop len s) at (digit_count-append 10 (take len s) (drop len s) all) in
    omega (arith, count, digit_count_none 10 (drop len s) next, length-take-le len s within)

pub number_again : (n : ℕ) (rest : List ℕ) → n ≤ LAST → NoDigit 10 rest → number_at (decimal n ++ rest) ≡ Some (n, rest)
unfolding number_at
number_again n rest fits stop =
    let (numeral, value) = decimal_is_IsNumeral n (omega arith) in
    let len : ℕ = length (decimal n) in
    let count : digit_count 10 (decimal n ++ rest) ≡ len =
    omega (arith, digit_count-append 10 (decimal n) rest numeral.1, digit_count_none 10 rest stop) in
    let short : len ≤ 19 = length-decimal-le 19 n (lit≤ tt) (omega arith) (omega arith) in
    let none : (len == 0) ≡ false = ne_eqb len 0 (omega (arith, numeral.0)) in
    rw (
      count,
      take_at (decimal n) rest len refl,
      value,
      or_from _ _ none (or_from _ _ (no_leading_zero n rest fits) (or_from _ _ (le-ltb 19 len short) (le-ltb LAST n fits))),
      drop_at (decimal n) rest len refl,
    ) refl

pub number_sound : (bytes rest : List ℕ) (n : ℕ) → number_at bytes ≡ Some (n, rest) → (n ≤ LAST) × (bytes ≡ decimal n ++ rest)
unfolding number_at read_number
number_sound bytes rest n e =
    let len : ℕ = digit_count 10 bytes in
    let ds : List ℕ = take len bytes in
    let v : ℕ = digits_value 10 ds in
    let (tests, some) = cond_none _ _ _ e in
    let (none, more) = or_parts _ _ tests in
    let (zero_first, range) = or_parts _ _ more in
    let (value_is, rest_is) = same_parts v n (drop len bytes) rest some in
    let fits : v ≤ LAST = ltb-false LAST v (or_parts _ _ range).1 in
    let read : read_number 10 v bytes ≡ Some (v, len) = rw (lt-ltb 0 len (omega (arith, eqb-false len 0 none)), le-leb v v (le_refl v)) refl in
    let (number, _, size, _) = read_number_sound 10 v bytes v len (lit≤ tt) read in
    let alone : get_or ds 0 0 ≡ 48 → length ds ≡ 1 = λ first.
    elim (cases_lt 1 len) [
      | inl longer ↦ absurd (both_ways _ zero_first (and_from _ _ (lt-ltb _ _ longer)
          (eq-eqb _ _ (sym (get_or-take len bytes 0 0 (omega arith)) ∙ first))))
      | inr one ↦ omega (arith, number.0.0)
    ] in
    let spelled = decimal-digits_value (numerals_by_value _ tells_digits) ds number.0.1 number.0.0 alone (omega arith) in
    (omega arith, rw (← value_is, spelled, ← rest_is) (sym (take-append-drop len bytes)))

-- ---- a field

pub field_again : (end n : ℕ) (rest : List ℕ) → n ≤ LAST → NoDigit 10 (end ∷ rest)
    → field_at end (decimal n ++ (end ∷ rest)) ≡ Some (n, rest)
unfolding field_at
field_again end n rest fits stop = rw (number_again n (end ∷ rest) fits stop, strip_again (end ∷ []) rest) refl

pub field_sound : (end : ℕ) (bytes rest : List ℕ) (n : ℕ) → field_at end bytes ≡ Some (n, rest) → (n ≤ LAST) × (bytes ≡ decimal n ++ end ∷ rest)
unfolding field_at
field_sound end bytes rest n e =
    and_then_some _ (number_at bytes) _ e λ m read e₁.
    and_then_some _ (strip (end ∷ []) m.1) _ e₁ λ after found e₂.
    let (value_is, rest_is) = same_parts m.0 n after rest e₂ in
    let is = number_sound bytes m.1 m.0 read in
    (rw (← value_is) is.0, rw (← value_is, ← rest_is) (is.1 ∙ ap (λ t. decimal m.0 ++ t) (strip_sound (end ∷ []) m.1 after found)))

-- what was read after a field
pub field_then : {A P : Type 0} (end : ℕ) (bytes : List ℕ) (f : ℕ × List ℕ → Option A) (y : A) → (field_at end bytes >>= f) ≡ Some y
    → ((n : ℕ) (rest : List ℕ) → n ≤ LAST → bytes ≡ decimal n ++ end ∷ rest → f (n, rest) ≡ Some y → P) → P
field_then end bytes f y e more =
    and_then_some _ (field_at end bytes) _ e λ m read e₁.
    let is = field_sound end bytes m.1 m.0 read in
    more m.0 m.1 is.0 is.1 e₁

-- ---- a count of ticks

tick_count_fits : {n : ℕ} → (1 ≤ n) × (n ≤ MAX_TICKS) → n ≤ LAST
tick_count_fits fits = omega (arith, fits.1)

tick_count_again : (end n : ℕ) (rest : List ℕ) → (1 ≤ n) × (n ≤ MAX_TICKS) → NoDigit 10 (end ∷ rest)
    → tick_count_at end (decimal n ++ (end ∷ rest)) ≡ Some (n, rest)
unfolding tick_count_at
tick_count_again end n rest fits stop =
    rw (field_again end n rest (tick_count_fits fits) stop, and_from _ _ (le-leb 1 n fits.0) (le-leb n MAX_TICKS fits.1)) refl

-- what was read after a count
tick_count_then : {A P : Type 0} (end : ℕ) (bytes : List ℕ) (f : ℕ × List ℕ → Option A) (y : A) → (tick_count_at end bytes >>= f) ≡ Some y
    → ((n : ℕ) (rest : List ℕ) → (1 ≤ n) × (n ≤ MAX_TICKS) → bytes ≡ decimal n ++ end ∷ rest → f (n, rest) ≡ Some y → P) → P
unfolding tick_count_at
tick_count_then end bytes f y e more =
    and_then_some _ (tick_count_at end bytes) _ e λ m read e₁.
    field_then end bytes _ m read λ n rest fits is e₂.
    let (test, same) = cond_some _ _ _ e₂ in
    let (low, high) = and_parts _ _ test in
    more n rest (leb-true 1 n low, leb-true n MAX_TICKS high) is (ap f same ∙ e₁)

-- ---- a line

-- what was read of a line is the event and the rest that were wanted
same_line : (P : Event → Type 0) (word bytes rest after : List ℕ) (event read : Event)
    → ◌≡◌ {A = Option (Event × List ℕ)} (Some (read, after)) (Some (event, rest)) → P read
    → word ++ bytes ≡ line read ++ after → P event × (word ++ bytes ≡ line event ++ rest)
same_line P word bytes rest after event read e fits is =
    let (event_is, rest_is) = same_parts read event after rest e in
    subst (λ (x : Event). P x × (word ++ bytes ≡ line x ++ rest)) event_is
    (subst (λ (r : List ℕ). P read × (word ++ bytes ≡ line read ++ r)) rest_is (fits, is))

-- a word is at the front, or not
by_word : (P : Event → Type 0) (word bytes rest : List ℕ) (event : Event) (f : List ℕ → Option (Event × List ℕ)) (other : Option (Event × List ℕ))
    → or_try (strip word bytes) f other ≡ Some (event, rest)
    → ((s : List ℕ) → f s ≡ Some (event, rest) → P event × (word ++ s ≡ line event ++ rest))
    → (other ≡ Some (event, rest) → P event × (bytes ≡ line event ++ rest)) → P event × (bytes ≡ line event ++ rest)
by_word P word bytes rest event f other e some none = elim (cases_Bool (has_word word bytes)) [
  | inl begins ↦
      let (fits, is) = some (drop (length word) bytes) (rw begins at e) in
      (fits, has_word_sound word bytes begins ∙ is)
  | inr not_so ↦ none (rw not_so at e)
]

-- made by tools/facts: lemmas of lines
-- the line of an event is read as that event
pub line_again : (event : Event) (rest : List ℕ) → AreFieldsInRange event
    → line_at (line event ++ rest) ≡ Some (event, rest)
unfolding line_at other_at start_at stop_at restart_at tick_at close_at line has_word
line_again (Events.Start client number interval action) rest fits = simp append_assoc (rw (
  field_again 32 client _ fits.0 (lit≤ tt),
  field_again 32 number _ fits.1 (lit≤ tt),
  field_again 32 interval _ fits.2 (lit≤ tt),
  field_again 10 action _ fits.3 (lit≤ tt),
) refl)
line_again (Events.Stop client number serial) rest fits = simp append_assoc (rw (
  field_again 32 client _ fits.0 (lit≤ tt),
  field_again 32 number _ fits.1 (lit≤ tt),
  field_again 10 serial _ fits.2 (lit≤ tt),
) refl)
line_again (Events.Restart client number serial interval action) rest fits = simp append_assoc (rw (
  field_again 32 client _ fits.0 (lit≤ tt),
  field_again 32 number _ fits.1 (lit≤ tt),
  field_again 32 serial _ fits.2 (lit≤ tt),
  field_again 32 interval _ fits.3 (lit≤ tt),
  field_again 10 action _ fits.4 (lit≤ tt),
) refl)
line_again (Events.Ticks count) rest fits = simp append_assoc (rw (tick_count_again 10 count _ fits (lit≤ tt)) refl)
line_again Events.Close rest fits = refl
line_again (Events.TicksTo tick) rest fits = absurd fits
line_again (Events.StartAt client number deadline action) rest fits = absurd fits
line_again (Events.RestartAt client number serial deadline action) rest fits = absurd fits
line_again Events.Dump rest fits = absurd fits

start_sound : (bytes rest : List ℕ) (event : Event) → start_at bytes ≡ Some (event, rest)
    → AreFieldsInRange event × (codes "start " ++ bytes ≡ line event ++ rest)
unfolding start_at line
start_sound bytes rest event e =
    field_then 32 bytes _ _ e λ client r1 fits1 is1 e1.
    field_then 32 r1 _ _ e1 λ number r2 fits2 is2 e2.
    field_then 32 r2 _ _ e2 λ interval r3 fits3 is3 e3.
    field_then 10 r3 _ _ e3 λ action r4 fits4 is4 e4.
    same_line AreFieldsInRange (codes "start ") bytes rest r4 event (Events.Start client number interval action) e4 (fits1, fits2, fits3, fits4)
    (rw (is1, is2, is3, is4) (simp append_assoc))

stop_sound : (bytes rest : List ℕ) (event : Event) → stop_at bytes ≡ Some (event, rest)
    → AreFieldsInRange event × (codes "stop " ++ bytes ≡ line event ++ rest)
unfolding stop_at line
stop_sound bytes rest event e =
    field_then 32 bytes _ _ e λ client r1 fits1 is1 e1.
    field_then 32 r1 _ _ e1 λ number r2 fits2 is2 e2.
    field_then 10 r2 _ _ e2 λ serial r3 fits3 is3 e3.
    same_line AreFieldsInRange (codes "stop ") bytes rest r3 event (Events.Stop client number serial) e3 (fits1, fits2, fits3)
    (rw (is1, is2, is3) (simp append_assoc))

restart_sound : (bytes rest : List ℕ) (event : Event) → restart_at bytes ≡ Some (event, rest)
    → AreFieldsInRange event × (codes "restart " ++ bytes ≡ line event ++ rest)
unfolding restart_at line
restart_sound bytes rest event e =
    field_then 32 bytes _ _ e λ client r1 fits1 is1 e1.
    field_then 32 r1 _ _ e1 λ number r2 fits2 is2 e2.
    field_then 32 r2 _ _ e2 λ serial r3 fits3 is3 e3.
    field_then 32 r3 _ _ e3 λ interval r4 fits4 is4 e4.
    field_then 10 r4 _ _ e4 λ action r5 fits5 is5 e5.
    same_line AreFieldsInRange (codes "restart ") bytes rest r5 event (Events.Restart client number serial interval action) e5 (fits1, fits2, fits3, fits4, fits5)
    (rw (is1, is2, is3, is4, is5) (simp append_assoc))

tick_sound : (bytes rest : List ℕ) (event : Event) → tick_at bytes ≡ Some (event, rest)
    → AreFieldsInRange event × (codes "tick " ++ bytes ≡ line event ++ rest)
unfolding tick_at line
tick_sound bytes rest event e =
    tick_count_then 10 bytes _ _ e λ count r1 fits1 is1 e1.
    same_line AreFieldsInRange (codes "tick ") bytes rest r1 event (Events.Ticks count) e1 (fits1)
    (rw (is1) (simp append_assoc))

close_sound : (bytes rest : List ℕ) (event : Event) → close_at bytes ≡ Some (event, rest)
    → AreFieldsInRange event × (codes "close\n" ++ bytes ≡ line event ++ rest)
unfolding close_at line
close_sound bytes rest event e =
    same_line AreFieldsInRange (codes "close\n") bytes rest bytes event Events.Close e tt
    refl

-- what is read is the line of that event
pub line_sound : (bytes rest : List ℕ) (event : Event) → line_at bytes ≡ Some (event, rest)
    → AreFieldsInRange event × (bytes ≡ line event ++ rest)
unfolding line_at other_at
line_sound bytes rest event e =
    by_word AreFieldsInRange (codes "start ") bytes rest event start_at _ e (λ s. start_sound s rest event) λ e1.
    by_word AreFieldsInRange (codes "stop ") bytes rest event stop_at _ e1 (λ s. stop_sound s rest event) λ e2.
    by_word AreFieldsInRange (codes "close\n") bytes rest event close_at _ e2 (λ s. close_sound s rest event) λ e3.
    by_word AreFieldsInRange (codes "tick ") bytes rest event tick_at _ e3 (λ s. tick_sound s rest event) λ e4.
    by_word AreFieldsInRange (codes "restart ") bytes rest event restart_at _ e4 (λ s. restart_sound s rest event) λ e5.
    absurd (none-some _ e5)

-- where the line of an event ends
pub line_fed : (event : Event) → AreFieldsInRange event → IsFed (line event)
unfolding line
line_fed (Events.Start client number interval action) fits =
    fed (codes "start") (client ∷ number ∷ interval ∷ action ∷ []) (line (Events.Start client number interval action)) (search rules) (lit≤ tt)
    (fits.0, (fits.1, (fits.2, (fits.3, tt)))) (simp append_assoc refl)
line_fed (Events.Stop client number serial) fits =
    fed (codes "stop") (client ∷ number ∷ serial ∷ []) (line (Events.Stop client number serial)) (search rules) (lit≤ tt)
    (fits.0, (fits.1, (fits.2, tt))) (simp append_assoc refl)
line_fed (Events.Restart client number serial interval action) fits =
    fed (codes "restart") (client ∷ number ∷ serial ∷ interval ∷ action ∷ []) (line (Events.Restart client number serial interval action)) (search rules) (lit≤ tt)
    (fits.0, (fits.1, (fits.2, (fits.3, (fits.4, tt))))) (simp append_assoc refl)
line_fed (Events.Ticks count) fits =
    fed (codes "tick") (count ∷ []) (line (Events.Ticks count)) (search rules) (lit≤ tt)
    (tick_count_fits fits, tt) (simp append_assoc refl)
line_fed Events.Close fits =
    fed (codes "close") ([]) (line Events.Close) (search rules) (lit≤ tt)
    tt refl
line_fed (Events.TicksTo tick) fits = absurd fits
line_fed (Events.StartAt client number deadline action) fits = absurd fits
line_fed (Events.RestartAt client number serial deadline action) fits = absurd fits
line_fed Events.Dump fits = absurd fits

-- by hand
-- a line of a script is one of a stream
pub in_stream : (event : Event) → AreFieldsInRange event → IsIn Stream event
in_stream (Events.StartAt client number deadline action) fits = absurd fits
in_stream (Events.RestartAt client number serial deadline action) fits = absurd fits
in_stream (Events.TicksTo tick) fits = absurd fits
in_stream Events.Dump fits = absurd fits
in_stream event fits = fits

-- either may have read what was read
by_either : {A P : Type 0} (one other : Option A) (x : A) → or_else one other ≡ Some x → (one ≡ Some x → P) → (other ≡ Some x → P) → P
by_either (Some y) other x e first second = first e
by_either None other x e first second = second e

-- made by tools/facts: lemmas of lines of a stream
-- the line of an event is read as that event
pub stream_again : (event : Event) (rest : List ℕ) → IsIn Stream event
    → stream_at (line event ++ rest) ≡ Some (event, rest)
unfolding stream_at line_at other_at own_line_at other_own_at start_at stop_at restart_at tick_at close_at at_line_at start_at_line_at restart_at_line_at state_line_at line has_word
stream_again (Events.TicksTo tick) rest fits = simp append_assoc (rw (field_again 10 tick _ fits (lit≤ tt)) refl)
stream_again (Events.StartAt client number deadline action) rest fits = simp append_assoc (rw (
  field_again 32 client _ fits.0 (lit≤ tt),
  field_again 32 number _ fits.1 (lit≤ tt),
  field_again 32 deadline _ fits.2 (lit≤ tt),
  field_again 10 action _ fits.3 (lit≤ tt),
) refl)
stream_again (Events.RestartAt client number serial deadline action) rest fits = simp append_assoc (rw (
  field_again 32 client _ fits.0 (lit≤ tt),
  field_again 32 number _ fits.1 (lit≤ tt),
  field_again 32 serial _ fits.2 (lit≤ tt),
  field_again 32 deadline _ fits.3 (lit≤ tt),
  field_again 10 action _ fits.4 (lit≤ tt),
) refl)
stream_again Events.Dump rest fits = refl
stream_again (Events.Start client number interval action) rest fits = rw (line_again (Events.Start client number interval action) rest fits) refl
stream_again (Events.Stop client number serial) rest fits = rw (line_again (Events.Stop client number serial) rest fits) refl
stream_again (Events.Restart client number serial interval action) rest fits = rw (line_again (Events.Restart client number serial interval action) rest fits) refl
stream_again (Events.Ticks count) rest fits = rw (line_again (Events.Ticks count) rest fits) refl
stream_again Events.Close rest fits = rw (line_again Events.Close rest fits) refl

at_sound : (bytes rest : List ℕ) (event : Event) → at_line_at bytes ≡ Some (event, rest)
    → IsIn Stream event × (codes "at " ++ bytes ≡ line event ++ rest)
unfolding at_line_at line
at_sound bytes rest event e =
    field_then 10 bytes _ _ e λ tick r1 fits1 is1 e1.
    same_line (IsIn Stream) (codes "at ") bytes rest r1 event (Events.TicksTo tick) e1 (fits1)
    (rw (is1) (simp append_assoc))

start_at_sound : (bytes rest : List ℕ) (event : Event) → start_at_line_at bytes ≡ Some (event, rest)
    → IsIn Stream event × (codes "start-at " ++ bytes ≡ line event ++ rest)
unfolding start_at_line_at line
start_at_sound bytes rest event e =
    field_then 32 bytes _ _ e λ client r1 fits1 is1 e1.
    field_then 32 r1 _ _ e1 λ number r2 fits2 is2 e2.
    field_then 32 r2 _ _ e2 λ deadline r3 fits3 is3 e3.
    field_then 10 r3 _ _ e3 λ action r4 fits4 is4 e4.
    same_line (IsIn Stream) (codes "start-at ") bytes rest r4 event (Events.StartAt client number deadline action) e4 (fits1, fits2, fits3, fits4)
    (rw (is1, is2, is3, is4) (simp append_assoc))

restart_at_sound : (bytes rest : List ℕ) (event : Event) → restart_at_line_at bytes ≡ Some (event, rest)
    → IsIn Stream event × (codes "restart-at " ++ bytes ≡ line event ++ rest)
unfolding restart_at_line_at line
restart_at_sound bytes rest event e =
    field_then 32 bytes _ _ e λ client r1 fits1 is1 e1.
    field_then 32 r1 _ _ e1 λ number r2 fits2 is2 e2.
    field_then 32 r2 _ _ e2 λ serial r3 fits3 is3 e3.
    field_then 32 r3 _ _ e3 λ deadline r4 fits4 is4 e4.
    field_then 10 r4 _ _ e4 λ action r5 fits5 is5 e5.
    same_line (IsIn Stream) (codes "restart-at ") bytes rest r5 event (Events.RestartAt client number serial deadline action) e5 (fits1, fits2, fits3, fits4, fits5)
    (rw (is1, is2, is3, is4, is5) (simp append_assoc))

state_sound : (bytes rest : List ℕ) (event : Event) → state_line_at bytes ≡ Some (event, rest)
    → IsIn Stream event × (codes "state\n" ++ bytes ≡ line event ++ rest)
unfolding state_line_at line
state_sound bytes rest event e =
    same_line (IsIn Stream) (codes "state\n") bytes rest bytes event Events.Dump e tt
    refl

-- what is read of a line of a stream alone is the line of that event
own_sound : (bytes rest : List ℕ) (event : Event) → own_line_at bytes ≡ Some (event, rest)
    → IsIn Stream event × (bytes ≡ line event ++ rest)
unfolding own_line_at other_own_at
own_sound bytes rest event e =
    by_word (IsIn Stream) (codes "at ") bytes rest event at_line_at _ e (λ s. at_sound s rest event) λ e1.
    by_word (IsIn Stream) (codes "start-at ") bytes rest event start_at_line_at _ e1 (λ s. start_at_sound s rest event) λ e2.
    by_word (IsIn Stream) (codes "restart-at ") bytes rest event restart_at_line_at _ e2 (λ s. restart_at_sound s rest event) λ e3.
    by_word (IsIn Stream) (codes "state\n") bytes rest event state_line_at _ e3 (λ s. state_sound s rest event) λ e4.
    absurd (none-some _ e4)

-- where the line of an event ends
pub stream_fed : (event : Event) → IsIn Stream event → IsFed (line event)
unfolding line
stream_fed (Events.TicksTo tick) fits =
    fed (codes "at") (tick ∷ []) (line (Events.TicksTo tick)) (search rules) (lit≤ tt)
    (fits, tt) (simp append_assoc refl)
stream_fed (Events.StartAt client number deadline action) fits =
    fed (codes "start-at") (client ∷ number ∷ deadline ∷ action ∷ []) (line (Events.StartAt client number deadline action)) (search rules) (lit≤ tt)
    (fits.0, (fits.1, (fits.2, (fits.3, tt)))) (simp append_assoc refl)
stream_fed (Events.RestartAt client number serial deadline action) fits =
    fed (codes "restart-at") (client ∷ number ∷ serial ∷ deadline ∷ action ∷ []) (line (Events.RestartAt client number serial deadline action)) (search rules) (lit≤ tt)
    (fits.0, (fits.1, (fits.2, (fits.3, (fits.4, tt))))) (simp append_assoc refl)
stream_fed Events.Dump fits =
    fed (codes "state") ([]) (line Events.Dump) (search rules) (lit≤ tt)
    tt refl
stream_fed (Events.Start client number interval action) fits = line_fed (Events.Start client number interval action) fits
stream_fed (Events.Stop client number serial) fits = line_fed (Events.Stop client number serial) fits
stream_fed (Events.Restart client number serial interval action) fits = line_fed (Events.Restart client number serial interval action) fits
stream_fed (Events.Ticks count) fits = line_fed (Events.Ticks count) fits
stream_fed Events.Close fits = line_fed Events.Close fits

-- by hand
-- ---- in each grammar

-- the line of an event is read as that event
pub read_again : (grammar : Grammar) (event : Event) (rest : List ℕ) → IsIn grammar event
    → line_in grammar (line event ++ rest) ≡ Some (event, rest)
read_again Script event rest fits = line_again event rest fits
read_again Stream event rest fits = stream_again event rest fits

-- what is read is the line of that event
pub read_sound : (grammar : Grammar) (bytes rest : List ℕ) (event : Event) → line_in grammar bytes ≡ Some (event, rest)
    → IsIn grammar event × (bytes ≡ line event ++ rest)
unfolding stream_at
read_sound Script bytes rest event e = line_sound bytes rest event e
read_sound Stream bytes rest event e = by_either (line_at bytes) (own_line_at bytes) (event, rest) e
    (λ read. let (fits, is) = line_sound bytes rest event read in (in_stream event fits, is))
    (own_sound bytes rest event)

pub stream_first : (bytes : List ℕ) (x : Event × List ℕ) → Some x ≡ line_at bytes → Some x ≡ stream_at bytes
unfolding stream_at
stream_first bytes x e = ap (λ o. or_else o (own_line_at bytes)) e

pub stream_second : (bytes : List ℕ) (result : Read Event) → None ≡ line_at bytes → result ≡ own_line_at bytes → result ≡ stream_at bytes
unfolding stream_at
stream_second bytes result none e = e ∙ ap (λ o. or_else o (own_line_at bytes)) none

pub read_in_script : (grammar : Grammar) (bytes : List ℕ) (result : Read Event) → grammar ≡ Script → result ≡ line_at bytes
    → result ≡ line_in grammar bytes
read_in_script grammar bytes result is e = e ∙ ap (λ g. line_in g bytes) (sym is)

pub read_in_stream : (grammar : Grammar) (bytes : List ℕ) (result : Read Event) → grammar ≡ Stream → result ≡ stream_at bytes
    → result ≡ line_in grammar bytes
read_in_stream grammar bytes result is e = e ∙ ap (λ g. line_in g bytes) (sym is)

-- what a reader of streams, or of either grammar, reads
pub ruleset stream_reading = (stream_first, stream_second, read_in_script, read_in_stream)

-- where the line of an event ends
pub read_fed : (grammar : Grammar) (event : Event) → IsIn grammar event → IsFed (line event)
read_fed Script event fits = line_fed event fits
read_fed Stream event fits = stream_fed event fits

-- bytes with no line feed begin no line, if they are all, or too many for a line
pub bare_no_line : (grammar : Grammar) (xs more : List ℕ) → HasNoFeed xs → (more ≡ []) ⊎ (MAX_LINE ≤ length xs)
    → BeginsNoLine grammar (xs ++ more)
bare_no_line grammar xs more none why event rest fits e =
    let f : IsFed (line event) = read_fed grammar event fits in
    let whole : xs ++ more ≡ f.front ++ 10 ∷ rest = e ∙ ap (λ t. t ++ rest) f.is ∙ at_feed f.front rest in
    let long = no_feed_long xs f.front more rest none whole in
    let short = f.short in
    elim why [
      | inl all ↦ absurd (omega (arith, ap length whole, ap length all, length-append xs more, length-append f.front (10 ∷ rest)))
      | inr many ↦ absurd (omega arith)
    ]

-- the tests of a number
pub ruleset number_tests = (digit_count_at, nat_tests, take_rest)
