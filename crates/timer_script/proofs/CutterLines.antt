-- The lines of an input, one after another, as a cutter takes them.
use Rattle.std.proofs.Common.{◌≡◌, lit≤, zero, suc, ℕ, ◌+◌, ◌-◌, ◌^◌, ◌<◌, ◌≤◌, List, [], ◌∷◌, ◌++◌, length, get_or, take, drop, Some, None, refl, sym, ap, subst, ◌∙◌, arith, append_assoc, append-nil, length-append, take-append-drop, take_all, min, take-add, inr}
use Rattle.std.specs.List.{flat_map, enumerate_from, AllByRecursion}
use Rattle.std.proofs.lemmas.Grind.{flat_map-append}
use Rattle.std.proofs.lemmas.List.{take_rest, length-take, nil_from_length, take-take, take_min}
use Rattle.timer_script.specs.Types.{Event, MAX_LINE, LineFault, OnBadLine, Cutter, ScriptFault}
use Rattle.timer_script.specs.declared.lines.Grammar.TheVariants.{Stream}
use Rattle.timer_script.specs.Script.{HasNoFeed, IsIn, line, spelling, BeginsNoLine}
use Rattle.timer_script.specs.Lines.{line_in}
use Rattle.timer_script.specs.Diagnosis.{IsFaultOf}
use Rattle.timer_script.specs.declared.cutter.OnBadLine.TheVariants.{Stop, Report}
use Rattle.timer_script.specs.Cutter.{InputLine, Good, Bad, bytes_of, IsGoodOrBad, event_in, events_of, number_next, Complaint, complaint_of, bad_among, IsLastBad, complaint_line, complaints, PassesEvents, IsStoppedAt, HasEndedLine, StopsLine, HasSorted, HasSortedSince, StopsAt}
use Rattle.timer_script.specs.declared.fault.ScriptFault.TheVariants as faults
use Rattle.timer_script.proofs.LineLemmas.{read_sound, read_fed, bare_no_line}
use Rattle.timer_script.proofs.DiagnosisLemmas.{unread_no_line}
use Rattle.timer_script.proofs.Results.{all_append}
use Rattle.timer_script.proofs.FeedLemmas.{IsFed, at_feed, first_feed, no_feed-append, no_feed-take, feed-take}

-- ---- lists of lines

-- what is reported of lines from the n-th on
abbrev pub among : ℕ → List InputLine → List Complaint
among n xs = flat_map (λ numbered. complaint_of (min numbered.0 (2 ^ 64 - 1)) numbered.1) (enumerate_from n xs)

among_more : (n k : ℕ) (xs : List InputLine) (x : InputLine) → k ≡ length xs + n
    → among n (xs ++ x ∷ []) ≡ among n xs ++ complaint_of (min k (2 ^ 64 - 1)) x
among_more n k [] x is =
    let first : n ≡ k = omega arith in append-nil (complaint_of (min n (2 ^ 64 - 1)) x) ∙ ap (λ j. complaint_of (min j (2 ^ 64 - 1)) x) first
among_more n k (y ∷ ys) x is =
    let first : List Complaint = complaint_of (min n (2 ^ 64 - 1)) y in
    ap (λ t. first ++ t) (among_more (n + 1) k ys x (omega arith))
    ∙ sym (append_assoc first (among (n + 1) ys) (complaint_of (min k (2 ^ 64 - 1)) x))

-- the good lines are those of their events
pub good_script : (xs : List InputLine) → AllByRecursion IsGoodOrBad xs → AllByRecursion (IsIn Stream) (events_of xs)
good_script [] a = tt
good_script (Good event ∷ xs) a = (a.0, good_script xs a.1)
good_script (Bad front fault ∷ xs) a = good_script xs a.1

-- lines of which none is bad are the spelling of their events
pub all_good : (n : ℕ) (xs : List InputLine) → among n xs ≡ []
    → (flat_map bytes_of xs ≡ spelling (events_of xs)) × (length xs ≡ length (events_of xs))
all_good n [] e = (refl, refl)
all_good n (Good event ∷ xs) e =
    let h = all_good (n + 1) xs e in
    let k = h.1 in
    let longer : length (Good event ∷ xs) ≡ length (events_of (Good event ∷ xs)) = omega arith in
    (ap (λ t. line event ++ t) h.0, longer)
all_good n (Bad front fault ∷ xs) e = absurd cc

-- ---- the end of a line

pub nil_left : {A : Type 0} (xs ys : List A) → xs ++ ys ≡ [] → xs ≡ []
nil_left xs ys e = nil_from_length xs (omega (arith, ap length e, length-append xs ys))

-- what can be read of the front of a line is all of it
read_all : (front held after : List ℕ) (event : Event) → HasNoFeed front → held ≡ take MAX_LINE (front ++ 10 ∷ [])
    → line_in Stream held ≡ Some (event, after) → IsIn Stream event × (line event ≡ front ++ 10 ∷ []) × (held ≡ line event)
read_all front held after event none is some =
    let (fits, parts) = read_sound Stream held after event some in
    let f : IsFed (line event) = read_fed Stream event fits in
    let rest : List ℕ = drop MAX_LINE (front ++ 10 ∷ []) in
    let whole : front ++ 10 ∷ [] ≡ f.front ++ 10 ∷ (after ++ rest) =
    sym (take-append-drop MAX_LINE (front ++ 10 ∷ [])) ∙ ap (λ t. t ++ rest) (sym is ∙ parts) ∙ append_assoc (line event) after rest
    ∙ ap (λ t. t ++ (after ++ rest)) f.is ∙ at_feed f.front (after ++ rest) in
    let same = first_feed front f.front [] (after ++ rest) none f.no_feed whole in
    let gone : after ≡ [] = nil_left after rest (sym same.1) in
    (fits, f.is ∙ ap (λ t. t ++ 10 ∷ []) (sym same.0), parts ∙ ap (λ t. line event ++ t) gone ∙ append-nil (line event))

pub stop_report : (on_bad : OnBadLine) → on_bad ≡ Stop → on_bad ≡ Report → ⊥
stop_report on_bad a b = cc

-- what can't be read of the front of a line is that of no event, whatever follows
read_none : (front held more : List ℕ) → HasNoFeed front → held ≡ take MAX_LINE (front ++ 10 ∷ []) → line_in Stream held ≡ None
    → BeginsNoLine Stream ((front ++ 10 ∷ []) ++ more)
read_none front held more free is none event after fits e =
    let f : IsFed (line event) = read_fed Stream event fits in
    let same = first_feed front f.front more after free f.no_feed (sym (at_feed front more) ∙ e
    ∙ ap (λ t. t ++ after) f.is ∙ at_feed f.front after) in
    let all : front ++ 10 ∷ [] ≡ line event = ap (λ t. t ++ 10 ∷ []) same.0 ∙ sym f.is in
    let short : length (front ++ 10 ∷ []) ≤ MAX_LINE = (let s = f.short in let l = length-append f.front (10 ∷ [])
    in let w = ap length (all ∙ f.is) in omega arith) in
    unread_no_line Stream held none (event, fits, is ∙ take_all MAX_LINE (front ++ 10 ∷ []) short ∙ all)

pub ended_good : (on_bad : OnBadLine) (front held after : List ℕ) (event : Event) (n : ℕ) (events events' : List Event) (said : List ℕ)
    → HasNoFeed front → held ≡ take MAX_LINE (front ++ 10 ∷ []) → line_in Stream held ≡ Some (event, after)
    → events' ≡ events ++ event ∷ []
    → HasEndedLine on_bad (front ++ 10 ∷ []) n events events' said said
ended_good on_bad front held after event n events events' said none is read grows =
    let (fits, whole, same) = read_all front held after event none is read in
    record {
      line = Good event;
      bytes_is = whole;
      is_line = fits;
      events_are = grows;
      said_is = sym (append-nil said);
      good = λ stop. refl;
    }

pub ended_bad : (on_bad : OnBadLine) (front held : List ℕ) (n : ℕ) (fault : LineFault) (events : List Event) (said said' : List ℕ)
    → on_bad ≡ Report → HasNoFeed front → held ≡ take MAX_LINE (front ++ 10 ∷ []) → line_in Stream held ≡ None → IsFaultOf Stream fault held
    → said' ≡ said ++ complaint_line (n, fault)
    → HasEndedLine on_bad (front ++ 10 ∷ []) n events events said said'
ended_bad on_bad front held n fault events said said' report none is unread_none wrong grows = record {
  line = Bad front fault;
  bytes_is = refl;
  is_line = (
    none,
    subst (BeginsNoLine Stream) (append-nil (front ++ 10 ∷ [])) (read_none front held [] none is unread_none),
    subst (IsFaultOf Stream fault) is wrong,
  );
  events_are = sym (append-nil events);
  said_is = grows ∙ ap (λ t. said ++ t) (sym (append-nil (complaint_line (n, fault))));
  good = λ stop. absurd (stop_report on_bad stop report);
}

-- ---- a line that has not ended

-- what is left at the end is a bad line
pub last_some : (n : ℕ) (fault : LineFault) (front : List ℕ) → 1 ≤ length front → IsFaultOf Stream fault (take MAX_LINE front)
    → IsLastBad n front ((n, fault) ∷ [])
last_some n fault [] some wrong = absurd (omega arith)
last_some n fault (b ∷ front) some wrong = (fault, wrong, refl)

-- ---- pieces of a line

take_take : (m n : ℕ) (xs : List ℕ) → take (min n m) xs ≡ take m (take n xs)
take_take m n xs =
    let front : List ℕ = take n xs in
    let e : min (min n m) (length front) ≡ min m (length front) = omega (arith, length-take n xs) in
    sym (take-take (min n m) n xs (omega arith)) ∙ sym (take_min (min n m) front) ∙ ap (λ k. take k front) e ∙ take_min m front

-- no more of a line is held than a line may have
pub held_more : (m n : ℕ) (front bytes : List ℕ) → take m front ++ take (min n (m - length (take m front))) bytes
    ≡ take m (front ++ take n bytes)
held_more zero n front bytes =
    let e : min n (zero - length (take zero front)) ≡ zero = omega arith in
    ap (λ k. take k bytes) e
held_more (suc m) n [] bytes =
    let e : suc m - length (take {A = ℕ} (suc m) []) ≡ suc m = omega arith in
    ap (λ k. take (min n k) bytes) e ∙ take_take (suc m) n bytes
held_more (suc m) n (x ∷ xs) bytes =
    let e : suc m - length (x ∷ take m xs) ≡ m - length (take m xs) = omega arith in
    ap (λ k. x ∷ (take m xs ++ take (min n k) bytes)) e ∙ ap (λ t. x ∷ t) (held_more m n xs bytes)

-- bytes that end no line
pub held_sorted : {o : OnBadLine} {old : Cutter} {came : List ℕ} {events : List Event} {bad : List Complaint} (new : Cutter)
    (bytes : List ℕ) (n : ℕ) → 0 < n → n ≤ length bytes → HasNoFeed (take (n - 1) bytes) → (get_or bytes (n - 1) 0 ≡ 10 → ⊥)
    → new.held.items ≡ old.held.items ++ take (min n (MAX_LINE - length old.held.items)) bytes
    → new.events.items ≡ old.events.items → new.reports.items ≡ old.reports.items → new.number ≡ old.number
    → new.on_bad ≡ old.on_bad → (old.on_bad ≡ Stop → length new.held.items ≡ MAX_LINE → ⊥)
    → HasSortedSince o old came events bad → HasSortedSince o new (came ++ take n bytes) events bad
held_sorted {events = events} new bytes n some within free not joined same_events same_said same_number same short h =
    let p = h.sorted.passes in
    let kept : new.held.items ≡ take MAX_LINE (p.left ++ take n bytes) =
    joined ∙ ap (λ t. t ++ take (min n (MAX_LINE - length t)) bytes) h.sorted.held_is ∙ held_more MAX_LINE n p.left bytes in
    record {
      kept = same ∙ h.kept;
      more = h.more;
      reports = same_said ∙ h.reports;
      sorted = record {
        passes = record {
          lines = p.lines;
          left = p.left ++ take n bytes;
          cut = record {
            parts = ap (λ t. t ++ take n bytes) p.cut.parts ∙ append_assoc (flat_map bytes_of p.lines) p.left (take n bytes);
            each = p.cut.each;
            unended = no_feed-take p.left bytes n some within p.cut.unended free not;
          };
          events_are = ap (λ t. events ++ t) same_events ∙ p.events_are;
          good = p.good;
          short = λ stop. omega (arith, length-take MAX_LINE (p.left ++ take n bytes), ap length kept, short (h.kept ∙ stop));
        };
        held_is = kept;
        counted = same_number ∙ h.sorted.counted;
        bad_is = h.sorted.bad_is;
      };
    }

-- bytes up to the end of a line, as it is held
pub line_front : (front held bytes held' : List ℕ) (n : ℕ) → held ≡ take MAX_LINE front → 0 < n → n ≤ length bytes
    → get_or bytes (n - 1) 0 ≡ 10 → held' ≡ held ++ take (min n (MAX_LINE - length held)) bytes
    → held' ≡ take MAX_LINE ((front ++ take (n - 1) bytes) ++ 10 ∷ [])
line_front front held bytes held' n old some within is joined =
    joined ∙ ap (λ t. t ++ take (min n (MAX_LINE - length t)) bytes) old ∙ held_more MAX_LINE n front bytes
    ∙ ap (λ t. take MAX_LINE t) (feed-take front bytes n some within is)

-- bytes that end one line
ended_sorted : {o : OnBadLine} {old : Cutter} {came : List ℕ} {events : List Event} {bad : List Complaint} (new : Cutter)
    (bytes : List ℕ) → new.on_bad ≡ old.on_bad
    → new.held.items ≡ [] → new.number ≡ min (old.number + 1) (2 ^ 64 - 1) → (h : HasSortedSince o old came events bad)
    → HasEndedLine old.on_bad (h.sorted.passes.left ++ bytes) old.number old.events.items new.events.items old.reports.items new.reports.items
    → HasSortedSince o new (came ++ bytes) events bad
ended_sorted {old = old} {events = events} {bad = bad} new bytes same none next h e =
    let p = h.sorted.passes in
    let one : List InputLine = e.line ∷ [] in
    let before : List ℕ = flat_map bytes_of p.lines in
    let said : List Complaint = complaint_of old.number e.line in
    let counted = h.sorted.counted in
    record {
      kept = same ∙ h.kept;
      more = h.more ++ said;
      reports = e.said_is ∙ ap (λ t. t ++ complaints said) h.reports ∙ sym (flat_map-append complaint_line h.more said);
      sorted = record {
        passes = record {
          lines = p.lines ++ one;
          left = [];
          cut = record {
            parts = ap (λ t. t ++ bytes) p.cut.parts ∙ append_assoc before p.left bytes
                ∙ ap (λ t. before ++ t) (sym e.bytes_is ∙ sym (append-nil (bytes_of e.line)))
                ∙ sym (flat_map-append bytes_of p.lines one) ∙ sym (append-nil (flat_map bytes_of (p.lines ++ one)));
            each = all_append IsGoodOrBad p.lines one p.cut.each (e.is_line, tt);
            unended = tt;
          };
          events_are = ap (λ t. events ++ t) e.events_are ∙ sym (append_assoc events old.events.items (events_of one))
              ∙ ap (λ t. t ++ events_of one) p.events_are ∙ sym (flat_map-append event_in p.lines one);
          good = λ stop. among_more 1 (length p.lines + 1) p.lines e.line refl
              ∙ ap (λ t. t ++ complaint_of (number_next p.lines) e.line) (p.good stop)
              ∙ ap (λ k. complaint_of k e.line) (sym counted) ∙ e.good (h.kept ∙ stop);
          short = λ stop. lit≤ tt;
        };
        held_is = none;
        counted = omega (arith, next, counted, length-append p.lines one);
        bad_is = sym (append_assoc bad h.more said) ∙ ap (λ t. t ++ said) h.sorted.bad_is
            ∙ ap (λ k. bad_among p.lines ++ complaint_of k e.line) counted ∙ sym (among_more 1 (length p.lines + 1) p.lines e.line refl);
      };
    }

pub line_sorted : {o : OnBadLine} {old : Cutter} {came : List ℕ} {events : List Event} {bad : List Complaint} (new : Cutter)
    (bytes : List ℕ) (n : ℕ) → 0 < n → n ≤ length bytes → get_or bytes (n - 1) 0 ≡ 10 → new.on_bad ≡ old.on_bad
    → new.held.items ≡ [] → new.number ≡ min (old.number + 1) (2 ^ 64 - 1) → (h : HasSortedSince o old came events bad)
    → HasEndedLine old.on_bad ((h.sorted.passes.left ++ take (n - 1) bytes) ++ 10 ∷ []) old.number
    old.events.items new.events.items old.reports.items new.reports.items
    → HasSortedSince o new (came ++ take n bytes) events bad
line_sorted {old = old} new bytes n some within is same none next h e =
    ended_sorted new (take n bytes) same none next h (subst (λ z. HasEndedLine old.on_bad z old.number old.events.items new.events.items
    old.reports.items new.reports.items) (sym (feed-take h.sorted.passes.left bytes n some within is)) e)

-- ---- good lines, which are read in place

-- some lines were taken from the front of the bytes, and no line was begun before them
pub record HasTakenLines (old new : Cutter) (bytes rest : List ℕ) : Type 0 where
  pub front : List ℕ
  pub parts : bytes ≡ front ++ rest
  pub held : new.held.items ≡ []
  pub clean : new.clean ≡ old.clean
  pub cut : (o : OnBadLine) (came : List ℕ) (events : List Event) (bad : List Complaint) → HasSortedSince o old came events bad
      → HasSortedSince o new (came ++ front) events bad

-- one more
pub lines_more : {old mid : Cutter} {bytes rest : List ℕ} (new : Cutter) (event : Event) (after : List ℕ) → HasTakenLines old mid bytes rest
    → line_in Stream rest ≡ Some (event, after) → new.events.items ≡ mid.events.items ++ event ∷ []
    → new.reports.items ≡ mid.reports.items → new.held.items ≡ mid.held.items → new.number ≡ min (mid.number + 1) (2 ^ 64 - 1)
    → new.on_bad ≡ mid.on_bad → new.clean ≡ mid.clean → HasTakenLines old new bytes after
lines_more {old} {mid} {bytes} {rest} new event after t read grows same_said same_held next same clean =
    let (fits, is) = read_sound Stream rest after event read in
    let none : new.held.items ≡ [] = same_held ∙ t.held in
    record {
      front = t.front ++ line event;
      parts = t.parts ∙ ap (λ z. t.front ++ z) is ∙ sym (append_assoc t.front (line event) after);
      held = none;
      clean = clean ∙ t.clean;
      cut = λ o came events bad h.
          let k = t.cut o came events bad h in
          let left : k.sorted.passes.left ≡ [] = nil_from_length k.sorted.passes.left
          (omega (arith, ap length (sym k.sorted.held_is ∙ t.held), length-take MAX_LINE k.sorted.passes.left)) in
          subst (λ z. HasSortedSince o new z events bad) (append_assoc came t.front (line event))
          (ended_sorted new (line event) same none next k (record {
            line = Good event;
            bytes_is = ap (λ z. z ++ line event) (sym left);
            is_line = fits;
            events_are = grows;
            said_is = same_said ∙ sym (append-nil mid.reports.items);
            good = λ stop. refl;
          }));
    }

-- a piece of which nothing was taken yet
pub since_none : {o : OnBadLine} {came : List ℕ} {events : List Event} {bad : List Complaint} (new : Cutter) (piece : List ℕ)
    → new.on_bad ≡ o → new.events.items ≡ [] → new.reports.items ≡ [] → HasSorted o new.held.items new.number came events bad
    → HasSortedSince o new (came ++ take 0 piece) events bad
since_none new piece kept no_events no_reports h =
    record { kept = kept; more = []; reports = no_reports; sorted = simp (no_events, append-nil) h }

-- ---- a line that ends the stream

-- after lines of which none is bad, and what is left after them, come bytes, so that no line begins there
pub stopped_at : {o : OnBadLine} {came : List ℕ} {events : List Event} (p : PassesEvents o came events) (more rest : List ℕ) (n : ℕ)
    → o ≡ Stop → p.left ++ more ≡ rest → 1 ≤ length rest → BeginsNoLine Stream rest → n ≡ number_next p.lines
    → IsStoppedAt (came ++ more) events n
stopped_at p more rest n stop parts some bad counted =
    let good = all_good 1 p.lines (p.good stop) in
    record {
      line = length (events_of p.lines) + 1;
      bad = record {
        before = events_of p.lines;
        rest = rest;
        parts = ap (λ t. t ++ more) p.cut.parts ∙ append_assoc (flat_map bytes_of p.lines) p.left more
            ∙ ap (λ t. flat_map bytes_of p.lines ++ t) parts ∙ ap (λ t. t ++ rest) good.0;
        in_range = good_script p.lines p.cut.each;
        some = some;
        bad = bad;
        counted = refl;
      };
      events_are = p.events_are;
      counted = counted ∙ ap (λ k. min (k + 1) (2 ^ 64 - 1)) good.1;
    }

-- what is left, the first bytes, and the others
around : (left bytes front : List ℕ) (n : ℕ) → left ++ take n bytes ≡ front → left ++ bytes ≡ front ++ drop n bytes
around left bytes front n is = rw (← is) (simp (append_assoc, take-append-drop) refl)

-- why a line was not taken
pub line_stops : {o : OnBadLine} {old : Cutter} {came : List ℕ} {events : List Event} {bad : List Complaint} (fault : ScriptFault)
    (held bytes : List ℕ) (n : ℕ) (events' : List Event) → 0 < n → n ≤ length bytes → HasNoFeed (take (n - 1) bytes)
    → get_or bytes (n - 1) 0 ≡ 10 → held ≡ old.held.items ++ take (min n (MAX_LINE - length old.held.items)) bytes
    → StopsLine fault old.on_bad old.number held old.events.items events' → HasSortedSince o old came events bad
    → StopsAt fault o (came ++ bytes) (events ++ events')
line_stops faults.OutOfMemory held bytes n events' some within free is joined stops h = tt
line_stops {o} {old} {came} {events} (faults.Bad number) held bytes n events' some within free is joined stops h =
    let left : List ℕ = h.sorted.passes.left in
    let whole : List ℕ = left ++ take (n - 1) bytes in
    let rest : List ℕ = (whole ++ 10 ∷ []) ++ drop n bytes in
    let stop : o ≡ Stop = sym h.kept ∙ stops.0 in (
      stop,
      subst (λ es. IsStoppedAt (came ++ bytes) (events ++ es) number) (sym stops.3)
          (stopped_at h.sorted.passes bytes rest number stop (around left bytes (whole ++ 10 ∷ []) n (feed-take left bytes n some within is))
          (omega (arith, length-append (whole ++ 10 ∷ []) (drop n bytes), length-append whole (10 ∷ [])))
          (read_none whole held (drop n bytes) (no_feed-append left (take (n - 1) bytes) h.sorted.passes.cut.unended free)
          (line_front left old.held.items bytes held n h.sorted.held_is some within is joined) stops.2) (stops.1 ∙ h.sorted.counted)),
    )

pub long_stops : {o : OnBadLine} {old : Cutter} {came : List ℕ} {events : List Event} {bad : List Complaint} (held bytes : List ℕ) (n : ℕ)
    → old.on_bad ≡ Stop → 0 < n → n ≤ length bytes → HasNoFeed (take (n - 1) bytes) → (get_or bytes (n - 1) 0 ≡ 10 → ⊥)
    → held ≡ old.held.items ++ take (min n (MAX_LINE - length old.held.items)) bytes → length held ≡ MAX_LINE
    → HasSortedSince o old came events bad → StopsAt (faults.Bad old.number) o (came ++ bytes) (events ++ old.events.items)
long_stops {o} {old} held bytes n stops some within free not joined long h =
    let p = h.sorted.passes in
    let all : List ℕ = p.left ++ take n bytes in
    let stop : o ≡ Stop = sym h.kept ∙ stops in
    let kept : held ≡ take MAX_LINE all = joined ∙ ap (λ t. t ++ take (min n (MAX_LINE - length t)) bytes) h.sorted.held_is
    ∙ held_more MAX_LINE n p.left bytes in
    let many : MAX_LINE ≤ length all = omega (arith, ap length kept, length-take MAX_LINE all) in (
      stop,
      stopped_at p bytes (all ++ drop n bytes) old.number stop (around p.left bytes all n refl)
          (omega (arith, length-append all (drop n bytes)))
          (bare_no_line Stream all (drop n bytes) (no_feed-take p.left bytes n some within p.cut.unended free not) (inr many)) h.sorted.counted,
    )

-- ---- a piece, line after line

-- its first bytes, and some of the others
pub piece_more : (came piece : List ℕ) (i m k : ℕ) → k ≡ i + m
    → (came ++ take i piece) ++ take m (take (length piece - i) (drop i piece)) ≡ came ++ take k piece
piece_more came piece i m k is = simp (append_assoc, take_rest, is, take-add) refl

-- and all others
pub piece_rest : (came piece : List ℕ) (i : ℕ) → (came ++ take i piece) ++ take (length piece - i) (drop i piece) ≡ came ++ piece
piece_rest came piece i = simp (append_assoc, take_rest, take-append-drop) refl
