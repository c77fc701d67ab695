-- What passes of the bytes of a stream, piece after piece.
use Rattle.std.proofs.Common.{◌≡◌, ℕ, ◌+◌, ◌≤◌, Bool, true, false, List, [], ◌∷◌, ◌++◌, length, take, refl, sym, ap, subst, ◌∙◌, arith, inl, inr, lit≤, append-nil, length-append, ◌↔◌, Option, None, Some}
use Rattle.std.specs.List.{flat_map, AllByRecursion}
use Rattle.std.proofs.lemmas.List.{take-append-le, nil_from_length, length-take}
use Rattle.std.proofs.Math.Seq.{take-append_seam, take-append-add, take-length}
use Rattle.std.proofs.lemmas.Grind.{flat_map-append}
use Rattle.std.proofs.KnownBytes.{Appends-nil, Appends-trans}
use Rattle.timer_base.proofs.Basics.{either}
use Rattle.timer_script.specs.Types.{Event, OnBadLine, Cutter, Watched, LineFault, MAX_LINE}
use Rattle.timer_script.specs.declared.lines.Grammar.TheVariants.{Stream}
use Rattle.timer_script.specs.declared.cutter.OnBadLine.TheVariants.{Stop, Report}
use Rattle.timer_script.specs.declared.line_fault.LineReason.TheVariants.{NoLineEnd}
use Rattle.timer_script.specs.Watched.{inner_of, has_failed}
use Rattle.timer_script.specs.Script.{IsIn, spelling}
use Rattle.timer_script.specs.Diagnosis.{IsFaultOf}
use Rattle.timer_script.specs.Cutter.{bytes_of, number_next, Complaint, bad_among, IsLastBad, complaint_line, complaints, HasSorted, HasSortedSince, HasReported, BadLines, AreSoFar, AreFirst, HasPassed, HasSeen, HasSeenPart, HasReachedEnd, HasTakenIn, IsStoppedAt, EndsAtBadLine, UnlessStopped}
use Rattle.timer_script.proofs.Results.{true_false}
use Rattle.timer_script.proofs.LineLemmas.{bare_no_line}
use Rattle.timer_script.proofs.CutterLines.{stop_report, good_script, nil_left, all_good, last_some, stopped_at}

-- ---- reports

reported_none : {F : Type 0} (contents : F → Option (List ℕ)) (w : Watched F) → HasReported contents w w []
reported_none contents w = record {
  count = 0;
  within = omega arith;
  written = Appends-nil (contents (inner_of w));
  whole = λ good. refl;
  failed = λ bad. refl;
}

-- one report after another
reported_join : {F : Type 0} (contents : F → Option (List ℕ)) (u v w : Watched F) (xs ys : List ℕ)
    → HasReported contents u v xs → HasReported contents v w ys → HasReported contents u w (xs ++ ys)
reported_join {F} contents u v w xs ys a b = elim (either (has_failed v)) [
  | inl bad ↦ subst (λ z. HasReported contents u z (xs ++ ys)) (sym (b.failed bad)) (record {
    count = a.count;
    within = (let h = a.within in let l = length-append xs ys in omega arith);
    written = rw (take-append-le a.count xs ys a.within) a.written;
    whole = λ good. absurd (true_false (has_failed v) bad good);
    failed = a.failed;
  })
  | inr good ↦ record {
    count = length xs + b.count;
    within = (let h = b.within in let l = length-append xs ys in omega arith);
    written = rw (take-append-add xs ys b.count) (Appends-trans (contents (inner_of u)) (contents (inner_of v)) (contents (inner_of w))
        xs (take b.count ys) (simp (a.whole good, take-length) at a.written) b.written);
    whole = λ fine. ap (λ k. length xs + k) (b.whole fine) ∙ sym (length-append xs ys);
    failed = λ bad. absurd (true_false (has_failed v) (ap has_failed (a.failed bad) ∙ bad) good);
  }
]

-- ---- one more piece

no_complaint : (xs : List Complaint) → complaints xs ≡ [] → xs ≡ []
no_complaint [] e = refl
no_complaint (x ∷ xs) e = absurd cc

nil_right : (xs ys : List Complaint) → xs ++ ys ≡ [] → ys ≡ []
nil_right xs ys e = nil_from_length ys (omega (arith, ap length e, length-append xs ys))

pub passed_none : {F : Type 0} (o : OnBadLine) (contents : F → Option (List ℕ)) (w : Watched F) → HasPassed o AreSoFar contents w w [] []
passed_none o contents w = record {
  passes = record {
    lines = [];
    left = [];
    cut = record { parts = refl; each = tt; unended = tt };
    events_are = refl;
    good = λ stop. refl;
    short = λ stop. lit≤ tt;
  };
  bad = [];
  are = refl;
  reported = reported_none contents w;
  untouched = λ stop. refl;
}

pub taken_none : {F : Type 0} (o : OnBadLine) (contents : F → Option (List ℕ)) (w : Watched F) (cutter : Cutter) → cutter.on_bad ≡ o
    → cutter.held.items ≡ [] → cutter.number ≡ 1 → cutter.clean ≡ true → HasTakenIn o cutter contents w w [] []
unfolding passed_none
taken_none o contents w cutter kept none first clean = record {
  kept = kept;
  passed = passed_none o contents w;
  held_is = none;
  counted = first;
  clean_is = (λ h. refl, λ h. clean);
}

pub taken_sorted : {F : Type 0} {o : OnBadLine} {contents : F → Option (List ℕ)} {w v : Watched F} {cutter : Cutter} {came : List ℕ}
    {events : List Event} → (h : HasTakenIn o cutter contents w v came events)
    → HasSorted o cutter.held.items cutter.number came events h.passed.bad
taken_sorted h = record { passes = h.passed.passes; held_is = h.held_is; counted = h.counted; bad_is = h.passed.are }

-- a piece was sorted, and its bad lines reported
pub taken_more : {F : Type 0} {o : OnBadLine} {contents : F → Option (List ℕ)} {w u : Watched F} {old : Cutter} {came : List ℕ}
    {events : List Event} (v : Watched F) (new : Cutter) (clean : Bool) (piece said : List ℕ)
    → (h : HasTakenIn o old contents w u came events) → HasSortedSince o new (came ++ piece) events h.passed.bad
    → said ≡ new.reports.items → HasReported contents u v said → (said ≡ [] → v ≡ u)
    → ((clean ≡ true) ↔ ((old.clean ≡ true) × (said ≡ [])))
    → HasTakenIn o (record new { clean = clean }) contents w v (came ++ piece) (events ++ new.events.items)
taken_more {contents = contents} {w = w} {u = u} v new clean piece said h s is reports quiet both =
    let bad : List Complaint = h.passed.bad in
    let said_is : said ≡ complaints s.more = is ∙ s.reports in
    record {
      kept = s.kept;
      passed = record {
        passes = s.sorted.passes;
        bad = bad ++ s.more;
        are = s.sorted.bad_is;
        reported = rw (flat_map-append complaint_line bad s.more, ← said_is)
            (reported_join contents w u v (complaints bad) said h.passed.reported reports);
        untouched = λ stop. quiet (said_is ∙ ap complaints (nil_right bad s.more (s.sorted.bad_is ∙ s.sorted.passes.good stop)))
            ∙ h.passed.untouched stop;
      };
      held_is = s.sorted.held_is;
      counted = s.sorted.counted;
      clean_is = (
        λ e. ap (λ t. t ++ s.more) (h.clean_is.0 (both.0 e).0) ∙ no_complaint s.more (sym said_is ∙ (both.0 e).1),
        λ e. both.1 (h.clean_is.1 (nil_left bad s.more e), said_is ∙ ap complaints (nil_right bad s.more e)),
      );
    }

-- the end came, and this is reported of what is left
ended : {F : Type 0} {o : OnBadLine} {contents : F → Option (List ℕ)} {w u : Watched F} {cutter : Cutter} {came : List ℕ}
    {events : List Event} (v : Watched F) (clean : Bool) (last : List Complaint) (h : HasTakenIn o cutter contents w u came events)
    → IsLastBad (number_next h.passed.passes.lines) h.passed.passes.left last → HasReported contents u v (complaints last)
    → (o ≡ Stop → (v ≡ u) × (h.passed.passes.left ≡ [])) → ((clean ≡ true) ↔ (h.passed.bad ++ last ≡ []))
    → HasReachedEnd o clean contents w v came events
ended {contents = contents} {w = w} {u = u} v clean last h is_last reports stops clean_is =
    let q = h.passed.passes in
    let bad : List Complaint = h.passed.bad in
    record {
      passed = record {
        passes = q;
        bad = bad ++ last;
        are = (last, is_last, ap (λ t. t ++ last) h.passed.are, clean_is);
        reported = subst (HasReported contents w v) (sym (flat_map-append complaint_line bad last))
            (reported_join contents w u v (complaints bad) (complaints last) h.passed.reported reports);
        untouched = λ stop. (stops stop).0 ∙ h.passed.untouched stop;
      };
      script = λ stop.
          let all = all_good 1 q.lines (q.good stop) in
          record {
            lines = q.cut.parts ∙ ap (λ t. flat_map bytes_of q.lines ++ t) (stops stop).1 ∙ append-nil (flat_map bytes_of q.lines) ∙ all.0
                ∙ ap spelling (sym q.events_are);
            in_range = subst (AllByRecursion (IsIn Stream)) (sym q.events_are) (good_script q.lines q.cut.each);
          };
    }

-- no line is left
pub ended_none : {F : Type 0} {o : OnBadLine} {contents : F → Option (List ℕ)} {w v : Watched F} {cutter : Cutter} {came : List ℕ}
    {events : List Event} → HasTakenIn o cutter contents w v came events → cutter.held.items ≡ []
    → HasReachedEnd o cutter.clean contents w v came events
ended_none {contents = contents} {v = v} {cutter = cutter} h none =
    let q = h.passed.passes in
    let gone : q.left ≡ [] = nil_from_length q.left (omega (arith, ap length (sym h.held_is ∙ none), length-take MAX_LINE q.left)) in
    ended v cutter.clean [] h (subst (λ t. IsLastBad (number_next q.lines) t []) (sym gone) refl) (reported_none contents v)
    (λ stop. (refl, gone)) (subst (λ t. (cutter.clean ≡ true) ↔ (t ≡ [])) (sym (append-nil h.passed.bad)) h.clean_is)

-- the end came, and a line that has not ended ends the stream
pub ended_stopped : {F : Type 0} {o : OnBadLine} {contents : F → Option (List ℕ)} {w v : Watched F} {cutter : Cutter} {came : List ℕ}
    {events : List Event} → HasTakenIn o cutter contents w v came events → 1 ≤ length cutter.held.items → cutter.on_bad ≡ Stop
    → EndsAtBadLine o w v came events cutter.number
ended_stopped {o} {cutter = cutter} {came = came} {events = events} h some is =
    let q = h.passed.passes in
    let stop : o ≡ Stop = sym h.kept ∙ is in
    record {
      stop = stop;
      untouched = h.passed.untouched stop;
      stopped = subst (λ z. IsStoppedAt z events cutter.number) (append-nil came)
          (stopped_at q [] (q.left ++ []) cutter.number stop refl
          (omega (arith, ap length h.held_is, length-take MAX_LINE q.left, length-append q.left []))
          (bare_no_line Stream q.left [] q.cut.unended (inl refl)) h.counted);
    }

-- it is reported
pub ended_bad : {F : Type 0} {o : OnBadLine} {contents : F → Option (List ℕ)} {w u : Watched F} {cutter : Cutter} {came : List ℕ}
    {events : List Event} (v : Watched F) (fault : LineFault) (said : List ℕ) → HasTakenIn o cutter contents w u came events
    → 1 ≤ length cutter.held.items → cutter.on_bad ≡ Report → IsFaultOf Stream fault cutter.held.items
    → said ≡ complaint_line (cutter.number, fault) → HasReported contents u v said → HasReachedEnd o false contents w v came events
ended_bad {o} {contents} {u = u} {cutter = cutter} v fault said h some report wrong is reports =
    let q = h.passed.passes in
    let last : List Complaint = (cutter.number, fault) ∷ [] in
    let left : 1 ≤ length q.left = omega (arith, ap length h.held_is, length-take MAX_LINE q.left) in
    let said_is : said ≡ complaints last = is ∙ sym (append-nil (complaint_line (cutter.number, fault))) in
    ended v false last h (subst (λ m. IsLastBad m q.left last) h.counted
    (last_some cutter.number fault q.left left (subst (IsFaultOf Stream fault) h.held_is wrong))) (subst (HasReported contents u v) said_is reports)
    (λ stop. absurd (stop_report o stop (sym h.kept ∙ report)))
    (λ e. absurd cc, λ e. absurd (let none : last ≡ [] = nil_right h.passed.bad last e in cc))

-- ---- what passed, as callers see it

-- a line that has not ended is bad where it ends
some_last : (n : ℕ) (left : List ℕ) → (last : List Complaint) × IsLastBad n left last
some_last n [] = ([], refl)
some_last n (b ∷ left) =
    let seen : List ℕ = take MAX_LINE (b ∷ left) in
    let fault : LineFault = record { column = length seen + 1; field = None; reason = NoLineEnd } in
    ((n, fault) ∷ [], (fault, record { some = omega arith; within = omega arith; reason = omega arith; field = refl }, refl))

-- the bad lines that were reported are the first of all, if others come after them
first_of : {F : Type 0} {o : OnBadLine} {Are : BadLines} {contents : F → Option (List ℕ)} {w v : Watched F} {came : List ℕ}
    {events : List Event} (p : HasPassed o Are contents w v came events) (last rest : List Complaint)
    → IsLastBad (number_next p.passes.lines) p.passes.left last → bad_among p.passes.lines ++ last ≡ p.bad ++ rest
    → HasPassed o AreFirst contents w v came events
first_of p last rest is_last is = record {
  passes = p.passes;
  bad = p.bad;
  are = (last, is_last, length p.bad, sym (ap (take (length p.bad)) is ∙ take-append_seam p.bad rest));
  reported = p.reported;
  untouched = p.untouched;
}

passed_first : {F : Type 0} {o : OnBadLine} {contents : F → Option (List ℕ)} {w v : Watched F} {came : List ℕ} {events : List Event}
    → HasPassed o AreSoFar contents w v came events → HasPassed o AreFirst contents w v came events
passed_first p =
    let (last, is_last) = some_last (number_next p.passes.lines) p.passes.left in
    first_of p last last is_last (ap (λ t. t ++ last) (sym p.are))

-- what was seen, and then bytes that were not looked at
pub seen_part : {F : Type 0} {o : OnBadLine} {contents : F → Option (List ℕ)} {w v : Watched F} {came seen : List ℕ} {events : List Event}
    (unseen : List ℕ) → seen ++ unseen ≡ came → HasPassed o AreSoFar contents w v seen events → HasSeenPart o contents w v came events
seen_part {seen = seen} unseen is h = record { seen = seen; unseen = unseen; parts = sym is; passed = inl (passed_first h) }

pub seen_whole : {F : Type 0} {o : OnBadLine} {contents : F → Option (List ℕ)} {w v : Watched F} {came : List ℕ} {events : List Event}
    → HasSeen o contents w v came events → HasSeenPart o contents w v came events
seen_whole {came = came} h = record { seen = came; unseen = []; parts = sym (append-nil came); passed = h }

-- however a piece was taken in, all of it was looked at
pub piece_seen : {F : Type 0} {contents : F → Option (List ℕ)} {w u : Watched F} {o : OnBadLine} (new : Cutter) (stop : Option ℕ)
    (came : List ℕ) (events : List Event) → UnlessStopped stop (HasTakenIn o new contents w u) o w u came events
    → HasSeen o contents w u came events
piece_seen new None came events h = inl (passed_first h.passed)
piece_seen new (Some n) came events h = inr (n, h)

-- so it was at the end
pub ended_seen : {F : Type 0} {o : OnBadLine} {clean : Bool} {contents : F → Option (List ℕ)} {w v : Watched F} {came : List ℕ}
    {events : List Event} → HasReachedEnd o clean contents w v came events → HasSeenPart o contents w v came events
ended_seen h =
    let p = h.passed in seen_whole (inl (first_of p p.are.0 [] p.are.1 (sym p.are.2 ∙ sym (append-nil p.bad))))
