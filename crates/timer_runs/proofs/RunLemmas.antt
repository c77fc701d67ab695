-- What every call keeps, and what holds of each run for that.
use Rattle.std.proofs.Common.{◌≡◌, ◌≢◌, ◌<◌, ◌≤◌, ◌⊎◌, ◌+◌, ◌-◌, ℕ, zero, suc, max, Bool, true, false, not, List, [], ◌∷◌, ◌++◌, length, refl, sym, ◌∙◌, ap, subst, inl, inr, arith, append-nil, append_assoc}
use Rattle.std.specs.Prelude.{nat_lt, Option, Some, None, take, drop, slice_get}
use Rattle.std.specs.List.{AllByRecursion}
use Rattle.std.proofs.lemmas.Bool.{cases_lt, eqb-true, eq-eqb, lt-ltb, le-ltb}
use Rattle.std.proofs.lemmas.Bool.Decides.{nat_tests}
use Rattle.std.proofs.lemmas.List.{map-append}
use Rattle.std.proofs.lemmas.List.Elements.{filter-append}
use Rattle.timer_base.proofs.Basics.{none_some}
use Rattle.timer_base.proofs.Members.{in_left, in_right, in_either, at_member}
use Rattle.timer_base.proofs.OrderLaws.{All-weaken, All-append, All-filter, IsNotAmong-rising, AreDistinct-rising, AreNumbered-append, AreNumberedFrom-rising, AreNumberedFrom-below}
use Rattle.timer_base.proofs.TickLaws.{after_ticks-now}
use Rattle.timer_base.specs.declared.timer.Handle.{Handle}
use Rattle.timer_base.specs.declared.timer.Timer.{Timer}
use Rattle.timer_base.specs.Order.{IsFirst, IsOrdered, IsNotAmong, AreDistinct, AreRising, AreNumbered, IsMember}
use Rattle.timer_base.specs.Pending.{Entry, timer_of, timers_of, has_handle, has_serial, is_due_at, entries_due, without_handle}
use Rattle.timer_base.specs.WheelState.{WheelState, held_at, after_start, after_due_start, after_held_start, after_removal, after_reserve, after_tick, after_ticks}
use Rattle.timer_total.specs.Refusals.{next_timer, timer_due}
use Rattle.timer_total.specs.TimersState.{TimersState, after_drop}
use Rattle.timer_runs.specs.Runs.{Counters, Call, IsCall, Moment, IsRun, IsNew, found, started_by, ended_by, taken_by, started, ended, taken, held, lately_after, lately, taken_lately, many, AreAccounted, AreNumberedIn, AreOnTime, AreTaken, AreOutBy, handle_at, IsNamed, AreAllThere, IsOver, Started, StartedAt, Restarted, RestartedAt, SetAt, Stopped, Ticked, Advanced, Took, Expired, ExpiredBatch, Cleared, Reserved, Renewed, Kept}
use Rattle.timer_runs.proofs.RunLists.{many-append, many-put, many-split, many-named, none_of, all_not, some_of, is_timer, itself_is, where_some, once, not_once, not_among, distinct_once, All-put, All-take, All-drop, take_drop, HasEntry, has_entry, at_timer, All-timers_of, ordered_join, ordered_left, ordered_filter, ordered_less, ordered_put, ordered_append, first_later, found_joined, none_named, IsFound, is_found, found_there, only_one}

-- What is kept.

-- a pending entry: it is of a start, and its deadline is later
record IsWaiting (es : List Entry) (now last_tick : ℕ) (e : Entry) : Type 0 where
  known : IsMember e es
  later : now < e.timer.deadline
  in_range : e.timer.deadline ≤ last_tick

-- a due entry: it is of a start, and its deadline is now
record IsDue (es : List Entry) (now : ℕ) (e : Entry) : Type 0 where
  known : IsMember e es
  at_now : e.timer.deadline ≡ now

-- what a wheel holds, if these entries were started and these timers were taken from it
record Holds (es : List Entry) (ys : List Timer) (w : WheelState) : Type 0 where
  out : IsOrdered (ys ++ timers_of w.due)
  waiting : IsOrdered (timers_of w.pending)
  past : AllByRecursion (λ t. t.deadline ≤ w.now) ys
  each_due : AllByRecursion (IsDue es w.now) w.due
  each_pending : AllByRecursion (IsWaiting es w.now w.last_tick) w.pending

-- of a run so far: the entries that were started, the timers that were taken, those that were taken lately and those
-- that ended, the wheel and the last serial
record Keeps (first : ℕ) (es : List Entry) (xs ys gs : List Timer) (w : WheelState) (last : ℕ) : Type 0 where
  numbered : AreNumbered (first + 1) (timers_of es) (last + 1)
  counted : (p : Timer → Bool) → many p (timers_of es)
      ≡ many p xs + (many p gs + (many p (timers_of w.due) + many p (timers_of w.pending)))
  fewer : (p : Timer → Bool) → many p ys ≤ many p xs
  holds : Holds es ys w

module _ {first : ℕ} {es : List Entry} {xs ys gs : List Timer} {w : WheelState} {last : ℕ} (k : Keeps first es xs ys gs w last) where
  rising : AreRising first (timers_of es)
  rising = AreNumberedFrom-rising first (first + 1) (timers_of es) (omega arith) k.numbered.each

  -- each serial is had once
  started_once : (n : ℕ) → many (has_serial n) (timers_of es) ≤ 1
  started_once n = once n (timers_of es) (AreDistinct-rising first (timers_of es) rising)

  -- what is held, pending and due together
  joined : (p : Timer → Bool) → many p (timers_of (w.pending ++ w.due)) ≡ many p (timers_of w.due) + many p (timers_of w.pending)
  joined p = omega (
    arith,
    ap (many p) (map-append timer_of w.pending w.due),
    many-append p (timers_of w.pending) (timers_of w.due),
  )

  held_once : AreDistinct (timers_of (w.pending ++ w.due))
  held_once = distinct_once (timers_of (w.pending ++ w.due)) (λ n. omega (
    arith,
    joined (has_serial n),
    k.counted (has_serial n),
    started_once n,
  ))

-- nothing that was taken, ended or is held has a later serial than those that were started

abbrev newer : ℕ → Timer → Bool
newer next t = not (nat_lt t.serial next)

not_newer : (next : ℕ) (t : Timer) → t.serial < next → newer next t ≡ false
not_newer next t h = grind (arith, nat_tests)

is_older : (next : ℕ) (t : Timer) → newer next t ≡ false → t.serial < next
is_older next t h = grind (arith, nat_tests)

older : {first : ℕ} {es : List Entry} {xs ys gs : List Timer} {w : WheelState} {last : ℕ} (ts : List Timer)
    → Keeps first es xs ys gs w last → many (newer (last + 1)) ts ≤ many (newer (last + 1)) (timers_of es)
    → AllByRecursion (λ t. t.serial < last + 1) ts
older {first} {es} {last = last} ts k h =
    let next : last + 1 ≡ first + 1 + length (timers_of es) = k.numbered.next_is in
    let none : many (newer (last + 1)) (timers_of es) ≡ 0 = all_not (newer (last + 1)) (timers_of es)
    (All-weaken (λ t. t.serial < first + 1 + length (timers_of es)) (λ t. newer (last + 1) t ≡ false) (timers_of es)
    (λ t l. not_newer (last + 1) t (omega (arith, l, next))) (AreNumberedFrom-below (first + 1) (timers_of es) k.numbered.each)) in
    All-weaken (λ t. newer (last + 1) t ≡ false) (λ t. t.serial < last + 1) ts (is_older (last + 1))
    (none_of (newer (last + 1)) ts (omega (arith, none, h)))

-- The steps that calls are made of. First what the wheel holds.

more_due : (es : List Entry) (e : Entry) (now : ℕ) (ds : List Entry) → AllByRecursion (IsDue es now) ds
    → AllByRecursion (IsDue (es ++ e ∷ []) now) ds
more_due es e now ds a = All-weaken (IsDue es now) (IsDue (es ++ e ∷ []) now) ds
    (λ d h. record { known = in_left d es (e ∷ []) h.known; at_now = h.at_now }) a

more_waiting : (es : List Entry) (e : Entry) (now last_tick : ℕ) (ds : List Entry) → AllByRecursion (IsWaiting es now last_tick) ds
    → AllByRecursion (IsWaiting (es ++ e ∷ []) now last_tick) ds
more_waiting es e now last_tick ds a = All-weaken (IsWaiting es now last_tick) (IsWaiting (es ++ e ∷ []) now last_tick) ds
    (λ d h. record { known = in_left d es (e ∷ []) h.known; later = h.later; in_range = h.in_range }) a

holds_later : {es : List Entry} {ys : List Timer} {w : WheelState} (e : Entry) → Holds es ys w
    → AllByRecursion (λ u. u.serial < e.timer.serial) (timers_of w.pending)
    → w.now < e.timer.deadline → e.timer.deadline ≤ w.last_tick
    → Holds (es ++ e ∷ []) ys (after_start e.place e.timer w)
holds_later {es} {ys} {w} e h below later in_range = record {
  out = h.out;
  waiting = ordered_put e w.pending below h.waiting;
  past = h.past;
  each_due = more_due es e w.now w.due h.each_due;
  each_pending = All-put (IsWaiting (es ++ e ∷ []) w.now w.last_tick) e w.pending
      (record { known = in_right e es (e ∷ []) (inl refl); later = later; in_range = in_range })
      (more_waiting es e w.now w.last_tick w.pending h.each_pending);
}

holds_now : {es : List Entry} {ys : List Timer} {w : WheelState} (e : Entry) → Holds es ys w
    → AllByRecursion (λ u. u.serial < e.timer.serial) (ys ++ timers_of w.due) → e.timer.deadline ≡ w.now
    → Holds (es ++ e ∷ []) ys (after_due_start e.place e.timer w)
holds_now {es} {ys} {w} e h below at_now =
    let ready : AllByRecursion (λ u. u.deadline ≤ e.timer.deadline) (timers_of w.due) =
    All-timers_of (λ u. u.deadline ≤ e.timer.deadline) w.due
    (All-weaken (IsDue es w.now) (λ d. d.timer.deadline ≤ e.timer.deadline) w.due (λ d i. omega (arith, i.at_now, at_now)) h.each_due) in
    record {
      out = rw (map-append timer_of w.due (e ∷ []), ← (append_assoc ys (timers_of w.due) (e.timer ∷ [])))
          (ordered_append (ys ++ timers_of w.due) e.timer
          (All-append (λ u. u.deadline ≤ e.timer.deadline) ys (timers_of w.due)
          (All-weaken (λ u. u.deadline ≤ w.now) (λ u. u.deadline ≤ e.timer.deadline) ys (λ u l. omega (arith, l, at_now)) h.past) ready)
          below h.out);
      waiting = h.waiting;
      past = h.past;
      each_due = All-append (IsDue (es ++ e ∷ []) w.now) w.due (e ∷ []) (more_due es e w.now w.due h.each_due)
          (record { known = in_right e es (e ∷ []) (inl refl); at_now = at_now }, tt);
      each_pending = more_waiting es e w.now w.last_tick w.pending h.each_pending;
    }

holds_removed : {es : List Entry} {ys : List Timer} {w : WheelState} (handle : Handle) → Holds es ys w
    → Holds es ys (after_removal handle w)
holds_removed {es} {ys} {w} handle h =
    let q : Entry → Bool = λ e. not (has_handle handle e) in
    record {
      out = ordered_less q ys w.due h.out;
      waiting = ordered_filter q w.pending h.waiting;
      past = h.past;
      each_due = All-filter (IsDue es w.now) (IsDue es w.now) q w.due (λ e t i. i) h.each_due;
      each_pending = All-filter (IsWaiting es w.now w.last_tick) (IsWaiting es w.now w.last_tick) q w.pending (λ e t i. i) h.each_pending;
    }

later_yet : (now : ℕ) (t : Timer) → now < t.deadline → not (is_due_at (now + 1) t) ≡ true → now + 1 < t.deadline
later_yet now t h k = grind (arith, nat_tests)

holds_tick : {es : List Entry} {ys : List Timer} {w : WheelState} → Holds es ys w → Holds es ys (after_tick w)
holds_tick {es} {ys} {w} h =
    let tick : ℕ = w.now + 1 in
    let due : List Entry = entries_due tick w.pending in
    let each : AllByRecursion (IsDue es tick) due = All-filter (IsWaiting es w.now w.last_tick) (IsDue es tick) (λ e. is_due_at tick e.timer)
    w.pending (λ e t i. record { known = i.known; at_now = eqb-true e.timer.deadline tick t }) h.each_pending in
    record {
      out = ordered_join ys (timers_of due) (ordered_left ys (timers_of w.due) h.out)
          (ordered_filter (λ e. is_due_at tick e.timer) w.pending h.waiting)
          (All-weaken (λ x. x.deadline ≤ w.now) (λ x. IsFirst x (timers_of due)) ys
          (λ x l. first_later x due (All-weaken (IsDue es tick) (λ d. x.deadline < d.timer.deadline) due
          (λ d i. omega (arith, l, i.at_now)) each)) h.past);
      waiting = ordered_filter (λ e. not (is_due_at tick e.timer)) w.pending h.waiting;
      past = All-weaken (λ t. t.deadline ≤ w.now) (λ t. t.deadline ≤ w.now + 1) ys (λ t l. omega (arith, l)) h.past;
      each_due = each;
      each_pending = All-filter (IsWaiting es w.now w.last_tick) (IsWaiting es tick w.last_tick) (λ e. not (is_due_at tick e.timer)) w.pending
          (λ e t i. record { known = i.known; later = later_yet w.now e.timer i.later t; in_range = i.in_range }) h.each_pending;
    }

holds_taken : {es : List Entry} {ys : List Timer} {w : WheelState} (n : ℕ) → Holds es ys w
    → Holds es (ys ++ take n (timers_of w.due)) (record w { due = drop n w.due })
holds_taken {es} {ys} {w} n h =
    let some : List Timer = take n (timers_of w.due) in
    record {
      out = rw (append_assoc ys some (timers_of (drop n w.due)), take_drop n w.due) h.out;
      waiting = h.waiting;
      past = All-append (λ t. t.deadline ≤ w.now) ys some h.past (All-take (λ t. t.deadline ≤ w.now) n w.due
          (All-weaken (IsDue es w.now) (λ d. d.timer.deadline ≤ w.now) w.due (λ d i. omega (arith, i.at_now)) h.each_due));
      each_due = All-drop (IsDue es w.now) n w.due h.each_due;
      each_pending = h.each_pending;
    }

holds_reserved : {es : List Entry} {ys : List Timer} {w : WheelState} (most : ℕ) → Holds es ys w
    → Holds es ys (after_reserve most w)
holds_reserved most h =
    record { out = h.out; waiting = h.waiting; past = h.past; each_due = h.each_due; each_pending = h.each_pending }

-- a wheel that holds none
holds_none : {es : List Entry} {ys : List Timer} {w : WheelState} → w.pending ≡ [] → w.due ≡ [] → IsOrdered ys
    → AllByRecursion (λ t. t.deadline ≤ w.now) ys → Holds es ys w
holds_none {ys = ys} p d o past = record {
  out = rw (d, append-nil ys) o;
  waiting = rw p tt;
  past = past;
  each_due = rw d tt;
  each_pending = rw p tt;
}

-- Then all that is kept.

numbered_more : (first last : ℕ) (es : List Entry) (e : Entry) → AreNumbered (first + 1) (timers_of es) (last + 1)
    → e.timer.serial ≡ last + 1 → AreNumbered (first + 1) (timers_of (es ++ e ∷ [])) (last + 1 + 1)
numbered_more first last es e n s = rw (map-append timer_of es (e ∷ []))
    (AreNumbered-append (first + 1) (timers_of es) (last + 1) e.timer n s)

-- a start for now or later
keeps_start : {first : ℕ} {es : List Entry} {xs ys gs : List Timer} {w : WheelState} {last : ℕ} (place : ℕ) (t : Timer)
    → Keeps first es xs ys gs w last → w.now ≤ t.deadline → t.deadline ≤ w.last_tick → t.serial ≡ last + 1
    → Keeps first (es ++ (record { place = place; timer = t }) ∷ []) xs ys gs (after_held_start place t w) (last + 1)
keeps_start {first} {es} {xs} {ys} {gs} {w} {last} place t k h b s =
    let e : Entry = record { place = place; timer = t } in
    let count : (p : Timer → Bool) → many p (timers_of (es ++ e ∷ [])) ≡ many p (timers_of es) + many p (t ∷ []) =
    λ p. ap (many p) (map-append timer_of es (e ∷ [])) ∙ many-append p (timers_of es) (t ∷ []) in
    let below : (ts : List Timer) → ((p : Timer → Bool) → many p ts ≤ many p (timers_of es))
    → AllByRecursion (λ u. u.serial < t.serial) ts = λ ts m. All-weaken (λ u. u.serial < last + 1) (λ u. u.serial < t.serial) ts
    (λ u l. omega (arith, l, s)) (older ts k (m (newer (last + 1)))) in
    elim (cases_lt w.now t.deadline) [
      | inl l ↦ rw (lt-ltb w.now t.deadline l) (record {
        numbered = numbered_more first last es e k.numbered s;
        fewer = k.fewer;
        counted = λ p. omega (arith, count p, many-put p e w.pending, k.counted p);
        holds = holds_later e k.holds (below (timers_of w.pending) (λ p. omega (arith, k.counted p))) l b;
      })
      | inr m ↦ rw (le-ltb w.now t.deadline m) (record {
        numbered = numbered_more first last es e k.numbered s;
        fewer = k.fewer;
        counted = λ p. omega (
          arith,
          count p,
          ap (many p) (map-append timer_of w.due (e ∷ [])),
          many-append p (timers_of w.due) (t ∷ []),
          k.counted p,
        );
        holds = holds_now e k.holds (below (ys ++ timers_of w.due)
            (λ p. omega (arith, many-append p ys (timers_of w.due), k.fewer p, k.counted p))) (omega (arith, h, m));
      })
    ]

-- a removal
keeps_removed : {first : ℕ} {es : List Entry} {xs ys gs : List Timer} {w : WheelState} {last : ℕ} (handle : Handle)
    → Keeps first es xs ys gs w last
    → Keeps first es xs ys (gs ++ found (held_at handle w)) (after_removal handle w) last
keeps_removed {first} {es} {xs} {ys} {gs} {w} {last} handle k = record {
  numbered = k.numbered;
  counted = λ p. omega (
    arith,
    k.counted p,
    joined k p,
    many-append p gs (found (held_at handle w)),
    ap (λ o. many p (found o)) (found_joined handle w.pending w.due),
    many-named p handle (w.pending ++ w.due) (held_once k),
    ap (λ (ds : List Entry). many p (timers_of ds)) (filter-append (λ e. not (has_handle handle e)) w.pending w.due),
    ap (many p) (map-append timer_of (without_handle handle w.pending) (without_handle handle w.due)),
    many-append p (timers_of (without_handle handle w.pending)) (timers_of (without_handle handle w.due)),
  );
  fewer = k.fewer;
  holds = holds_removed handle k.holds;
}

-- ticks, with nothing due before the last
keeps_ticks : {first : ℕ} {es : List Entry} {xs ys gs : List Timer} {w : WheelState} {last : ℕ} (n : ℕ)
    → Keeps first es xs ys gs w last → ((m : ℕ) → m < n → (after_ticks m w).due ≡ [])
    → Keeps first es xs ys gs (after_ticks n w) last
keeps_ticks zero k q = k
keeps_ticks {w = w} (suc n) k q =
    let before = keeps_ticks n k (λ m l. q m (omega (arith, l))) in
    let v : WheelState = after_ticks n w in
    let none : (p : Timer → Bool) → many p (timers_of v.due) ≡ 0 = λ p. rw (q n (omega arith)) refl in
    record {
      numbered = before.numbered;
      counted = λ p. omega (
        arith,
        before.counted p,
        none p,
        many-split p (λ e. is_due_at (v.now + 1) e.timer) v.pending,
      );
      fewer = before.fewer;
      holds = holds_tick before.holds;
    }

-- the first n of what is due are taken
keeps_taken : {first : ℕ} {es : List Entry} {xs ys gs : List Timer} {w : WheelState} {last : ℕ} (n : ℕ)
    → Keeps first es xs ys gs w last
    → Keeps first es (xs ++ take n (timers_of w.due)) (ys ++ take n (timers_of w.due)) gs (record w { due = drop n w.due }) last
keeps_taken {first} {es} {xs} {ys} {gs} {w} {last} n k =
    let some : List Timer = take n (timers_of w.due) in
    record {
      numbered = k.numbered;
      counted = λ p. omega (
        arith,
        k.counted p,
        many-append p xs some,
        many-append p some (timers_of (drop n w.due)),
        ap (many p) (take_drop n w.due),
      );
      fewer = λ p. omega (arith, k.fewer p, many-append p xs some, many-append p ys some);
      holds = holds_taken n k.holds;
    }

-- all are dropped
keeps_dropped : {first : ℕ} {es : List Entry} {xs ys gs : List Timer} {w : WheelState} {last : ℕ} (zs : List Timer) (v : WheelState)
    → Keeps first es xs ys gs w last → ((p : Timer → Bool) → many p zs ≤ many p ys) → v.pending ≡ [] → v.due ≡ []
    → Holds es zs v → Keeps first es xs zs (gs ++ (timers_of w.due ++ timers_of w.pending)) v last
keeps_dropped {first} {es} {xs} {ys} {gs} {w} {last} zs v k less p d h = record {
  numbered = k.numbered;
  counted = λ q. rw (p, d) (omega (
    arith,
    k.counted q,
    many-append q gs (timers_of w.due ++ timers_of w.pending),
    many-append q (timers_of w.due) (timers_of w.pending),
  ));
  fewer = λ q. omega (arith, less q, k.fewer q);
  holds = h;
}

-- Calls.

keeps_at : {first : ℕ} {es fs : List Entry} {xs us ys zs gs hs : List Timer} {w : WheelState} {last : ℕ}
    → fs ≡ es → us ≡ xs → zs ≡ ys → hs ≡ gs → Keeps first es xs ys gs w last → Keeps first fs us zs hs w last
keeps_at a b c d k = rw (a, b, c, d) k

-- a state in which they are kept
abbrev KeepsIn : ℕ → List Entry → List Timer → List Timer → List Timer → TimersState → Type 0
KeepsIn first es xs ys gs s = Keeps first es xs ys gs s.wheel s.last_serial

keeps_in : {first : ℕ} {es : List Entry} {xs ys gs : List Timer} {s t : TimersState} → s ≡ t → KeepsIn first es xs ys gs s
    → KeepsIn first es xs ys gs t
keeps_in {first} {es} {xs} {ys} {gs} e k = subst (λ (v : TimersState). KeepsIn first es xs ys gs v) e k

keeps_to : {first : ℕ} {es : List Entry} {xs ys gs : List Timer} {w : WheelState} {last : ℕ} (t : TimersState) → t.wheel ≡ w
    → t.last_serial ≡ last → Keeps first es xs ys gs w last → KeepsIn first es xs ys gs t
keeps_to t a b k = rw (a, b) k

-- timers are taken: after some ticks, the first of what is due
record Takes (ts : List Timer) (old new : TimersState) : Type 0 where
  passed : ℕ
  count : ℕ
  quiet : (n : ℕ) → n < passed → (after_ticks n old.wheel).due ≡ []
  out : ts ≡ take count (timers_of (after_ticks passed old.wheel).due)
  rest : new.wheel ≡ (let w : WheelState = after_ticks passed old.wheel in record w { due = drop count w.due })
  serial : new.last_serial ≡ old.last_serial

first_one : (ds : List Entry) → found (slice_get (timers_of ds) 0) ≡ take 1 (timers_of ds)
first_one [] = refl
first_one (d ∷ ds) = refl

no_tick : (old : WheelState) (n : ℕ) → n < 0 → (after_ticks n old).due ≡ []
no_tick old n h = absurd (omega (arith, h))

took : (c : Counters) (tick : ℕ) (out : Option Timer) (old new : TimersState) → IsCall c (Took tick out) old new
    → Takes (found out) old new
took c tick out old new r = record {
  passed = r.passed;
  count = 1;
  quiet = r.quiet;
  out = ap found r.first ∙ first_one (after_ticks r.passed old.wheel).due;
  rest = r.rest;
  serial = r.serial;
}

expired : (c : Counters) (out : Option Timer) (old new : TimersState) → IsCall c (Expired out) old new → Takes (found out) old new
expired c out old new r = record {
  passed = 0;
  count = 1;
  quiet = no_tick old.wheel;
  out = ap found r.0 ∙ first_one old.wheel.due;
  rest = ap (λ (s : TimersState). s.wheel) r.1;
  serial = ap (λ (s : TimersState). s.last_serial) r.1;
}

expired_batch : (c : Counters) (out : List Timer) (old new : TimersState) → IsCall c (ExpiredBatch out) old new → Takes out old new
expired_batch c out old new r = record {
  passed = 0;
  count = r.0;
  quiet = no_tick old.wheel;
  out = r.1;
  rest = ap (λ (s : TimersState). s.wheel) r.2;
  serial = ap (λ (s : TimersState). s.last_serial) r.2;
}

keeps_takes : {first : ℕ} {es : List Entry} {xs ys gs : List Timer} {ts : List Timer} {old new : TimersState}
    → KeepsIn first es xs ys gs old → Takes ts old new → KeepsIn first es (xs ++ ts) (ys ++ ts) gs new
keeps_takes {new = new} k t = keeps_to new t.rest t.serial (rw t.out (keeps_taken t.count (keeps_ticks t.passed k t.quiet)))

one_tick : (m : ℕ) (w : WheelState) → m < 1 → w.due ≡ [] → (after_ticks m w).due ≡ []
one_tick zero w h e = e
one_tick (suc m) w h e = absurd (omega (arith, h))

now_or_later : (now deadline : ℕ) → now ≤ max now deadline
now_or_later now deadline = omega arith

at_in_range : (now deadline last : ℕ) → now + max 1 (deadline - now) ≤ last → max now deadline ≤ last
at_in_range now deadline last h = omega (arith, h)

later_start : (place : ℕ) (t : Timer) (w : WheelState) → w.now < t.deadline → after_held_start place t w ≡ after_start place t w
later_start place t w h = rw (lt-ltb w.now t.deadline h) refl

-- a start after an interval
keeps_next : {first : ℕ} {es : List Entry} {xs ys gs : List Timer} (place interval action : ℕ) (s : TimersState) (w : WheelState)
    → Keeps first es xs ys gs w s.last_serial → w.now ≡ s.wheel.now → 0 < interval → s.wheel.now + interval ≤ w.last_tick
    → Keeps first (es ++ (record { place = place; timer = next_timer interval action s }) ∷ []) xs ys gs
    (after_start place (next_timer interval action s) w) (s.last_serial + 1)
keeps_next place interval action s w k now h b =
    rw (← (later_start place (next_timer interval action s) w (omega (arith, now, h))))
    (keeps_start place (next_timer interval action s) k (omega (arith, now)) b refl)

keeps_call : {first : ℕ} {es : List Entry} {xs ys gs : List Timer} (c : Counters) (call : Call) (old new : TimersState)
    → KeepsIn first es xs ys gs old → IsCall c call old new
    → KeepsIn first (es ++ started_by call old) (xs ++ taken_by call) (lately_after call ys) (gs ++ ended_by call old) new
keeps_call {xs = xs} {ys = ys} {gs = gs} c (Started interval action handle) old new k r =
    keeps_in (sym r.2) (keeps_at refl (append-nil xs) (append-nil ys) (append-nil gs)
    (keeps_next handle.place interval action old old.wheel k refl r.0.0 r.0.1))
keeps_call {xs = xs} {ys = ys} {gs = gs} c (StartedAt deadline action handle) old new k r =
    keeps_in (sym r.2) (keeps_at refl (append-nil xs) (append-nil ys) (append-nil gs)
    (keeps_start handle.place (timer_due (max old.wheel.now deadline) action old) k (now_or_later old.wheel.now deadline)
    (at_in_range old.wheel.now deadline old.wheel.last_tick r.0.1) refl))
keeps_call {xs = xs} {ys = ys} c (Restarted handle interval action made) old new k r =
    keeps_in (sym r.3) (keeps_at refl (append-nil xs) (append-nil ys) refl
    (keeps_next made.place interval action old (after_removal handle old.wheel) (keeps_removed handle k) refl r.1.0 r.1.1))
keeps_call {xs = xs} {ys = ys} c (RestartedAt handle deadline action made) old new k r =
    keeps_in (sym r.3) (keeps_at refl (append-nil xs) (append-nil ys) refl
    (keeps_start made.place (timer_due (max old.wheel.now deadline) action old) (keeps_removed handle k)
    (now_or_later old.wheel.now deadline) (at_in_range old.wheel.now deadline old.wheel.last_tick r.1.1) refl))
keeps_call {xs = xs} {ys = ys} c (SetAt handle deadline action made) old new k r =
    keeps_in (sym r.2) (keeps_at refl (append-nil xs) (append-nil ys) refl
    (keeps_start made.place (timer_due (max old.wheel.now deadline) action old) (keeps_removed handle k)
    (now_or_later old.wheel.now deadline) (at_in_range old.wheel.now deadline old.wheel.last_tick r.0.1) refl))
keeps_call {es = es} {xs = xs} {ys = ys} {gs = gs} c (Stopped handle timer) old new k r =
    keeps_in (sym r.1) (keeps_at (append-nil es) (append-nil xs) (append-nil ys) (ap (λ o. gs ++ found o) (sym r.0)) (keeps_removed handle k))
keeps_call {es = es} {xs = xs} {ys = ys} {gs = gs} c Ticked old new k r =
    keeps_in (sym r.1) (keeps_at (append-nil es) (append-nil xs) (append-nil ys) (append-nil gs) (keeps_ticks 1 k (λ m l. one_tick m old.wheel l r.0)))
keeps_call {es = es} {xs = xs} {ys = ys} {gs = gs} c (Advanced most passed) old new k r =
    keeps_to new r.passes.ticked r.serial
    (keeps_at (append-nil es) (append-nil xs) (append-nil ys) (append-nil gs) (keeps_ticks passed k r.passes.quiet))
keeps_call {es = es} {gs = gs} c (Took tick out) old new k r =
    keeps_at (append-nil es) refl refl (append-nil gs) (keeps_takes k (took c tick out old new r))
keeps_call {es = es} {gs = gs} c (Expired out) old new k r =
    keeps_at (append-nil es) refl refl (append-nil gs) (keeps_takes k (expired c out old new r))
keeps_call {es = es} {gs = gs} c (ExpiredBatch out) old new k r =
    keeps_at (append-nil es) refl refl (append-nil gs) (keeps_takes k (expired_batch c out old new r))
keeps_call {es = es} {xs = xs} {ys = ys} {gs = gs} c Cleared old new k r =
    keeps_in (sym r) (keeps_at (append-nil es) (append-nil xs) (append-nil ys) refl
    (keeps_dropped ys (after_drop old.wheel) k (λ p. omega arith) refl refl
    (holds_none refl refl (ordered_left ys (timers_of old.wheel.due) k.holds.out) k.holds.past)))
keeps_call {es = es} {xs = xs} c Renewed old new k r =
    keeps_to new refl r.1 (keeps_at (append-nil es) (append-nil xs) refl refl
    (keeps_dropped [] new.wheel k (λ p. omega arith) r.0.none_pending r.0.none_due (holds_none r.0.none_pending r.0.none_due tt tt)))
keeps_call {es = es} {xs = xs} {ys = ys} {gs = gs} c (Reserved most) old new k r =
    keeps_in (sym r) (keeps_at (append-nil es) (append-nil xs) (append-nil ys) (append-nil gs)
    (record { numbered = k.numbered; counted = k.counted; fewer = k.fewer; holds = holds_reserved most k.holds }))
keeps_call {es = es} {xs = xs} {ys = ys} {gs = gs} c Kept old new k r =
    keeps_in (sym r) (keeps_at (append-nil es) (append-nil xs) (append-nil ys) (append-nil gs) k)

-- Runs.

keeps_run : {first : ℕ} (c : Counters) (t : TimersState) (ms : List Moment) (s : TimersState) (es : List Entry) (xs ys gs : List Timer)
    → KeepsIn first es xs ys gs s → IsRun c s ms t
    → KeepsIn first (es ++ started ms) (xs ++ taken ms) (lately ys ms) (gs ++ ended ms) t
keeps_run c t [] s es xs ys gs k r = keeps_in (sym r) (keeps_at (append-nil es) (append-nil xs) refl (append-nil gs) k)
keeps_run c t (m ∷ ms) s es xs ys gs k r =
    keeps_at (sym (append_assoc es (started_by m.call m.before) (started ms))) (sym (append_assoc xs (taken_by m.call) (taken ms))) refl
    (sym (append_assoc gs (ended_by m.call m.before) (ended ms)))
    (keeps_run c t ms m.after (es ++ started_by m.call m.before) (xs ++ taken_by m.call) (lately_after m.call ys)
    (gs ++ ended_by m.call m.before) (keeps_call c m.call m.before m.after (keeps_in (sym r.0) k) r.1) r.2)

keeps_new : (s : TimersState) → IsNew s → KeepsIn s.last_serial [] [] [] [] s
keeps_new s n = record {
  numbered = record { each = tt; next_is = omega arith };
  counted = λ p. rw (n.none_due, n.none_pending) refl;
  fewer = λ p. omega arith;
  holds = holds_none n.none_pending n.none_due tt tt;
}

keeps_all : (c : Counters) (s t : TimersState) (ms : List Moment) → IsNew s → IsRun c s ms t
    → KeepsIn s.last_serial (started ms) (taken ms) (taken_lately ms) (ended ms) t
keeps_all c s t ms n r = keeps_run c t ms s [] [] [] [] (keeps_new s n) r

-- The laws.

pub run_accounts : (c : Counters) (s t : TimersState) (ms : List Moment) → IsNew s → IsRun c s ms t → AreAccounted ms t
run_accounts c s t ms n r = λ p. omega (
  arith,
  (keeps_all c s t ms n r).counted p,
  many-append p (timers_of t.wheel.due) (timers_of t.wheel.pending),
)

in_all : (p : Timer → Bool) (ms : List Moment) (t : TimersState)
    → many p (taken ms ++ (ended ms ++ held t)) ≡ many p (taken ms) + (many p (ended ms) + many p (held t))
in_all p ms t = omega (arith, many-append p (taken ms) (ended ms ++ held t), many-append p (ended ms) (held t))

pub run_keeps : (c : Counters) (s t : TimersState) (ms : List Moment) → IsNew s → IsRun c s ms t → AreAllThere ms t
run_keeps c s t ms n r = record {
  each = λ u m. where_some u (taken ms ++ (ended ms ++ held t)) (omega (
    arith,
    some_of (is_timer u) u (timers_of (started ms)) (itself_is u) m,
    run_accounts c s t ms n r (is_timer u),
    in_all (is_timer u) ms t,
  ));
  no_others = λ u m. where_some u (timers_of (started ms)) (omega (
    arith,
    some_of (is_timer u) u (taken ms ++ (ended ms ++ held t)) (itself_is u) m,
    run_accounts c s t ms n r (is_timer u),
    in_all (is_timer u) ms t,
  ));
}

pub run_numbers : (c : Counters) (s t : TimersState) (ms : List Moment) → IsNew s → IsRun c s ms t → AreNumberedIn s ms t
run_numbers c s t ms n r = (keeps_all c s t ms n r).numbered

pub run_in_order : (c : Counters) (s t : TimersState) (ms : List Moment) → IsNew s → IsRun c s ms t
    → IsOrdered (taken_lately ms ++ held t)
run_in_order c s t ms n r =
    let h : Holds (started ms) (taken_lately ms) t.wheel = (keeps_all c s t ms n r).holds in
    let after : (x : Timer) → x.deadline ≤ t.wheel.now → IsFirst x (timers_of t.wheel.pending) =
    λ x l. first_later x t.wheel.pending (All-weaken (IsWaiting (started ms) t.wheel.now t.wheel.last_tick)
    (λ d. x.deadline < d.timer.deadline) t.wheel.pending (λ d i. omega (arith, l, i.later)) h.each_pending) in
    subst IsOrdered (append_assoc (taken_lately ms) (timers_of t.wheel.due) (timers_of t.wheel.pending))
    (ordered_join (taken_lately ms ++ timers_of t.wheel.due) (timers_of t.wheel.pending) h.out h.waiting
    (All-append (λ x. IsFirst x (timers_of t.wheel.pending)) (taken_lately ms) (timers_of t.wheel.due)
    (All-weaken (λ x. x.deadline ≤ t.wheel.now) (λ x. IsFirst x (timers_of t.wheel.pending)) (taken_lately ms) after h.past)
    (All-timers_of (λ x. IsFirst x (timers_of t.wheel.pending)) t.wheel.due
    (All-weaken (IsDue (started ms) t.wheel.now) (λ d. IsFirst d.timer (timers_of t.wheel.pending)) t.wheel.due
    (λ d i. after d.timer (omega (arith, i.at_now))) h.each_due))))

pub run_once : (c : Counters) (s t : TimersState) (ms : List Moment) → IsNew s → IsRun c s ms t
    → AreDistinct (taken ms ++ (ended ms ++ held t))
run_once c s t ms n r = distinct_once (taken ms ++ (ended ms ++ held t)) (λ k. omega (
  arith,
  in_all (has_serial k) ms t,
  run_accounts c s t ms n r (has_serial k),
  started_once (keeps_all c s t ms n r) k,
))

-- what is taken has the present tick as its deadline
takes_on_time : {first : ℕ} {es : List Entry} {xs ys gs : List Timer} {ts : List Timer} {old new : TimersState}
    → KeepsIn first es xs ys gs old → Takes ts old new → AllByRecursion (λ u. u.deadline ≡ new.wheel.now) ts
takes_on_time {es = es} {old = old} {new = new} k t =
    let w : WheelState = after_ticks t.passed old.wheel in
    let now : new.wheel.now ≡ w.now = ap (λ (v : WheelState). v.now) t.rest in
    rw t.out (All-take (λ u. u.deadline ≡ new.wheel.now) t.count w.due
    (All-weaken (IsDue es w.now) (λ d. d.timer.deadline ≡ new.wheel.now) w.due (λ d i. i.at_now ∙ sym now)
    (keeps_ticks t.passed k t.quiet).holds.each_due))

on_time_call : {first : ℕ} {es : List Entry} {xs ys gs : List Timer} (c : Counters) (call : Call) (old new : TimersState)
    → KeepsIn first es xs ys gs old → IsCall c call old new
    → AllByRecursion (λ u. u.deadline ≡ new.wheel.now) (taken_by call)
on_time_call c (Took tick out) old new k r = takes_on_time k (took c tick out old new r)
on_time_call c (Expired out) old new k r = takes_on_time k (expired c out old new r)
on_time_call c (ExpiredBatch out) old new k r = takes_on_time k (expired_batch c out old new r)
on_time_call c _ old new k r = tt

on_time : {first : ℕ} (c : Counters) (t : TimersState) (ms : List Moment) (s : TimersState) (es : List Entry) (xs ys gs : List Timer)
    → KeepsIn first es xs ys gs s → IsRun c s ms t → AreOnTime ms
on_time c t [] s es xs ys gs k r = tt
on_time c t (m ∷ ms) s es xs ys gs k r =
    let here = keeps_in (sym r.0) k in (
      on_time_call c m.call m.before m.after here r.1,
      on_time c t ms m.after (es ++ started_by m.call m.before) (xs ++ taken_by m.call) (lately_after m.call ys)
          (gs ++ ended_by m.call m.before) (keeps_call c m.call m.before m.after here r.1) r.2,
    )

pub run_on_time : (c : Counters) (s t : TimersState) (ms : List Moment) → IsNew s → IsRun c s ms t → AreOnTime ms
run_on_time c s t ms n r = on_time c t ms s [] [] [] [] (keeps_new s n) r

-- a timer that was started and did not end was taken, is due now or is pending
record WhereIs (u : Timer) (xs : List Timer) (w : WheelState) : Type 0 where
  is : IsMember u xs ⊎ ((IsMember u (timers_of w.due) × (u.deadline ≡ w.now))
      ⊎ ((w.now < u.deadline) × (u.deadline ≤ w.last_tick)))

where_is : {first : ℕ} {es : List Entry} {xs ys gs : List Timer} {w : WheelState} {last : ℕ} (u : Timer)
    → Keeps first es xs ys gs w last → IsMember u (timers_of es) → IsNotAmong u.serial gs → WhereIs u xs w
where_is {first} {es} {xs} {ys} {gs} {w} u k m apart =
    let held : List Timer = timers_of w.due ++ timers_of w.pending in
    let among : IsMember u (xs ++ (gs ++ held)) = where_some u (xs ++ (gs ++ held)) (omega (
      arith,
      some_of (is_timer u) u (timers_of es) (itself_is u) m,
      k.counted (is_timer u),
      many-append (is_timer u) xs (gs ++ held),
      many-append (is_timer u) gs held,
      many-append (is_timer u) (timers_of w.due) (timers_of w.pending),
    )) in
    record {
      is = elim (in_either u xs (gs ++ held) among) [
        | inl a ↦ inl a
        | inr b ↦ elim (in_either u gs held b) [
          | inl a ↦ absurd (at_member (λ x. x.serial ≢ u.serial) u gs apart a refl)
          | inr d ↦ elim (in_either u (timers_of w.due) (timers_of w.pending) d) [
            | inl a ↦ inr (inl (
              a,
              at_timer (λ t. t.deadline ≡ w.now) u w.due
                  (All-weaken (IsDue es w.now) (λ e. e.timer.deadline ≡ w.now) w.due (λ e i. i.at_now) k.holds.each_due) a,
            ))
            | inr a ↦ inr (inr (at_timer (λ t. (w.now < t.deadline) × (t.deadline ≤ w.last_tick)) u w.pending
                (All-weaken (IsWaiting es w.now w.last_tick) (λ e. (w.now < e.timer.deadline) × (e.timer.deadline ≤ w.last_tick)) w.pending
                (λ e i. (i.later, i.in_range)) k.holds.each_pending) a))
          ]
        ]
      ];
    }

is_out : (u : Timer) (xs : List Timer) (t : TimersState) → WhereIs u xs t.wheel → IsOver u t → IsMember u xs
is_out u xs t p (inl o) = elim p.is [
  | inl a ↦ a
  | inr b ↦ elim b [ inl d ↦ absurd (omega (arith, o, d.1)) | inr l ↦ absurd (omega (arith, o, l.0)) ]
]
is_out u xs t p (inr o) = elim p.is [
  | inl a ↦ a
  | inr b ↦ elim b [
    | inl d ↦ absurd (subst (λ ds. IsMember u (timers_of ds)) o.1 d.0)
    | inr l ↦ absurd (omega (arith, o.0, l.0))
  ]
]

pub run_takes : (c : Counters) (s t : TimersState) (ms : List Moment) → IsNew s → IsRun c s ms t → AreTaken ms t
run_takes c s t ms n r = λ u m apart over. is_out u (taken ms) t (where_is u (keeps_all c s t ms n r) m apart) over

-- a take that found none: nothing is due, and the clock is at its tick or at the last one
none_first : (ds : List Entry) → None ≡ slice_get (timers_of ds) 0 → ds ≡ []
none_first [] h = refl
none_first (d ∷ ds) h = absurd (none_some d.timer h)

pub run_all_out : (c : Counters) (s old new : TimersState) (ms : List Moment) (tick : ℕ) → IsNew s → IsRun c s ms old
    → IsCall c (Took tick None) old new → AreOutBy tick ms
run_all_out c s old new ms tick n r call = λ u m apart by.
    let w : WheelState = after_ticks call.passed old.wheel in
    let count : w.now ≡ old.wheel.now + call.passed = after_ticks-now call.passed old.wheel in
    let p : WhereIs u (taken ms) w = where_is u (keeps_ticks call.passed (keeps_all c s old ms n r) call.quiet) m apart in
    elim p.is [
      | inl a ↦ a
      | inr b ↦ elim b [
        | inl d ↦ absurd (subst (λ ds. IsMember u (timers_of ds)) (none_first w.due call.first) d.0)
        | inr l ↦ elim (call.whole refl) [
          | inl e ↦ absurd (omega (arith, l.0, by, count, (let a : call.passed ≡ tick - old.wheel.now = e in a)))
          | inr e ↦ absurd (omega (
            arith,
            l.0,
            l.1,
            e,
            ap (λ (v : WheelState). v.now) call.rest,
            ap (λ (v : WheelState). v.last_tick) call.rest,
          ))
        ]
      ]
    ]

-- Handles.

some_if : (o : Option Timer) (t : Timer) → (o ≡ None → ⊥) → ((u : Timer) → o ≡ Some u → u ≡ t) → o ≡ Some t
some_if None t f g = absurd (f refl)
some_if (Some u) t f g = ap (λ v. Some v) (g u refl)

module _ {first : ℕ} {es : List Entry} {xs ys gs : List Timer} {w : WheelState} {last : ℕ} (k : Keeps first es xs ys gs w last) where
  -- each held entry is of a start
  each_known : AllByRecursion (λ d. IsMember d es) (w.pending ++ w.due)
  each_known = All-append (λ d. IsMember d es) w.pending w.due
      (All-weaken (IsWaiting es w.now w.last_tick) (λ d. IsMember d es) w.pending (λ d i. i.known) k.holds.each_pending)
      (All-weaken (IsDue es w.now) (λ d. IsMember d es) w.due (λ d i. i.known) k.holds.each_due)

  none_held : (handle : Handle) → many (has_serial handle.serial) (timers_of w.due) + many (has_serial handle.serial) (timers_of w.pending) ≡ 0
      → held_at handle w ≡ None
  none_held handle h = found_joined handle w.pending w.due ∙ none_named handle (w.pending ++ w.due)
      (not_among handle.serial (timers_of (w.pending ++ w.due)) (omega (arith, joined k (has_serial handle.serial), h)))

  -- a held entry with the serial of a start is that of the start
  module _ (e : Entry) (m : IsMember e es) where
    same_entry : (d : Entry) → IsMember d (w.pending ++ w.due) → d.timer.serial ≡ e.timer.serial → d ≡ e
    same_entry d a s = only_one first d e es (rising k) (at_member (λ x. IsMember x es) d (w.pending ++ w.due) each_known a) m s

    own_timer : (u : Timer) → held_at (handle_at e) w ≡ Some u → u ≡ e.timer
    own_timer u h =
        let f : IsFound (handle_at e) u (w.pending ++ w.due) =
        is_found (handle_at e) u (w.pending ++ w.due) (sym (found_joined (handle_at e) w.pending w.due) ∙ h) in
        sym f.timer_is ∙ ap timer_of (same_entry f.entry f.among f.serial_is)

    own_while_held : IsMember e.timer (timers_of w.due ++ timers_of w.pending) → held_at (handle_at e) w ≡ Some e.timer
    own_while_held h =
        let both : IsMember e.timer (timers_of (w.pending ++ w.due)) = rw (map-append timer_of w.pending w.due)
        (elim (in_either e.timer (timers_of w.due) (timers_of w.pending) h) [
          | inl a ↦ in_right e.timer (timers_of w.pending) (timers_of w.due) a
          | inr a ↦ in_left e.timer (timers_of w.pending) (timers_of w.due) a
        ]) in
        let d : HasEntry e.timer (w.pending ++ w.due) = has_entry e.timer (w.pending ++ w.due) both in
        let there : IsMember e (w.pending ++ w.due) = subst (λ (x : Entry). IsMember x (w.pending ++ w.due))
        (same_entry d.entry d.among (ap (λ (u : Timer). u.serial) d.timer_is)) d.among in
        some_if (held_at (handle_at e) w) e.timer
        (λ z. found_there e (w.pending ++ w.due) there (sym (found_joined (handle_at e) w.pending w.due) ∙ z)) own_timer

pub run_names : (c : Counters) (s t : TimersState) (ms : List Moment) (e : Entry) → IsNew s → IsRun c s ms t → IsMember e (started ms)
    → IsNamed e ms t
run_names c s t ms e n r m =
    let k = keeps_all c s t ms n r in
    let p : Timer → Bool = has_serial e.timer.serial in
    let is : p e.timer ≡ true = eq-eqb e.timer.serial e.timer.serial refl in
    record {
      own = own_timer k e m;
      while_held = own_while_held k e m;
      not_taken = λ h. none_held k (handle_at e)
          (omega (arith, k.counted p, started_once k e.timer.serial, some_of p e.timer (taken ms) is h));
      not_ended = λ h. none_held k (handle_at e)
          (omega (arith, k.counted p, started_once k e.timer.serial, some_of p e.timer (ended ms) is h));
    }

-- a handle of before the run names nothing
pub run_old : (c : Counters) (s t : TimersState) (ms : List Moment) (handle : Handle) → IsNew s → IsRun c s ms t
    → handle.serial ≤ s.last_serial → held_at handle t.wheel ≡ None
run_old c s t ms handle n r h =
    let k = keeps_all c s t ms n r in
    none_held k handle (omega (
      arith,
      k.counted (has_serial handle.serial),
      not_once handle.serial (timers_of (started ms))
          (IsNotAmong-rising handle.serial s.last_serial (timers_of (started ms)) h (rising k)),
    ))
