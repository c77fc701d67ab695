-- Lists of timers and of entries: how many satisfy a test, their order, and their members.
use Rattle.std.proofs.Common.{◌≡◌, ◌<◌, ◌≤◌, ◌+◌, ℕ, zero, suc, Bool, true, false, not, ◌==◌, ◌&&◌, List, [], ◌∷◌, ◌++◌, length, filter, refl, sym, ◌∙◌, ap, subst, inl, inr, arith, length-append}
use Rattle.std.specs.Prelude.{nat_lt, Some, None, take, drop}
use Rattle.std.specs.List.{AllByRecursion}
use Rattle.std.proofs.lemmas.Bool.{eqb-true, and_parts}
use Rattle.std.proofs.lemmas.Bool.Decides.{nat_tests}
use Rattle.std.proofs.lemmas.List.Elements.{filter-append}
use Rattle.timer_base.proofs.Basics.{either, none_some, some_same}
use Rattle.timer_base.proofs.HeldLaws.{has_serial_of, other_serial, no_handle}
use Rattle.timer_base.proofs.Members.{at_member}
use Rattle.timer_base.proofs.OneOrder.{map-itself, times_of, times-cons, one_same, one_other, no_times, once_at_most, not_among_from, distinct_from}
use Rattle.timer_base.proofs.OrderLaws.{IsFirst-filter, IsOrdered-insert_in_order, insert_newest}
use Rattle.timer_base.specs.declared.timer.Handle.{Handle}
use Rattle.timer_base.specs.declared.timer.Timer.{Timer}
use Rattle.timer_base.specs.Order.{is_before, itself, IsFirst, IsOrdered, IsNotAmong, AreDistinct, AreRising, IsMember}
use Rattle.timer_base.specs.Pending.{Entry, timer_of, timers_of, put, has_handle, has_serial, first_timer, first_found, without_handle}
use Rattle.timer_runs.specs.Runs.{many, found, handle_at}

-- How many satisfy a test.

pub many-append : (p : Timer → Bool) (xs ys : List Timer) → many p (xs ++ ys) ≡ many p xs + many p ys
many-append p xs ys = ap length (filter-append p xs ys) ∙ length-append (filter p xs) (filter p ys)

pub many-cons : (p : Timer → Bool) (x : Timer) (xs : List Timer) → many p (x ∷ xs) ≡ many p (x ∷ []) + many p xs
many-cons p x xs = many-append p (x ∷ []) xs

pub many-put : (p : Timer → Bool) (e : Entry) (es : List Entry)
    → many p (timers_of (put e es)) ≡ many p (e.timer ∷ []) + many p (timers_of es)
many-put p e [] = let h : many p (e.timer ∷ []) + 0 ≡ many p (e.timer ∷ []) = omega arith in sym h
many-put p e (x ∷ xs) = elim (either (nat_lt e.timer.deadline x.timer.deadline)) [
  | inl h ↦ rw h (many-cons p e.timer (x.timer ∷ timers_of xs))
  | inr h ↦ rw h (omega (
    arith,
    many-cons p x.timer (timers_of (put e xs)),
    many-cons p x.timer (timers_of xs),
    many-put p e xs,
  ))
]

-- those that satisfy a test of entries, and the others
pub many-split : (p : Timer → Bool) (q : Entry → Bool) (es : List Entry)
    → many p (timers_of (filter q es)) + many p (timers_of (filter (λ e. not (q e)) es)) ≡ many p (timers_of es)
many-split p q [] = refl
many-split p q (x ∷ xs) = elim (either (q x)) [
  | inl h ↦ rw h (omega (
    arith,
    many-cons p x.timer (timers_of (filter q xs)),
    many-cons p x.timer (timers_of xs),
    many-split p q xs,
  ))
  | inr h ↦ rw h (omega (
    arith,
    many-cons p x.timer (timers_of (filter (λ e. not (q e)) xs)),
    many-cons p x.timer (timers_of xs),
    many-split p q xs,
  ))
]

many-one : (p : Timer → Bool) (t : Timer) → p t ≡ true → many p (t ∷ []) ≡ 1
many-one p t h = rw h refl

many-not_one : (p : Timer → Bool) (t : Timer) → p t ≡ false → many p (t ∷ []) ≡ 0
many-not_one p t h = rw h refl

-- none satisfies it
pub none_of : (p : Timer → Bool) (xs : List Timer) → many p xs ≡ 0 → AllByRecursion (λ t. p t ≡ false) xs
none_of p [] h = tt
none_of p (x ∷ xs) h = elim (either (p x)) [
  | inl k ↦ absurd (omega (arith, h, many-cons p x xs, many-one p x k))
  | inr k ↦ (k, none_of p xs (omega (arith, h, many-cons p x xs)))
]

pub all_not : (p : Timer → Bool) (xs : List Timer) → AllByRecursion (λ t. p t ≡ false) xs → many p xs ≡ 0
all_not p [] a = refl
all_not p (x ∷ xs) a = omega (arith, many-cons p x xs, many-not_one p x a.0, all_not p xs a.1)

-- a member satisfies it
pub some_of : (p : Timer → Bool) (t : Timer) (xs : List Timer) → p t ≡ true → IsMember t xs → 1 ≤ many p xs
some_of p t [] h a = absurd a
some_of p t (x ∷ xs) h (inl e) = omega (arith, many-cons p x xs, many-one p x (ap p e ∙ h))
some_of p t (x ∷ xs) h (inr a) = omega (arith, many-cons p x xs, some_of p t xs h a)

-- the same timer
abbrev pub is_timer : Timer → Timer → Bool
is_timer t u = (u.serial == t.serial) && ((u.client == t.client) && ((u.number == t.number)
    && ((u.deadline == t.deadline) && (u.action == t.action))))

pub itself_is : (t : Timer) → is_timer t t ≡ true
itself_is t = grind (arith, nat_tests)

is_same : (t u : Timer) → is_timer t u ≡ true → u ≡ t
is_same t u h =
    let a = and_parts (u.serial == t.serial) _ h in
    let b = and_parts (u.client == t.client) _ a.1 in
    let c = and_parts (u.number == t.number) _ b.1 in
    let d = and_parts (u.deadline == t.deadline) _ c.1 in
    ap (λ (n : ℕ). record u { serial = n }) (eqb-true u.serial t.serial a.0)
    ∙ ap (λ (n : ℕ). record u { serial = t.serial; client = n }) (eqb-true u.client t.client b.0)
    ∙ ap (λ (n : ℕ). record u { serial = t.serial; client = t.client; number = n }) (eqb-true u.number t.number c.0)
    ∙ ap (λ (n : ℕ). record t { deadline = n; action = u.action }) (eqb-true u.deadline t.deadline d.0)
    ∙ ap (λ (n : ℕ). record t { action = n }) (eqb-true u.action t.action d.1)

-- if it is counted, it is a member
pub where_some : (t : Timer) (xs : List Timer) → 1 ≤ many (is_timer t) xs → IsMember t xs
where_some t [] h = absurd (omega (arith, h))
where_some t (x ∷ xs) h = elim (either (is_timer t x)) [
  | inl k ↦ inl (is_same t x k)
  | inr k ↦ inr (where_some t xs (omega (arith, h, many-cons (is_timer t) x xs, many-not_one (is_timer t) x k)))
]

-- Serials that occur once.

times_is : (k : ℕ) (ts : List Timer) → times_of itself k ts ≡ many (has_serial k) ts
times_is k [] = refl
times_is k (t ∷ ts) = elim (either (has_serial k t)) [
  | inl h ↦ omega (
    arith,
    times-cons itself k t ts,
    one_same k t.serial (eqb-true t.serial k h),
    many-cons (has_serial k) t ts,
    many-one (has_serial k) t h,
    times_is k ts,
  )
  | inr h ↦ omega (
    arith,
    times-cons itself k t ts,
    one_other k t.serial (λ e. let m : has_serial k t ≡ true = grind (arith, nat_tests) in absurd (cc)),
    many-cons (has_serial k) t ts,
    many-not_one (has_serial k) t h,
    times_is k ts,
  )
]

pub once : (k : ℕ) (ts : List Timer) → AreDistinct ts → many (has_serial k) ts ≤ 1
once k ts d = omega (arith, times_is k ts, once_at_most itself k ts (rw (map-itself ts) d))

pub not_once : (k : ℕ) (ts : List Timer) → IsNotAmong k ts → many (has_serial k) ts ≡ 0
not_once k ts n = omega (arith, times_is k ts, no_times itself k ts (rw (map-itself ts) n))

pub not_among : (k : ℕ) (ts : List Timer) → many (has_serial k) ts ≡ 0 → IsNotAmong k ts
not_among k ts h = rw (map-itself ts) at (not_among_from itself k ts (omega (arith, times_is k ts, h)))

pub distinct_once : (ts : List Timer) → ((k : ℕ) → many (has_serial k) ts ≤ 1) → AreDistinct ts
distinct_once ts a = rw (map-itself ts) at (distinct_from itself ts (λ k. omega (arith, times_is k ts, a k)))

-- What holds of all.

pub All-put : (P : Entry → Type 0) (e : Entry) (es : List Entry) → P e → AllByRecursion P es → AllByRecursion P (put e es)
All-put P e [] h a = (h, tt)
All-put P e (x ∷ xs) h a = elim (either (nat_lt e.timer.deadline x.timer.deadline)) [
  | inl k ↦ rw k (h, a)
  | inr k ↦ rw k (a.0, All-put P e xs h a.1)
]

pub All-take : (P : Timer → Type 0) (n : ℕ) (ds : List Entry) → AllByRecursion (λ d. P d.timer) ds
    → AllByRecursion P (take n (timers_of ds))
All-take P zero ds a = tt
All-take P (suc n) [] a = tt
All-take P (suc n) (d ∷ ds) a = (a.0, All-take P n ds a.1)

pub All-drop : (P : Entry → Type 0) (n : ℕ) (ds : List Entry) → AllByRecursion P ds → AllByRecursion P (drop n ds)
All-drop P zero ds a = a
All-drop P (suc n) [] a = tt
All-drop P (suc n) (d ∷ ds) a = All-drop P n ds a.1

pub take_drop : (n : ℕ) (ds : List Entry) → take n (timers_of ds) ++ timers_of (drop n ds) ≡ timers_of ds
take_drop zero ds = refl
take_drop (suc n) [] = refl
take_drop (suc n) (d ∷ ds) = ap (λ r. d.timer ∷ r) (take_drop n ds)

pub All-timers_of : (P : Timer → Type 0) (es : List Entry) → AllByRecursion (λ e. P e.timer) es
    → AllByRecursion P (timers_of es)
All-timers_of P [] a = tt
All-timers_of P (e ∷ es) a = (a.0, All-timers_of P es a.1)

-- an entry that has the timer
pub record HasEntry (t : Timer) (es : List Entry) : Type 0 where
  pub entry : Entry
  pub among : IsMember entry es
  pub timer_is : entry.timer ≡ t

pub has_entry : (t : Timer) (es : List Entry) → IsMember t (timers_of es) → HasEntry t es
has_entry t [] a = absurd a
has_entry t (e ∷ es) (inl h) = record { entry = e; among = inl refl; timer_is = h }
has_entry t (e ∷ es) (inr a) = let r : HasEntry t es = has_entry t es a in
    record { entry = r.entry; among = inr r.among; timer_is = r.timer_is }

-- what holds of all entries holds of a timer's
pub at_timer : (P : Timer → Type 0) (t : Timer) (es : List Entry) → AllByRecursion (λ e. P e.timer) es
    → IsMember t (timers_of es) → P t
at_timer P t es a m = let h : HasEntry t es = has_entry t es m in
    subst P h.timer_is (at_member (λ e. P e.timer) h.entry es a h.among)

-- Order.

first_join : (t : Timer) (xs ys : List Timer) → IsFirst t xs → IsFirst t ys → IsFirst t (xs ++ ys)
first_join t [] ys f g = g
first_join t (x ∷ xs) ys f g = (f.0, first_join t xs ys f.1 g)

first_of_both : (t : Timer) (xs ys : List Timer) → IsFirst t (xs ++ ys) → IsFirst t xs × IsFirst t ys
first_of_both t [] ys f = (tt, f)
first_of_both t (x ∷ xs) ys f = let r = first_of_both t xs ys f.1 in ((f.0, r.0), r.1)

pub ordered_join : (xs ys : List Timer) → IsOrdered xs → IsOrdered ys → AllByRecursion (λ x. IsFirst x ys) xs
    → IsOrdered (xs ++ ys)
ordered_join [] ys o p a = p
ordered_join (x ∷ xs) ys o p a = (first_join x xs ys o.0 a.0, ordered_join xs ys o.1 p a.1)

pub ordered_left : (xs ys : List Timer) → IsOrdered (xs ++ ys) → IsOrdered xs
ordered_left [] ys o = tt
ordered_left (x ∷ xs) ys o = ((first_of_both x xs ys o.0).0, ordered_left xs ys o.1)

pub ordered_filter : (q : Entry → Bool) (es : List Entry) → IsOrdered (timers_of es) → IsOrdered (timers_of (filter q es))
ordered_filter q [] o = tt
ordered_filter q (e ∷ es) o = elim (either (q e)) [
  | inl k ↦ rw k (IsFirst-filter timer_of q e.timer es o.0, ordered_filter q es o.1)
  | inr k ↦ rw k (ordered_filter q es o.1)
]

-- some of the last ones are left out
pub ordered_less : (q : Entry → Bool) (xs : List Timer) (es : List Entry) → IsOrdered (xs ++ timers_of es)
    → IsOrdered (xs ++ timers_of (filter q es))
ordered_less q [] es o = ordered_filter q es o
ordered_less q (x ∷ xs) es o =
    let f = first_of_both x xs (timers_of es) o.0 in
    (first_join x xs (timers_of (filter q es)) f.0 (IsFirst-filter timer_of q x es f.1), ordered_less q xs es o.1)

-- a newest one is put among them
pub ordered_put : (e : Entry) (es : List Entry) → AllByRecursion (λ t. t.serial < e.timer.serial) (timers_of es)
    → IsOrdered (timers_of es) → IsOrdered (timers_of (put e es))
ordered_put e es a o =
    subst (λ ds. IsOrdered (timers_of ds)) (insert_newest timer_of e es a) (IsOrdered-insert_in_order timer_of e es o)

after_earlier : (e x : Timer) → e.deadline < x.deadline → is_before x e ≡ false
after_earlier e x h = grind (arith, nat_tests)

after_older : (e x : Timer) → x.deadline ≤ e.deadline → x.serial < e.serial → is_before e x ≡ false
after_older e x h k = grind (arith, nat_tests)

-- a newest one is appended, whose deadline is the latest
pub ordered_append : (xs : List Timer) (t : Timer) → AllByRecursion (λ x. x.deadline ≤ t.deadline) xs
    → AllByRecursion (λ x. x.serial < t.serial) xs → IsOrdered xs → IsOrdered (xs ++ t ∷ [])
ordered_append [] t a b o = (tt, tt)
ordered_append (x ∷ xs) t a b o =
    (first_join x xs (t ∷ []) o.0 (after_older t x a.0 b.0, tt), ordered_append xs t a.1 b.1 o.1)

-- what is due later comes after
pub first_later : (x : Timer) (ds : List Entry) → AllByRecursion (λ d. x.deadline < d.timer.deadline) ds
    → IsFirst x (timers_of ds)
first_later x [] a = tt
first_later x (d ∷ ds) a = (after_earlier x d.timer a.0, first_later x ds a.1)

-- The timer that a handle names.

-- in two lists, one after the other
pub found_joined : (handle : Handle) (xs ys : List Entry)
    → first_found (first_timer (has_handle handle) xs) (first_timer (has_handle handle) ys) ≡ first_timer (has_handle handle) (xs ++ ys)
found_joined handle [] ys = refl
found_joined handle (x ∷ xs) ys = elim (either (has_handle handle x)) [
  | inl k ↦ rw k refl
  | inr k ↦ rw k (found_joined handle xs ys)
]

pub none_named : (handle : Handle) (es : List Entry) → IsNotAmong handle.serial (timers_of es) → first_timer (has_handle handle) es ≡ None
none_named handle [] n = refl
none_named handle (e ∷ es) n = rw (other_serial handle e n.0) (none_named handle es n.1)

-- what it names, and the rest
pub many-named : (p : Timer → Bool) (handle : Handle) (es : List Entry) → AreDistinct (timers_of es)
    → many p (timers_of es) ≡ many p (found (first_timer (has_handle handle) es)) + many p (timers_of (without_handle handle es))
many-named p handle [] d = refl
many-named p handle (e ∷ es) d = elim (either (has_handle handle e)) [
  | inl k ↦
      let rest : IsNotAmong handle.serial (timers_of es) = subst (λ n. IsNotAmong n (timers_of es)) (has_serial_of handle e k) d.0 in
      rw (k, no_handle handle es rest) (many-cons p e.timer (timers_of es))
  | inr k ↦ rw k (omega (
    arith,
    many-cons p e.timer (timers_of es),
    many-cons p e.timer (timers_of (without_handle handle es)),
    many-named p handle es d.1,
  ))
]

-- the entry of the timer that is found
pub record IsFound (handle : Handle) (u : Timer) (ds : List Entry) : Type 0 where
  pub entry : Entry
  pub among : IsMember entry ds
  pub timer_is : entry.timer ≡ u
  pub serial_is : entry.timer.serial ≡ handle.serial

pub is_found : (handle : Handle) (u : Timer) (ds : List Entry) → first_timer (has_handle handle) ds ≡ Some u → IsFound handle u ds
is_found handle u [] h = absurd (none_some u h)
is_found handle u (d ∷ ds) h = elim (either (has_handle handle d)) [
  | inl k ↦ record {
    entry = d;
    among = inl refl;
    timer_is = some_same d.timer u (rw k at h);
    serial_is = has_serial_of handle d k;
  }
  | inr k ↦ let f : IsFound handle u ds = is_found handle u ds (rw k at h) in record {
    entry = f.entry;
    among = inr f.among;
    timer_is = f.timer_is;
    serial_is = f.serial_is;
  }
]

own_handle : (e : Entry) → has_handle (handle_at e) e ≡ true
own_handle e = grind (arith, nat_tests)

-- an entry's own handle finds one
pub found_there : (e : Entry) (ds : List Entry) → IsMember e ds → first_timer (has_handle (handle_at e)) ds ≡ None → ⊥
found_there e [] m h = absurd m
found_there e (d ∷ ds) (inl q) h =
    let k : has_handle (handle_at e) d ≡ true = ap (has_handle (handle_at e)) q ∙ own_handle e in
    let f : Some d.timer ≡ None = rw k at h in none_some d.timer (sym f)
found_there e (d ∷ ds) (inr m) h = elim (either (has_handle (handle_at e) d)) [
  | inl k ↦ let f : Some d.timer ≡ None = rw k at h in none_some d.timer (sym f)
  | inr k ↦ found_there e ds m (rw k at h)
]

-- Rising serials: of one serial there is one entry.

later_serial : (low : ℕ) (e : Entry) (es : List Entry) → AreRising low (timers_of es) → IsMember e es → low < e.timer.serial
later_serial low e [] r m = absurd m
later_serial low e (x ∷ xs) r (inl h) = subst (λ (d : Entry). low < d.timer.serial) h r.0
later_serial low e (x ∷ xs) r (inr m) =
    let a : low < x.timer.serial = r.0 in
    omega (arith, a, later_serial x.timer.serial e xs r.1 m)

pub only_one : (low : ℕ) (d e : Entry) (es : List Entry) → AreRising low (timers_of es) → IsMember d es → IsMember e es
    → d.timer.serial ≡ e.timer.serial → d ≡ e
only_one low d e [] r a b s = absurd a
only_one low d e (x ∷ xs) r (inl h) (inl g) s = sym h ∙ g
only_one low d e (x ∷ xs) r (inl h) (inr b) s =
    absurd (omega (arith, later_serial x.timer.serial e xs r.1 b, ap (λ (y : Entry). y.timer.serial) h, s))
only_one low d e (x ∷ xs) r (inr a) (inl g) s =
    absurd (omega (arith, later_serial x.timer.serial d xs r.1 a, ap (λ (y : Entry). y.timer.serial) g, s))
only_one low d e (x ∷ xs) r (inr a) (inr b) s = only_one x.timer.serial d e xs r.1 a b s
