-- Lists of timers, for what is owed, and the timers that a wheel holds.
use Rattle.std.proofs.Common.{◌≡◌, ◌≢◌, ◌<◌, ◌+◌, ℕ, Bool, true, false, not, ◌==◌, ◌&&◌, ◌||◌, List, [], ◌∷◌, ◌++◌, length, refl, sym, ◌∙◌, ap, subst, inl, inr, arith, append_assoc}
use Rattle.std.specs.Prelude.{filter, nat_lt, if◌then◌else◌, is_some, Option, Some, None, map}
use Rattle.std.specs.List.{AllByRecursion}
use Rattle.std.proofs.lemmas.Bool.{eqb-true, ne_eqb}
use Rattle.std.proofs.lemmas.Bool.Decides.{nat_tests}
use Rattle.std.proofs.lemmas.List.{length-map}
use Rattle.std.proofs.lemmas.List.Filters.{length-filter_both}
use Rattle.std.proofs.lemmas.Option.{cond_some}
use Rattle.timer_base.proofs.Basics.{either, none_some, some_same}
use Rattle.timer_facility.specs.Types.{Timer, Handle, Notice, Out, StateLine}
use Rattle.timer_base.specs.Order.{itself, insert_by_deadline, IsOrdered, IsNotAmong, AreDistinct, IsMember}
use Rattle.timer_base.proofs.Members.{at_member}
use Rattle.timer_base.proofs.OneOrder.{each_is_member, in_order-ordered, map-itself}
use Rattle.timer_base.proofs.OrderLaws.{All-append, All-filter, All-weaken, All-in_order, filter-in_order}
use Rattle.timer_base.specs.Pending.{Entry, timer_of, timers_of, put, has_handle, first_timer, first_found}
use Rattle.timer_base.specs.WheelState.{WheelState, IsPending, IsDue, IsWellFormed, timer_at, due_at, held_at}
use Rattle.timer_facility.specs.Verdict.{of_client}
use Rattle.timer_facility.specs.Owed.{timers_in_order, is_among, timers_in, serials_told, any_out, is_closing, is_tick_refusal}
use Rattle.std.proofs.lemmas.Simd.{map-map}
use Rattle.timer_facility.specs.declared.event.Out.TheVariants as Outs
use Rattle.timer_facility.specs.Step.{refusals_in}
use Rattle.timer_facility.specs.Run.{notice_in, notices_in}

-- the timer goes before the first one with a later deadline
abbrev pub insert_newest : Timer → List Timer → List Timer
insert_newest t ts = insert_by_deadline (λ x. x) t ts

pub filter-timers_in_order : (p : Timer → Bool) (ts : List Timer) → filter p (timers_in_order ts) ≡ timers_in_order (filter p ts)
filter-timers_in_order p ts = filter-in_order (λ x. x) p ts

pub or_false : (b : Bool) → (b || false) ≡ b
or_false true = refl
or_false false = refl

pub filter-filter : (p q : Timer → Bool) (xs : List Timer) → filter p (filter q xs) ≡ filter (λ x. q x && p x) xs
filter-filter p q [] = refl
filter-filter p q (x ∷ xs) = elim (either (q x)) [
  | inl h ↦ rw h (ap (λ r. if p x then x ∷ r else r) (filter-filter p q xs))
  | inr h ↦ rw h (filter-filter p q xs)
]

pub timers_of-put : (e : Entry) (es : List Entry) → timers_of (put e es) ≡ insert_newest e.timer (timers_of es)
timers_of-put e [] = refl
timers_of-put e (x ∷ xs) = elim (either (nat_lt e.timer.deadline x.timer.deadline)) [
  | inl h ↦ rw h refl
  | inr h ↦ rw h (ap (λ r. x.timer ∷ r) (timers_of-put e xs))
]

pub timers_of-filter : (p : Timer → Bool) (es : List Entry) → timers_of (filter (λ e. p e.timer) es) ≡ filter p (timers_of es)
timers_of-filter p [] = refl
timers_of-filter p (x ∷ xs) = elim (either (p x.timer)) [
  | inl h ↦ rw h (ap (λ r. x.timer ∷ r) (timers_of-filter p xs))
  | inr h ↦ rw h (timers_of-filter p xs)
]

pub IsMember-in_order : (t : Timer) (xs : List Timer) → IsMember t (timers_in_order xs) → IsMember t xs
IsMember-in_order t xs m = at_member (λ x. IsMember x xs) t (timers_in_order xs)
    (All-in_order itself (λ x. IsMember x xs) xs (each_is_member xs)) m

-- what a filter keeps is one of the list, and satisfies its test
pub IsMember-filter : (p : Timer → Bool) (t : Timer) (xs : List Timer) → IsMember t (filter p xs) → IsMember t xs × (p t ≡ true)
IsMember-filter p t xs m = at_member (λ x. IsMember x xs × (p x ≡ true)) t (filter p xs)
    (All-filter (λ x. IsMember x xs) (λ x. IsMember x xs × (p x ≡ true)) p xs (λ x h a. (a, h)) (each_is_member xs)) m

-- if serials are distinct, whoever has the serial of t is t
abbrev pub IsOnly : Timer → Timer → Type 0
IsOnly t x = x.serial ≡ t.serial → x ≡ t

pub AreDistinct-only : (t : Timer) (xs : List Timer) → AreDistinct xs → IsMember t xs → AllByRecursion (IsOnly t) xs
AreDistinct-only t [] d a = absurd a
AreDistinct-only t (x ∷ xs) d a = elim a [
  | inl h ↦ (
    (λ e. h),
    All-weaken (λ u. u.serial ≢ t.serial) (IsOnly t) xs (λ u n e. absurd (n e)) (subst (λ (u : Timer). IsNotAmong u.serial xs) h d.0),
  )
  | inr h ↦ ((λ e. absurd (at_member (λ u. u.serial ≢ x.serial) t xs d.0 h (sym e))), AreDistinct-only t xs d.1 h)
]

pub AreDistinct-join : (xs ys : List Timer) → AreDistinct xs → AreDistinct ys → AllByRecursion (λ x. IsNotAmong x.serial ys) xs
    → AreDistinct (xs ++ ys)
AreDistinct-join [] ys d e a = e
AreDistinct-join (x ∷ xs) ys d e a = (All-append (λ u. u.serial ≢ x.serial) xs ys d.0 a.0, AreDistinct-join xs ys d.1 e a.1)

pub is_among-append : (n k : ℕ) (ks : List ℕ) → is_among n (ks ++ k ∷ []) ≡ (is_among n ks || k == n)
is_among-append n k [] = or_false (k == n)
is_among-append n k (x ∷ xs) = elim (either (x == n)) [
  | inl h ↦ rw h refl
  | inr h ↦ rw h (is_among-append n k xs)
]

pub is_among_below : (n : ℕ) (ks : List ℕ) → AllByRecursion (λ k. k < n) ks → is_among n ks ≡ false
is_among_below n [] b = refl
is_among_below n (k ∷ ks) b = rw (ne_eqb k n (λ e. let b0 : k < n = b.0 in omega (arith, e))) (is_among_below n ks b.1)

-- what is in order already stays
pub timers_in_order-ordered : (xs : List Timer) → IsOrdered xs → AreDistinct xs → timers_in_order xs ≡ xs
timers_in_order-ordered xs o d = in_order-ordered itself xs (rw (map-itself xs) d) (rw (map-itself xs) o)

-- what is found is one of the timers
pub first_timer-among : (test : Entry → Bool) (t : Timer) (es : List Entry) → first_timer test es ≡ Some t → IsMember t (timers_of es)
first_timer-among test t [] h = absurd (none_some t h)
first_timer-among test t (e ∷ es) h = elim (either (test e)) [
  | inl k ↦ inl (some_same e.timer t (rw k at h))
  | inr k ↦ inr (first_timer-among test t es (rw k at h))
]

-- what is found for a client was found, and is the client's
pub of_client_some : (client : ℕ) (o : Option Timer) (t : Timer) → of_client client o ≡ Some t → (o ≡ Some t) × (t.client ≡ client)
of_client_some client None t h = absurd (none_some t h)
of_client_some client (Some x) t h =
    let found = cond_some (x.client == client) x t h in
    (ap Some found.1, ap (λ (u : Timer). u.client) (sym found.1) ∙ eqb-true x.client client found.0)

-- each entry passes the test or not
pub length-parts : (p : Timer → Bool) (es : List Entry)
    → length (filter p (timers_of es)) + length (filter (λ e. not (p e.timer)) es) ≡ length es
length-parts p es =
    let parts = length-filter_both (λ (e : Entry). p e.timer) (λ e. not (p e.timer)) (λ e. refl) es in
    let passed : length (filter p (timers_of es)) ≡ length (filter (λ e. p e.timer) es) =
    ap length (sym (timers_of-filter p es)) ∙ length-map (filter (λ e. p e.timer) es) timer_of in
    omega arith

pub length-put : (e : Entry) (es : List Entry) → length (put e es) ≡ length es + 1
length-put e [] = refl
length-put e (x ∷ xs) = elim (either (nat_lt e.timer.deadline x.timer.deadline)) [
  | inl h ↦ rw h (omega arith)
  | inr h ↦ rw h (let n = length-put e xs in omega arith)
]

-- A timer that a wheel holds is pending exactly if its deadline is after now.

by_deadline : (pending due : Option Timer) (now : ℕ) (t : Timer) → ((x : Timer) → pending ≡ Some x → now < x.deadline)
    → ((x : Timer) → due ≡ Some x → x.deadline ≡ now) → first_found pending due ≡ Some t → nat_lt now t.deadline ≡ is_some pending
by_deadline (Some x) due now t later at_now e =
    let l : now < t.deadline = subst (λ (u : Timer). now < u.deadline) (some_same x t e) (later x refl) in grind (arith, nat_tests)
by_deadline None due now t later at_now e = let d : t.deadline ≡ now = at_now t e in grind (arith, nat_tests)

pub pending_by_deadline : (handle : Handle) (w : WheelState) (t : Timer) → IsWellFormed w → Some t ≡ held_at handle w
    → nat_lt w.now t.deadline ≡ is_some (timer_at handle w)
pending_by_deadline handle w t i e =
    by_deadline (timer_at handle w) (due_at handle w) w.now t
    (λ x f. (at_member (IsPending w.last_tick w.now w.last_serial) x (timers_of w.pending) i.each
    (first_timer-among (has_handle handle) x w.pending f)).later)
    (λ x f. (at_member (IsDue w.now w.last_serial) x (timers_of w.due) i.each_due
    (first_timer-among (has_handle handle) x w.due f)).deadline) (sym e)

-- Outs that are the notices of timers, read.

pub notices_in-map : (f : Timer → Notice) (ts : List Timer) → notices_in (map (λ t. Outs.Notice (f t)) ts) ≡ map f ts
notices_in-map f [] = refl
notices_in-map f (t ∷ ts) = ap (λ ns. f t ∷ ns) (notices_in-map f ts)

-- there is one notice for each timer, and the outs are those of their notices
pub length-notices : (f : Timer → Notice) (ts : List Timer) → length (notices_in (map (λ t. Outs.Notice (f t)) ts)) ≡ length ts
length-notices f ts = ap length (notices_in-map f ts) ∙ length-map ts f

pub outs-notices : (f : Timer → Notice) (ts : List Timer) → map (λ notice. Outs.Notice notice)
    (notices_in (map (λ t. Outs.Notice (f t)) ts)) ≡ map (λ t. Outs.Notice (f t)) ts
outs-notices f ts = ap (map (λ notice. Outs.Notice notice)) (notices_in-map f ts) ∙ map-map (λ notice. Outs.Notice notice) f ts

pub serials_told-map : (f : Timer → Notice) (ts : List Timer) → serials_told (map (λ t. Outs.Notice (f t)) ts) ≡ []
serials_told-map f [] = refl
serials_told-map f (t ∷ ts) = serials_told-map f ts

pub closing-map : (f : Timer → Notice) (ts : List Timer) → any_out is_closing (map (λ t. Outs.Notice (f t)) ts) ≡ false
closing-map f [] = refl
closing-map f (t ∷ ts) = closing-map f ts

pub refusal-map : (f : Timer → Notice) (ts : List Timer) → any_out is_tick_refusal (map (λ t. Outs.Notice (f t)) ts) ≡ false
refusal-map f [] = refl
refusal-map f (t ∷ ts) = refusal-map f ts

pub timers_in-map : (client number action : ℕ) (f : Timer → Notice) (ts : List Timer)
    → timers_in client number action (map (λ t. Outs.Notice (f t)) ts) ≡ []
timers_in-map client number action f [] = refl
timers_in-map client number action f (t ∷ ts) = timers_in-map client number action f ts

pub refusals_in-map : (f : Timer → Notice) (ts : List Timer) → refusals_in (map (λ t. Outs.Notice (f t)) ts) ≡ []
refusals_in-map f [] = refl
refusals_in-map f (t ∷ ts) = refusals_in-map f ts

-- The lines of a dump are no notices, and no other outs that are looked for.

-- the lines as outs
abbrev pub dumped : List StateLine → List Out
dumped lines = map (λ line. Outs.Dumped line) lines

pub notices_in-dumped : (lines : List StateLine) → notices_in (dumped lines) ≡ []
notices_in-dumped [] = refl
notices_in-dumped (line ∷ lines) = notices_in-dumped lines

pub serials_told-dumped : (lines : List StateLine) → serials_told (dumped lines) ≡ []
serials_told-dumped [] = refl
serials_told-dumped (line ∷ lines) = serials_told-dumped lines

pub closing-dumped : (lines : List StateLine) → any_out is_closing (dumped lines) ≡ false
closing-dumped [] = refl
closing-dumped (line ∷ lines) = closing-dumped lines

pub refusals_in-dumped : (lines : List StateLine) → refusals_in (dumped lines) ≡ []
refusals_in-dumped [] = refl
refusals_in-dumped (line ∷ lines) = refusals_in-dumped lines

pub notices_in-append : (xs ys : List Out) → notices_in (xs ++ ys) ≡ notices_in xs ++ notices_in ys
notices_in-append [] ys = refl
notices_in-append (x ∷ xs) ys = ap (λ ns. notice_in x ++ ns) (notices_in-append xs ys)
    ∙ sym (append_assoc (notice_in x) (notices_in xs) (notices_in ys))
