-- Which line comes next in whole lines, and that none of them is refused.
use Rattle.std.proofs.Common.{◌≡◌, ◌<◌, ◌≤◌, ◌+◌, ℕ, suc, Bool, true, false, List, [], ◌∷◌, ◌++◌, length, refl, sym, ◌∙◌, ap, subst, arith, inl, inr, append-nil, append_assoc, length-append}
use Rattle.std.specs.Prelude.{if◌then◌else◌, None}
use Rattle.std.specs.List.{AllByRecursion}
use Rattle.std.proofs.lemmas.Bool.{le-ltb, lt-leb, ne_eqb, eq-eqb}
use Rattle.timer_base.proofs.Basics.{either}
use Rattle.timer_base.specs.Order.{AreRising}
use Rattle.timer_facility.specs.Types.{LAST, Timer, Limits, Stage, StateLine}
use Rattle.timer_facility.specs.declared.saved.Stage.TheVariants.{Begin, Body, Whole}
use Rattle.timer_facility.specs.declared.saved.StateLine.TheVariants as Lines
use Rattle.timer_facility.specs.Saved.{Saved, head_line, number_lines, timer_lines, body_lines, state_lines, ReadState, IsReadState, IsRead, serial_of_last, lines_at, lines_read, line_fault, head_fault, number_fault, timer_fault, end_fault}
use Rattle.timer_facility.proofs.StateLines.{IsNextHead, IsNextNumber, IsNextTimer, IsNextEnd}

-- A line that may come next has no fault.

head-none : (r : ReadState) (now next_serial : ℕ) → IsNextHead r now next_serial → head_fault r now next_serial ≡ None
unfolding head_fault
head-none r now next_serial h = rw (
  h.stage_is,
  le-ltb r.limits.last_tick now h.in_time,
  ne_eqb next_serial 0 (λ e. omega (arith, e, h.serial_some)),
  le-ltb (LAST + 1) next_serial h.serial_in_range,
) refl

number-none : (r : ReadState) (client next : ℕ) → IsNextNumber r client next → number_fault r client next ≡ None
unfolding number_fault
number-none r client next h = rw (
  h.stage_is,
  h.no_timers,
  eq-eqb client (length r.saved.numbers) h.client_is,
  lt-leb r.limits.clients client h.is_client,
  ne_eqb next 0 (λ e. omega (arith, e, h.next_some)),
  le-ltb (LAST + 1) next h.in_range,
) refl

timer-none : (r : ReadState) (t : Timer) → IsNextTimer r t → timer_fault r t ≡ None
unfolding timer_fault
timer-none r t h = rw (
  h.stage_is,
  h.is_open,
  lt-leb t.serial r.last_serial h.fresh,
  lt-leb r.saved.next_serial t.serial h.used,
  lt-leb (length r.saved.numbers) t.client h.owned,
  lt-leb t.deadline r.saved.now h.later,
  le-ltb r.limits.last_tick t.deadline h.in_time,
  lt-leb r.limits.capacity (length r.saved.timers) h.room,
) refl

end-none : (r : ReadState) (pending : ℕ) → IsNextEnd r pending → end_fault r pending ≡ None
unfolding end_fault
end-none r pending h = rw (h.stage_is, eq-eqb pending (length r.saved.timers) h.count_is) refl

-- Which line it is.

first_same : {X : Type 0} {x y : X} {xs ys : List X} → x ∷ xs ≡ y ∷ ys → x ≡ y
first_same e = cc

rest_same : {X : Type 0} {x y : X} {xs ys : List X} → x ∷ xs ≡ y ∷ ys → xs ≡ ys
rest_same e = cc

both_same : {X : Type 0} {x y : X} {xs ys : List X} → x ≡ y → xs ≡ ys → x ∷ xs ≡ y ∷ ys
both_same e f = cc

-- the first lines say the same
record HaveOneHead (v w : Saved) : Type 0 where
  now_is : v.now ≡ w.now
  serial_is : v.next_serial ≡ w.next_serial
  closed_is : v.is_closed ≡ w.is_closed

one_head : (v w : Saved) → head_line v ≡ head_line w → HaveOneHead v w
one_head v w e = by v.is_closed w.is_closed refl refl e
  where
    by : (a b : Bool) → v.is_closed ≡ a → w.is_closed ≡ b
        → (if a then Lines.Closed v.now v.next_serial else Lines.Open v.now v.next_serial)
        ≡ (if b then Lines.Closed w.now w.next_serial else Lines.Open w.now w.next_serial) → HaveOneHead v w
    by true true f g h = record { now_is = cc; serial_is = cc; closed_is = f ∙ sym g }
    by true false f g h = absurd (cc)
    by false true f g h = absurd (cc)
    by false false f g h = record { now_is = cc; serial_is = cc; closed_is = f ∙ sym g }

-- the lines of some clients' numbers are the front of those of all
record IsNumbersFront (client : ℕ) (ns ms : List ℕ) (lines after : List StateLine) : Type 0 where
  more : List ℕ
  all_are : ms ≡ ns ++ more
  rest_is : lines ≡ number_lines (client + length ns) more ++ after

abbrev timers_and_end : List Timer → ℕ → List StateLine
timers_and_end ts pending = timer_lines ts ++ Lines.End pending ∷ []

numbers_front : (client : ℕ) (ns ms : List ℕ) (lines : List StateLine) (ts : List Timer) (pending : ℕ)
    → number_lines client ns ++ lines ≡ number_lines client ms ++ timers_and_end ts pending
    → IsNumbersFront client ns ms lines (timers_and_end ts pending)
numbers_front client [] ms lines ts pending e =
    let same : client ≡ client + 0 = omega arith in record {
      more = ms;
      all_are = refl;
      rest_is = e ∙ ap (λ k. number_lines k ms ++ timers_and_end ts pending) same;
    }
numbers_front client (n ∷ ns) [] lines [] pending e = absurd (cc)
numbers_front client (n ∷ ns) [] lines (t ∷ ts) pending e = absurd (cc)
numbers_front client (n ∷ ns) (m ∷ ms) lines ts pending e =
    let rest = numbers_front (client + 1) ns ms lines ts pending (rest_same e) in
    let line : Lines.Number client n ≡ Lines.Number client m = first_same e in
    let same : n ≡ m = cc in
    let count : client + 1 + length ns ≡ client + suc (length ns) = omega arith in record {
      more = rest.more;
      all_are = both_same (sym same) rest.all_are;
      rest_is = rest.rest_is ∙ ap (λ k. number_lines k rest.more ++ timers_and_end ts pending) count;
    }

-- after the lines of some timers comes that of the next one, or the last line
after_timers : {P : Type 0} (us ts : List Timer) (line : StateLine) (rest : List StateLine) (pending : ℕ)
    → timer_lines us ++ line ∷ rest ≡ timers_and_end ts pending
    → ((t : Timer) (more : List Timer) → line ≡ Lines.Pending t → ts ≡ us ++ t ∷ more → P)
    → (line ≡ Lines.End pending → ts ≡ us → rest ≡ [] → P) → P
after_timers [] [] line rest pending e f g = g (first_same e) refl (rest_same e)
after_timers [] (t ∷ ts) line rest pending e f g = f t ts (first_same e) refl
after_timers (u ∷ us) [] line rest pending e f g = absurd (cc)
after_timers (u ∷ us) (t ∷ ts) line rest pending e f g =
    let first : Lines.Pending u ≡ Lines.Pending t = first_same e in
    let same : t ≡ u = cc in
    after_timers us ts line rest pending (rest_same e)
    (λ x more is all. f x more is (both_same same all))
    (λ is all none. g is (both_same same all) none)

-- the line that follows the lines of v, in the whole lines of w
record IsNumberAfter (v w : Saved) (line : StateLine) : Type 0 where
  next : ℕ
  more : List ℕ
  line_is : line ≡ Lines.Number (length v.numbers) next
  no_timers : v.timers ≡ []
  numbers_are : w.numbers ≡ v.numbers ++ next ∷ more

record IsTimerAfter (v w : Saved) (line : StateLine) : Type 0 where
  timer : Timer
  more : List Timer
  line_is : line ≡ Lines.Pending timer
  numbers_are : w.numbers ≡ v.numbers
  timers_are : w.timers ≡ v.timers ++ timer ∷ more

record IsEndAfter (v w : Saved) (line : StateLine) (rest : List StateLine) : Type 0 where
  line_is : line ≡ Lines.End (length w.timers)
  numbers_are : w.numbers ≡ v.numbers
  timers_are : w.timers ≡ v.timers
  none_left : rest ≡ []

number_after : {P : Type 0} (v w : Saved) (line : StateLine) (rest after : List StateLine) (next : ℕ) (more : List ℕ)
    → timer_lines v.timers ++ line ∷ rest ≡ Lines.Number (0 + length v.numbers) next ∷ after → w.numbers ≡ v.numbers ++ next ∷ more
    → (IsNumberAfter v w line → P) → P
number_after {P = P} v w line rest after next more e all f = by v.timers refl e
  where
    by : (us : List Timer) → v.timers ≡ us → timer_lines us ++ line ∷ rest ≡ Lines.Number (0 + length v.numbers) next ∷ after → P
    by [] none h =
        let count : 0 + length v.numbers ≡ length v.numbers = omega arith in f (record {
          next = next;
          more = more;
          line_is = first_same h ∙ ap (λ k. Lines.Number k next) count;
          no_timers = none;
          numbers_are = all;
        })
    by (u ∷ us) none h = absurd (cc)

next_after : {P : Type 0} (v w : Saved) (line : StateLine) (rest : List StateLine) → body_lines v ++ line ∷ rest ≡ state_lines w
    → (HaveOneHead v w → IsNumberAfter v w line → P) → (HaveOneHead v w → IsTimerAfter v w line → P)
    → (HaveOneHead v w → IsEndAfter v w line rest → P) → P
next_after {P = P} v w line rest e f g h =
    let head : HaveOneHead v w = one_head v w (first_same e) in
    let last : List StateLine = Lines.End (length w.timers) ∷ [] in
    let front = numbers_front 0 v.numbers w.numbers (timer_lines v.timers ++ line ∷ rest) w.timers (length w.timers)
    (sym (append_assoc (number_lines 0 v.numbers) (timer_lines v.timers) (line ∷ rest)) ∙ rest_same e
    ∙ append_assoc (number_lines 0 w.numbers) (timer_lines w.timers) last) in
    by head front.more front.all_are front.rest_is
  where
    by : HaveOneHead v w → (more : List ℕ) → w.numbers ≡ v.numbers ++ more
        → timer_lines v.timers ++ line ∷ rest ≡ number_lines (0 + length v.numbers) more ++ timers_and_end w.timers (length w.timers) → P
    by head [] all is = after_timers v.timers w.timers line rest (length w.timers) is
        (λ t more line_is ts. g head (record {
          timer = t;
          more = more;
          line_is = line_is;
          numbers_are = all ∙ append-nil v.numbers;
          timers_are = ts;
        }))
        (λ line_is ts none. h head (record { line_is = line_is; numbers_are = all ∙ append-nil v.numbers; timers_are = ts; none_left = none }))
    by head (next ∷ more) all is = number_after v w line rest _ next more is all (f head)

-- None of them is refused.

middle : {X : Type 0} (P : X → Type 0) (xs : List X) (x : X) (ys : List X) → AllByRecursion P (xs ++ x ∷ ys) → P x
middle P [] x ys a = a.0
middle P (y ∷ xs) x ys a = middle P xs x ys a.1

last_below : (low : ℕ) (ts : List Timer) (t : Timer) (more : List Timer) → AreRising low (ts ++ t ∷ more) → serial_of_last low ts < t.serial
last_below low [] t more r = r.0
last_below low (u ∷ us) t more r = last_below u.serial us t more r.1

-- the lines that were read are the front of whole lines that can be read within the same limits
pub record IsFrontOf (r w : ReadState) (line : StateLine) (rest : List StateLine) : Type 0 where
  pub front : IsReadState r
  pub whole : IsReadState w
  pub limits_are : r.limits ≡ w.limits
  pub lines_are : lines_read r ++ line ∷ rest ≡ state_lines w.saved

is_next_number : {r w : ReadState} {line : StateLine} {rest : List StateLine} → IsFrontOf r w line rest → r.stage ≡ Body
    → (n : IsNumberAfter r.saved w.saved line) → IsNextNumber r (length r.saved.numbers) n.next
is_next_number {r} {w} f body n =
    let at : (P : ℕ → Type 0) → AllByRecursion P w.saved.numbers → P n.next = λ P a. middle P r.saved.numbers n.next n.more
    (subst (AllByRecursion P) n.numbers_are a) in record {
      stage_is = body;
      no_timers = n.no_timers;
      client_is = refl;
      is_client = omega (
        arith,
        f.whole.few_clients,
        ap length n.numbers_are,
        length-append r.saved.numbers (n.next ∷ n.more),
        ap (λ (l : Limits). l.clients) f.limits_are,
      );
      next_some = at (λ k. 1 ≤ k) f.whole.numbers_some;
      in_range = at (λ k. k ≤ LAST + 1) f.whole.numbers_in_range;
    }

is_next_timer : {r w : ReadState} {line : StateLine} {rest : List StateLine} → IsFrontOf r w line rest → r.stage ≡ Body
    → HaveOneHead r.saved w.saved → (n : IsTimerAfter r.saved w.saved line) → IsNextTimer r n.timer
is_next_timer {r} {w} f body head n =
    let ts : List Timer = r.saved.timers in
    let at : (P : Timer → Type 0) → AllByRecursion P w.saved.timers → P n.timer = λ P a. middle P ts n.timer n.more
    (subst (AllByRecursion P) n.timers_are a) in
    let one : IsRead w.saved.now w.limits.last_tick (length w.saved.numbers) n.timer = at _ f.whole.each in record {
      stage_is = body;
      is_open = open_with w.saved.timers n.timers_are;
      fresh = omega (arith, f.front.last_is, last_below 0 ts n.timer n.more (subst (AreRising 0) n.timers_are f.whole.rising));
      used = omega (arith, at (λ t. t.serial < w.saved.next_serial) f.whole.below, head.serial_is);
      owned = omega (arith, one.owned, ap length n.numbers_are);
      later = omega (arith, one.later, head.now_is);
      in_time = omega (arith, one.in_time, ap (λ (l : Limits). l.last_tick) f.limits_are);
      room = omega (
        arith,
        f.whole.few_timers,
        ap length n.timers_are,
        length-append ts (n.timer ∷ n.more),
        ap (λ (l : Limits). l.capacity) f.limits_are,
      );
    }
  where
    some_timer : (us : List Timer) (t : Timer) (more : List Timer) → us ++ t ∷ more ≡ [] → ⊥
    some_timer [] t more e = absurd (cc)
    some_timer (u ∷ us) t more e = absurd (cc)

    open_with : (ts : List Timer) → w.saved.timers ≡ r.saved.timers ++ n.timer ∷ n.more → r.saved.is_closed ≡ false
    open_with ts e = elim (either r.saved.is_closed) [
      | inl k ↦ absurd (some_timer r.saved.timers n.timer n.more (sym e ∙ f.whole.none_if_closed (sym head.closed_is ∙ k)))
      | inr k ↦ k
    ]

none_in_body : {r w : ReadState} {line : StateLine} {rest : List StateLine} → IsFrontOf r w line rest → r.stage ≡ Body
    → body_lines r.saved ++ line ∷ rest ≡ state_lines w.saved → line_fault r line ≡ None
none_in_body {r} {w} {line} {rest} f body e =
    let named : (l : StateLine) → line ≡ l → line_fault r l ≡ None → line_fault r line ≡ None =
    λ l is h. subst (λ (k : StateLine). line_fault r k ≡ None) (sym is) h in
    next_after r.saved w.saved line rest e
    (λ head n. named _ n.line_is (number-none r (length r.saved.numbers) n.next (is_next_number f body n)))
    (λ head n. named _ n.line_is (timer-none r n.timer (is_next_timer f body head n)))
    (λ head n. named _ n.line_is (end-none r (length w.saved.timers) (record { stage_is = body; count_is = ap length n.timers_are })))

none_first : {r w : ReadState} {line : StateLine} {rest : List StateLine} → IsFrontOf r w line rest → r.stage ≡ Begin
    → line ≡ head_line w.saved → line_fault r line ≡ None
none_first {r} {w} {line} f begin e = by w.saved.is_closed e
  where
    next : IsNextHead r w.saved.now w.saved.next_serial
    next = record {
      stage_is = begin;
      in_time = omega (arith, f.whole.now_in_range, ap (λ (l : Limits). l.last_tick) f.limits_are);
      serial_some = f.whole.serial_some;
      serial_in_range = f.whole.serial_in_range;
    }

    by : (closed : Bool) → line ≡ (if closed then Lines.Closed w.saved.now w.saved.next_serial else Lines.Open w.saved.now w.saved.next_serial)
        → line_fault r line ≡ None
    by true is = subst (λ (k : StateLine). line_fault r k ≡ None) (sym is) (head-none r w.saved.now w.saved.next_serial next)
    by false is = subst (λ (k : StateLine). line_fault r k ≡ None) (sym is) (head-none r w.saved.now w.saved.next_serial next)

-- after the last line comes none
pub none_after_last : {P : Type 0} (v w : Saved) (line : StateLine) (rest : List StateLine) → state_lines v ++ line ∷ rest ≡ state_lines w → P
none_after_last v w line rest e =
    let last : StateLine = Lines.End (length v.timers) in
    next_after v w last (line ∷ rest) (sym (append_assoc (body_lines v) (last ∷ []) (line ∷ rest)) ∙ e)
    (λ head n. absurd (let is : last ≡ Lines.Number (length v.numbers) n.next = n.line_is in cc))
    (λ head n. absurd (let is : last ≡ Lines.Pending n.timer = n.line_is in cc))
    (λ head n. absurd (let is : line ∷ rest ≡ [] = n.none_left in cc))

-- whole lines that can be read are read: none of them is refused after those before it
pub none_refused : {r w : ReadState} {line : StateLine} {rest : List StateLine} → IsFrontOf r w line rest → line_fault r line ≡ None
none_refused {r} {w} {line} {rest} f = by r.stage refl f.lines_are
  where
    by : (stage : Stage) → r.stage ≡ stage → lines_at stage r.saved ++ line ∷ rest ≡ state_lines w.saved → line_fault r line ≡ None
    by Begin is e = none_first f is (first_same e)
    by Body is e = none_in_body f is e
    by Whole is e = none_after_last r.saved w.saved line rest e

-- the lines but the last are not whole
pub not_whole : {P : Type 0} (v w : Saved) → body_lines v ≡ state_lines w → P
not_whole v w e = none_after_last w v (Lines.End (length v.timers)) [] (ap (λ lines. lines ++ Lines.End (length v.timers) ∷ []) (sym e))
