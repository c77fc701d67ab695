-- The lines of a dump, and what is read of them.
use Rattle.std.proofs.Common.{◌≡◌, ◌<◌, ◌≤◌, ◌+◌, ℕ, Bool, true, false, not, ◌==◌, ◌||◌, List, [], ◌∷◌, ◌++◌, length, map, refl, sym, ◌∙◌, ap, subst, arith, append-nil, append_assoc, length-append}
use Rattle.std.specs.Prelude.{nat_lt, nat_le, if◌then◌else◌, None}
use Rattle.std.specs.List.{AllByRecursion}
use Rattle.std.proofs.lemmas.Bool.{eqb-true, eqb-false, leb-false, ltb-false, not-false}
use Rattle.std.proofs.lemmas.List.{map-append, nil_from_length}
use Rattle.timer_base.proofs.OrderLaws.{All-append, All-weaken, AreRising-append}
use Rattle.timer_base.specs.Order.{AreBelow}
use Rattle.timer_facility.specs.Types.{LAST, Timer, Out, Stage, StateLine}
use Rattle.timer_facility.specs.declared.event.Out.TheVariants as Outs
use Rattle.timer_facility.specs.declared.saved.Stage.TheVariants.{Begin, Body, Whole}
use Rattle.timer_facility.specs.declared.saved.StateFault.TheVariants as Faults
use Rattle.timer_facility.specs.declared.saved.StateLine.TheVariants as Lines
use Rattle.timer_facility.specs.Saved.{Saved, state_lines, ReadState, IsReadState, IsRead, serial_of_last, number_lines, timer_lines, lines_read, is_beginning, is_body, head_fault, number_fault, timer_fault, end_fault}
use Rattle.timer_facility.proofs.VerdictLemmas.{none_then}

-- the line of one more number
number_lines-more : (client : ℕ) (ns : List ℕ) (next : ℕ)
    → number_lines client (ns ++ next ∷ []) ≡ number_lines client ns ++ Lines.Number (client + length ns) next ∷ []
number_lines-more client [] next = ap (λ k. Lines.Number k next ∷ []) (omega arith)
number_lines-more client (n ∷ ns) next =
    ap (λ lines. Lines.Number client n ∷ lines) (number_lines-more (client + 1) ns next
    ∙ ap (λ k. number_lines (client + 1) ns ++ Lines.Number k next ∷ []) (omega arith))

pub numbers_more : (ns : List ℕ) (next : ℕ) → number_lines 0 (ns ++ next ∷ []) ≡ number_lines 0 ns ++ Lines.Number (length ns) next ∷ []
numbers_more ns next = number_lines-more 0 ns next ∙ ap (λ k. number_lines 0 ns ++ Lines.Number k next ∷ []) (omega arith)

-- a line as an out, after others
pub dumped-more : (before : List Out) (lines : List StateLine) (line : StateLine)
    → (before ++ map (λ l. Outs.Dumped l) lines) ++ Outs.Dumped line ∷ [] ≡ before ++ map (λ l. Outs.Dumped l) (lines ++ line ∷ [])
dumped-more before lines line = append_assoc before (map (λ l. Outs.Dumped l) lines) (Outs.Dumped line ∷ [])
    ∙ ap (λ os. before ++ os) (sym (map-append (λ l. Outs.Dumped l) lines (line ∷ [])))

-- the same lines after those of a state that is another only by its name
pub lines_after : {lines : List StateLine} {r s : ReadState} (line : StateLine) → r ≡ s → lines ≡ lines_read r ++ line ∷ []
    → lines ≡ lines_read s ++ line ∷ []
lines_after {lines} line e h = subst (λ (u : ReadState). lines ≡ lines_read u ++ line ∷ []) e h

-- Which lines may come next.

both_false : (a b : Bool) → (a || b) ≡ false → (a ≡ false) × (b ≡ false)
both_false true b h = absurd (cc)
both_false false b h = (refl, h)

at_begin : (stage : Stage) → not (is_beginning stage) ≡ false → stage ≡ Begin
at_begin Begin h = refl
at_begin Body h = absurd (cc)
at_begin Whole h = absurd (cc)

in_body : (stage : Stage) → not (is_body stage) ≡ false → stage ≡ Body
in_body Begin h = absurd (cc)
in_body Body h = refl
in_body Whole h = absurd (cc)

-- the first line
pub record IsNextHead (r : ReadState) (now next_serial : ℕ) : Type 0 where
  pub stage_is : r.stage ≡ Begin
  pub in_time : now ≤ r.limits.last_tick
  pub serial_some : 1 ≤ next_serial
  pub serial_in_range : next_serial ≤ LAST + 1

pub next_head : (r : ReadState) (now next_serial : ℕ) → head_fault r now next_serial ≡ None → IsNextHead r now next_serial
unfolding head_fault
next_head r now next_serial h =
    let a = none_then Faults.Place _ (not (is_beginning r.stage)) h in
    let b = none_then Faults.LastTick _ (nat_lt r.limits.last_tick now) a.1 in
    let c = none_then Faults.NextSerial _ (next_serial == 0 || nat_lt (LAST + 1) next_serial) b.1 in
    let d = both_false (next_serial == 0) (nat_lt (LAST + 1) next_serial) c.0 in
    record {
      stage_is = at_begin r.stage a.0;
      in_time = ltb-false r.limits.last_tick now b.0;
      serial_some = omega (arith, eqb-false next_serial 0 d.0);
      serial_in_range = ltb-false (LAST + 1) next_serial d.1;
    }

-- the number of the next client
pub record IsNextNumber (r : ReadState) (client next : ℕ) : Type 0 where
  pub stage_is : r.stage ≡ Body
  pub no_timers : r.saved.timers ≡ []
  pub client_is : client ≡ length r.saved.numbers
  pub is_client : client < r.limits.clients
  pub next_some : 1 ≤ next
  pub in_range : next ≤ LAST + 1

pub next_number : (r : ReadState) (client next : ℕ) → number_fault r client next ≡ None → IsNextNumber r client next
unfolding number_fault
next_number r client next h =
    let a = none_then Faults.Place _ (not (is_body r.stage) || nat_lt 0 (length r.saved.timers)) h in
    let b = both_false (not (is_body r.stage)) (nat_lt 0 (length r.saved.timers)) a.0 in
    let c = none_then Faults.Client _ (not (client == length r.saved.numbers)) a.1 in
    let d = none_then Faults.Clients _ (nat_le r.limits.clients client) c.1 in
    let e = none_then Faults.Number _ (next == 0 || nat_lt (LAST + 1) next) d.1 in
    let f = both_false (next == 0) (nat_lt (LAST + 1) next) e.0 in
    record {
      stage_is = in_body r.stage b.0;
      no_timers = nil_from_length r.saved.timers (omega (arith, ltb-false 0 (length r.saved.timers) b.1));
      client_is = eqb-true client (length r.saved.numbers) (not-false (client == length r.saved.numbers) c.0);
      is_client = leb-false r.limits.clients client d.0;
      next_some = omega (arith, eqb-false next 0 f.0);
      in_range = ltb-false (LAST + 1) next f.1;
    }

-- the next timer
pub record IsNextTimer (r : ReadState) (t : Timer) : Type 0 where
  pub stage_is : r.stage ≡ Body
  pub is_open : r.saved.is_closed ≡ false
  pub fresh : r.last_serial < t.serial
  pub used : t.serial < r.saved.next_serial
  pub owned : t.client < length r.saved.numbers
  pub later : r.saved.now < t.deadline
  pub in_time : t.deadline ≤ r.limits.last_tick
  pub room : length r.saved.timers < r.limits.capacity

pub next_timer : (r : ReadState) (t : Timer) → timer_fault r t ≡ None → IsNextTimer r t
unfolding timer_fault
next_timer r t h =
    let a = none_then Faults.Place _ (not (is_body r.stage) || r.saved.is_closed) h in
    let b = none_then Faults.Serial _ (nat_le t.serial r.last_serial || nat_le r.saved.next_serial t.serial) a.1 in
    let c = none_then Faults.Owner _ (nat_le (length r.saved.numbers) t.client) b.1 in
    let d = none_then Faults.Deadline _ (nat_le t.deadline r.saved.now) c.1 in
    let e = none_then Faults.LastTick _ (nat_lt r.limits.last_tick t.deadline) d.1 in
    let f = none_then Faults.Capacity _ (nat_le r.limits.capacity (length r.saved.timers)) e.1 in
    let g = both_false (nat_le t.serial r.last_serial) (nat_le r.saved.next_serial t.serial) b.0 in
    let place = both_false (not (is_body r.stage)) r.saved.is_closed a.0 in
    record {
      stage_is = in_body r.stage place.0;
      is_open = place.1;
      fresh = leb-false t.serial r.last_serial g.0;
      used = leb-false r.saved.next_serial t.serial g.1;
      owned = leb-false (length r.saved.numbers) t.client c.0;
      later = leb-false t.deadline r.saved.now d.0;
      in_time = ltb-false r.limits.last_tick t.deadline e.0;
      room = leb-false r.limits.capacity (length r.saved.timers) f.0;
    }

-- the last line
pub record IsNextEnd (r : ReadState) (pending : ℕ) : Type 0 where
  pub stage_is : r.stage ≡ Body
  pub count_is : pending ≡ length r.saved.timers

pub next_end : (r : ReadState) (pending : ℕ) → end_fault r pending ≡ None → IsNextEnd r pending
unfolding end_fault
next_end r pending h =
    let a = none_then Faults.Place _ (not (is_body r.stage)) h in
    let b = none_then Faults.Count _ (not (pending == length r.saved.timers)) a.1 in
    record {
      stage_is = in_body r.stage a.0;
      count_is = eqb-true pending (length r.saved.timers) (not-false (pending == length r.saved.timers) b.0);
    }

-- What was read, with one more line.

abbrev pub with_head : ℕ → ℕ → Bool → ReadState → ReadState
with_head now next_serial closed r =
    record r { stage = Body; saved = record r.saved { now = now; next_serial = next_serial; is_closed = closed } }

pub read-head : {r : ReadState} {now next_serial : ℕ} (closed : Bool) → IsReadState r → IsNextHead r now next_serial
    → IsReadState (with_head now next_serial closed r)
read-head {r} {now} {next_serial} closed a h =
    let none = a.none_first h.stage_is in record {
      few_clients = a.few_clients;
      few_timers = a.few_timers;
      now_in_range = h.in_time;
      serial_some = h.serial_some;
      serial_in_range = h.serial_in_range;
      numbers_in_range = a.numbers_in_range;
      numbers_some = a.numbers_some;
      rising = a.rising;
      last_is = a.last_is;
      up_to_last = a.up_to_last;
      below = subst (λ ts. AreBelow next_serial ts) (sym none.1) tt;
      each = subst (λ ts. AllByRecursion (IsRead now r.limits.last_tick (length r.saved.numbers)) ts) (sym none.1) tt;
      none_first = λ (e : Body ≡ Begin). absurd (cc);
      none_if_closed = λ e. none.1;
    }

pub lines-head : {r : ReadState} {now next_serial : ℕ} (closed : Bool) → IsReadState r → IsNextHead r now next_serial
    → lines_read (with_head now next_serial closed r)
    ≡ lines_read r ++ (if closed then Lines.Closed now next_serial else Lines.Open now next_serial) ∷ []
lines-head {r} closed a h = let none = a.none_first h.stage_is in rw (h.stage_is, none.0, none.1) refl

abbrev pub with_next : ℕ → ReadState → ReadState
with_next next r = record r { saved = record r.saved { numbers = r.saved.numbers ++ next ∷ [] } }

not_begin : {stage : Stage} {P : Type 0} → stage ≡ Body → stage ≡ Begin → P
not_begin e f = let wrong : Body ≡ Begin = sym e ∙ f in absurd (cc)

pub read-number : {r : ReadState} {client next : ℕ} → IsReadState r → IsNextNumber r client next → IsReadState (with_next next r)
read-number {r} {client} {next} a h = record {
  few_clients = omega (arith, length-append r.saved.numbers (next ∷ []), h.client_is, h.is_client);
  few_timers = a.few_timers;
  now_in_range = a.now_in_range;
  serial_some = a.serial_some;
  serial_in_range = a.serial_in_range;
  numbers_in_range = All-append (λ n. n ≤ LAST + 1) r.saved.numbers (next ∷ []) a.numbers_in_range (h.in_range, tt);
  numbers_some = All-append (λ n. 1 ≤ n) r.saved.numbers (next ∷ []) a.numbers_some (h.next_some, tt);
  rising = a.rising;
  last_is = a.last_is;
  up_to_last = a.up_to_last;
  below = a.below;
  each = subst (λ ts. AllByRecursion (IsRead r.saved.now r.limits.last_tick (length (r.saved.numbers ++ next ∷ []))) ts) (sym h.no_timers) tt;
  none_first = λ e. not_begin h.stage_is e;
  none_if_closed = a.none_if_closed;
}

pub lines-number : {r : ReadState} {client next : ℕ} → IsNextNumber r client next
    → lines_read (with_next next r) ≡ lines_read r ++ Lines.Number client next ∷ []
lines-number {r} {client} {next} h =
    let ns : List ℕ = r.saved.numbers in
    rw (
      h.stage_is,
      h.no_timers,
      h.client_is,
      numbers_more ns next,
      append-nil (number_lines 0 ns ++ Lines.Number (length ns) next ∷ []),
      append-nil (number_lines 0 ns),
    ) refl

abbrev pub with_one_read : Timer → ReadState → ReadState
with_one_read t r = record r { saved = record r.saved { timers = r.saved.timers ++ t ∷ [] }; last_serial = t.serial }

last-appended : (serial : ℕ) (t : Timer) (ts : List Timer) → serial_of_last serial (ts ++ t ∷ []) ≡ t.serial
last-appended serial t [] = refl
last-appended serial t (u ∷ us) = last-appended u.serial t us

pub read-timer : {r : ReadState} {t : Timer} → IsReadState r → IsNextTimer r t → IsReadState (with_one_read t r)
read-timer {r} {t} a h =
    let ts : List Timer = r.saved.timers in
    let lower : AreBelow t.serial ts = All-weaken (λ u. u.serial < r.last_serial + 1) (λ u. u.serial < t.serial) ts
    (λ u l. omega (arith, l, h.fresh)) a.up_to_last in
    record {
      few_clients = a.few_clients;
      few_timers = omega (arith, length-append ts (t ∷ []), h.room);
      now_in_range = a.now_in_range;
      serial_some = a.serial_some;
      serial_in_range = a.serial_in_range;
      numbers_in_range = a.numbers_in_range;
      numbers_some = a.numbers_some;
      rising = AreRising-append 0 t ts a.rising lower (omega (arith, h.fresh));
      last_is = sym (last-appended 0 t ts);
      up_to_last = All-append (λ u. u.serial < t.serial + 1) ts (t ∷ [])
          (All-weaken (λ u. u.serial < t.serial) (λ u. u.serial < t.serial + 1) ts (λ u l. omega (arith, l)) lower) (omega arith, tt);
      below = All-append (λ u. u.serial < r.saved.next_serial) ts (t ∷ []) a.below (h.used, tt);
      each = All-append (IsRead r.saved.now r.limits.last_tick (length r.saved.numbers)) ts (t ∷ []) a.each
          (record { later = h.later; in_time = h.in_time; owned = h.owned }, tt);
      none_first = λ e. not_begin h.stage_is e;
      none_if_closed = λ e. absurd (let wrong : false ≡ true = sym h.is_open ∙ e in cc);
    }

pub lines-timer : {r : ReadState} {t : Timer} → IsNextTimer r t → lines_read (with_one_read t r) ≡ lines_read r ++ Lines.Pending t ∷ []
lines-timer {r} {t} h =
    let ns = number_lines 0 r.saved.numbers in
    let ts : List Timer = r.saved.timers in
    rw (h.stage_is, map-append (λ u. Lines.Pending u) ts (t ∷ []), append_assoc ns (timer_lines ts) (Lines.Pending t ∷ [])) refl

abbrev pub with_end : ReadState → ReadState
with_end r = record r { stage = Whole }

pub lines-end : {r : ReadState} {pending : ℕ} → IsNextEnd r pending → lines_read (with_end r) ≡ lines_read r ++ Lines.End pending ∷ []
lines-end {r} h = rw (h.stage_is, h.count_is) refl

-- The lines of a dump say one state.

-- the values that lines have
abbrev numbers_in : List StateLine → List ℕ
numbers_in [] = []
numbers_in (Lines.Number client next ∷ lines) = next ∷ numbers_in lines
numbers_in (line ∷ lines) = numbers_in lines

abbrev timers_in_lines : List StateLine → List Timer
timers_in_lines [] = []
timers_in_lines (Lines.Pending t ∷ lines) = t ∷ timers_in_lines lines
timers_in_lines (line ∷ lines) = timers_in_lines lines

abbrev with_body : ℕ → ℕ → Bool → List StateLine → Saved
with_body now next_serial closed lines = record {
  now = now;
  next_serial = next_serial;
  is_closed = closed;
  numbers = numbers_in lines;
  timers = timers_in_lines lines;
}

abbrev saved_in : List StateLine → Saved
saved_in (Lines.Open now next_serial ∷ lines) = with_body now next_serial false lines
saved_in (Lines.Closed now next_serial ∷ lines) = with_body now next_serial true lines
saved_in lines = with_body 0 0 false lines

numbers_in-timers : (ts : List Timer) (pending : ℕ) → numbers_in (timer_lines ts ++ Lines.End pending ∷ []) ≡ []
numbers_in-timers [] pending = refl
numbers_in-timers (t ∷ ts) pending = numbers_in-timers ts pending

numbers_in-numbers : (client : ℕ) (ns : List ℕ) (lines : List StateLine)
    → numbers_in (number_lines client ns ++ lines) ≡ ns ++ numbers_in lines
numbers_in-numbers client [] lines = refl
numbers_in-numbers client (n ∷ ns) lines = ap (λ ms. n ∷ ms) (numbers_in-numbers (client + 1) ns lines)

timers_in-timers : (ts : List Timer) (pending : ℕ) → timers_in_lines (timer_lines ts ++ Lines.End pending ∷ []) ≡ ts
timers_in-timers [] pending = refl
timers_in-timers (t ∷ ts) pending = ap (λ us. t ∷ us) (timers_in-timers ts pending)

timers_in-numbers : (client : ℕ) (ns : List ℕ) (lines : List StateLine)
    → timers_in_lines (number_lines client ns ++ lines) ≡ timers_in_lines lines
timers_in-numbers client [] lines = refl
timers_in-numbers client (n ∷ ns) lines = timers_in-numbers (client + 1) ns lines

saved_in-lines : (v : Saved) → saved_in (state_lines v) ≡ v
saved_in-lines v =
    let last : List StateLine = Lines.End (length v.timers) ∷ [] in
    let rest : List StateLine = timer_lines v.timers ++ last in
    let body : List StateLine = (number_lines 0 v.numbers ++ timer_lines v.timers) ++ last in
    let parts : body ≡ number_lines 0 v.numbers ++ rest = append_assoc (number_lines 0 v.numbers) (timer_lines v.timers) last in
    let ns : numbers_in body ≡ v.numbers = ap numbers_in parts ∙ numbers_in-numbers 0 v.numbers rest
    ∙ ap (λ ms. v.numbers ++ ms) (numbers_in-timers v.timers (length v.timers)) ∙ append-nil v.numbers in
    let ts : timers_in_lines body ≡ v.timers = ap timers_in_lines parts ∙ timers_in-numbers 0 v.numbers rest
    ∙ timers_in-timers v.timers (length v.timers) in
    head_in v.is_closed body ∙ rw (ns, ts) refl
  where
    head_in : (closed : Bool) (lines : List StateLine)
        → saved_in ((if closed then Lines.Closed v.now v.next_serial else Lines.Open v.now v.next_serial) ∷ lines)
        ≡ with_body v.now v.next_serial closed lines
    head_in true lines = refl
    head_in false lines = refl

pub same_saved : (v w : Saved) → state_lines v ≡ state_lines w → v ≡ w
same_saved v w e = sym (saved_in-lines v) ∙ ap saved_in e ∙ saved_in-lines w
