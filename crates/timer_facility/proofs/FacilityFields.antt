-- The fields of a facility: their view, and the fields after each call.
use Rattle.std.proofs.Common.{◌≡◌, ◌≢◌, ◌<◌, ◌≤◌, ◌+◌, ◌-◌, ℕ, Bool, true, false, not, ◌==◌, List, [], ◌∷◌, length, refl, sym, ◌∙◌, ap, subst, inl, inr, arith, append-nil, length-append}
use Rattle.std.specs.Prelude.{map, nat_lt, drop, replicate, if◌then◌else◌, Option, Some, None, slice_get, slice_index, slice_set}
use Rattle.std.proofs.lemmas.Bool.Decides.{nat_tests}
use Rattle.std.proofs.Math.Seq.{take-set-lt}
use Rattle.std.proofs.lemmas.Option.{slice_get_within, get_or_from_slice_get}
use Rattle.std.proofs.lemmas.List.{drop_more, length-take-le, length-set, length-map, nil_from_length, map-append, take-replicate}
use Rattle.std.proofs.lemmas.List.Elements.{All-from_recursion, recursion_from_All, All-set, All-replicate}
use Rattle.timer_base.proofs.Basics.{either, filter_no_longer, some_same}
use Rattle.timer_base.specs.Order.{IsMember}
use Rattle.timer_facility.specs.Types.{LAST, Timer, Handle, MAX_PENDING, Config, Answer, Reason, Notice, Started, Stopped, Restarted, Expired, Returned}
use Rattle.timer_base.specs.Pending.{Entry, timer_of, timers_of, is_due_at, has_handle, first_timer, without_found, has_serial}
use Rattle.timer_base.proofs.HeldLaws.{held_when_none_due, held_start-last_serial, removal_when_none_due}
use Rattle.timer_base.specs.WheelState as Wheels
use Rattle.timer_facility.specs.State.{FacilityState, opened, ByHandle, Tick, Close, one_of, count_of, pending_of}
use Rattle.timer_facility.specs.Verdict.{interval_refusal, first_refusal, name_refusal, timer_named, tick_refusal}
use Rattle.timer_facility.specs.Step.{step, step_of_close, new_timer, handle_of, answer_to, due_at_start, with_number, after_request, expired_next, accepted}
use Rattle.timer_facility.specs.Run.{notices_in}
use Rattle.timer_facility.specs.Config.{IsInRange}
use Rattle.timer_facility.specs.Facility.{FacilityView, Fields, view_of, kept_in, AreCounted, IsFacility, view_after, with_nothing_waiting, with_expiries, place_in, IsAnswered}
use Rattle.timer_facility.proofs.FacilityCounts.{count-append, count-kept, count-put, count-tick, count-without, count-front, counted-none, counted-as, counted-more, counted-less, IsCounted, is_counted, count_in_range}
use Rattle.timer_facility.proofs.TimerLists.{first_timer-among, timers_of-filter, of_client_some, length-put, notices_in-map}
use Rattle.timer_facility.proofs.VerdictLemmas.{timely, ticking}

-- The state of the fields.

-- nothing waits to be handed out
pub record IsIdle (p : Fields) : Type 0 where
  pub none_due : p.wheel.due ≡ []
  pub none_returned : drop p.handed p.returned ≡ []

pub idle : {p : Fields} {v : FacilityView} → IsFacility p → view_of p ≡ v → v.waiting ≡ [] → IsIdle p
idle {p} a e h =
    let due : List Notice = map (λ t. Expired t) (timers_of p.wheel.due) in
    let returned : List Notice = map (λ t. Returned t) (drop p.handed p.returned) in
    let none : length due + length returned ≡ 0 =
    sym (length-append due returned) ∙ ap (λ (u : FacilityView). length u.waiting) e ∙ ap length h in
    record {
      none_due = nil_from_length p.wheel.due (omega (
        arith,
        none,
        length-map (timers_of p.wheel.due) (λ (t : Timer). Expired t),
        length-map p.wheel.due timer_of,
      ));
      none_returned = nil_from_length (drop p.handed p.returned)
          (omega (arith, none, length-map (drop p.handed p.returned) (λ (t : Timer). Returned t)));
    }

-- the values of the state, from those of the fields
pub record AgreesWithFields (p : Fields) (s : FacilityState) : Type 0 where
  pub last_is : s.last ≡ p.wheel.last_tick
  pub now_is : s.now ≡ p.wheel.now
  pub serial_is : s.next_serial ≡ p.next_serial
  pub length_is : length s.pending ≡ length p.wheel.pending
  pub capacity_is : s.capacity ≡ p.capacity
  pub clients_are : length s.numbers ≡ p.clients
  pub closed_is : s.is_closed ≡ p.is_closed
  pub room_is : s.has_room ≡ p.has_room

pub agrees : {p : Fields} {v : FacilityView} → IsFacility p → view_of p ≡ v → AgreesWithFields p v.state
agrees {p} {v} a e = subst (λ (u : FacilityView). AgreesWithFields p u.state) e (record {
  last_is = refl;
  now_is = refl;
  serial_is = refl;
  length_is = refl;
  capacity_is = refl;
  clients_are = length-take-le p.clients p.numbers (omega (arith, a.numbered.all_numbers, a.limits.few_clients));
  closed_is = refl;
  room_is = refl;
})

-- a timer that is started or restarted now
pub record IsNewTimer (p : Fields) (client : ℕ) (t : Timer) : Type 0 where
  pub not_past : p.wheel.now ≤ t.deadline
  pub within : t.deadline ≤ p.wheel.last_tick
  pub in_range : t.deadline ≤ LAST
  pub serial_is : t.serial ≡ p.next_serial
  pub unspent : t.serial ≤ LAST
  pub client_is : t.client ≡ client

pub in_time : {p : Fields} {v : FacilityView} → IsFacility p → view_of p ≡ v → Wheels.IsWellFormed p.wheel
    → {client number left action : ℕ} (interval : ℕ) → interval_refusal v.state interval ≡ None → left ≤ interval → {t : Timer}
    → t ≡ new_timer v.state client number left action → IsNewTimer p client t
in_time {p} {v} a e w {left = left} interval h few {t} is =
    let told = agrees a e in
    let i = timely v.state interval h in
    let deadline : t.deadline ≡ v.state.now + left = ap (λ (u : Timer). u.deadline) is in
    let serial : t.serial ≡ v.state.next_serial = ap (λ (u : Timer). u.serial) is in
    let within : t.deadline ≤ p.wheel.last_tick = omega (arith, deadline, told.now_is, told.last_is, few, i.positive, i.in_time) in
    record {
      not_past = omega (arith, deadline, told.now_is);
      within = within;
      in_range = omega (arith, within, w.last_in_range);
      serial_is = serial ∙ told.serial_is;
      unspent = omega (arith, serial, i.unspent);
      client_is = ap (λ (u : Timer). u.client) is;
    }

-- and its deadline is a tick of some clock
pub in_clock : {p : Fields} {v : FacilityView} → IsFacility p → view_of p ≡ v → Wheels.IsWellFormed p.wheel
    → (left interval : ℕ) → interval_refusal v.state interval ≡ None → left ≤ interval → v.state.now + left ≤ LAST
in_clock {p} {v} a e w left interval h few =
    (in_time a e w {client = 0} {number = 0} {action = 0} interval h few {t = new_timer v.state 0 0 left 0} refl).in_range

-- The beginning.

pub view_is : {s t : FacilityState} {xs ys : List Notice} → s ≡ t → xs ≡ ys
    → let a : FacilityView = record { state = s; waiting = xs } in let b : FacilityView = record { state = t; waiting = ys } in a ≡ b
view_is e f = cc

-- the fields that a facility is opened with
abbrev pub first_fields : Wheels.WheelState → Config → List Timer → ℕ → Fields
first_fields w c returned room = record {
  wheel = w;
  clients = c.clients;
  capacity = c.capacity;
  next_serial = c.first_serial;
  numbers = replicate 64 c.first_number;
  counts = replicate 64 0;
  is_closed = false;
  has_room = false;
  returned = returned;
  handed = 0;
  list_room = room;
}

pub view-open : (w : Wheels.WheelState) (c : Config) (returned : List Timer) (room : ℕ) → w.pending ≡ [] → w.due ≡ []
    → w.now ≡ c.first_tick → c.clients ≤ 64 → returned ≡ []
    → view_of (first_fields w c returned room) ≡ with_nothing_waiting (opened c w.last_tick w.layout)
view-open w c returned room p d n few r = rw (p, d, n, r, take-replicate c.clients 64 c.first_number few) refl

pub facility-open : (w : Wheels.WheelState) (c : Config) (returned : List Timer) (room : ℕ) → IsInRange c → w.pending ≡ [] → w.due ≡ []
    → w.last_serial < c.first_serial → returned ≡ [] → IsFacility (first_fields w c returned room)
facility-open w c returned room i p d l r =
    let none : kept_in w returned ≡ [] = rw (p, d, r) refl in
    let in_range : ℕ → Type 0 = λ k. k ≤ LAST + 1 in
    record {
      limits = record { few_clients = i.few_clients; capacity_in_range = i.capacity_in_range };
      numbered = record {
        all_numbers = refl;
        numbers_in_range = recursion_from_All in_range (replicate 64 c.first_number)
            (All-replicate in_range 64 c.first_number (omega (arith, i.number_in_range)));
      };
      timers = record {
        few_pending = rw p (omega arith);
        serial_unused = l;
        serial_in_range = omega (arith, i.serial_in_range);
        counted = subst (λ ts. AreCounted c.clients (replicate 64 0) ts) (sym none) (counted-none c.clients);
      };
      handed_in_range = omega arith;
      roomy = λ (e : false ≡ true). absurd (cc);
    }

-- other timers, in a wheel with the same room; the rest stays
with_timers : {p : Fields} → IsFacility p → {w w' : Wheels.WheelState} → w' ≡ w → w.room ≡ p.wheel.room
    → (next_serial : ℕ) (counts : List ℕ) → length w.pending ≤ p.capacity → w.last_serial < next_serial
    → next_serial ≤ LAST + 1 → AreCounted p.clients counts (kept_in w (drop p.handed p.returned))
    → IsFacility (record p { wheel = w'; next_serial = next_serial; counts = counts })
with_timers {p} a {w} {w'} e same next_serial counts few unused in_range counted =
    subst (λ (u : Wheels.WheelState). IsFacility (record p { wheel = u; next_serial = next_serial; counts = counts })) (sym e) (record {
      limits = a.limits;
      numbered = a.numbered;
      timers = record { few_pending = few; serial_unused = unused; serial_in_range = in_range; counted = counted };
      handed_in_range = a.handed_in_range;
      roomy = λ roomy. let r = a.roomy roomy in (omega (arith, r.0, same), r.1);
    })

-- Ticks.

-- an accepted tick is before the end of the clock
pub before_end : {p : Fields} {v : FacilityView} → IsFacility p → view_of p ≡ v → Wheels.IsWellFormed p.wheel
    → tick_refusal v.state ≡ None → p.wheel.now < p.wheel.last_tick
before_end {p} {v} a e w h =
    let r = agrees a e in
    omega (arith, r.now_is, r.last_is, w.now_in_range, (ticking v.state h).before_last)

pub view-tick : {p : Fields} {v : FacilityView} → IsFacility p → view_of p ≡ v → drop p.handed p.returned ≡ []
    → tick_refusal v.state ≡ None → {w' : Wheels.WheelState} → w' ≡ Wheels.after_tick p.wheel
    → view_of (record p { wheel = w' }) ≡ view_after (step v.state Tick 0)
view-tick {p} {v} a e none r t =
    let s : FacilityState = (view_of p).state in
    let waits : (view_of (record p { wheel = Wheels.after_tick p.wheel })).waiting ≡ notices_in (accepted s Tick 0).outs =
    rw none (append-nil (map (λ t. Expired t) (timers_of (Wheels.after_tick p.wheel).due)))
    ∙ ap (map (λ t. Expired t)) (timers_of-filter (is_due_at (p.wheel.now + 1)) p.wheel.pending)
    ∙ sym (notices_in-map (λ t. Expired t) (expired_next s)) in
    rw (t, r) (view_is refl waits ∙ ap (λ (u : FacilityView). view_after (accepted u.state Tick 0)) e)

pub facility-tick : {p : Fields} → IsFacility p → p.wheel.due ≡ [] → {w' : Wheels.WheelState} → w' ≡ Wheels.after_tick p.wheel
    → IsFacility (record p { wheel = w' })
facility-tick {p} a h t =
    let rest : List Timer = drop p.handed p.returned in
    with_timers a t refl p.next_serial p.counts
    (omega (arith, filter_no_longer (λ x. not (is_due_at (p.wheel.now + 1) x.timer)) p.wheel.pending, a.timers.few_pending))
    a.timers.serial_unused a.timers.serial_in_range
    (counted-as a.timers.counted (kept_in (Wheels.after_tick p.wheel) rest) (λ client. omega (
      arith,
      ap (λ es. count_of client (timers_of es)) h,
      count-kept client p.wheel rest,
      count-kept client (Wheels.after_tick p.wheel) rest,
      count-tick client (p.wheel.now + 1) p.wheel.pending,
    )))

-- The close.

pub view-close : {p : Fields} {v : FacilityView} → IsFacility p → view_of p ≡ v → v.waiting ≡ [] → p.is_closed ≡ false
    → {list : List Timer} → list ≡ timers_of p.wheel.pending
    → {w' : Wheels.WheelState} → w' ≡ Wheels.after_clear p.wheel → (room : ℕ)
    → view_of (record p { wheel = w'; is_closed = true; returned = list; handed = 0; list_room = room }) ≡ view_after (step v.state Close 0)
view-close {p} {v} a e h c l t room =
    let s : FacilityState = (view_of p).state in
    rw (t, l) (view_is refl (rw (idle a e h).none_due (sym (notices_in-map (λ t. Returned t) (timers_of p.wheel.pending)))))
    ∙ ap (λ b. view_after (step_of_close s b)) (sym c) ∙ ap (λ (u : FacilityView). view_after (step u.state Close 0)) e

pub facility-close : {p : Fields} {v : FacilityView} → IsFacility p → view_of p ≡ v → v.waiting ≡ [] → {list : List Timer}
    → list ≡ timers_of p.wheel.pending → {w' : Wheels.WheelState} → w' ≡ Wheels.after_clear p.wheel
    → (room : ℕ) → p.list_room ≤ room
    → IsFacility (record p { wheel = w'; is_closed = true; returned = list; handed = 0; list_room = room })
facility-close {p} a e h {list} l t room more =
    let i : IsIdle p = idle a e h in
    let rest : List Timer = drop p.handed p.returned in
    subst (λ (u : Wheels.WheelState). IsFacility (record p { wheel = u; is_closed = true; returned = list; handed = 0; list_room = room }))
    (sym t) (record {
      limits = a.limits;
      numbered = a.numbered;
      timers = record {
        few_pending = omega arith;
        serial_unused = a.timers.serial_unused;
        serial_in_range = a.timers.serial_in_range;
        counted = counted-as a.timers.counted (kept_in (Wheels.after_clear p.wheel) list) (λ client. omega (
          arith,
          ap (λ es. count_of client (timers_of es)) i.none_due,
          ap (count_of client) i.none_returned,
          ap (count_of client) l,
          count-kept client p.wheel rest,
          count-kept client (Wheels.after_clear p.wheel) list,
        ));
      };
      handed_in_range = omega arith;
      roomy = λ roomy. let r = a.roomy roomy in (r.0, omega (arith, r.1, more));
    })

-- Requests.

-- the fields with the number used up
abbrev pub with_used : ℕ → ℕ → Fields → Fields
with_used client number p = record p { numbers = slice_set p.numbers client (number + 1) }

pub view-used : {p : Fields} {v : FacilityView} → IsFacility p → view_of p ≡ v → (client number : ℕ) → client < p.clients
    → view_of (with_used client number p) ≡ record v { state = with_number client number v.state }
view-used {p} a e client number l =
    ap (λ ns. record (view_of p) { state = record (view_of p).state { numbers = ns } }) (take-set-lt p.clients p.numbers client (number + 1) l)
    ∙ ap (λ (u : FacilityView). record u { state = with_number client number u.state }) e

pub facility-used : {p : Fields} → IsFacility p → (client number : ℕ) → number ≤ LAST → IsFacility (with_used client number p)
facility-used {p} a client number l =
    let in_range : ℕ → Type 0 = λ k. k ≤ LAST + 1 in record {
      limits = a.limits;
      numbered = record {
        all_numbers = length-set p.numbers client (number + 1) ∙ a.numbered.all_numbers;
        numbers_in_range = recursion_from_All in_range (slice_set p.numbers client (number + 1)) (All-set in_range p.numbers client (number + 1)
            (omega (arith, l)) (All-from_recursion in_range p.numbers a.numbered.numbers_in_range));
      };
      timers = a.timers;
      handed_in_range = a.handed_in_range;
      roomy = a.roomy;
    }

-- the answer and the view of an accepted request
answered_by : (v : FacilityView) {o : Option Reason} (old new : Option Timer) {answer : Answer} {after : FacilityView}
    → None ≡ o → answer ≡ answer_to old new (place_in answer)
    → after ≡ with_expiries (due_at_start v.state new) (after_request old new (place_in answer) v.state)
    → IsAnswered o old new v.state answer after
answered_by v {o} old new {answer} {after} n a b = subst (λ x. IsAnswered x old new v.state answer after) n (a, b)

-- the view with one more timer, which is pending or waits
abbrev with_one_started : ℕ → Timer → Option Timer → FacilityView → FacilityView
with_one_started place t old v =
    with_expiries (due_at_start v.state (Some t)) (after_request old (Some t) place v.state)

-- of a request that starts a timer
start_view : {p : Fields} {v : FacilityView} → IsIdle p → view_of p ≡ v → (place : ℕ) (t : Timer) (old : Option Timer)
    → {w' : Wheels.WheelState}
    → w' ≡ Wheels.after_held_start place t (record p.wheel { pending = without_found old p.wheel.pending })
    → view_of (record p { wheel = w'; next_serial = p.next_serial + 1 }) ≡ with_one_started place t old v
start_view {p} i e place t old s = rw s (elim (either (nat_lt p.wheel.now t.deadline)) [
  | inl k ↦ rw k (view_is refl (rw (i.none_due, i.none_returned) refl))
  | inr k ↦ rw k (view_is refl (rw (i.none_due, i.none_returned) refl))
] ∙ ap (with_one_started place t old) e)

handle_is : (h : Handle) (t : Timer) → h.serial ≡ t.serial → h ≡ handle_of h.place t
handle_is h t e = ap (λ n. let k : Handle = record { place = h.place; serial = n } in k) e

pub answered-start : {p : Fields} {v : FacilityView} → IsFacility p → view_of p ≡ v → v.waiting ≡ [] → {o : Option Reason} → None ≡ o
    → {t new : Timer} → t ≡ new → (handle : Handle) → handle.serial ≡ t.serial
    → {w' : Wheels.WheelState} → w' ≡ Wheels.after_held_start handle.place t p.wheel
    → IsAnswered o None (Some new) v.state (Started handle t.deadline) (view_of (record p { wheel = w'; next_serial = p.next_serial + 1 }))
answered-start {p} {v} a e h {o} n {t} same handle fresh {w'} s =
    let after : FacilityView = view_of (record p { wheel = w'; next_serial = p.next_serial + 1 }) in
    subst (λ (u : Timer). IsAnswered o None (Some u) v.state (Started handle t.deadline) after) same
    (answered_by v None (Some t) n (ap (λ k. Started k t.deadline) (handle_is handle t fresh))
    (start_view (idle a e h) e handle.place t None s))

-- the fields with one more timer of the client
abbrev pub with_one_more : ℕ → Fields → Fields
with_one_more client p = record p { counts = slice_set p.counts client (slice_index p.counts client + 1) }

-- a wheel that holds one more timer, pending or due
record HoldsOneMore (w : Wheels.WheelState) (rest : List Timer) (t : Timer) (new : Wheels.WheelState) : Type 0 where
  counted : (client : ℕ) → count_of client (kept_in new rest) ≡ one_of client t + count_of client (kept_in w rest)
  few : length new.pending ≤ length w.pending + 1
  same_room : new.room ≡ w.room

one_more : (w : Wheels.WheelState) (rest : List Timer) (place : ℕ) (t : Timer)
    → HoldsOneMore w rest t (Wheels.after_held_start place t w)
one_more w rest place t =
    let e : Entry = record { place = place; timer = t } in
    elim (either (nat_lt w.now t.deadline)) [
      | inl k ↦ rw k (record {
        counted = λ client. omega (
          arith,
          count-kept client w rest,
          count-kept client (Wheels.after_start place t w) rest,
          count-put client e w.pending,
        );
        few = omega (arith, length-put e w.pending);
        same_room = refl;
      })
      | inr k ↦ rw k (record {
        counted = λ client. omega (
          arith,
          count-kept client w rest,
          count-kept client (Wheels.after_due_start place t w) rest,
          ap (count_of client) (map-append timer_of w.due (e ∷ [])),
          count-append client (timers_of w.due) (t ∷ []),
        );
        few = omega arith;
        same_room = refl;
      })
    ]

pub facility-start : {p : Fields} → IsFacility p → length p.wheel.pending ≢ p.capacity → (place : ℕ) {client : ℕ} {t : Timer}
    → IsNewTimer p client t → client < p.clients → {w' : Wheels.WheelState} → w' ≡ Wheels.after_held_start place t p.wheel
    → IsFacility (with_one_more client (record p { wheel = w'; next_serial = p.next_serial + 1 }))
facility-start {p} a room place {client} {t} i l {w'} e =
    let rest : List Timer = drop p.handed p.returned in
    let more = one_more p.wheel rest place t in
    subst (λ k. IsFacility (with_one_more k (record p { wheel = w'; next_serial = p.next_serial + 1 }))) i.client_is
    (with_timers a e more.same_room (p.next_serial + 1) _ (omega (arith, more.few, a.timers.few_pending, room))
    (omega (arith, i.serial_is, held_start-last_serial place t p.wheel)) (omega (arith, i.serial_is, i.unspent))
    (counted-more a.timers.counted t (kept_in (Wheels.after_held_start place t p.wheel) rest) (omega (arith, l, i.client_is))
    a.limits.few_clients more.counted))

-- nothing is due, so what the wheel finds is pending
pub found_pending : {p : Fields} {v : FacilityView} → IsFacility p → view_of p ≡ v → v.waiting ≡ [] → (handle : Handle) (o : Option Timer)
    → o ≡ Wheels.held_at handle p.wheel → first_timer (has_handle handle) v.state.pending ≡ o
found_pending {p} a e h handle o f =
    sym (f ∙ (held_when_none_due handle p.wheel (idle a e h).none_due
    ∙ ap (λ (u : FacilityView). first_timer (has_handle handle) u.state.pending) e))

-- a pending timer that a client names by its handle is its own
record IsOwn (p : Fields) (client : ℕ) (handle : Handle) (t : Timer) : Type 0 where
  there : Wheels.timer_at handle p.wheel ≡ Some t
  among : IsMember t (timers_of p.wheel.pending)
  owner : t.client ≡ client

own : {p : Fields} {v : FacilityView} → IsFacility p → view_of p ≡ v → (client : ℕ) (handle : Handle) (t : Timer)
    → timer_named v.state client (ByHandle handle) ≡ Some t → IsOwn p client handle t
own {p} a e client handle t h =
    let found = of_client_some client (Wheels.timer_at handle p.wheel) t
    (ap (λ (u : FacilityView). timer_named u.state client (ByHandle handle)) e ∙ h) in
    record { there = found.0; among = first_timer-among (has_handle handle) t p.wheel.pending found.0; owner = found.1 }

-- the wheel without a pending timer
abbrev without : Timer → Wheels.WheelState → Wheels.WheelState
without t w = record w { pending = without_found (Some t) w.pending }

removed_is : {p : Fields} {client : ℕ} {handle : Handle} {t : Timer} → IsOwn p client handle t → Wheels.IsWellFormed p.wheel → IsIdle p
    → Wheels.after_removal handle p.wheel ≡ without t p.wheel
removed_is {p} {client} {handle} o i none = removal_when_none_due handle p.wheel i.distinct none.none_due
    ∙ ap (λ x. record p.wheel { pending = without_found x p.wheel.pending }) o.there

kept_after_stop : {p : Fields} {client : ℕ} {handle : Handle} {t : Timer} → IsOwn p client handle t → Wheels.IsWellFormed p.wheel
    → (c : ℕ) → let rest : List Timer = drop p.handed p.returned in
    count_of c (kept_in p.wheel rest) ≡ one_of c t + count_of c (kept_in (without t p.wheel) rest)
kept_after_stop {p} {client} {handle} {t} o i c = omega (
  arith,
  count-kept c p.wheel (drop p.handed p.returned),
  count-kept c (without t p.wheel) (drop p.handed p.returned),
  count-without c t p.wheel.pending i.distinct o.among,
)

-- a stop of a client's timer: nothing is due, so it is taken from those that are pending
pub record IsStopped (p : Fields) (client : ℕ) (t : Timer) (w' : Wheels.WheelState) : Type 0 where
  pub counted : 0 < slice_index p.counts client
  pub stopped : w' ≡ record p.wheel { pending = without_found (Some t) p.wheel.pending }
  pub parts : {counts : List ℕ} → counts ≡ slice_set p.counts client (slice_index p.counts client - 1)
      → IsFacility (record p { wheel = w'; counts = counts })

pub stopped_now : {p : Fields} {v : FacilityView} → IsFacility p → view_of p ≡ v → Wheels.IsWellFormed p.wheel → v.waiting ≡ []
    → (client : ℕ) (handle : Handle) (t : Timer) → timer_named v.state client (ByHandle handle) ≡ Some t
    → {w' : Wheels.WheelState} → w' ≡ Wheels.after_removal handle p.wheel → IsStopped p client t w'
stopped_now {p} a e i h client handle t f {w'} s =
    let o : IsOwn p client handle t = own a e client handle t f in
    let kept : List Timer = kept_in (without t p.wheel) (drop p.handed p.returned) in
    let stopped : w' ≡ without t p.wheel = s ∙ removed_is o i (idle a e h) in
    record {
      counted = subst (λ k. 0 < slice_index p.counts k) o.owner (is_counted a.timers.counted t kept (kept_after_stop o i)).some;
      stopped = stopped;
      parts = λ less. with_timers a stopped refl p.next_serial _
          (omega (arith, filter_no_longer (λ x. not (has_serial t.serial x.timer)) p.wheel.pending, a.timers.few_pending))
          a.timers.serial_unused a.timers.serial_in_range (counted-less a.timers.counted t kept (kept_after_stop o i)
          (less ∙ ap (λ k. slice_set p.counts k (slice_index p.counts k - 1)) (sym o.owner)));
    }

pub answered-stop : {p : Fields} {v : FacilityView} → IsFacility p → view_of p ≡ v → v.waiting ≡ [] → {found : Option Timer} {t : Timer}
    → Some t ≡ found → {w' : Wheels.WheelState} → w' ≡ record p.wheel { pending = without_found (Some t) p.wheel.pending }
    → IsAnswered (name_refusal found) found None v.state (Stopped t.serial) (view_of (record p { wheel = w' }))
answered-stop {p} {v} a e h {found} {t} f {w'} s =
    subst (λ o. IsAnswered (name_refusal o) o None v.state (Stopped t.serial) (view_of (record p { wheel = w' }))) f
    (answered_by v (Some t) None refl refl
    (rw s (ap (λ (u : FacilityView). record u { state = after_request (Some t) None 0 u.state }) e) ∙ view_is refl h))

-- The counts.

-- the counts, in a state in which nothing waits
pub pending_is : {p : Fields} {v : FacilityView} → IsFacility p → view_of p ≡ v → v.waiting ≡ [] → (client : ℕ)
    → slice_index p.counts client ≡ pending_of v.state client
pending_is {p} a e h client =
    let i : IsIdle p = idle a e h in
    subst (λ (u : FacilityView). slice_index p.counts client ≡ pending_of u.state client) e (omega (
      arith,
      ap (λ es. count_of client (timers_of es)) i.none_due,
      ap (count_of client) i.none_returned,
      count-kept client p.wheel (drop p.handed p.returned),
      a.timers.counted.each client,
    ))

-- so it is at most as many as are pending
pub few_counted : {p : Fields} {v : FacilityView} → IsFacility p → view_of p ≡ v → v.waiting ≡ [] → (client : ℕ)
    → slice_index p.counts client ≤ MAX_PENDING
few_counted {p} {v} a e h client = omega (
  arith,
  pending_is a e h client,
  count_in_range client (timers_of v.state.pending),
  length-map v.state.pending timer_of,
  (agrees a e).length_is,
  a.timers.few_pending,
  a.limits.capacity_in_range,
)

kept_after_expiry : (w : Wheels.WheelState) (rest : List Timer) (t : Timer) → Wheels.first_due w ≡ Some t → (client : ℕ)
    → count_of client (kept_in w rest) ≡ one_of client t + count_of client (kept_in (Wheels.after_expiry w) rest)
kept_after_expiry w rest t h client = omega (
  arith,
  count-kept client w rest,
  count-kept client (Wheels.after_expiry w) rest,
  count-front client t (timers_of w.due) h,
  ap (count_of client) (timers_of-drop w.due),
)
  where
    timers_of-drop : (es : List Entry) → timers_of (drop 1 es) ≡ drop 1 (timers_of es)
    timers_of-drop [] = refl
    timers_of-drop (e ∷ es) = refl

kept_after_return : (p : Fields) (t : Timer) → slice_get p.returned p.handed ≡ Some t → (client : ℕ)
    → count_of client (kept_in p.wheel (drop p.handed p.returned))
    ≡ one_of client t + count_of client (kept_in p.wheel (drop (p.handed + 1) p.returned))
kept_after_return p t h client =
    let next : drop p.handed p.returned ≡ t ∷ drop (p.handed + 1) p.returned =
    drop_more p.returned p.handed t (slice_get_within p.returned p.handed t h)
    ∙ ap (λ u. u ∷ drop (p.handed + 1) p.returned) (get_or_from_slice_get p.returned p.handed t t h) in
    omega (
      arith,
      count-kept client p.wheel (drop p.handed p.returned),
      count-kept client p.wheel (drop (p.handed + 1) p.returned),
      ap (count_of client) next,
    )

-- a timer that is handed out is counted, and then no longer
pub due_counted : {p : Fields} → IsFacility p → (t : Timer) → Wheels.first_due p.wheel ≡ Some t → IsCounted p.clients p.counts t
due_counted {p} a t h = is_counted a.timers.counted t (kept_in (Wheels.after_expiry p.wheel) (drop p.handed p.returned))
    (kept_after_expiry p.wheel (drop p.handed p.returned) t h)

pub facility-expiry : {p : Fields} → IsFacility p → (t : Timer) → Wheels.first_due p.wheel ≡ Some t → {w' : Wheels.WheelState}
    → w' ≡ Wheels.after_expiry p.wheel → {counts : List ℕ} → counts ≡ slice_set p.counts t.client (slice_index p.counts t.client - 1)
    → IsFacility (record p { wheel = w'; counts = counts })
facility-expiry {p} a t h e less =
    with_timers a e refl p.next_serial _ a.timers.few_pending a.timers.serial_unused a.timers.serial_in_range
    (counted-less a.timers.counted t (kept_in (Wheels.after_expiry p.wheel) (drop p.handed p.returned))
    (kept_after_expiry p.wheel (drop p.handed p.returned) t h) less)

-- if nothing is due, removing the first due timer changes nothing
pub facility-nothing_due : {p : Fields} → IsFacility p → Wheels.first_due p.wheel ≡ None → {w' : Wheels.WheelState}
    → w' ≡ Wheels.after_expiry p.wheel → IsFacility (record p { wheel = w' })
facility-nothing_due {p} a h e = subst (λ (u : Wheels.WheelState). IsFacility (record p { wheel = u }))
    (sym (e ∙ ap (λ ds. let w : Wheels.WheelState = record p.wheel { due = ds } in w) (none_at p.wheel.due h))) a
  where
    none_at : (es : List Entry) → slice_get (timers_of es) 0 ≡ None → drop 1 es ≡ es
    none_at [] h = refl
    none_at (e ∷ es) h = absurd (cc)

pub returned_counted : {p : Fields} → IsFacility p → (t : Timer) → slice_get p.returned p.handed ≡ Some t → IsCounted p.clients p.counts t
returned_counted {p} a t h = is_counted a.timers.counted t (kept_in p.wheel (drop (p.handed + 1) p.returned)) (kept_after_return p t h)

pub facility-returned : {p : Fields} → IsFacility p → (t : Timer) → slice_get p.returned p.handed ≡ Some t
    → {counts : List ℕ} → counts ≡ slice_set p.counts t.client (slice_index p.counts t.client - 1)
    → IsFacility (record p { counts = counts; handed = p.handed + 1 })
facility-returned {p} a t h less = record {
  limits = a.limits;
  numbered = a.numbered;
  timers = record {
    few_pending = a.timers.few_pending;
    serial_unused = a.timers.serial_unused;
    serial_in_range = a.timers.serial_in_range;
    counted = counted-less a.timers.counted t (kept_in p.wheel (drop (p.handed + 1) p.returned)) (kept_after_return p t h) less;
  };
  handed_in_range = omega (arith, slice_get_within p.returned p.handed t h);
  roomy = a.roomy;
}

-- Restarts.

-- a restart of a client's timer: a pending timer is replaced by one that is pending or due
pub record IsRestarted (p : Fields) (old t : Timer) (place : ℕ) (w' : Wheels.WheelState) : Type 0 where
  pub restarted : w' ≡ Wheels.after_held_start place t (record p.wheel { pending = without_found (Some old) p.wheel.pending })
  pub parts : IsFacility (record p { wheel = w'; next_serial = p.next_serial + 1 })

-- a timer that was found is removed
pub length-found : (test : Entry → Bool) (t : Timer) (es : List Entry) → first_timer test es ≡ Some t
    → length (without_found (Some t) es) + 1 ≤ length es
length-found test t [] h = absurd (cc)
length-found test t (e ∷ es) h = elim (either (test e)) [
  | inl k ↦
      let f : Some e.timer ≡ Some t = rw k at h in
      rw (same_serial e.timer t f) (omega (arith, filter_no_longer (λ (x : Entry). not (has_serial t.serial x.timer)) es))
  | inr k ↦ let n = length-found test t es (rw k at h) in
      elim (either (not (has_serial t.serial e.timer))) [ inl m ↦ rw m (omega arith) | inr m ↦ rw m (omega arith) ]
] where
  same_serial : (x t : Timer) → Some x ≡ Some t → not (has_serial t.serial x) ≡ false
  same_serial x t h = let e : x.serial ≡ t.serial = ap (λ (u : Timer). u.serial) (some_same x t h) in grind (arith, nat_tests)

-- nothing is due; no client has more or fewer timers
pub restarted_now : {p : Fields} {v : FacilityView} → IsFacility p → view_of p ≡ v → Wheels.IsWellFormed p.wheel → v.waiting ≡ []
    → (client : ℕ) (handle : Handle) (old : Timer) → timer_named v.state client (ByHandle handle) ≡ Some old
    → {t : Timer} → IsNewTimer p client t → {place : ℕ} {w' : Wheels.WheelState}
    → w' ≡ Wheels.after_held_start place t (Wheels.after_removal handle p.wheel) → IsRestarted p old t place w'
restarted_now {p} a e w h client handle old f {t} i {place} {w'} s =
    let o : IsOwn p client handle old = own a e client handle old f in
    let rest : List Timer = drop p.handed p.returned in
    let left : Wheels.WheelState = without old p.wheel in
    let restarted : w' ≡ Wheels.after_held_start place t left = s ∙ ap (Wheels.after_held_start place t) (removed_is o w (idle a e h)) in
    let more = one_more left rest place t in
    record {
      restarted = restarted;
      parts = with_timers a restarted more.same_room (p.next_serial + 1) p.counts
          (omega (arith, more.few, length-found (has_handle handle) old p.wheel.pending o.there, a.timers.few_pending))
          (omega (arith, i.serial_is, held_start-last_serial place t left)) (omega (arith, i.serial_is, i.unspent))
          (counted-as a.timers.counted (kept_in (Wheels.after_held_start place t left) rest) (λ c.
          let same : one_of c old ≡ one_of c t = ap (λ k. if k == c then 1 else 0) (o.owner ∙ sym i.client_is) in
          omega (arith, same, kept_after_stop o w c, more.counted c)));
    }

pub answered-restart : {p : Fields} {v : FacilityView} → IsFacility p → view_of p ≡ v → v.waiting ≡ []
    → {found : Option Timer} {old : Timer} → Some old ≡ found → {o : Option Reason} → None ≡ o
    → {t new : Timer} → t ≡ new → (back : Handle) → back.serial ≡ t.serial
    → {w' : Wheels.WheelState} → IsRestarted p old t back.place w'
    → IsAnswered (first_refusal (name_refusal found) o) found (Some new) v.state (Restarted back t.deadline old.serial)
    (view_of (record p { wheel = w'; next_serial = p.next_serial + 1 }))
answered-restart {p} {v} a e h {found} {old} f {o} n {t} {new} same back fresh {w'} i =
    let after : FacilityView = view_of (record p { wheel = w'; next_serial = p.next_serial + 1 }) in
    let answer : Answer = Restarted back t.deadline old.serial in
    subst (λ x. IsAnswered (first_refusal (name_refusal x) o) x (Some new) v.state answer after) f
    (subst (λ (u : Timer). IsAnswered o (Some old) (Some u) v.state answer after) same
    (answered_by v (Some old) (Some t) n (ap (λ k. Restarted k t.deadline old.serial) (handle_is back t fresh))
    (start_view (idle a e h) e back.place t (Some old) i.restarted)))

-- a wheel that runs out of memory before the facility is full has no room that was made
pub no_room : {p : Fields} {v : FacilityView} → IsFacility p → view_of p ≡ v → v.waiting ≡ []
    → length v.state.pending ≢ v.state.capacity → p.wheel.room ≤ Wheels.held_count p.wheel → v.state.has_room ≡ false
no_room {p} a e h other full =
    let t = agrees a e in
    let due : length p.wheel.due ≡ 0 = ap length (idle a e h).none_due in
    elim (either p.has_room) [
      | inl roomy ↦ absurd (omega (arith, due, other, full, (a.roomy roomy).0, t.length_is, t.capacity_is, a.timers.few_pending))
      | inr not_roomy ↦ t.room_is ∙ not_roomy
    ]
