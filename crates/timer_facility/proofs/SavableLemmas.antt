-- States whose dump can be read: the first one, those after events, and one that is restored.
use Rattle.std.proofs.Common.{◌≡◌, ◌<◌, ◌≤◌, ◌+◌, ◌-◌, ℕ, Bool, true, false, List, [], ◌∷◌, ◌++◌, length, map, refl, sym, ◌∙◌, ap, subst, inl, inr, arith, length-append}
use Rattle.std.specs.Prelude.{filter, replicate, nat_lt, Option, Some, None}
use Rattle.std.specs.List.{AllByRecursion}
use Rattle.std.proofs.lemmas.List.{length-map, length-set}
use Rattle.std.proofs.lemmas.List.Elements.{recursion_from_All, All-from_recursion, All-replicate, All-set}
use Rattle.timer_base.proofs.Basics.{either}
use Rattle.timer_base.proofs.OrderLaws.{All-append, All-weaken, All-in_order, length-in_order}
use Rattle.timer_base.specs.Layout.{Layout}
use Rattle.timer_base.specs.Order.{in_order, itself, AreRising, AreBelow}
use Rattle.timer_base.specs.Pending.{Entry, timer_of, timers_of, put}
use Rattle.timer_base.specs.PlainState.{at_first_place}
use Rattle.timer_facility.specs.Types.{LAST, Timer, Config, Event, Out, Limits, TickFault}
use Rattle.timer_facility.specs.declared.event.Event.TheVariants as Events
use Rattle.timer_facility.specs.declared.saved.Stage.TheVariants.{Begin, Whole}
use Rattle.timer_facility.specs.Config.{IsInRange}
use Rattle.timer_facility.specs.Played.{singles_of, ArePlaced, IsRun}
use Rattle.timer_facility.specs.Restored.{limits_of, restored}
use Rattle.timer_facility.specs.Run.{PlacedEvent, state_after, bare_entry, bare_state}
use Rattle.timer_facility.specs.Savable.{IsSavableTimer, IsSavable, action_in, HaveActionsInRange, AreSaidTimers, IsWithin, read_of}
use Rattle.timer_facility.specs.Saved.{undated, by_serial, ReadState, IsReadState, IsRead, serial_of_last}
use Rattle.timer_facility.specs.State.{FacilityState, IsSound, opened, Deadline, After, At, ticks_until, tested_interval, ModelRequest, Start, Stop, Restart, action_of, SingleEvent, Asked, Tick, Close, Dump}
use Rattle.timer_facility.specs.Step.{with_number, new_timer, timer_stopped, timer_started, without_timer, with_timer, step, step_of_tick, step_of_close}
use Rattle.timer_facility.specs.Verdict.{not_taken, tick_refusal, interval_refusal, refusal, timer_named, name_refusal}
use Rattle.timer_facility.proofs.PlayedLemmas.{state_after-append}
use Rattle.timer_facility.proofs.SerialOrder.{rising-by_serial}
use Rattle.timer_facility.proofs.StepLemmas.{by_verdict, started-new}
use Rattle.timer_facility.proofs.VerdictLemmas.{takable, timely, startable, neither, ticking}

-- What holds of all timers of a list of entries.

filtered : (P : Timer → Type 0) (p : Entry → Bool) (es : List Entry) → AllByRecursion P (timers_of es)
    → AllByRecursion P (timers_of (filter p es))
filtered P p [] a = tt
filtered P p (e ∷ es) a = elim (either (p e)) [
  | inl k ↦ rw k (a.0, filtered P p es a.1)
  | inr k ↦ rw k (filtered P p es a.1)
]

with_put : (P : Timer → Type 0) (e : Entry) (es : List Entry) → P e.timer → AllByRecursion P (timers_of es)
    → AllByRecursion P (timers_of (put e es))
with_put P e [] h a = (h, tt)
with_put P e (x ∷ xs) h a = elim (either (nat_lt e.timer.deadline x.timer.deadline)) [
  | inl k ↦ rw k (h, a)
  | inr k ↦ rw k (a.0, with_put P e xs h a.1)
]

-- The first state.

pub savable_opened : (config : Config) (last : ℕ) (layout : Layout) → IsInRange config → config.first_tick ≤ last
    → IsSavable (opened config last layout)
savable_opened config last layout c h = record {
  now_in_range = h;
  serial_some = c.serial_from_one;
  numbers_some = recursion_from_All (λ n. 1 ≤ n) (replicate config.clients config.first_number)
      (All-replicate (λ n. 1 ≤ n) config.clients config.first_number c.number_from_one);
  timers = tt;
  none_if_closed = λ (e : false ≡ true). absurd (cc);
}

-- A request.

savable_used : (s : FacilityState) (client number : ℕ) → IsSavable s → IsSavable (with_number client number s)
savable_used s client number i = record {
  now_in_range = i.now_in_range;
  serial_some = i.serial_some;
  numbers_some = recursion_from_All (λ n. 1 ≤ n) _ (All-set (λ n. 1 ≤ n) s.numbers client (number + 1) (omega arith)
      (All-from_recursion (λ n. 1 ≤ n) s.numbers i.numbers_some));
  timers = subst (λ clients. AllByRecursion (IsSavableTimer s.last clients) (timers_of s.pending))
      (sym (length-set s.numbers client (number + 1))) i.timers;
  none_if_closed = i.none_if_closed;
}

savable_without : (s : FacilityState) (old : Option Timer) → IsSavable s → IsSavable (without_timer old s)
savable_without s None i = i
savable_without s (Some t) i = record {
  now_in_range = i.now_in_range;
  serial_some = i.serial_some;
  numbers_some = i.numbers_some;
  timers = filtered (IsSavableTimer s.last (length s.numbers)) _ s.pending i.timers;
  none_if_closed = λ c. ap (filter _) (i.none_if_closed c);
}

savable_with : (s : FacilityState) (new : Option Timer) (place : ℕ) → IsSavable s → s.is_closed ≡ false
    → ((t : Timer) → new ≡ Some t → IsSavableTimer s.last (length s.numbers) t) → IsSavable (with_timer new place s)
savable_with s None place i unclosed h = i
savable_with s (Some t) place i unclosed h = record {
  now_in_range = i.now_in_range;
  serial_some = omega arith;
  numbers_some = i.numbers_some;
  timers = elim (either (nat_lt s.now t.deadline)) [
    | inl k ↦ rw k (with_put (IsSavableTimer s.last (length s.numbers)) (record { place = place; timer = t }) s.pending (h t refl) i.timers)
    | inr k ↦ rw k i.timers
  ];
  none_if_closed = λ c. absurd (let wrong : false ≡ true = sym unclosed ∙ c in cc);
}

-- a timer that is started is due up to the last tick
tested : (s : FacilityState) (deadline : Deadline) → ticks_until s deadline ≤ tested_interval s deadline
tested s (After interval) = omega arith
tested s (At tick) = omega arith

timely_new : (s : FacilityState) (client number action : ℕ) (deadline : Deadline) (t : Timer) → s.now ≤ s.last
    → interval_refusal s (tested_interval s deadline) ≡ None → Some (new_timer s client number (ticks_until s deadline) action) ≡ Some t
    → t.deadline ≤ s.last
timely_new s client number action deadline t l r h =
    let e : new_timer s client number (ticks_until s deadline) action ≡ t = cc in
    subst (λ (u : Timer). u.deadline ≤ s.last) e
    (omega (arith, l, (timely s (tested_interval s deadline) r).in_time, tested s deadline))

started-in_time : (s : FacilityState) (client number : ℕ) (request : ModelRequest) (t : Timer) → s.now ≤ s.last
    → refusal s client request ≡ None → timer_started s client number request ≡ Some t → t.deadline ≤ s.last
started-in_time s client number (Start deadline action) t l r h =
    timely_new s client number action deadline t l (startable s (tested_interval s deadline) r).unrefused h
started-in_time s client number (Stop name) t l r h = absurd (cc)
started-in_time s client number (Restart name deadline action) t l r h =
    timely_new s client number action deadline t l
    (neither (name_refusal (timer_named s client name)) (interval_refusal s (tested_interval s deadline)) r).1 h

savable_started : (s : FacilityState) (client number : ℕ) (request : ModelRequest) (t : Timer) → IsSavable s → action_of request ≤ LAST
    → not_taken s client number ≡ None → refusal s client request ≡ None → timer_started s client number request ≡ Some t
    → IsSavableTimer s.last (length s.numbers) t
savable_started s client number request t i small taken ok h =
    let new = started-new s client number request t h in
    let known = takable s client number taken in record {
      serial_some = omega (arith, new.serial_is, i.serial_some);
      owned = omega (arith, new.client_is, known.is_client);
      number_in_range = omega (arith, new.number_is, known.to_next, known.in_range);
      in_time = started-in_time s client number request t i.now_in_range ok h;
      action_in_range = omega (arith, new.action_is, small);
    }

savable_asked : (s : FacilityState) (client number : ℕ) (request : ModelRequest) (place : ℕ) → IsSavable s → action_of request ≤ LAST
    → IsSavable (step s (Asked client number request) place).state
savable_asked s client number request place i small =
    by_verdict (λ st. IsSavable st.state) s client number request place
    (λ reason. i)
    (λ reason taken. savable_used s client number i)
    (λ taken ok. savable_used _ client number
    (savable_with (without_timer (timer_stopped s client request) s) (timer_started s client number request) place
    (savable_without s (timer_stopped s client request) i) (takable s client number taken).is_open
    (λ t h. savable_started s client number request t i small taken ok h)))

-- Other events.

savable_ticked : (s : FacilityState) (o : Option TickFault) → tick_refusal s ≡ o → IsSavable s → IsSavable (step_of_tick s o).state
savable_ticked s (Some fault) e i = i
savable_ticked s None e i =
    let t = ticking s e in record {
      now_in_range = omega (arith, i.now_in_range, t.before_last);
      serial_some = i.serial_some;
      numbers_some = i.numbers_some;
      timers = filtered (IsSavableTimer s.last (length s.numbers)) _ s.pending i.timers;
      none_if_closed = λ c. absurd (let wrong : false ≡ true = sym t.is_open ∙ c in cc);
    }

savable_closed : (s : FacilityState) (closed : Bool) → IsSavable s → IsSavable (step_of_close s closed).state
savable_closed s true i = i
savable_closed s false i = record {
  now_in_range = i.now_in_range;
  serial_some = i.serial_some;
  numbers_some = i.numbers_some;
  timers = tt;
  none_if_closed = λ c. refl;
}

-- the action of the timer that an event starts
abbrev action_of_single : SingleEvent → ℕ
action_of_single (Asked client number request) = action_of request
action_of_single event = 0

abbrev AreSmall : List SingleEvent → Type 0
AreSmall events = AllByRecursion (λ event. action_of_single event ≤ LAST) events

pub savable_step : (s : FacilityState) (event : SingleEvent) (place : ℕ) → IsSavable s → action_of_single event ≤ LAST
    → IsSavable (step s event place).state
savable_step s (Asked client number request) place i small = savable_asked s client number request place i small
savable_step s Tick place i small = savable_ticked s (tick_refusal s) refl i
savable_step s Close place i small = savable_closed s s.is_closed i
savable_step s Dump place i small = i

-- Runs.

savable_after : (s : FacilityState) (ps : List PlacedEvent) → IsSavable s → AreSmall (map (λ p. p.event) ps) → IsSavable (state_after s ps)
savable_after s [] i a = i
savable_after s (p ∷ ps) i a = savable_after (step s p.event p.place).state ps (savable_step s p.event p.place i a.0) a.1

small_ticks : (n : ℕ) → AreSmall (replicate n Tick)
small_ticks n = recursion_from_All (λ event. action_of_single event ≤ LAST) (replicate n Tick)
    (All-replicate (λ event. action_of_single event ≤ LAST) n Tick (omega arith))

small_singles : (s : FacilityState) (event : Event) → action_in event ≤ LAST → AreSmall (singles_of s event)
small_singles s (Events.Start client number interval action) h = (h, tt)
small_singles s (Events.StartAt client number deadline action) h = (h, tt)
small_singles s (Events.Stop client number serial) h = (h, tt)
small_singles s (Events.Restart client number serial interval action) h = (h, tt)
small_singles s (Events.RestartAt client number serial deadline action) h = (h, tt)
small_singles s (Events.Ticks count) h = small_ticks _
small_singles s (Events.TicksTo tick) h = small_ticks _
small_singles s Events.Close h = (h, tt)
small_singles s Events.Dump h = (h, tt)

savable_placed : (s : FacilityState) (events : List Event) (ps : List PlacedEvent) → ArePlaced s events ps → HaveActionsInRange events
    → IsSavable s → IsSavable (state_after s ps)
savable_placed s [] ps e a i = subst (λ (qs : List PlacedEvent). IsSavable (state_after s qs)) (sym e) i
savable_placed s (event ∷ events) ps e a i =
    let one : List PlacedEvent = e.0 in
    let rest : List PlacedEvent = e.1 in
    let here = savable_after s one i (subst AreSmall (sym e.3) (small_singles s event a.0)) in
    let all = savable_placed (state_after s one) events rest e.4 a.1 here in
    subst (λ (qs : List PlacedEvent). IsSavable (state_after s qs)) (sym e.2) (subst IsSavable (sym (state_after-append s one rest)) all)

pub savable_run : (s after : FacilityState) (events : List Event) (outs : List Out) → IsSavable s → HaveActionsInRange events
    → IsRun s events outs after → IsSavable after
savable_run s after events outs i a r = subst IsSavable (sym r.after_is) (savable_placed s events r.placed r.singles a i)

-- Places.

timers-bare : (es : List Entry) → timers_of (map bare_entry es) ≡ timers_of es
timers-bare [] = refl
timers-bare (e ∷ es) = ap (λ ts. e.timer ∷ ts) (timers-bare es)

none-bare : (es : List Entry) → map bare_entry es ≡ [] → es ≡ []
none-bare [] e = refl
none-bare (x ∷ xs) e = absurd (cc)

to_bare : (s : FacilityState) → IsSavable s → IsSavable (bare_state s)
to_bare s i = record {
  now_in_range = i.now_in_range;
  serial_some = i.serial_some;
  numbers_some = i.numbers_some;
  timers = subst (AllByRecursion (IsSavableTimer s.last (length s.numbers))) (sym (timers-bare s.pending)) i.timers;
  none_if_closed = λ c. ap (map bare_entry) (i.none_if_closed c);
}

from_bare : (s : FacilityState) → IsSavable (bare_state s) → IsSavable s
from_bare s i = record {
  now_in_range = i.now_in_range;
  serial_some = i.serial_some;
  numbers_some = i.numbers_some;
  timers = subst (AllByRecursion (IsSavableTimer s.last (length s.numbers))) (timers-bare s.pending) i.timers;
  none_if_closed = λ c. none-bare s.pending (i.none_if_closed c);
}

pub savable-bare : (s t : FacilityState) → bare_state s ≡ bare_state t → IsSavable s → IsSavable t
savable-bare s t e i = from_bare t (subst IsSavable e (to_bare s i))

-- What its dump says can be read.

not_below : (serial : ℕ) (ts : List Timer) → AreRising serial ts → serial ≤ serial_of_last serial ts
not_below serial [] r = omega arith
not_below serial (t ∷ ts) r = omega (arith, r.0, not_below t.serial ts r.1)

up_to_last : (serial : ℕ) (ts : List Timer) → AreRising serial ts → AreBelow (serial_of_last serial ts + 1) ts
up_to_last serial [] r = tt
up_to_last serial (t ∷ ts) r = (omega (arith, not_below t.serial ts r.1), up_to_last t.serial ts r.1)

both_all : {X : Type 0} (P Q R : X → Type 0) (xs : List X) → ((x : X) → P x → Q x → R x) → AllByRecursion P xs → AllByRecursion Q xs
    → AllByRecursion R xs
both_all P Q R [] f a b = tt
both_all P Q R (x ∷ xs) f a b = (f x a.0 b.0, both_all P Q R xs f a.1 b.1)

pub savable_read : (limits : Limits) (s : FacilityState) → IsSound s → IsSavable s → IsWithin limits s → IsReadState (read_of limits s)
savable_read limits s sound i w =
    let ts : List Timer = timers_of s.pending in
    let clients : ℕ = length s.numbers in
    let count : length (by_serial ts) ≡ length s.pending = length-in_order undated ts ∙ length-map s.pending timer_of in
    let rising : AreRising 0 (by_serial ts) = rising-by_serial 0 ts sound.distinct
    (All-weaken (IsSavableTimer s.last clients) (λ t. 0 < t.serial) ts (λ t h. omega (arith, h.serial_some)) i.timers) in
    let each : AllByRecursion (IsRead s.now limits.last_tick clients) ts =
    both_all (IsSavableTimer s.last clients) (λ t. s.now < t.deadline) (IsRead s.now limits.last_tick clients) ts
    (λ t a b. record { later = b; in_time = omega (arith, a.in_time, w.in_time); owned = a.owned }) i.timers sound.later in record {
      few_clients = w.few_clients;
      few_timers = omega (arith, count, sound.few_pending, w.few_timers);
      now_in_range = omega (arith, i.now_in_range, w.in_time);
      serial_some = i.serial_some;
      serial_in_range = sound.serial_in_range;
      numbers_in_range = sound.numbers_in_range;
      numbers_some = i.numbers_some;
      rising = rising;
      last_is = refl;
      up_to_last = up_to_last 0 (by_serial ts) rising;
      below = All-in_order undated (λ t. t.serial < s.next_serial) ts sound.below;
      each = All-in_order undated (IsRead s.now limits.last_tick clients) ts each;
      none_first = λ (e : Whole ≡ Begin). absurd (cc);
      none_if_closed = λ c. ap (λ es. by_serial (timers_of es)) (i.none_if_closed c);
    }

-- A state that is restored.

timers-placed : (ts : List Timer) → timers_of (map at_first_place ts) ≡ ts
timers-placed [] = refl
timers-placed (t ∷ ts) = ap (λ us. t ∷ us) (timers-placed ts)

pub savable_restored : (config : Config) (last : ℕ) (r : ReadState) → IsInRange config → IsReadState r → r.limits ≡ limits_of config last
    → AreSaidTimers r.saved.timers → IsSavable (restored config last r.saved)
savable_restored config last r c a limits said =
    let ns : List ℕ = r.saved.numbers in
    let rest : List ℕ = replicate (config.clients - length ns) config.first_number in
    let clients : ℕ = length (ns ++ rest) in
    let tick : r.limits.last_tick ≡ last = ap (λ (l : Limits). l.last_tick) limits in
    let each : AllByRecursion (IsSavableTimer last clients) r.saved.timers = each_of last clients 0 r.saved.timers a.rising
    (All-weaken (IsRead r.saved.now r.limits.last_tick (length ns)) (λ t. (t.client < clients) × (t.deadline ≤ last)) r.saved.timers
    (λ t h. (omega (arith, h.owned, length-append ns rest), omega (arith, h.in_time, tick))) a.each) said in record {
      now_in_range = omega (arith, a.now_in_range, tick);
      serial_some = a.serial_some;
      numbers_some = All-append (λ n. 1 ≤ n) ns rest a.numbers_some (recursion_from_All (λ n. 1 ≤ n) rest
          (All-replicate (λ n. 1 ≤ n) (config.clients - length ns) config.first_number c.number_from_one));
      timers = subst (AllByRecursion (IsSavableTimer last clients)) (sym (timers-placed (in_order itself r.saved.timers)))
          (All-in_order itself (IsSavableTimer last clients) r.saved.timers each);
      none_if_closed = λ e. ap (λ ts. map at_first_place (in_order itself ts)) (a.none_if_closed e);
    }
  where
    each_of : (last clients low : ℕ) (ts : List Timer) → AreRising low ts
        → AllByRecursion (λ t. (t.client < clients) × (t.deadline ≤ last)) ts
        → AreSaidTimers ts → AllByRecursion (IsSavableTimer last clients) ts
    each_of last clients low [] rising b d = tt
    each_of last clients low (t ∷ ts) rising b d = (
      record {
        serial_some = omega (arith, rising.0);
        owned = b.0.0;
        number_in_range = d.0.0;
        in_time = b.0.1;
        action_in_range = d.0.1;
      },
      each_of last clients t.serial ts rising.1 b.1 d.1,
    )
