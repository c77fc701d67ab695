-- The first state is sound, and each run keeps it so.
use Rattle.std.proofs.Common.{◌≡◌, ◌<◌, ◌≤◌, ◌+◌, ℕ, Bool, true, false, not, List, [], ◌∷◌, length, refl, sym, ◌∙◌, subst, inl, inr, arith}
use Rattle.std.specs.Prelude.{filter, replicate, nat_lt, Option, Some, None}
use Rattle.std.specs.List.{AllByRecursion}
use Rattle.std.proofs.lemmas.Bool.{and_parts, ltb-true}
use Rattle.std.proofs.lemmas.List.{length-set, length-replicate}
use Rattle.std.proofs.lemmas.List.Elements.{recursion_from_All, All-from_recursion, All-replicate, All-set}
use Rattle.timer_base.proofs.Basics.{either, filter_no_longer}
use Rattle.timer_base.proofs.OneOrder.{map-itself}
use Rattle.timer_base.proofs.OrderLaws.{All-filter, All-in_order, IsOrdered-in_order, AreDistinct-in_order}
use Rattle.timer_base.specs.Layout.{Layout}
use Rattle.timer_base.specs.Order.{itself, IsOrdered, AreDistinct, AreBelow}
use Rattle.timer_base.specs.Pending.{Entry, timers_of, first_timer, has_serial, is_due_at}
use Rattle.timer_facility.specs.Types.{LAST, Timer, Config, Event, Out, TickFault}
use Rattle.timer_facility.specs.Config.{IsInRange}
use Rattle.timer_facility.specs.Owed.{timers_in_order}
use Rattle.timer_facility.specs.Played.{IsRun}
use Rattle.timer_facility.specs.Restored.{IsConfigured}
use Rattle.timer_facility.specs.Run.{PlacedEvent, history, state_after, notices}
use Rattle.timer_facility.specs.State.{FacilityState, IsSound, opened, tested_interval, ModelRequest, Start, Stop, Restart, SingleEvent, Asked, Tick, Close, Dump}
use Rattle.timer_facility.specs.Step.{with_number, timer_stopped, timer_started, put_later, without_timer, after_request, step, step_of_tick, step_of_close}
use Rattle.timer_facility.specs.Verdict.{has_name, timer_named, interval_refusal, name_refusal, refusal, tick_refusal}
use Rattle.timer_facility.proofs.FacilityFields.{length-found}
use Rattle.timer_facility.proofs.OwedFold.{Reading, reading, all_started, is_left_at}
use Rattle.timer_facility.proofs.OwedKeeps.{Keeps, not_closed}
use Rattle.timer_facility.proofs.OwedLemmas.{keeps_history}
use Rattle.timer_facility.proofs.OwedOnce.{AreDistinct-filter}
use Rattle.timer_facility.proofs.StepLemmas.{state_closed, by_verdict}
use Rattle.timer_facility.proofs.TimerLists.{of_client_some, length-put}
use Rattle.timer_facility.proofs.VerdictLemmas.{takable, timely, startable, neither, ticking}

-- The first state.

pub sound_opened : (config : Config) (last : ℕ) (layout : Layout) → IsInRange config → config.first_tick ≤ last → last ≤ LAST
    → IsSound (opened config last layout)
sound_opened config last layout c h l = record {
  few_clients = omega (arith, length-replicate config.clients config.first_number, c.few_clients);
  capacity_in_range = c.capacity_in_range;
  last_in_range = l;
  now_in_range = h;
  serial_in_range = omega (arith, c.serial_in_range);
  numbers_in_range = recursion_from_All (λ n. n ≤ LAST + 1) (replicate config.clients config.first_number)
      (All-replicate (λ n. n ≤ LAST + 1) config.clients config.first_number (omega (arith, c.number_in_range)));
  few_pending = omega arith;
  ordered = tt;
  distinct = tt;
  later = tt;
  below = tt;
}

-- What an event leaves of an open facility, but for the order of its timers.
record IsKept (s t : FacilityState) : Type 0 where
  capacity_is : t.capacity ≡ s.capacity
  last_is : t.last ≡ s.last
  clients_are : length t.numbers ≡ length s.numbers
  closed_is : t.is_closed ≡ s.is_closed
  now_in_range : t.now ≤ s.last
  serial_in_range : t.next_serial ≤ LAST + 1
  numbers_in_range : AllByRecursion (λ n. n ≤ LAST + 1) t.numbers
  few_pending : length t.pending ≤ s.capacity

kept : (s : FacilityState) → IsSound s → IsKept s s
kept s i = record {
  capacity_is = refl;
  last_is = refl;
  clients_are = refl;
  closed_is = refl;
  now_in_range = i.now_in_range;
  serial_in_range = i.serial_in_range;
  numbers_in_range = i.numbers_in_range;
  few_pending = i.few_pending;
}

kept_used : (s t : FacilityState) (client number : ℕ) → number ≤ LAST → IsKept s t → IsKept s (with_number client number t)
kept_used s t client number l k = record {
  capacity_is = k.capacity_is;
  last_is = k.last_is;
  clients_are = length-set t.numbers client (number + 1) ∙ k.clients_are;
  closed_is = k.closed_is;
  now_in_range = k.now_in_range;
  serial_in_range = k.serial_in_range;
  numbers_in_range = recursion_from_All (λ n. n ≤ LAST + 1) _ (All-set (λ n. n ≤ LAST + 1) t.numbers client (number + 1) (omega (arith, l))
      (All-from_recursion (λ n. n ≤ LAST + 1) t.numbers k.numbers_in_range));
  few_pending = k.few_pending;
}

length-put_later : (now : ℕ) (e : Entry) (es : List Entry) → length (put_later now e es) ≤ length es + 1
length-put_later now e es = elim (either (nat_lt now e.timer.deadline)) [
  | inl h ↦ rw h (omega (arith, length-put e es))
  | inr h ↦ rw h (omega arith)
]

-- with these entries, of which there is room for one more
kept_with : (s : FacilityState) (place : ℕ) (t : Timer) (old : Option Timer) → IsSound s → s.next_serial ≤ LAST
    → length (without_timer old s).pending + 1 ≤ s.capacity → IsKept s (after_request old (Some t) place s)
kept_with s place t old i spare room = record {
  capacity_is = refl;
  last_is = refl;
  clients_are = refl;
  closed_is = refl;
  now_in_range = i.now_in_range;
  serial_in_range = omega (arith, spare);
  numbers_in_range = i.numbers_in_range;
  few_pending = omega (arith, length-put_later s.now (record { place = place; timer = t }) (without_timer old s).pending, room);
}

kept_without : (s : FacilityState) (place : ℕ) (old : Option Timer) → IsSound s → IsKept s (after_request old None place s)
kept_without s place None i = kept s i
kept_without s place (Some t) i = record {
  capacity_is = refl;
  last_is = refl;
  clients_are = refl;
  closed_is = refl;
  now_in_range = i.now_in_range;
  serial_in_range = i.serial_in_range;
  numbers_in_range = i.numbers_in_range;
  few_pending = omega (arith, filter_no_longer (λ (e : Entry). not (has_serial t.serial e.timer)) s.pending, i.few_pending);
}

-- a restart makes room for its timer
room_of : (s : FacilityState) (client : ℕ) (test : Entry → Bool) (o : Option Timer) → length s.pending ≤ s.capacity
    → name_refusal o ≡ None
    → ((t : Timer) → o ≡ Some t → first_timer test s.pending ≡ Some t) → length (without_timer o s).pending + 1 ≤ s.capacity
room_of s client test None l r h = absurd (cc)
room_of s client test (Some t) l r h = omega (arith, length-found test t s.pending (h t refl), l)

kept_request : (s : FacilityState) (client number place : ℕ) (request : ModelRequest) → IsSound s → refusal s client request ≡ None
    → IsKept s (after_request (timer_stopped s client request) (timer_started s client number request) place s)
kept_request s client number place (Start deadline action) i r =
    let a = startable s (tested_interval s deadline) r in
    kept_with s place _ None i (timely s (tested_interval s deadline) a.unrefused).unspent (omega (arith, a.room, i.few_pending))
kept_request s client number place (Stop name) i r = kept_without s place (timer_named s client name) i
kept_request s client number place (Restart name deadline action) i r =
    let a = neither (name_refusal (timer_named s client name)) (interval_refusal s (tested_interval s deadline)) r in
    kept_with s place _ (timer_named s client name) i (timely s (tested_interval s deadline) a.1).unspent
    (room_of s client (has_name name) (timer_named s client name) i.few_pending a.0
    (λ t h. (of_client_some client (first_timer (has_name name) s.pending) t h).0))

kept_asked : (s : FacilityState) (client number : ℕ) (request : ModelRequest) (place : ℕ) → IsSound s
    → IsKept s (step s (Asked client number request) place).state
kept_asked s client number request place i =
    by_verdict (λ st. IsKept s st.state) s client number request place
    (λ reason. kept s i)
    (λ reason taken. let t = takable s client number taken in kept_used s s client number (omega (arith, t.to_next, t.in_range)) (kept s i))
    (λ taken ok. let t = takable s client number taken in
    kept_used s _ client number (omega (arith, t.to_next, t.in_range)) (kept_request s client number place request i ok))

kept_ticked : (s : FacilityState) (o : Option TickFault) → tick_refusal s ≡ o → IsSound s → IsKept s (step_of_tick s o).state
kept_ticked s (Some fault) e i = kept s i
kept_ticked s None e i = record {
  capacity_is = refl;
  last_is = refl;
  clients_are = refl;
  closed_is = refl;
  now_in_range = omega (arith, i.now_in_range, (ticking s e).before_last);
  serial_in_range = i.serial_in_range;
  numbers_in_range = i.numbers_in_range;
  few_pending = omega (arith, filter_no_longer (λ (entry : Entry). not (is_due_at (s.now + 1) entry.timer)) s.pending, i.few_pending);
}

-- The order of its timers.

-- of an open facility the pending timers are those that were started and are left, in order
sound_left : (s c : FacilityState) (r : Reading) (all : List Timer) → IsSound s → IsKept s c → AreDistinct all → AreBelow c.next_serial all
    → timers_of c.pending ≡ timers_in_order (filter (is_left_at r c.now) all) → IsSound c
sound_left s c r all i k distinct below left =
    let some : List Timer = filter (is_left_at r c.now) all in
    let apart : AreDistinct some = AreDistinct-filter (is_left_at r c.now) all distinct in
    record {
      few_clients = omega (arith, k.clients_are, i.few_clients);
      capacity_in_range = omega (arith, k.capacity_is, i.capacity_in_range);
      last_in_range = omega (arith, k.last_is, i.last_in_range);
      now_in_range = omega (arith, k.now_in_range, k.last_is);
      serial_in_range = k.serial_in_range;
      numbers_in_range = k.numbers_in_range;
      few_pending = omega (arith, k.few_pending, k.capacity_is);
      ordered = subst IsOrdered (sym left) (rw (map-itself (timers_in_order some)) at (IsOrdered-in_order itself some));
      distinct = subst AreDistinct (sym left)
          (rw (map-itself (timers_in_order some)) at (AreDistinct-in_order itself some (rw (map-itself some) apart)));
      later = subst (AllByRecursion (λ t. c.now < t.deadline)) (sym left) (All-in_order itself (λ t. c.now < t.deadline) some
          (All-filter (λ t. t.serial < c.next_serial) (λ t. c.now < t.deadline) (is_left_at r c.now) all
          (λ t h b. ltb-true c.now t.deadline (and_parts _ _ h).0) below));
      below = subst (AreBelow c.next_serial) (sym left) (All-in_order itself (λ t. t.serial < c.next_serial) some
          (All-filter (λ t. t.serial < c.next_serial) (λ t. t.serial < c.next_serial) (is_left_at r c.now) all (λ t h b. b) below));
    }

sound_kept : (s : FacilityState) (event : SingleEvent) (place : ℕ) → IsSound s → IsKept s (step s event place).state
    → IsSound (step s event place).state
sound_kept s event place i k =
    let p : PlacedEvent = record { event = event; place = place } in
    let now : Keeps s (reading (history s (p ∷ []))) (notices (history s (p ∷ []))) (step s event place).state =
    keeps_history s (p ∷ []) i in
    elim (either s.is_closed) [
      | inl h ↦ subst IsSound (sym (state_closed s (p ∷ []) h)) i
      | inr h ↦ sound_left s (step s event place).state (reading (history s (p ∷ []))) (all_started s (reading (history s (p ∷ [])))) i k
          now.distinct now.below (now.left (not_closed now (k.closed_is ∙ h)))
    ]

sound_closed : (s : FacilityState) (closed : Bool) → IsSound s → IsSound (step_of_close s closed).state
sound_closed s true i = i
sound_closed s false i = record {
  few_clients = i.few_clients;
  capacity_in_range = i.capacity_in_range;
  last_in_range = i.last_in_range;
  now_in_range = i.now_in_range;
  serial_in_range = i.serial_in_range;
  numbers_in_range = i.numbers_in_range;
  few_pending = omega arith;
  ordered = tt;
  distinct = tt;
  later = tt;
  below = tt;
}

pub sound_step : (s : FacilityState) (event : SingleEvent) (place : ℕ) → IsSound s → IsSound (step s event place).state
sound_step s (Asked client number request) place i =
    sound_kept s (Asked client number request) place i (kept_asked s client number request place i)
sound_step s Tick place i = sound_kept s Tick place i (kept_ticked s (tick_refusal s) refl i)
sound_step s Close place i = sound_closed s s.is_closed i
sound_step s Dump place i = i

-- Runs.

sound_after : (s : FacilityState) (ps : List PlacedEvent) → IsSound s → IsSound (state_after s ps)
sound_after s [] i = i
sound_after s (p ∷ ps) i = sound_after (step s p.event p.place).state ps (sound_step s p.event p.place i)

-- The configuration.

configured_kept : {s t : FacilityState} (config : Config) (last : ℕ) → IsKept s t → IsConfigured config last s → IsConfigured config last t
configured_kept config last k c = record {
  capacity_is = k.capacity_is ∙ c.capacity_is;
  last_is = k.last_is ∙ c.last_is;
  clients_are = k.clients_are ∙ c.clients_are;
}

configured_closed : (config : Config) (last : ℕ) (s : FacilityState) (closed : Bool) → IsConfigured config last s
    → IsConfigured config last (step_of_close s closed).state
configured_closed config last s true c = c
configured_closed config last s false c = record { capacity_is = c.capacity_is; last_is = c.last_is; clients_are = c.clients_are }

configured_step : (config : Config) (last : ℕ) (s : FacilityState) (event : SingleEvent) (place : ℕ) → IsSound s → IsConfigured config last s
    → IsConfigured config last (step s event place).state
configured_step config last s (Asked client number request) place i c = configured_kept config last (kept_asked s client number request place i) c
configured_step config last s Tick place i c = configured_kept config last (kept_ticked s (tick_refusal s) refl i) c
configured_step config last s Close place i c = configured_closed config last s s.is_closed c
configured_step config last s Dump place i c = c

configured_after : (config : Config) (last : ℕ) (s : FacilityState) (ps : List PlacedEvent) → IsSound s → IsConfigured config last s
    → IsConfigured config last (state_after s ps)
configured_after config last s [] i c = c
configured_after config last s (p ∷ ps) i c = configured_after config last (step s p.event p.place).state ps (sound_step s p.event p.place i)
    (configured_step config last s p.event p.place i c)

pub configured_opened : (config : Config) (last : ℕ) (layout : Layout) → IsConfigured config last (opened config last layout)
configured_opened config last layout =
    record { capacity_is = refl; last_is = refl; clients_are = length-replicate config.clients config.first_number }

pub configured_run : (config : Config) (last : ℕ) (s after : FacilityState) (events : List Event) (outs : List Out) → IsSound s
    → IsConfigured config last s → IsRun s events outs after → IsConfigured config last after
configured_run config last s after events outs i c r =
    subst (IsConfigured config last) (sym r.after_is) (configured_after config last s r.placed i c)

pub sound_run : (s after : FacilityState) (events : List Event) (outs : List Out) → IsSound s → IsRun s events outs after → IsSound after
sound_run s after events outs i r = subst IsSound (sym r.after_is) (sound_after s r.placed i)
