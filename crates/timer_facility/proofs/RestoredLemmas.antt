-- The timers of a facility that is restored, and its state.
use Rattle.std.proofs.Common.{◌≡◌, ◌<◌, ◌≤◌, ◌+◌, ◌-◌, ℕ, zero, suc, false, true, List, [], ◌∷◌, ◌++◌, length, map, take, get_or, refl, sym, ◌∙◌, ap, subst, inl, inr, arith, append-nil, length-append}
use Rattle.std.specs.Prelude.{replicate, slice_index, slice_set, Some}
use Rattle.std.specs.List.{AllByRecursion}
use Rattle.std.proofs.lemmas.Bool.{lt-ltb, ne_eqb}
use Rattle.std.proofs.lemmas.List.{length-map, take-replicate, length-replicate, take_more}
use Rattle.std.proofs.Math.Seq.{take-append-add}
use Rattle.std.proofs.lemmas.List.Elements.{recursion_from_All, All-replicate}
use Rattle.timer_base.proofs.Basics.{either}
use Rattle.timer_base.proofs.OrderLaws.{All-append, All-weaken, newest_last, length-in_order}
use Rattle.timer_base.specs.Order.{is_before, insert_in_order, in_order, itself, AreRising, AreBelow}
use Rattle.timer_base.specs.Pending.{Entry, timer_of, timers_of, put}
use Rattle.timer_base.specs.PlainState.{at_first_place}
use Rattle.timer_base.specs.WheelState.{WheelState, after_held_start}
use Rattle.timer_facility.specs.Types.{LAST, Timer, Handle, Config, Limits}
use Rattle.timer_facility.specs.Config.{IsInRange}
use Rattle.timer_facility.specs.Facility.{AreCounted, kept_in, Fields, IsFacility, view_of}
use Rattle.timer_facility.specs.Handles.{AreRecorded}
use Rattle.timer_facility.specs.Restored.{IsUnused, AreStarted, GoesOnAs, IsConfigured, limits_of, restored}
use Rattle.timer_facility.specs.Run.{bare_entry, bare_state}
use Rattle.timer_facility.specs.Saved.{Saved, saved_of, state_lines, ReadState, IsReadState}
use Rattle.timer_facility.specs.State.{FacilityState, IsSound, one_of, count_of}
use Rattle.timer_facility.specs.Step.{handle_of, with_timer}
use Rattle.timer_facility.proofs.FacilityCounts.{count-append, counted-more}
use Rattle.timer_facility.proofs.HandlesLemmas.{AreRecorded-start}
use Rattle.timer_facility.proofs.RunBare.{plays-bare}
use Rattle.timer_facility.proofs.SerialOrder.{in_order-by_serial}
use Rattle.timer_facility.proofs.StateLines.{same_saved}
use Rattle.timer_facility.proofs.TimerLists.{timers_of-put}

-- Rising serials, one after another.

pub above : (low i : ℕ) (ts : List Timer) (d : Timer) → AreRising low ts → i < length ts → low < (get_or ts i d).serial
above low i [] d r h = absurd (omega (arith, h))
above low zero (t ∷ ts) d r h = r.0
above low (suc i) (t ∷ ts) d r h = omega (arith, r.0, above t.serial i ts d r.1 (omega (arith, h)))

-- each is above those before it
pub below_next : (low i : ℕ) (ts : List Timer) (d : Timer) → AreRising low ts → i < length ts
    → AreBelow (get_or ts i d).serial (take i ts)
below_next low i [] d r h = absurd (omega (arith, h))
below_next low zero (t ∷ ts) d r h = tt
below_next low (suc i) (t ∷ ts) d r h =
    (above t.serial i ts d r.1 (omega (arith, h)), below_next t.serial i ts d r.1 (omega (arith, h)))

-- what holds of all holds of one
pub all_at : {X : Type 0} (P : X → Type 0) (i : ℕ) (xs : List X) (d : X) → AllByRecursion P xs → i < length xs → P (get_or xs i d)
all_at P i [] d a h = absurd (omega (arith, h))
all_at P zero (x ∷ xs) d a h = a.0
all_at P (suc i) (x ∷ xs) d a h = all_at P i xs d a.1 (omega (arith, h))

-- Timers that are started.

-- a state with these timers, for what is known of handles
abbrev state_with : WheelState → ℕ → FacilityState
state_with w serial = record {
  capacity = 0;
  last = w.last_tick;
  layout = w.layout;
  now = w.now;
  next_serial = serial;
  pending = w.pending;
  numbers = [];
  is_closed = false;
  has_room = false;
}

-- one more
pub started_more : {old w new : WheelState} {ts : List Timer} {handles : List Handle} (t : Timer) (h : Handle) → AreStarted old ts handles w
    → AreBelow t.serial ts → 0 < t.serial → old.now < t.deadline → h.serial ≡ t.serial → new ≡ after_held_start h.place t w
    → AreStarted old (ts ++ t ∷ []) (handles ++ h ∷ []) new
started_more {old} {w} {new} {ts} {handles} t h a below some later named e =
    let e' : Entry = record { place = h.place; timer = t } in
    let now_is : w.now ≡ old.now = ap (λ (u : WheelState). u.now) a.rest_is in
    let later' : w.now < t.deadline = omega (arith, now_is, later) in
    let free : w.last_serial < t.serial = a.unused t.serial some below in
    let known : AreRecorded handles (state_with w t.serial) = record {
      sorted = a.sorted;
      used = All-weaken (λ (k : Handle). k.serial < w.last_serial + 1) (λ (k : Handle). k.serial < t.serial) handles
          (λ k l. omega (arith, l, free)) a.used;
      each = a.each;
    } in
    let kept = AreRecorded-start {s = state_with w t.serial} h.place t refl known in
    let same : handle_of h.place t ≡ h = ap (λ n. let k : Handle = record { place = h.place; serial = n } in k) (sym named) in
    let after : AreRecorded (handles ++ h ∷ []) (with_timer (Some t) h.place (state_with w t.serial)) =
    subst (λ (k : Handle). AreRecorded (handles ++ k ∷ []) (with_timer (Some t) h.place (state_with w t.serial))) same kept in
    let is_new : new ≡ record w { pending = put e' w.pending; last_serial = t.serial } =
    e ∙ rw (lt-ltb w.now t.deadline later') refl in
    subst (λ (u : WheelState). AreStarted old (ts ++ t ∷ []) (handles ++ h ∷ []) u) (sym is_new) (record {
      pending_are = timers_of-put e' w.pending ∙ rw a.pending_are (sym (newest_last t ts below));
      rest_is = ap (λ (u : WheelState). let v : WheelState = record u { pending = put e' w.pending; last_serial = t.serial } in v) a.rest_is;
      unused = λ high positive all. omega (
        arith,
        (all_at (λ (u : Timer). u.serial < high) (length ts) (ts ++ t ∷ []) t all
            (omega (arith, length-append ts (t ∷ [])))),
        last_is ts t,
      );
      sorted = after.sorted;
      used = after.used;
      each = rw (lt-ltb w.now t.deadline later') at after.each;
      as_many = omega (arith, length-append handles (h ∷ []), length-append ts (t ∷ []), a.as_many);
    })
  where
    last_is : (ts : List Timer) (t : Timer) → (get_or (ts ++ t ∷ []) (length ts) t).serial ≡ t.serial
    last_is [] t = refl
    last_is (u ∷ us) t = last_is us t

-- The counts.

count-inserted : (client : ℕ) (t : Timer) (ts : List Timer)
    → count_of client (insert_in_order itself t ts) ≡ one_of client t + count_of client ts
count-inserted client t [] = refl
count-inserted client t (u ∷ us) = elim (either (is_before t u)) [
  | inl h ↦ rw h refl
  | inr h ↦ rw h (omega (arith, count-inserted client t us))
]

pub count-in_order : (client : ℕ) (ts : List Timer) → count_of client (in_order itself ts) ≡ count_of client ts
count-in_order client [] = refl
count-in_order client (t ∷ ts) = omega (arith, count-inserted client t (in_order itself ts), count-in_order client ts)

none_of : (clients client : ℕ) (ts : List Timer) → AllByRecursion (λ t. t.client < clients) ts → clients ≤ client → count_of client ts ≡ 0
none_of clients client [] a h = refl
none_of clients client (t ∷ ts) a h =
    rw (ne_eqb t.client client (λ e. omega (arith, a.0, h, e))) (omega (arith, none_of clients client ts a.1 h))

pub counted_kept : {clients : ℕ} {counts : List ℕ} {ts : List Timer} (w : WheelState) → AreCounted 64 counts ts
    → AllByRecursion (λ t. t.client < clients) ts → timers_of w.pending ≡ in_order itself ts → w.due ≡ []
    → AreCounted clients counts (kept_in w [])
counted_kept {clients} {counts} {ts} w a owned p d =
    let all : kept_in w [] ≡ in_order itself ts = rw (p, d) (append-nil (in_order itself ts)) in record {
      all_counts = a.all_counts;
      each = λ client. a.each client ∙ sym (ap (count_of client) all ∙ count-in_order client ts);
      no_others = λ client h. a.each client ∙ none_of clients client ts owned h;
    }

-- the next one
pub counted_next : {counts : List ℕ} (ts : List Timer) (i : ℕ) (d : Timer) → AreCounted 64 counts (take i ts) → i < length ts
    → (get_or ts i d).client < 64
    → AreCounted 64 (slice_set counts (get_or ts i d).client (slice_index counts (get_or ts i d).client + 1)) (take (i + 1) ts)
counted_next ts i d a h l =
    let t : Timer = get_or ts i d in
    counted-more a t (take (i + 1) ts) l (omega arith) (λ client. omega (
      arith,
      ap (count_of client) (take_more ts i d h),
      count-append client (take i ts) (t ∷ []),
    ))

-- The state.

bare_entries : (es : List Entry) → map bare_entry es ≡ map at_first_place (timers_of es)
bare_entries [] = refl
bare_entries (e ∷ es) = ap (λ us. at_first_place e.timer ∷ us) (bare_entries es)

-- the first numbers of those of all clients
pub first_numbers : (ns : List ℕ) (clients first : ℕ) → length ns ≤ clients → clients ≤ 64
    → take clients (ns ++ replicate (64 - length ns) first) ≡ ns ++ replicate (clients - length ns) first
first_numbers ns clients first l few =
    let all : length ns + (clients - length ns) ≡ clients = omega (arith, l) in
    let rest : List ℕ = replicate (64 - length ns) first in
    subst (λ n. take n (ns ++ rest) ≡ ns ++ replicate (clients - length ns) first) all
    (take-append-add ns rest (clients - length ns)
    ∙ ap (λ ms. ns ++ ms) (take-replicate (clients - length ns) (64 - length ns) first (omega (arith, l, few))))

pub bare_pending : (ts : List Timer) (es : List Entry) → timers_of es ≡ in_order itself ts → map bare_entry es ≡ map at_first_place (in_order itself ts)
bare_pending ts es p = bare_entries es ∙ ap (map at_first_place) p

-- the state that a dump says is that of the facility that was dumped
pub restored_is : (s : FacilityState) (config : Config) (last : ℕ) → IsSound s → IsConfigured config last s
    → restored config last (saved_of s) ≡ bare_state s
restored_is s config last i c =
    let none : config.clients - length s.numbers ≡ 0 = omega (arith, c.clients_are) in
    rw (
      in_order-by_serial (timers_of s.pending) i.distinct i.ordered,
      bare_entries s.pending,
      none,
      append-nil s.numbers,
      c.capacity_is,
      c.last_is,
    ) refl

-- a facility with the state that the lines of another's dump say goes on as that one does
pub restored_goes_on : (s t : FacilityState) (config : Config) (last : ℕ) (v : Saved) → bare_state t ≡ restored config last v
    → IsSound s → IsConfigured config last s → state_lines v ≡ state_lines (saved_of s) → GoesOnAs s t
restored_goes_on s t config last v e i c lines =
    let same : bare_state t ≡ bare_state s = e ∙ ap (restored config last) (same_saved v (saved_of s) lines) ∙ restored_is s config last i c in
    λ events outs others after end a b. plays-bare s t events outs others after end (sym same) a b

-- The fields.

abbrev pub restored_fields : WheelState → Config → Saved → List ℕ → List ℕ → List Timer → ℕ → Fields
restored_fields w config v numbers counts returned room = record {
  wheel = w;
  clients = config.clients;
  capacity = config.capacity;
  next_serial = v.next_serial;
  numbers = numbers;
  counts = counts;
  is_closed = v.is_closed;
  has_room = false;
  returned = returned;
  handed = 0;
  list_room = room;
}

-- what is known once the timers are started
pub record IsRestored (old w : WheelState) (config : Config) (r : ReadState) (handles : List Handle) : Type 0 where
  pub started : AreStarted old r.saved.timers handles w
  pub read : IsReadState r
  pub empty : IsUnused old
  pub now_is : old.now ≡ r.saved.now
  pub limits : r.limits ≡ limits_of config old.last_tick
  pub in_range : IsInRange config

pub is_restored : {old w : WheelState} {config checked : Config} {r : ReadState} {handles : List Handle} → AreStarted old r.saved.timers handles w
    → IsReadState r → IsUnused old → old.now ≡ r.saved.now → r.limits ≡ limits_of checked old.last_tick → config ≡ checked → IsInRange config
    → IsRestored old w config r handles
is_restored {old} started read empty now_is limits is in_range = record {
  started = started;
  read = read;
  empty = empty;
  now_is = now_is;
  limits = limits ∙ ap (λ (k : Config). limits_of k old.last_tick) (sym is);
  in_range = in_range;
}

few_numbers : {old w : WheelState} {config : Config} {r : ReadState} {handles : List Handle} → IsRestored old w config r handles
    → length r.saved.numbers ≤ config.clients
few_numbers x = omega (arith, x.read.few_clients, ap (λ (l : Limits). l.clients) x.limits)

length_pending : {old w : WheelState} {config : Config} {r : ReadState} {handles : List Handle} → IsRestored old w config r handles
    → length w.pending ≡ length r.saved.timers
length_pending {w = w} {r = r} x =
    sym (length-map w.pending timer_of) ∙ ap length x.started.pending_are ∙ length-in_order itself r.saved.timers

pub facility-restored : {old w : WheelState} {config : Config} {r : ReadState} {handles : List Handle} → IsRestored old w config r handles
    → {numbers counts : List ℕ} → numbers ≡ r.saved.numbers ++ replicate (64 - length r.saved.numbers) config.first_number
    → AreCounted 64 counts r.saved.timers → {returned : List Timer} → returned ≡ [] → (room : ℕ)
    → IsFacility (restored_fields w config r.saved numbers counts returned room)
facility-restored {old} {w} {config} {r} x {numbers} {counts} e a {returned} none room =
    let ns : List ℕ = r.saved.numbers in
    let rest : List ℕ = replicate (64 - length ns) config.first_number in
    let in_range : ℕ → Type 0 = λ k. k ≤ LAST + 1 in
    let due : w.due ≡ [] = ap (λ (u : WheelState). u.due) x.started.rest_is ∙ x.empty.no_due in
    record {
      limits = record { few_clients = x.in_range.few_clients; capacity_in_range = x.in_range.capacity_in_range };
      numbered = record {
        all_numbers = ap length e ∙ length-append ns rest ∙ ap (λ n. length ns + n) (length-replicate (64 - length ns) config.first_number)
            ∙ omega (arith, few_numbers x, x.in_range.few_clients);
        numbers_in_range = subst (AllByRecursion in_range) (sym e) (All-append in_range ns rest x.read.numbers_in_range
            (recursion_from_All in_range rest
            (All-replicate in_range (64 - length ns) config.first_number (omega (arith, x.in_range.number_in_range)))));
      };
      timers = record {
        few_pending = omega (arith, length_pending x, x.read.few_timers, ap (λ (l : Limits). l.capacity) x.limits);
        serial_unused = x.started.unused r.saved.next_serial (omega (arith, x.read.serial_some)) x.read.below;
        serial_in_range = x.read.serial_in_range;
        counted = subst (λ ts. AreCounted config.clients counts (kept_in w ts)) (sym none)
            (counted_kept w a (All-weaken _ (λ (t : Timer). t.client < config.clients) r.saved.timers
            (λ t one. omega (arith, one.owned, few_numbers x)) x.read.each) x.started.pending_are due);
      };
      handed_in_range = omega arith;
      roomy = λ (f : false ≡ true). absurd (cc);
    }

pub view-restored : {old w : WheelState} {config : Config} {r : ReadState} {handles : List Handle} → IsRestored old w config r handles
    → {numbers : List ℕ} (counts : List ℕ) → numbers ≡ r.saved.numbers ++ replicate (64 - length r.saved.numbers) config.first_number
    → (returned : List Timer) (room : ℕ)
    → bare_state (view_of (restored_fields w config r.saved numbers counts returned room)).state ≡ restored config old.last_tick r.saved
view-restored {old} {w} {config} {r} x counts e returned room = rw (
  ap (λ (u : WheelState). u.last_tick) x.started.rest_is,
  ap (λ (u : WheelState). u.now) x.started.rest_is ∙ x.now_is,
  bare_pending r.saved.timers w.pending x.started.pending_are,
  e,
  first_numbers r.saved.numbers config.clients config.first_number (few_numbers x) x.in_range.few_clients,
) refl

pub recorded-restored : {old w : WheelState} {config : Config} {r : ReadState} {handles : List Handle} → IsRestored old w config r handles
    → (numbers counts : List ℕ) (returned : List Timer) (room : ℕ)
    → AreRecorded handles (view_of (restored_fields w config r.saved numbers counts returned room)).state
recorded-restored {w = w} {r = r} {handles = handles} x numbers counts returned room =
    let free : w.last_serial < r.saved.next_serial = x.started.unused r.saved.next_serial (omega (arith, x.read.serial_some)) x.read.below in
    record {
      sorted = x.started.sorted;
      used = All-weaken (λ (h : Handle). h.serial < w.last_serial + 1) (λ (h : Handle). h.serial < r.saved.next_serial) handles
          (λ h l. omega (arith, l, free)) x.started.used;
      each = x.started.each;
    }

pub few-restored : {old w : WheelState} {config : Config} {r : ReadState} {handles : List Handle} → IsRestored old w config r handles
    → length handles ≡ length w.pending
few-restored x = x.started.as_many ∙ sym (length_pending x)
