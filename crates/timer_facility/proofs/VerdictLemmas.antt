-- The verdict, from the tests.
use Rattle.std.proofs.Common.{◌≡◌, ◌≢◌, ◌<◌, ◌≤◌, ◌-◌, ℕ, Bool, true, false, not, ◌==◌, length, refl, arith}
use Rattle.std.specs.Prelude.{nat_lt, if◌then◌else◌, Option, Some, None}
use Rattle.std.proofs.lemmas.Bool.{eqb-false, le-ltb, lt-ltb, ltb-false, ltb-true, ne_eqb, not-false}
use Rattle.timer_facility.specs.Types.{LAST, Reason}
use Rattle.timer_facility.specs.declared.request.NotTaken.TheVariants as NotTakens
use Rattle.timer_facility.specs.declared.request.Reason.TheVariants as Reasons
use Rattle.timer_facility.specs.declared.request.TickFault.TheVariants as TickFaults
use Rattle.timer_facility.specs.State.{FacilityState, number_of}
use Rattle.timer_facility.specs.Verdict.{not_taken, first_refusal, interval_refusal, room_refusal, start_refusal, tick_refusal}

-- a test that fails, and the ones after it
pub none_then : {X : Type 0} (x : X) (rest : Option X) (b : Bool) → (if b then Some x else rest) ≡ None → (b ≡ false) × (rest ≡ None)
none_then x rest true h = absurd (cc)
none_then x rest false h = (refl, h)

-- Requests.

pub not_taken-closed : (s : FacilityState) (client number : ℕ) → s.is_closed ≡ true → not_taken s client number ≡ Some NotTakens.Closed
unfolding not_taken
not_taken-closed s client number h = rw h refl

pub not_taken-no_client : (s : FacilityState) (client number : ℕ) → s.is_closed ≡ false → length s.numbers ≤ client
    → not_taken s client number ≡ Some NotTakens.NoClient
unfolding not_taken
not_taken-no_client s client number h k = rw (h, le-ltb client (length s.numbers) k) refl

-- the facility is open, and the client is one of its own and has this next number
pub record IsKnown (s : FacilityState) (client next : ℕ) : Type 0 where
  pub is_open : s.is_closed ≡ false
  pub is_client : client < length s.numbers
  pub next_is : number_of s client ≡ next

pub not_taken-none : (s : FacilityState) (client number next : ℕ) → IsKnown s client next → next ≤ number → next ≤ LAST
    → number ≤ next → not_taken s client number ≡ None
unfolding not_taken
not_taken-none s client number next k h l m =
    rw (k.is_open, k.next_is, lt-ltb client (length s.numbers) k.is_client, le-ltb number next h, le-ltb LAST next l, le-ltb next number m) refl

-- what is true of a request that is taken
pub record IsTakable (s : FacilityState) (client number : ℕ) : Type 0 where
  pub is_open : s.is_closed ≡ false
  pub is_client : client < length s.numbers
  pub from_next : number_of s client ≤ number
  pub in_range : number_of s client ≤ LAST
  pub to_next : number ≤ number_of s client

pub takable : (s : FacilityState) (client number : ℕ) → not_taken s client number ≡ None → IsTakable s client number
unfolding not_taken
takable s client number h =
    let a = none_then NotTakens.Closed _ s.is_closed h in
    let b = none_then NotTakens.NoClient _ (not (nat_lt client (length s.numbers))) a.1 in
    let c = none_then (NotTakens.Repeated (number_of s client)) _ (nat_lt number (number_of s client)) b.1 in
    let d = none_then NotTakens.NumbersSpent _ (nat_lt LAST (number_of s client)) c.1 in
    let e = none_then (NotTakens.Ahead (number_of s client)) _ (nat_lt (number_of s client) number) d.1 in
    record {
      is_open = a.0;
      is_client = ltb-true client (length s.numbers) (not-false (nat_lt client (length s.numbers)) b.0);
      from_next = ltb-false number (number_of s client) c.0;
      in_range = ltb-false LAST (number_of s client) d.0;
      to_next = ltb-false (number_of s client) number e.0;
    }

-- Starts, and restarts.

-- what is true of an interval with which a timer can be started
pub record IsTimely (s : FacilityState) (interval : ℕ) : Type 0 where
  pub positive : 0 < interval
  pub in_time : interval ≤ s.last - s.now
  pub unspent : s.next_serial ≤ LAST

pub timely : (s : FacilityState) (interval : ℕ) → interval_refusal s interval ≡ None → IsTimely s interval
unfolding interval_refusal
timely s interval h =
    let a = none_then Reasons.ZeroInterval _ (interval == 0) h in
    let b = none_then Reasons.TooLate _ (nat_lt (s.last - s.now) interval) a.1 in
    let c = none_then Reasons.SerialsSpent _ (nat_lt LAST s.next_serial) b.1 in
    record {
      positive = omega (arith, eqb-false interval 0 a.0);
      in_time = ltb-false (s.last - s.now) interval b.0;
      unspent = ltb-false LAST s.next_serial c.0;
    }

-- what is true of a start that is accepted
pub record IsStartable (s : FacilityState) (interval : ℕ) : Type 0 where
  pub unrefused : interval_refusal s interval ≡ None
  pub room : length s.pending ≢ s.capacity

pub neither : (a b : Option Reason) → first_refusal a b ≡ None → (a ≡ None) × (b ≡ None)
neither None b h = (refl, h)
neither (Some reason) b h = absurd (cc)

some_room : (s : FacilityState) → room_refusal s ≡ None → length s.pending ≢ s.capacity
unfolding room_refusal
some_room s h = eqb-false (length s.pending) s.capacity (none_then Reasons.Full _ (length s.pending == s.capacity) h).0

pub startable : (s : FacilityState) (interval : ℕ) → start_refusal s interval ≡ None → IsStartable s interval
startable s interval h =
    let n = neither (interval_refusal s interval) (room_refusal s) h in
    record { unrefused = n.0; room = some_room s n.1 }

-- Ticks.

pub tick_refusal-none : (s : FacilityState) → s.is_closed ≡ false → s.now ≢ s.last → tick_refusal s ≡ None
unfolding tick_refusal
tick_refusal-none s h k = rw (h, ne_eqb s.now s.last k) refl

-- what is true of a tick that is accepted
pub record IsTicking (s : FacilityState) : Type 0 where
  pub is_open : s.is_closed ≡ false
  pub before_last : s.now ≢ s.last

pub ticking : (s : FacilityState) → tick_refusal s ≡ None → IsTicking s
unfolding tick_refusal
ticking s h =
    let a = none_then TickFaults.Closed _ s.is_closed h in
    let b = none_then TickFaults.ClockEnd _ (s.now == s.last) a.1 in
    record { is_open = a.0; before_last = eqb-false s.now s.last b.0 }
