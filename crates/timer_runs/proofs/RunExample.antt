-- A run with each kind of call. A timer is started and cleared, and new timers are made. Of three that are started then,
-- one is stopped, two ticks pass and one is taken. Another is due at once: it is restarted for a later tick, set, and
-- restarted again. Ticks pass, and the two that are left are taken, one in a batch and one by a tick. A last one is held.
use Rattle.std.proofs.Common.{ℕ, zero, suc, ◌≡◌, ◌<◌, List, [], ◌∷◌, inl, refl, arith}
use Rattle.std.specs.Prelude.{Some}
use Rattle.timer_base.specs.Counts.{no_counts}
use Rattle.timer_base.specs.Layout.{NoSlots}
use Rattle.timer_base.specs.declared.timer.Handle.{Handle}
use Rattle.timer_base.specs.WheelState.{WheelState, empty_wheel, after_start, after_removal, after_reserve, after_tick, after_ticks, after_expiry}
use Rattle.timer_total.specs.Refusals.{next_timer, after_start_at}
use Rattle.timer_total.specs.Ticks.{IsAdvanced, IsTakenBy}
use Rattle.timer_total.specs.TimersState.{TimersState, with_wheel, with_start, after_drop}
use Rattle.timer_runs.specs.Runs.{Counters, Call, Moment, IsCall, IsRun, IsExample, Started, StartedAt, Restarted, RestartedAt, SetAt, Stopped, Ticked, Advanced, Took, Expired, ExpiredBatch, Cleared, Reserved, Renewed, Kept}

-- timers over a new wheel
abbrev made : ℕ → ℕ → ℕ → TimersState
made last_tick first_tick serial = record {
  wheel = empty_wheel NoSlots last_tick first_tick;
  counts = no_counts;
  last_serial = serial;
}

abbrev handle : ℕ → ℕ → Handle
handle place serial = record { place = place; serial = serial }

-- a start, and one for a tick, in this wheel
abbrev start : Counters → ℕ → ℕ → WheelState → TimersState → TimersState
start c place interval w s = with_start c.start (after_start place (next_timer interval 7 s) w) s

abbrev start_at : Counters → ℕ → ℕ → WheelState → TimersState → TimersState
start_at c place deadline w s = with_start c.start (after_start_at place deadline 7 w s) s

abbrev ticked : Counters → TimersState → TimersState
ticked c s = record {
  wheel = after_tick s.wheel;
  counts = c.tick s.wheel s.counts;
  last_serial = s.last_serial;
}

-- some ticks at once
abbrev advanced : Counters → ℕ → TimersState → TimersState
advanced c ticks s = record {
  wheel = after_ticks ticks s.wheel;
  counts = c.advance s.wheel (after_ticks ticks s.wheel) s.counts;
  last_serial = s.last_serial;
}

-- calls from one state to another
record Calls (c : Counters) (s t : TimersState) : Type 0 where
  moments : List Moment
  is_run : IsRun c s moments t

-- one more call, before the others
abbrev first : (c : Counters) (s : TimersState) (call : Call) (t : TimersState) {u : TimersState} → IsCall c call s t
    → Calls c t u → Calls c s u
first c s call t is_call others = record {
  moments = record { before = s; call = call; after = t } ∷ others.moments;
  is_run = (refl, is_call, others.is_run);
}

quiet : (w : WheelState) → w.due ≡ [] → (after_tick w).due ≡ [] → (n : ℕ) → n < 2 → (after_ticks n w).due ≡ []
quiet w first second zero h = first
quiet w first second (suc zero) h = second
quiet w first second (suc (suc n)) h = absurd (omega arith)

pub an_example : (c : Counters) → IsExample c
an_example c =
    let a0 = made 50 7 0 in let a1 = start c 0 9 a0.wheel a0 in let a2 = with_wheel (after_drop a1.wheel) a1 in
    let a3 = with_wheel (after_reserve 8 a2.wheel) a2 in let s0 = made 100 0 1 in
    let s1 = start c 0 2 s0.wheel s0 in let s2 = start c 1 2 s1.wheel s1 in let s3 = start c 2 4 s2.wheel s2 in
    let s4 = with_wheel (after_removal (handle 1 3) s3.wheel) s3 in
    let s5 = ticked c s4 in let s6 = ticked c s5 in let s7 = with_wheel (after_expiry s6.wheel) s6 in
    let s8 = start_at c 0 1 s7.wheel s7 in let s9 = start_at c 0 3 (after_removal (handle 0 5) s8.wheel) s8 in
    let s10 = start_at c 0 3 (after_removal (handle 0 6) s9.wheel) s9 in
    let s11 = start c 0 4 (after_removal (handle 0 7) s10.wheel) s10 in
    let s12 = advanced c 2 s11 in let s13 = with_wheel (after_expiry s12.wheel) s12 in
    let s14 = advanced c 2 s13 in let s15 = with_wheel (after_expiry s14.wheel) s14 in
    let s16 = start c 0 5 s15.wheel s15 in
    let by_two : IsAdvanced c.advance 9 2 s11 s12 = record {
      allowed = λ h. (refl, omega arith);
      passes = record {
        at_most = omega arith;
        some = λ h. omega arith;
        ticked = refl;
        quiet = quiet s11.wheel refl refl;
        early = λ h. inl (search arith);
      };
      counted = refl;
      serial = refl;
    } in
    let taken_by_two : IsTakenBy c.advance 9 (Some (next_timer 4 7 s10)) s13 s15 = record {
      passed = 2;
      at_most = omega arith;
      quiet = quiet s13.wheel refl refl;
      first = refl;
      rest = refl;
      counted = refl;
      serial = refl;
      whole = λ h. absurd (cc);
    } in
    let end : Calls c s16 s16 = record { moments = []; is_run = refl } in
    let c19 = first c s16 Kept s16 refl end in
    let c18 = first c s15 (Started 5 7 (handle 0 9)) s16 ((omega arith, omega arith, search arith), refl, refl) c19 in
    let c17 = first c s13 (Took 9 (Some (next_timer 4 7 s10))) s15 taken_by_two c18 in
    let c16 = first c s12 (ExpiredBatch (next_timer 4 7 s2 ∷ [])) s13 (1, refl, refl) c17 in
    let c15 = first c s11 (Advanced 9 2) s12 by_two c16 in
    let c14 = first c s10 (Restarted (handle 0 7) 4 7 (handle 0 8)) s11
    (search, (omega arith, omega arith, search arith), refl, refl) c15 in
    let c13 = first c s9 (SetAt (handle 0 6) 3 7 (handle 0 7)) s10 ((omega arith, omega arith, search arith), refl, refl) c14 in
    let c12 = first c s8 (RestartedAt (handle 0 5) 3 7 (handle 0 6)) s9
    (search, (omega arith, omega arith, search arith), refl, refl) c13 in
    let c11 = first c s7 (StartedAt 1 7 (handle 0 5)) s8 ((omega arith, omega arith, search arith), refl, refl) c12 in
    let c10 = first c s6 (Expired (Some (next_timer 2 7 s0))) s7 (refl, refl) c11 in
    let c9 = first c s5 Ticked s6 (refl, refl) c10 in
    let c8 = first c s4 Ticked s5 (refl, refl) c9 in
    let c7 = first c s3 (Stopped (handle 1 3) (next_timer 2 7 s1)) s4 (refl, refl) c8 in
    let c6 = first c s2 (Started 4 7 (handle 2 4)) s3 ((omega arith, omega arith, search arith), refl, refl) c7 in
    let c5 = first c s1 (Started 2 7 (handle 1 3)) s2 ((omega arith, omega arith, search arith), refl, refl) c6 in
    let c4 = first c s0 (Started 2 7 (handle 0 2)) s1 ((omega arith, omega arith, search arith), refl, refl) c5 in
    let c3 = first c a3 Renewed s0 (record { none_pending = refl; none_due = refl }, refl) c4 in
    let c2 = first c a2 (Reserved 8) a3 refl c3 in
    let c1 = first c a1 Cleared a2 refl c2 in
    let c0 = first c a0 (Started 9 7 (handle 0 1)) a1 ((omega arith, omega arith, search arith), refl, refl) c1 in
    record {
      first = a0;
      last = s16;
      calls = c0.moments;
      is_new = record { none_pending = refl; none_due = refl };
      is_run = c0.is_run;
      three_taken = refl;
      five_ended = refl;
      one_held = refl;
    }
