-- How many timers each client has: the counts after each call of a facility.
use Rattle.std.proofs.Common.{◌≡◌, ◌≢◌, ◌<◌, ◌≤◌, ◌+◌, ◌-◌, ℕ, ◌==◌, List, [], ◌∷◌, ◌++◌, length, refl, sym, ◌∙◌, ap, subst, inl, inr, arith}
use Rattle.std.specs.Prelude.{nat_lt, drop, Some, slice_get, slice_index, slice_set, replicate}
use Rattle.std.proofs.lemmas.Bool.{cases_eq, cases_lt, eq-eqb, ne_eqb}
use Rattle.std.proofs.lemmas.List.{get_or-set_same, get_or-set_other, get_or_past, get_or-replicate, length-set}
use Rattle.timer_base.proofs.Members.{at_member}
use Rattle.timer_base.proofs.Basics.{either, none_some, some_same}
use Rattle.timer_base.proofs.HeldLaws.{no_serial}
use Rattle.timer_base.specs.Order.{IsMember, AreDistinct}
use Rattle.timer_facility.specs.Types.{Timer}
use Rattle.timer_base.specs.Pending.{Entry, timers_of, put, is_due_at, without_serial, entries_due, entries_left}
use Rattle.timer_base.specs.WheelState.{WheelState}
use Rattle.timer_facility.specs.State.{one_of, count_of}
use Rattle.timer_facility.specs.Facility.{kept_in, AreCounted}

pub count-append : (client : ℕ) (xs ys : List Timer) → count_of client (xs ++ ys) ≡ count_of client xs + count_of client ys
count-append client [] ys = omega arith
count-append client (x ∷ xs) ys = let n = count-append client xs ys in omega arith

pub count-kept : (client : ℕ) (w : WheelState) (returned : List Timer) → count_of client (kept_in w returned)
    ≡ count_of client (timers_of w.pending) + (count_of client (timers_of w.due) + count_of client returned)
count-kept client w returned =
    rw (count-append client (timers_of w.pending) (timers_of w.due ++ returned), count-append client (timers_of w.due) returned) refl

-- Pending timers.

pub count-put : (client : ℕ) (e : Entry) (es : List Entry) → count_of client (timers_of (put e es))
    ≡ one_of client e.timer + count_of client (timers_of es)
count-put client e [] = omega arith
count-put client e (x ∷ xs) = elim (either (nat_lt e.timer.deadline x.timer.deadline)) [
  | inl h ↦ rw h refl
  | inr h ↦ rw h (let n : count_of client (timers_of (put e xs)) ≡ one_of client e.timer + count_of client (timers_of xs) =
      count-put client e xs in omega arith)
]

pub count-tick : (client tick : ℕ) (es : List Entry) → count_of client (timers_of (entries_left tick es)) + count_of client
    (timers_of (entries_due tick es)) ≡ count_of client (timers_of es)
count-tick client tick [] = refl
count-tick client tick (x ∷ xs) = elim (either (is_due_at tick x.timer)) [
  | inl h ↦ rw h (let n = count-tick client tick xs in omega arith)
  | inr h ↦ rw h (let n = count-tick client tick xs in omega arith)
]

pub count-without : (client : ℕ) (t : Timer) (es : List Entry) → AreDistinct (timers_of es) → IsMember t (timers_of es)
    → one_of client t + count_of client (timers_of (without_serial t.serial es)) ≡ count_of client (timers_of es)
count-without client t [] d a = absurd a
count-without client t (x ∷ xs) d (inl h) =
    subst (λ (u : Timer). one_of client u + count_of client (timers_of (without_serial u.serial (x ∷ xs)))
    ≡ count_of client (timers_of (x ∷ xs))) h
    (rw (eq-eqb x.timer.serial x.timer.serial refl, no_serial x.timer.serial xs d.0) refl)
count-without client t (x ∷ xs) d (inr a) =
    let other : x.timer.serial ≢ t.serial = λ e. at_member (λ u. u.serial ≢ x.timer.serial) t (timers_of xs) d.0 a (sym e) in
    rw (ne_eqb x.timer.serial t.serial other) (let n = count-without client t xs d.1 a in omega arith)

-- what is handed out comes from the front
pub count-front : (client : ℕ) (t : Timer) (ts : List Timer) → slice_get ts 0 ≡ Some t
    → count_of client ts ≡ one_of client t + count_of client (drop 1 ts)
count-front client t [] h = absurd (none_some t h)
count-front client t (x ∷ xs) h = ap (λ u. one_of client u + count_of client xs) (some_same x t h)

-- The counts.

pub counted-none : (clients : ℕ) → AreCounted clients (replicate 64 0) []
counted-none clients = record {
  all_counts = refl;
  each = none;
  no_others = λ client h. none client;
} where
  none : (client : ℕ) → slice_index (replicate 64 0) client ≡ 0
  none client = elim (cases_lt client 64) [
    | inl h ↦ get_or-replicate 64 client 0 0 h
    | inr h ↦ get_or_past (replicate 64 0) client 0 h
  ]

pub counted-as : {clients : ℕ} {counts : List ℕ} {ts : List Timer} → AreCounted clients counts ts → (us : List Timer)
    → ((client : ℕ) → count_of client us ≡ count_of client ts) → AreCounted clients counts us
counted-as a us h = record { all_counts = a.all_counts; each = λ client. a.each client ∙ sym (h client); no_others = a.no_others }

one_same : (t : Timer) → one_of t.client t ≡ 1
one_same t = rw (eq-eqb t.client t.client refl) refl

one_other : (t : Timer) (client : ℕ) → client ≢ t.client → one_of client t ≡ 0
one_other t client o = rw (ne_eqb t.client client (λ e. o (sym e))) refl

-- the count of one client changes
counted-with : {clients : ℕ} {counts : List ℕ} {ts : List Timer} → AreCounted clients counts ts → (k n : ℕ) (us : List Timer)
    → k < clients → k < 64 → n ≡ count_of k us → ((client : ℕ) → client ≢ k → count_of client us ≡ count_of client ts)
    → AreCounted clients (slice_set counts k n) us
counted-with {clients} {counts} {ts} a k n us l low here others = record {
  all_counts = length-set counts k n ∙ a.all_counts;
  each = λ client. elim (cases_eq client k) [
    | inl e ↦ subst (λ j. slice_index (slice_set counts k n) j ≡ count_of j us) (sym e)
        (get_or-set_same counts k n 0 (omega (arith, a.all_counts, low)) ∙ here)
    | inr o ↦ get_or-set_other counts k client n 0 o ∙ a.each client ∙ sym (others client o)
  ];
  no_others = λ client m. get_or-set_other counts k client n 0 (λ e. omega (arith, l, m, e)) ∙ a.no_others client m;
}

-- one more timer
pub counted-more : {clients : ℕ} {counts : List ℕ} {ts : List Timer} → AreCounted clients counts ts → (t : Timer) (us : List Timer)
    → t.client < clients → clients ≤ 64
    → ((client : ℕ) → count_of client us ≡ one_of client t + count_of client ts)
    → AreCounted clients (slice_set counts t.client (slice_index counts t.client + 1)) us
counted-more {clients} {counts} a t us l few h =
    counted-with a t.client (slice_index counts t.client + 1) us l (omega arith)
    (omega (arith, h t.client, one_same t, a.each t.client)) (λ client o. omega (arith, h client, one_other t client o))

-- a timer that is counted
pub record IsCounted (clients : ℕ) (counts : List ℕ) (t : Timer) : Type 0 where
  pub some : 0 < slice_index counts t.client
  pub is_client : t.client < clients
  pub within : t.client < 64

pub is_counted : {clients : ℕ} {counts : List ℕ} {ts : List Timer} → AreCounted clients counts ts → (t : Timer) (us : List Timer)
    → ((client : ℕ) → count_of client ts ≡ one_of client t + count_of client us) → IsCounted clients counts t
is_counted {clients} {counts} a t us h =
    let some : 0 < slice_index counts t.client = omega (arith, h t.client, one_same t, a.each t.client) in record {
      some = some;
      is_client = elim (cases_lt t.client clients) [ inl l ↦ l | inr m ↦ absurd (omega (arith, some, a.no_others t.client m)) ];
      within = elim (cases_lt t.client 64) [
        | inl l ↦ l
        | inr m ↦ absurd (omega (arith, some, get_or_past counts t.client 0 (omega (arith, a.all_counts, m))))
      ];
    }

-- one fewer timer
pub counted-less : {clients : ℕ} {counts : List ℕ} {ts : List Timer} → AreCounted clients counts ts → (t : Timer) (us : List Timer)
    → ((client : ℕ) → count_of client ts ≡ one_of client t + count_of client us)
    → {less : List ℕ} → less ≡ slice_set counts t.client (slice_index counts t.client - 1) → AreCounted clients less us
counted-less {clients} {counts} a t us h e =
    let there = is_counted a t us h in
    subst (λ ns. AreCounted clients ns us) (sym e) (counted-with a t.client (slice_index counts t.client - 1) us there.is_client there.within
    (omega (arith, h t.client, one_same t, a.each t.client)) (λ client o. omega (arith, h client, one_other t client o)))

pub count_in_range : (client : ℕ) (ts : List Timer) → count_of client ts ≤ length ts
count_in_range client [] = omega arith
count_in_range client (t ∷ ts) = elim (either (t.client == client)) [
  | inl h ↦ rw h (let n = count_in_range client ts in omega arith)
  | inr h ↦ rw h (let n = count_in_range client ts in omega arith)
]
