-- Lemmas: the state of a plain wheel is well formed, with what that needs of the order of timers. They are in specs/
-- since ghost items of plain.rt cite them.
use Rattle.std.proofs.Common.{inl, inr, arith, ◌≡◌, ◌≢◌, ◌<◌, ◌≤◌, ◌⊎◌, ℕ, Bool, true, false, List, [], ◌∷◌, refl, sym, ap, filter, map}
use Rattle.std.proofs.lemmas.Bool.Decides.{nat_tests}
use Rattle.std.specs.Coded.{×_prop, Unit-prop, le_prop}
use Rattle.std.specs.List.{AllByRecursion, AllByRecursion-prop}
use Rattle.timer_base.specs.Types.{LAST, Timer}
use Rattle.timer_base.specs.Layout.{Layout}
use Rattle.timer_base.specs.Order.{is_before, insert_in_order, in_order, IsFirst, IsOrdered, IsNotAmong, AreDistinct, AreRising, itself}
use Rattle.timer_base.specs.Pending.{is_due_at, timers_of}
use Rattle.timer_base.specs.PlainState.{is_after, at_first_place, plain_state, IsKept}
use Rattle.timer_base.specs.WheelState.{WheelState, IsPending, IsDue, IsWellFormed, with_room, with_layout}

pub either : (b : Bool) → (b ≡ true) ⊎ (b ≡ false)
either b = elim b as (λ v. (v ≡ true) ⊎ (v ≡ false)) [ true ↦ inl refl | false ↦ inr refl ]

-- A list that is put in order is ordered, and what holds of each member holds of each in order.

not_both : (a b : Timer) → is_before a b ≡ true → is_before b a ≡ false
not_both a b h = grind (arith, nat_tests)

first_through : (a b c : Timer) → is_before b a ≡ false → is_before c b ≡ false → is_before c a ≡ false
first_through a b c h k = grind (arith, nat_tests)

-- what holds of each timer holds of each in order
all_inserted : {X : Type 0} (timer : X → Timer) (P : Timer → Type 0) (x : X) (l : List X) → P (timer x)
    → AllByRecursion P (map timer l) → AllByRecursion P (map timer (insert_in_order timer x l))
all_inserted timer P x [] h a = (h, tt)
all_inserted timer P x (y ∷ ys) h a = elim (either (is_before (timer x) (timer y))) [
  | inl k ↦ rw k (h, a)
  | inr k ↦ rw k (a.0, all_inserted timer P x ys h a.1)
]

pub all_timers : {X : Type 0} (timer : X → Timer) (P : Timer → Type 0) (xs : List X) → AllByRecursion P (map timer xs)
    → AllByRecursion P (map timer (in_order timer xs))
all_timers timer P [] a = tt
all_timers timer P (x ∷ xs) a = all_inserted timer P x (in_order timer xs) a.0 (all_timers timer P xs a.1)

All-insert_in_order : {X : Type 0} (timer : X → Timer) (P : X → Type 0) (x : X) (ys : List X) → P x
    → AllByRecursion P ys
    → AllByRecursion P (insert_in_order timer x ys)
All-insert_in_order timer P x [] p a = (p, tt)
All-insert_in_order timer P x (y ∷ ys) p a = elim (either (is_before (timer x) (timer y))) [
  | inl k ↦ rw k (p, a)
  | inr k ↦ rw k (a.0, All-insert_in_order timer P x ys p a.1)
]

pub All-in_order : {X : Type 0} (timer : X → Timer) (P : X → Type 0) (xs : List X) → AllByRecursion P xs
    → AllByRecursion P (in_order timer xs)
All-in_order timer P [] a = tt
All-in_order timer P (x ∷ xs) a = All-insert_in_order timer P x (in_order timer xs) a.0
    (All-in_order timer P xs a.1)

pub All-filter : {X : Type 0} (P Q : X → Type 0) (p : X → Bool) (xs : List X)
    → ((x : X) → p x ≡ true → P x → Q x) → AllByRecursion P xs
    → AllByRecursion Q (filter p xs)
All-filter P Q p [] f a = tt
All-filter P Q p (x ∷ xs) f a = elim (either (p x)) [
  | inl k ↦ rw k (f x k a.0, All-filter P Q p xs f a.1)
  | inr k ↦ rw k (All-filter P Q p xs f a.1)
]

pub IsFirst-weaken : (a b : Timer) (ts : List Timer) → is_before b a ≡ false → IsFirst b ts → IsFirst a ts
IsFirst-weaken a b [] h f = tt
IsFirst-weaken a b (t ∷ ts) h f = (first_through a b t h f.0, IsFirst-weaken a b ts h f.1)

IsFirst-insert_in_order : {X : Type 0} (timer : X → Timer) (t : Timer) (x : X) (ys : List X)
    → is_before (timer x) t ≡ false
    → IsFirst t (map timer ys) → IsFirst t (map timer (insert_in_order timer x ys))
IsFirst-insert_in_order timer t x [] h f = (h, tt)
IsFirst-insert_in_order timer t x (y ∷ ys) h f = elim (either (is_before (timer x) (timer y))) [
  | inl k ↦ rw k (h, (f.0, f.1))
  | inr k ↦ rw k (f.0, IsFirst-insert_in_order timer t x ys h f.1)
]

pub IsOrdered-insert_in_order : {X : Type 0} (timer : X → Timer) (x : X) (ys : List X) → IsOrdered (map timer ys)
    → IsOrdered (map timer (insert_in_order timer x ys))
IsOrdered-insert_in_order timer x [] o = (tt, tt)
IsOrdered-insert_in_order timer x (y ∷ ys) o = elim (either (is_before (timer x) (timer y))) [
  | inl k ↦
      let n : is_before (timer y) (timer x) ≡ false = not_both (timer x) (timer y) k in
      rw k ((n, IsFirst-weaken (timer x) (timer y) (map timer ys) n o.0), o)
  | inr k ↦ rw k (
    IsFirst-insert_in_order timer (timer y) x ys k o.0,
    IsOrdered-insert_in_order timer x ys o.1,
  )
]

pub IsOrdered-in_order : {X : Type 0} (timer : X → Timer) (xs : List X)
    → IsOrdered (map timer (in_order timer xs))
IsOrdered-in_order timer [] = tt
IsOrdered-in_order timer (x ∷ xs) = IsOrdered-insert_in_order timer x (in_order timer xs)
    (IsOrdered-in_order timer xs)

-- Rising serials, and distinct ones.

pub AreRising-prop : (low : ℕ) (ts : List Timer) → IsProp (AreRising low ts)
AreRising-prop low [] = Unit-prop
AreRising-prop low (t ∷ ts) = ×_prop le_prop (AreRising-prop t.serial ts)

pub AreRising-weaken : (a b : ℕ) (ts : List Timer) → b ≤ a → AreRising a ts → AreRising b ts
AreRising-weaken a b [] h r = tt
AreRising-weaken a b (t ∷ ts) h r = (let r0 : a < t.serial = r.0 in omega arith, r.1)

pub AreRising-filter : (p : Timer → Bool) (low : ℕ) (ts : List Timer) → AreRising low ts
    → AreRising low (filter p ts)
AreRising-filter p low [] r = tt
AreRising-filter p low (t ∷ ts) r = elim (either (p t)) [
  | inl k ↦ rw k (r.0, AreRising-filter p t.serial ts r.1)
  | inr k ↦ rw k (AreRising-filter p low ts (AreRising-weaken t.serial low ts (let r0 : low < t.serial = r.0
      in omega arith) r.1))
]

AreDistinct-insert_in_order : {X : Type 0} (timer : X → Timer) (x : X) (ys : List X)
    → IsNotAmong (timer x).serial (map timer ys)
    → AreDistinct (map timer ys) → AreDistinct (map timer (insert_in_order timer x ys))
AreDistinct-insert_in_order timer x [] n d = (tt, tt)
AreDistinct-insert_in_order timer x (y ∷ ys) n d = elim (either (is_before (timer x) (timer y))) [
  | inl k ↦ rw k (n, d)
  | inr k ↦ rw k (
    all_inserted timer (λ t. t.serial ≢ (timer y).serial) x ys (λ e. n.0 (sym e)) d.0,
    AreDistinct-insert_in_order timer x ys n.1 d.1,
  )
]

pub IsNotAmong-in_order : {X : Type 0} (timer : X → Timer) (s : ℕ) (xs : List X) → IsNotAmong s (map timer xs)
    → IsNotAmong s (map timer (in_order timer xs))
IsNotAmong-in_order timer s xs n = all_timers timer (λ t. t.serial ≢ s) xs n

pub AreDistinct-in_order : {X : Type 0} (timer : X → Timer) (xs : List X) → AreDistinct (map timer xs)
    → AreDistinct (map timer (in_order timer xs))
AreDistinct-in_order timer [] d = tt
AreDistinct-in_order timer (x ∷ xs) d =
    AreDistinct-insert_in_order timer x (in_order timer xs)
    (IsNotAmong-in_order timer (timer x).serial xs d.0) (AreDistinct-in_order timer xs d.1)

pub IsNotAmong-rising : (s low : ℕ) (ts : List Timer) → s ≤ low → AreRising low ts → IsNotAmong s ts
IsNotAmong-rising s low [] h r = tt
IsNotAmong-rising s low (t ∷ ts) h r =
    let r0 : low < t.serial = r.0 in
    ((λ e. let e0 : t.serial ≡ s = e in omega arith), IsNotAmong-rising s t.serial ts (omega arith) r.1)

pub AreDistinct-rising : (low : ℕ) (ts : List Timer) → AreRising low ts → AreDistinct ts
AreDistinct-rising low [] r = tt
AreDistinct-rising low (t ∷ ts) r = (
  IsNotAmong-rising t.serial t.serial ts (omega arith) r.1,
  AreDistinct-rising t.serial ts r.1,
)

-- The state of a plain wheel.

pub map-itself : (ts : List Timer) → map itself ts ≡ ts
map-itself [] = refl
map-itself (t ∷ ts) = ap (λ r. t ∷ r) (map-itself ts)

-- room changes nothing in the invariant
pub with_room-well_formed : (room : ℕ) (w : WheelState) → IsWellFormed w → IsWellFormed (with_room room w)
with_room-well_formed room w h = record {
  last_in_range = h.last_in_range;
  now_in_range = h.now_in_range;
  serial_in_range = h.serial_in_range;
  ordered = h.ordered;
  distinct = h.distinct;
  each = h.each;
  each_due = h.each_due;
  due_rising = h.due_rising;
}

-- nor does the layout
pub with_layout-well_formed : (layout : Layout) (w : WheelState) → IsWellFormed w → IsWellFormed (with_layout layout w)
with_layout-well_formed layout w h = record {
  last_in_range = h.last_in_range;
  now_in_range = h.now_in_range;
  serial_in_range = h.serial_in_range;
  ordered = h.ordered;
  distinct = h.distinct;
  each = h.each;
  each_due = h.each_due;
  due_rising = h.due_rising;
}

IsKept-one : (now last_serial : ℕ) (t : Timer) → IsProp (IsKept now last_serial t)
IsKept-one now last_serial t = hlevel le_prop

pub IsKept-prop : (now last_serial : ℕ) (ts : List Timer)
    → IsProp (AllByRecursion (IsKept now last_serial) ts)
IsKept-prop now last_serial ts = AllByRecursion-prop (IsKept now last_serial) (IsKept-one now last_serial) ts

pub timers_of-at_first_place : (ts : List Timer) → timers_of (map at_first_place ts) ≡ ts
timers_of-at_first_place [] = refl
timers_of-at_first_place (t ∷ ts) = ap (λ r. t ∷ r) (timers_of-at_first_place ts)

kept_is_pending : (now last_serial : ℕ) (t : Timer) → is_after now t ≡ true → IsKept now last_serial t
    → IsPending LAST now last_serial t
kept_is_pending now last_serial t h k = record {
  later = grind (arith, nat_tests);
  in_range = k.in_range;
  serial = k.serial;
}

kept_is_due : (now last_serial : ℕ) (t : Timer) → is_due_at now t ≡ true → IsKept now last_serial t
    → IsDue now last_serial t
kept_is_due now last_serial t h k = record { deadline = grind (arith, nat_tests); serial = k.serial }

pub plain_state-well_formed : (now last_serial : ℕ) (ts : List Timer) → now ≤ LAST → last_serial ≤ LAST
    → AreRising 0 ts
    → AllByRecursion (IsKept now last_serial) ts → IsWellFormed (plain_state now last_serial ts)
plain_state-well_formed now last_serial ts n l r k =
    let pending : List Timer = filter (is_after now) ts in
    let same : timers_of (map at_first_place (in_order itself pending)) ≡ in_order itself pending =
    timers_of-at_first_place (in_order itself pending) in
    let ordered : IsOrdered (in_order itself pending) =
    rw (map-itself (in_order itself pending)) at (IsOrdered-in_order itself pending) in
    let apart : AreDistinct pending = AreDistinct-rising 0 pending (AreRising-filter (is_after now) 0 ts r) in
    let distinct : AreDistinct (in_order itself pending) =
    rw (map-itself (in_order itself pending)) at (AreDistinct-in_order itself pending
    (rw (map-itself pending) apart)) in
    record {
      last_in_range = omega arith;
      now_in_range = n;
      serial_in_range = l;
      ordered = rw same ordered;
      distinct = rw same distinct;
      each = rw same (All-in_order itself (IsPending LAST now last_serial) pending
          (All-filter (IsKept now last_serial) (IsPending LAST now last_serial) (is_after now) ts
          (kept_is_pending now last_serial) k));
      each_due = rw (timers_of-at_first_place (filter (is_due_at now) ts))
          (All-filter (IsKept now last_serial) (IsDue now last_serial) (is_due_at now) ts
          (kept_is_due now last_serial) k);
      due_rising = rw (timers_of-at_first_place (filter (is_due_at now) ts))
          (AreRising-filter (is_due_at now) 0 ts r);
    }
