-- Lemmas about the order of anything that has a timer.
use Rattle.std.proofs.Common.{sym, ◌∙◌, ap, inl, inr, arith, ◌≡◌, ◌≢◌, ◌<◌, ◌+◌, ℕ, suc, Bool, true, false, ◌==◌, nat_lt, if◌then◌else◌, List, [], ◌∷◌, ◌++◌, length, filter, map, refl, append-nil, length-append}
use Rattle.std.specs.List.{AllByRecursion}
use Rattle.std.proofs.lemmas.Bool.{eqb-true}
use Rattle.std.proofs.lemmas.Bool.Decides.{nat_tests}
use Rattle.timer_base.proofs.Basics.{either}
use Rattle.timer_base.specs.Types.{Timer}
use Rattle.timer_base.specs.Order.{is_before, insert_in_order, in_order, insert_by_deadline, itself, IsFirst, IsOrdered, IsNotAmong, AreRising, AreNumberedFrom, AreNumbered, AreBelow}
pub use Rattle.timer_base.specs.WellFormed.{All-in_order, All-filter, IsFirst-weaken, IsOrdered-insert_in_order, IsOrdered-in_order, IsNotAmong-rising, AreRising-prop, AreRising-weaken, AreRising-filter, IsNotAmong-in_order, AreDistinct-in_order, AreDistinct-rising}
use Rattle.timer_base.specs.WellFormed.{all_timers, map-itself}

-- Of two timers at most one comes first.

strictly_through : (a b c : Timer) → is_before a b ≡ true → is_before c b ≡ false → is_before a c ≡ true
strictly_through a b c h k = grind (arith, nat_tests)

-- A newest timer, and its position among the others.

newest_test : (e x : Timer) → x.serial < e.serial → is_before e x ≡ nat_lt e.deadline x.deadline
newest_test e x h = grind (arith, nat_tests)

newest_step : {X : Type 0} (timer : X → Timer) (e x y : X) (ys : List X) → (timer x).serial < (timer e).serial
    → insert_by_deadline timer e (insert_in_order timer x ys)
    ≡ insert_in_order timer x (insert_by_deadline timer e ys)
    → insert_by_deadline timer e (insert_in_order timer x (y ∷ ys))
    ≡ insert_in_order timer x (insert_by_deadline timer e (y ∷ ys))
newest_step timer e x y ys h ih = grind (arith, nat_tests)

newest_none : {X : Type 0} (timer : X → Timer) (e x : X) → (timer x).serial < (timer e).serial
    → insert_by_deadline timer e (insert_in_order timer x [])
    ≡ insert_in_order timer x (insert_by_deadline timer e [])
newest_none timer e x h = grind (arith, nat_tests)

pub insert_by_deadline-insert_in_order : {X : Type 0} (timer : X → Timer) (e x : X) (l : List X)
    → (timer x).serial < (timer e).serial
    → insert_by_deadline timer e (insert_in_order timer x l)
    ≡ insert_in_order timer x (insert_by_deadline timer e l)
insert_by_deadline-insert_in_order timer e x [] h = newest_none timer e x h
insert_by_deadline-insert_in_order timer e x (y ∷ ys) h =
    newest_step timer e x y ys h (insert_by_deadline-insert_in_order timer e x ys h)

pub insert_newest : {X : Type 0} (timer : X → Timer) (e : X) (l : List X)
    → AreBelow (timer e).serial (map timer l)
    → insert_in_order timer e l ≡ insert_by_deadline timer e l
insert_newest timer e [] b = refl
insert_newest timer e (y ∷ ys) b = rw (newest_test (timer e) (timer y) b.0, insert_newest timer e ys b.1) refl

pub AreBelow-in_order : {X : Type 0} (timer : X → Timer) (high : ℕ) (xs : List X)
    → AreBelow high (map timer xs)
    → AreBelow high (map timer (in_order timer xs))
AreBelow-in_order timer high xs b = all_timers timer (λ t. t.serial < high) xs b

-- a newest one, wherever it is in the list, is ordered after those of its deadline
pub in_order-newest : {X : Type 0} (timer : X → Timer) (e : X) (xs ys : List X)
    → AreBelow (timer e).serial (map timer (xs ++ ys))
    → in_order timer (xs ++ e ∷ ys) ≡ insert_by_deadline timer e (in_order timer (xs ++ ys))
in_order-newest timer e [] ys b = insert_newest timer e (in_order timer ys)
    (AreBelow-in_order timer (timer e).serial ys b)
in_order-newest timer e (x ∷ xs) ys b =
    ap (insert_in_order timer x) (in_order-newest timer e xs ys b.1)
    ∙ sym (insert_by_deadline-insert_in_order timer e x (in_order timer (xs ++ ys)) b.0)

-- and after all others, if it is the last
pub newest_last : (t : Timer) (ts : List Timer) → AreBelow t.serial ts
    → in_order itself (ts ++ t ∷ []) ≡ insert_by_deadline itself t (in_order itself ts)
newest_last t ts b =
    let all : ts ++ [] ≡ ts = append-nil ts in
    let below : AreBelow t.serial (map itself (ts ++ [])) = rw (all, map-itself ts) b in
    in_order-newest itself t ts [] below ∙ ap (λ us. insert_by_deadline itself t (in_order itself us)) all

-- The position of a member in the list does not affect the order.

commutes_step : {X : Type 0} (timer : X → Timer) (x y z : X) (zs : List X) → (timer x).serial ≢ (timer y).serial
    → insert_in_order timer x (insert_in_order timer y zs) ≡ insert_in_order timer y (insert_in_order timer x zs)
    → insert_in_order timer x (insert_in_order timer y (z ∷ zs))
    ≡ insert_in_order timer y (insert_in_order timer x (z ∷ zs))
commutes_step timer x y z zs n ih = grind (arith, nat_tests)

commutes_none : {X : Type 0} (timer : X → Timer) (x y : X) → (timer x).serial ≢ (timer y).serial
    → insert_in_order timer x (insert_in_order timer y []) ≡ insert_in_order timer y (insert_in_order timer x [])
commutes_none timer x y n = grind (arith, nat_tests)

pub insert_in_order-commutes : {X : Type 0} (timer : X → Timer) (x y : X) (l : List X)
    → (timer x).serial ≢ (timer y).serial
    → insert_in_order timer x (insert_in_order timer y l)
    ≡ insert_in_order timer y (insert_in_order timer x l)
insert_in_order-commutes timer x y [] n = commutes_none timer x y n
insert_in_order-commutes timer x y (z ∷ zs) n = commutes_step timer x y z zs n (insert_in_order-commutes timer x y zs n)

pub in_order-anywhere : {X : Type 0} (timer : X → Timer) (x : X) (ys zs : List X)
    → IsNotAmong (timer x).serial (map timer ys)
    → in_order timer (ys ++ x ∷ zs) ≡ insert_in_order timer x (in_order timer (ys ++ zs))
in_order-anywhere timer x [] zs n = refl
in_order-anywhere timer x (y ∷ ys) zs n =
    ap (insert_in_order timer y) (in_order-anywhere timer x ys zs n.1)
    ∙ insert_in_order-commutes timer y x (in_order timer (ys ++ zs)) n.0

-- The length, and facts of every member.

pub length-insert_in_order : {X : Type 0} (timer : X → Timer) (x : X) (l : List X)
    → length (insert_in_order timer x l) ≡ suc (length l)
length-insert_in_order timer x [] = refl
length-insert_in_order timer x (y ∷ ys) = elim (either (is_before (timer x) (timer y))) [
  | inl h ↦ rw h refl
  | inr h ↦ rw h (ap suc (length-insert_in_order timer x ys))
]

pub length-in_order : {X : Type 0} (timer : X → Timer) (xs : List X) → length (in_order timer xs) ≡ length xs
length-in_order timer [] = refl
length-in_order timer (x ∷ xs) = length-insert_in_order timer x (in_order timer xs)
    ∙ ap suc (length-in_order timer xs)

pub All-weaken : {X : Type 0} (P Q : X → Type 0) (xs : List X) → ((x : X) → P x → Q x) → AllByRecursion P xs
    → AllByRecursion Q xs
All-weaken P Q [] f a = tt
All-weaken P Q (x ∷ xs) f a = (f x a.0, All-weaken P Q xs f a.1)

pub All-append : {X : Type 0} (P : X → Type 0) (xs ys : List X) → AllByRecursion P xs → AllByRecursion P ys → AllByRecursion P (xs ++ ys)
All-append P [] ys a b = b
All-append P (x ∷ xs) ys a b = (a.0, All-append P xs ys a.1 b)

pub filter_same : {X : Type 0} (p q : X → Bool) (xs : List X) → AllByRecursion (λ x. p x ≡ q x) xs → filter p xs ≡ filter q xs
filter_same p q [] a = refl
filter_same p q (x ∷ xs) a = rw a.0 (ap (λ r. if q x then x ∷ r else r) (filter_same p q xs a.1))

pub filter_all : {X : Type 0} (p : X → Bool) (xs : List X) → AllByRecursion (λ x. p x ≡ true) xs → filter p xs ≡ xs
filter_all p [] a = refl
filter_all p (x ∷ xs) a = rw a.0 (ap (λ r. x ∷ r) (filter_all p xs a.1))

pub filter_none : {X : Type 0} (p : X → Bool) (xs : List X) → AllByRecursion (λ x. p x ≡ false) xs → filter p xs ≡ []
filter_none p [] a = refl
filter_none p (x ∷ xs) a = rw a.0 (filter_none p xs a.1)

-- Filtering commutes with ordering.

insert_front : {X : Type 0} (timer : X → Timer) (x y : X) (zs : List X) → is_before (timer x) (timer y) ≡ true
    → IsFirst (timer y) (map timer zs) → insert_in_order timer x zs ≡ x ∷ zs
insert_front timer x y [] h f = refl
insert_front timer x y (z ∷ zs) h f = rw (strictly_through (timer x) (timer y) (timer z) h f.0) refl

pub IsFirst-filter : {X : Type 0} (timer : X → Timer) (p : X → Bool) (t : Timer) (ys : List X)
    → IsFirst t (map timer ys)
    → IsFirst t (map timer (filter p ys))
IsFirst-filter timer p t [] f = tt
IsFirst-filter timer p t (y ∷ ys) f = elim (either (p y)) [
  | inl k ↦ rw k (f.0, IsFirst-filter timer p t ys f.1)
  | inr k ↦ rw k (IsFirst-filter timer p t ys f.1)
]

filter_not : {X : Type 0} (timer : X → Timer) (p : X → Bool) (x : X) (ys : List X) → p x ≡ false
    → filter p (insert_in_order timer x ys) ≡ filter p ys
filter_not timer p x [] n = rw n refl
filter_not timer p x (y ∷ ys) n = elim (either (is_before (timer x) (timer y))) [
  | inl k ↦ rw (k, n) refl
  | inr k ↦ rw k (ap (λ r. if p y then y ∷ r else r) (filter_not timer p x ys n))
]

kept_step : {X : Type 0} (timer : X → Timer) (p : X → Bool) (x y : X) (ys : List X) → p x ≡ true
    → (is_before (timer x) (timer y) ≡ true → insert_in_order timer x (filter p ys) ≡ x ∷ filter p ys)
    → filter p (insert_in_order timer x ys) ≡ insert_in_order timer x (filter p ys)
    → filter p (insert_in_order timer x (y ∷ ys)) ≡ insert_in_order timer x (filter p (y ∷ ys))
kept_step timer p x y ys n front ih = grind (arith, nat_tests)

filter_kept : {X : Type 0} (timer : X → Timer) (p : X → Bool) (x : X) (ys : List X) → p x ≡ true
    → IsOrdered (map timer ys)
    → filter p (insert_in_order timer x ys) ≡ insert_in_order timer x (filter p ys)
filter_kept timer p x [] n o = rw n refl
filter_kept timer p x (y ∷ ys) n o = kept_step timer p x y ys n
    (λ k. insert_front timer x y (filter p ys) k (IsFirst-filter timer p (timer y) ys o.0))
    (filter_kept timer p x ys n o.1)

pub filter-in_order : {X : Type 0} (timer : X → Timer) (p : X → Bool) (xs : List X)
    → filter p (in_order timer xs) ≡ in_order timer (filter p xs)
filter-in_order timer p [] = refl
filter-in_order timer p (x ∷ xs) = elim (either (p x)) [
  | inl k ↦ rw k (filter_kept timer p x (in_order timer xs) k (IsOrdered-in_order timer xs)
      ∙ ap (insert_in_order timer x) (filter-in_order timer p xs))
  | inr k ↦ rw k (filter_not timer p x (in_order timer xs) k ∙ filter-in_order timer p xs)
]

-- The order depends on the timers alone, whatever carries them.

map_step : {X : Type 0} {Y : Type 0} (f : X → Timer) (g : Y → Timer) (h : X → Y) (x y : X) (ys : List X)
    → g (h x) ≡ f x → g (h y) ≡ f y
    → map h (insert_in_order f x ys) ≡ insert_in_order g (h x) (map h ys)
    → map h (insert_in_order f x (y ∷ ys)) ≡ insert_in_order g (h x) (map h (y ∷ ys))
map_step f g h x y ys a b ih = grind (arith, nat_tests)

map-insert_in_order : {X : Type 0} {Y : Type 0} (f : X → Timer) (g : Y → Timer) (h : X → Y) (same : (x : X)
    → g (h x) ≡ f x)
    → (x : X) (ys : List X) → map h (insert_in_order f x ys) ≡ insert_in_order g (h x) (map h ys)
map-insert_in_order f g h same x [] = refl
map-insert_in_order f g h same x (y ∷ ys) = map_step f g h x y ys (same x) (same y)
    (map-insert_in_order f g h same x ys)

pub map-in_order : {X : Type 0} {Y : Type 0} (f : X → Timer) (g : Y → Timer) (h : X → Y) (same : (x : X)
    → g (h x) ≡ f x) (xs : List X)
    → map h (in_order f xs) ≡ in_order g (map h xs)
map-in_order f g h same [] = refl
map-in_order f g h same (x ∷ xs) = map-insert_in_order f g h same x (in_order f xs)
    ∙ ap (insert_in_order g (h x)) (map-in_order f g h same xs)

-- Rising serials.

pub AreRising-append : (low : ℕ) (e : Timer) (ts : List Timer) → AreRising low ts → AreBelow e.serial ts
    → low < e.serial
    → AreRising low (ts ++ e ∷ [])
AreRising-append low e [] r b h = (h, tt)
AreRising-append low e (t ∷ ts) r b h = (r.0, AreRising-append t.serial e ts r.1 b.1 b.0)

-- Serials one after another.

numbered_last : (n : ℕ) (ts : List Timer) (t : Timer) → AreNumberedFrom n ts → t.serial ≡ n + length ts
    → AreNumberedFrom n (ts ++ t ∷ [])
numbered_last n [] t a e = (omega (arith, e), tt)
numbered_last n (u ∷ us) t a e = (a.0, numbered_last (n + 1) us t a.1 (omega (arith, e)))

-- one more, with the next serial
pub AreNumbered-append : (first : ℕ) (ts : List Timer) (next : ℕ) (t : Timer) → AreNumbered first ts next → t.serial ≡ next
    → AreNumbered first (ts ++ t ∷ []) (next + 1)
AreNumbered-append first ts next t a e = record {
  each = numbered_last first ts t a.each (e ∙ a.next_is);
  next_is = omega (arith, a.next_is, length-append ts (t ∷ []));
}

pub AreNumberedFrom-rising : (low n : ℕ) (ts : List Timer) → low < n → AreNumberedFrom n ts → AreRising low ts
AreNumberedFrom-rising low n [] h a = tt
AreNumberedFrom-rising low n (t ∷ ts) h a =
    let e : t.serial ≡ n = a.0 in
    (omega (arith, e), AreNumberedFrom-rising t.serial (n + 1) ts (omega (arith, e)) a.1)

pub AreNumberedFrom-below : (n : ℕ) (ts : List Timer) → AreNumberedFrom n ts → AreBelow (n + length ts) ts
AreNumberedFrom-below n [] a = tt
AreNumberedFrom-below n (t ∷ ts) a =
    let e : t.serial ≡ n = a.0 in (
      omega (arith, e),
      All-weaken (λ u. u.serial < n + 1 + length ts) (λ u. u.serial < n + suc (length ts)) ts (λ u l. omega (arith, l))
          (AreNumberedFrom-below (n + 1) ts a.1),
    )

-- timers of one deadline in order of starting are in order
abbrev pub AllAt : ℕ → List Timer → Type 0
AllAt tick ts = AllByRecursion (λ t. t.deadline ≡ tick) ts

same_front : (a b : Timer) (tick : ℕ) → a.deadline ≡ tick → b.deadline ≡ tick → a.serial < b.serial
    → is_before a b ≡ true
same_front a b tick h k l = grind (arith, nat_tests)

pub in_order-same : {X : Type 0} (timer : X → Timer) (tick low : ℕ) (xs : List X) → AllAt tick (map timer xs)
    → AreRising low (map timer xs) → in_order timer xs ≡ xs
in_order-same timer tick low [] a r = refl
in_order-same timer tick low (x ∷ []) a r = refl
in_order-same timer tick low (x ∷ y ∷ ys) a r =
    ap (insert_in_order timer x) (in_order-same timer tick (timer x).serial (y ∷ ys) a.1 r.1)
    ∙ rw (same_front (timer x) (timer y) tick a.0 a.1.0 r.1.0) refl

pub AllAt-filter : (tick : ℕ) (ts : List Timer) → AllAt tick (filter (λ t. t.deadline == tick) ts)
AllAt-filter tick [] = tt
AllAt-filter tick (t ∷ ts) = elim (either (t.deadline == tick)) [
  | inl k ↦ rw k (eqb-true t.deadline tick k, AllAt-filter tick ts)
  | inr k ↦ rw k (AllAt-filter tick ts)
]
