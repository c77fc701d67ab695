-- Lemmas about `Leaps`: ticks at which no bucket with a timer is visited change the clock alone, and leaps compose.
use Rattle.std.proofs.Common.{◌≡◌, ℕ, ◌+◌, ◌-◌, ◌<◌, ◌≤◌, ◌==◌, zero, suc, List, [], ◌∷◌, refl, sym, ◌∙◌, ap, inl, inr, arith, not, nat_lt, ◌&&◌, if◌then◌else◌}
use Rattle.std.specs.List.{AllByRecursion}
use Rattle.std.proofs.lemmas.Bool.{cases_lt}
use Rattle.std.proofs.lemmas.Bool.Decides.{nat_tests}
use Rattle.timer_base.proofs.OrderLaws.{All-in_order, All-weaken}
use Rattle.timer_base.specs.Pending.{Entry, timer_of}
use Rattle.timer_base.proofs.TickLaws.{passing_quiet, after_ticks-add, none_left_out}
use Rattle.timer_base.specs.WheelState.{WheelState, IsPending, after_tick, after_ticks}
use Rattle.timer_links.specs.Lists.{list_at, KeyedLists, Row}
use Rattle.timer_wheels.specs.Digits.{IsTable, HasDigits, level, hops}
use Rattle.timer_wheels.specs.hier.Leap.{timer_visit, AreNotVisitedBefore, Leaps}
use Rattle.timer_wheels.specs.hier.Placement.{IsPlaced, hops_of, levels_of}
use Rattle.timer_wheels.specs.BucketLists.{row_timer, entry_of, entries_of, rows_below, pending_in, wheel_state, ArePending, EachRow}
use Rattle.timer_wheels.proofs.bucket_lemmas.AllLemmas.{all-both, all-map}
use Rattle.timer_wheels.proofs.table_lemmas.DigitLaws.{digits_down, bucket_by_level}
use Rattle.timer_wheels.proofs.bucket_lemmas.RowLemmas.{all-rows_below, all-list_at}
use Rattle.timer_wheels.proofs.table_lemmas.VisitLaws.{visit_in_time, level_stays}

-- Hops over a stretch.

hops-add : (table : List ℕ) (p q a c d : ℕ) → c ≡ a + p → hops table a (p + q) d ≡ hops table a p d + hops table c q d
hops-add table zero q a c d e =
    let x : zero + q ≡ q = omega arith in
    let y : c ≡ a = omega arith in
    rw (x, y) (omega arith)
hops-add table (suc p) q a c d e =
    let x : suc p + q ≡ suc (p + q) = omega arith in
    rw x (omega (arith, hops-add table p q (a + 1) c d (omega arith)))

pub hops_of-add : (table : List ℕ) (p q a c : ℕ) (es : List Entry) → c ≡ a + p
    → hops_of table a (p + q) es ≡ hops_of table a p es + hops_of table c q es
hops_of-add table p q a c [] e = omega arith
hops_of-add table p q a c (x ∷ xs) e = omega (arith, hops-add table p q a c x.timer.deadline e, hops_of-add table p q a c xs e)

abbrev pub hop_at : List ℕ → ℕ → ℕ → ℕ
hop_at table a d = if nat_lt (a + 1) d && not (level table a d == level table (a + 1) d) then 1 else 0

no_hop : (table : List ℕ) (a d : ℕ) → level table a d ≡ level table (a + 1) d → hop_at table a d ≡ 0
no_hop table a d e = grind (arith, nat_tests)

still : (table : List ℕ) (n a l d : ℕ) → ((c : ℕ) → a ≤ c → c ≤ a + n → level table c d ≡ l) → hops table a n d ≡ 0
still table zero a l d f = refl
still table (suc n) a l d f =
    let h : hop_at table a d ≡ 0 = no_hop table a d (f a (omega arith) (omega arith) ∙ sym (f (a + 1) (omega arith) (omega arith))) in
    omega (arith, still table n (a + 1) l d (λ c p q. f c (omega arith) (omega arith)))

-- A timer that stays pending.

-- a pending timer whose bucket is not emptied before this tick
record Waits (table : List ℕ) (last a visit d : ℕ) : Type 0 where
  later : a < d
  in_range : d ≤ last
  not_before : visit ≤ timer_visit table a d

module _ (table : List ℕ) (last a visit n : ℕ) (i : IsTable table) (h : HasDigits table last) (near : a + n < visit) where
  abbrev EntryWaits : Entry → Type 0
  EntryWaits entry = Waits table last a visit entry.timer.deadline

  abbrev RowWaits : Row → Type 0
  RowWaits row = Waits table last a visit (row_timer row).deadline

  keeps_level : (d : ℕ) → Waits table last a visit d → (c : ℕ) → a ≤ c → c ≤ a + n → level table c d ≡ level table a d
  keeps_level d w c p q = level_stays table a c d i (digits_down table d last i w.in_range h) w.later p (omega (arith, w.not_before))

  still_later : (d : ℕ) → Waits table last a visit d → a + n < d
  still_later d w = omega (arith, w.not_before, visit_in_time table a d i)

  no_hops : (es : List Entry) → AllByRecursion EntryWaits es → hops_of table a n es ≡ 0
  no_hops [] f = refl
  no_hops (e ∷ es) f =
      omega (arith, still table n a (level table a e.timer.deadline) e.timer.deadline (keeps_level e.timer.deadline f.0), no_hops es f.1)

  same_levels : (es : List Entry) → AllByRecursion EntryWaits es → levels_of table (a + n) es ≡ levels_of table a es
  same_levels [] f = refl
  same_levels (e ∷ es) f =
      omega (arith, keeps_level e.timer.deadline f.0 (a + n) (omega arith) (omega arith), same_levels es f.1)

  module _ (k last_serial : ℕ) (lists : KeyedLists) (p : ArePending last a last_serial (rows_below k lists))
      (q : AreNotVisitedBefore table k a visit lists) where
    each_waits : EachRow (λ s. RowWaits) k lists
    each_waits s b = all-both (λ row. IsPending last a last_serial (row_timer row)) (λ row. visit ≤ timer_visit table a (row_timer row).deadline)
        RowWaits (list_at s lists) (λ row x y. record { later = x.later; in_range = x.in_range; not_before = y })
        (all-list_at (λ row. IsPending last a last_serial (row_timer row)) k lists p s b) (q s b)

    all_wait : AllByRecursion RowWaits (rows_below k lists)
    all_wait = all-rows_below RowWaits k lists each_waits

    pending_wait : AllByRecursion EntryWaits (pending_in (rows_below k lists))
    pending_wait = All-in_order timer_of EntryWaits (entries_of (rows_below k lists))
        (all-map entry_of EntryWaits (rows_below k lists) all_wait)

    -- and none of them moves
    pub leapt_hops : hops_of table a n (pending_in (rows_below k lists)) ≡ 0
    leapt_hops = no_hops (pending_in (rows_below k lists)) pending_wait

    pub leapt_placed : EachRow (IsPlaced table a) k lists → EachRow (IsPlaced table (a + n)) k lists
    leapt_placed f s b = all-both RowWaits (IsPlaced table a s) (IsPlaced table (a + n) s) (list_at s lists)
        (λ row x y. (
          bucket_by_level table (a + n) (row_timer row).deadline (level table a (row_timer row).deadline)
              (keeps_level (row_timer row).deadline x (a + n) (omega arith) (omega arith)) ∙ y.0,
          y.1,
        ))
        (each_waits s b) (f s b)

    pub leapt_pending : ArePending last (a + n) last_serial (rows_below k lists)
    leapt_pending = all-both RowWaits (λ row. IsPending last a last_serial (row_timer row))
        (λ row. IsPending last (a + n) last_serial (row_timer row)) (rows_below k lists)
        (λ row x y. record { later = still_later (row_timer row).deadline x; in_range = y.in_range; serial = y.serial }) all_wait p

    -- only the clock advances
    pub leapt : (wheel_state k last a last_serial lists).due ≡ []
        → Leaps table 0 (wheel_state k last a last_serial lists) (wheel_state k last (a + n) last_serial lists)
    leapt z =
        let w : WheelState = wheel_state k last a last_serial lists in
        let c = passing_quiet n w z (All-weaken EntryWaits (λ entry. a + n < entry.timer.deadline) w.pending
        (λ entry x. still_later entry.timer.deadline x) pending_wait) in
        record {
          passed = n;
          now_is = refl;
          ticked = c.ticked;
          quiet = λ m b. c.quiet m (omega arith);
          kept = λ e. refl;
          moves_are = sym leapt_hops;
          pays = omega (arith, same_levels w.pending pending_wait);
        }

-- Stretches one after another.

pub leaps_none : (table : List ℕ) (w : WheelState) → Leaps table 0 w w
leaps_none table w = record {
  passed = 0;
  now_is = omega arith;
  ticked = refl;
  quiet = λ n b. absurd (omega arith);
  kept = λ e. refl;
  moves_are = sym (none_hop w.pending);
  pays = omega arith;
} where
  none_hop : (es : List Entry) → hops_of table w.now 0 es ≡ 0
  none_hop [] = refl
  none_hop (e ∷ es) = omega (arith, none_hop es)

pub leaps_tick : (table : List ℕ) (moves : ℕ) (old new : WheelState) → old.due ≡ [] → new ≡ after_tick old
    → moves ≡ hops_of table old.now 1 old.pending → moves + levels_of table new.now new.pending ≤ levels_of table old.now old.pending
    → Leaps table moves old new
leaps_tick table moves old new z e m p = record {
  passed = 1;
  now_is = ap (λ (w : WheelState). w.now) e;
  ticked = e;
  quiet = λ n h. let k : n ≡ 0 = omega arith in rw k z;
  kept = λ d. ap (λ (w : WheelState). w.pending) e ∙ none_left_out (old.now + 1) old.pending (sym (ap (λ (w : WheelState). w.due) e) ∙ d);
  moves_are = m;
  pays = p;
}

-- what is due after n ticks is due n - p ticks after the first p
pub due_after : (p n : ℕ) (old mid : WheelState) → mid ≡ after_ticks p old → p ≤ n → (after_ticks n old).due ≡ (after_ticks (n - p) mid).due
due_after p n old mid e h =
    let f : n ≡ p + (n - p) = omega arith in
    ap (λ (x : ℕ). (after_ticks x old).due) f
    ∙ ap (λ (w : WheelState). w.due) (after_ticks-add p (n - p) old ∙ ap (after_ticks (n - p)) (sym e))

pub leaps_on : (table : List ℕ) (m1 m2 : ℕ) (u v w : WheelState) → Leaps table m1 u v → v.due ≡ [] → Leaps table m2 v w
    → Leaps table (m1 + m2) u w
leaps_on table m1 m2 u v w a z b =
    let same : v.pending ≡ u.pending = a.kept z in
    let moves : m2 ≡ hops_of table v.now b.passed u.pending = b.moves_are ∙ ap (hops_of table v.now b.passed) same in
    record {
      passed = a.passed + b.passed;
      now_is = omega (arith, a.now_is, b.now_is);
      ticked = b.ticked ∙ (ap (after_ticks b.passed) a.ticked ∙ sym (after_ticks-add a.passed b.passed u));
      quiet = λ n h. elim (cases_lt n a.passed) [
        | inl k ↦ a.quiet n k
        | inr k ↦ due_after a.passed n u v a.ticked k ∙ b.quiet (n - a.passed) (omega arith)
      ];
      kept = λ e. b.kept e ∙ same;
      moves_are = omega (arith, a.moves_are, hops_of-add table a.passed b.passed u.now v.now u.pending a.now_is);
      pays = omega (arith, a.pays, b.pays);
    }
