-- Lemmas for `Wheels::visit_next`: which bucket a tick empties, and from the invariant before a tick to the lists after it.
use Rattle.std.proofs.Common.{◌≡◌, ◌≢◌, ◌<◌, ◌+◌, ◌*◌, ◌/◌, ◌%◌, ℕ, List, [], ◌∷◌, length, sym, ◌∙◌, ap, subst, inl, inr, arith, Some}
use Rattle.std.specs.List.{AllByRecursion}
use Rattle.std.proofs.lemmas.Bool.{cases_eq}
use Rattle.std.proofs.lemmas.Nat.{div-mul-add, mod-mul-add}
use Rattle.timer_base.specs.WheelState.{IsPending}
use Rattle.timer_wheels.specs.Types.{Ghosts, list_at, KeyedLists, Rows, Table}
use Rattle.timer_wheels.specs.BucketLists.{row_timer}
use Rattle.timer_wheels.specs.declared.table.TheConstants.{MOST_BUCKETS}
use Rattle.timer_wheels.specs.Buckets.{state_of}
use Rattle.timer_wheels.specs.declared.buckets.Buckets.{Buckets}
use Rattle.timer_wheels.specs.Digits.{IsTable, HasDigits, bucket, emptied, last_of, lowest_radix}
use Rattle.timer_wheels.specs.hier.Hier.{IsHier}
use Rattle.timer_wheels.specs.hier.Leap.{list_visit, timer_visit}
use Rattle.timer_wheels.specs.hier.Migration.{migrated, left_rows, MayMigrate, IsOfTick}
use Rattle.timer_wheels.specs.Occupied.{filled, IsFirstSet}
use Rattle.timer_wheels.specs.hier.Placement.{IsPlaced}
use Rattle.timer_wheels.specs.Tables.{radices}
use Rattle.timer_wheels.proofs.table_lemmas.DigitLaws.{digits_down, less_quotient, bucket_near, bucket_far, emptied_here, emptied_above}
use Rattle.timer_wheels.proofs.hier_lemmas.Leaps.{first_in, last_digits}
use Rattle.timer_wheels.proofs.bucket_lemmas.RowLemmas.{all-list_at}
use Rattle.timer_wheels.proofs.table_lemmas.VisitLaws.{none_below, visit_near, visit_far, list_is}
use Rattle.timer_wheels.proofs.table_lemmas.TableLaws.{of_table}
use Rattle.timer_wheels.proofs.hier_lemmas.Ticks.{IsBefore, IsNext, before_of, next_of, all_may_migrate, all_of_tick}

-- the next visit of a pending timer empties its bucket
visit_empties : (table : List ℕ) (a d : ℕ) → IsTable table → HasDigits table d → a < d
    → emptied table (timer_visit table a d) ≡ bucket table a d
visit_empties [] a d t i h = absurd (let z : d ≡ 0 = i in omega arith)
visit_empties (r ∷ rs) a d t i h = elim (cases_eq (a / r) (d / r)) [
  | inl e ↦
      let p : r * (a / r) + a % r ≡ a = omega arith in
      let q : r * (d / r) + d % r ≡ d = omega arith in
      let s : r * (a / r) ≡ r * (d / r) = ap (λ (x : ℕ). r * x) e in
      let n : d % r ≢ 0 = λ (z : d % r ≡ 0). absurd (omega arith) in
      rw (visit_near r rs a d e) (emptied_here r rs d n ∙ sym (bucket_near r rs a d e))
  | inr e ↦
      let v : ℕ = timer_visit rs (a / r) (d / r) in
      let w : r * v ≡ v * r + 0 = omega arith in
      let m : (r * v) % r ≡ 0 = ap (λ (x : ℕ). x % r) w ∙ mod-mul-add v r 0 t.0 in
      let q : (r * v) / r ≡ v = ap (λ (x : ℕ). x / r) w ∙ div-mul-add v r 0 t.0 in
      let ih : emptied rs v ≡ bucket rs (a / r) (d / r) =
      visit_empties rs (a / r) (d / r) t.1 i (less_quotient r a d h t.0 e) in
      rw (visit_far r rs a d e) (emptied_above r rs (r * v) m ∙ (ap (λ (x : ℕ). r + emptied rs x) q
      ∙ (ap (λ (x : ℕ). r + x) ih ∙ sym (bucket_far r rs a d e))))
]

module _ {N : Type 0} {kept : Ghosts N} {t : Table} {b : Buckets N kept} {words : List ℕ} (h : IsHier t b words) where
  first_row_is : (l : ℕ) (rows : Rows) → filled rows ≡ 1
      → AllByRecursion (λ row. IsPending b.last_tick b.tick b.last_serial (row_timer row)) rows
      → AllByRecursion (IsPlaced (radices t) b.tick l) rows → l ≡ emptied (radices t) (list_visit (radices t) l b.tick)
  first_row_is l [] e p q = absurd (omega arith)
  first_row_is l (r ∷ rs) e p q =
      let d : ℕ = (row_timer r).deadline in
      let i : HasDigits (radices t) d =
      digits_down (radices t) d b.last_tick (of_table t).is_table p.0.in_range (last_digits h) in
      let v : list_visit (radices t) l b.tick ≡ timer_visit (radices t) b.tick d =
      ap (λ (x : ℕ). list_visit (radices t) x b.tick) (sym q.0.0)
      ∙ list_is (radices t) b.tick d (of_table t).is_table i p.0.later in
      sym (ap (emptied (radices t)) v ∙ (visit_empties (radices t) b.tick d (of_table t).is_table i p.0.later ∙ q.0.0))

  -- the first bucket with a timer is emptied at its visit
  pub first_empties : (l visit : ℕ) → visit ≡ list_visit (radices t) l b.tick → IsFirstSet MOST_BUCKETS words (Some l)
      → l ≡ emptied (radices t) visit
  first_empties l visit e f =
      let c = first_in h l f.0 f.1 in
      first_row_is l (list_at l b.links.lists) (sym (h.marked.0 l c) ∙ f.1)
      (all-list_at (λ row. IsPending b.last_tick b.tick b.last_serial (row_timer row)) b.slots b.links.lists b.sound.pending l c)
      (h.placed l c) ∙ ap (emptied (radices t)) (sym e)

module _ {N : Type 0} {kept : Ghosts N} {t : Table} {b : Buckets N kept} {words : List ℕ} (h : IsHier t b words) (z : (state_of b).due ≡ []) (l : b.tick < b.last_tick) where
  before_tick : IsBefore (radices t) b.last_tick b.tick b.last_serial b.links.lists
  before_tick =
      before_of (radices t) b.slots b.last_tick b.tick b.last_serial b.links.lists h.has_slots (of_table t).is_table (last_digits h) l
      b.sound h.placed h.in_order z

  pub may_migrate_at : {list : ℕ} → list ≡ emptied (radices t) (b.tick + 1)
      → AllByRecursion (MayMigrate (radices t) (b.tick + 1) list) (list_at list b.links.lists)
  may_migrate_at {list} e =
      let P : ℕ → Type 0 = λ k. AllByRecursion (MayMigrate (radices t) (b.tick + 1) k) (list_at k b.links.lists) in
      let c : b.last_tick ≡ last_of (radices t) = h.clock in
      subst P (sym e) (all_may_migrate before_tick (omega arith))

  pub all_of_tick_at : {list : ℕ} → list ≡ emptied (radices t) (b.tick + 1) → list < lowest_radix (radices t)
      → AllByRecursion (IsOfTick (b.tick + 1)) (list_at list b.links.lists)
  all_of_tick_at {list} e k =
      let P : ℕ → Type 0 = λ k. AllByRecursion (IsOfTick (b.tick + 1)) (list_at k b.links.lists) in
      subst P (sym e) (all_of_tick before_tick
      (none_below (radices t) (b.tick + 1) (omega arith)))

  pub next_at : {list moves : ℕ} {new : KeyedLists} → list ≡ emptied (radices t) (b.tick + 1)
      → new ≡ migrated (radices t) (b.tick + 1) list b.links.lists → moves ≡ length (left_rows (b.tick + 1) (list_at list b.links.lists))
      → IsNext (radices t) b.slots b.last_tick b.tick b.last_serial moves b.links.lists new
  next_at {list} {moves} {new} e f k =
      next_of before_tick b.slots moves new h.has_slots
      (f ∙ ap (λ (v : ℕ). migrated (radices t) (b.tick + 1) v b.links.lists) e)
      (k ∙ ap (λ (v : ℕ). length (left_rows (b.tick + 1) (list_at v b.links.lists))) e)
