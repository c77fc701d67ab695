-- Many ticks of a smooth wheel at once, in which no timer is due and no bucket with timers begins to be the present one.
use Rattle.std.proofs.Common.{◌≡◌, ◌<◌, ◌≤◌, ◌+◌, ℕ, zero, suc, List, [], length, sym, ◌∙◌, ap, inl, inr, subst, arith}
use Rattle.std.specs.List.{AllByRecursion}
use Rattle.std.proofs.lemmas.Bool.{cases_lt}
use Rattle.timer_base.specs.WheelState.{IsPending, IsDue}
use Rattle.timer_wheels.specs.Types.{Timer, Ghosts, list_at, Row, Table}
use Rattle.timer_wheels.specs.smooth.Wheels.{AreWheels}
use Rattle.timer_wheels.specs.BucketLists.{row_timer, AreBuckets, EachRow}
use Rattle.timer_wheels.specs.Digits.{IsTable, HasDigits}
use Rattle.timer_wheels.specs.smooth.Smooth.{slot_in, smooth_list, moved_to, mark, IsByLaw, IsSmooth, Stands, IsAheadOf}
use Rattle.timer_wheels.specs.Tables.{radices}
use Rattle.timer_wheels.specs.declared.buckets.Buckets.{Buckets}
use Rattle.timer_wheels.proofs.bucket_lemmas.AllLemmas.{all-both}
use Rattle.timer_wheels.proofs.bucket_lemmas.RowLemmas.{all-rows_below, all-list_at}
use Rattle.timer_wheels.proofs.smooth_lemmas.Slots.{slot_low, slots_mono, slots_near}
use Rattle.timer_wheels.proofs.smooth_lemmas.Places.{front_kept}
use Rattle.timer_wheels.proofs.smooth_lemmas.Wheels.{to_relation, to_law}
use Rattle.timer_wheels.proofs.table_lemmas.TableLaws.{of_table}

pub slots_later : (table : List ℕ) (j a b : ℕ) → IsTable table → a ≤ b → slot_in table j a ≤ slot_in table j b
slots_later table j a b i h = slots_mono table zero j b a i (omega arith) (omega (arith, slot_low table a, slot_low table b))

pub skipped_stands : (table : List ℕ) (a b : ℕ) (marks marks2 : ℕ → ℕ) (s k : ℕ) (t : Timer) → IsTable table → a ≤ b
    → slot_in table k b < slot_in table k t.deadline
    → ((j : ℕ) → 0 < j → j < length table → slot_in table j b ≡ slot_in table j a → marks2 j ≡ marks j)
    → (0 < k → slot_in table k t.deadline ≡ slot_in table k b + 1 → marks2 k < t.serial)
    → Stands table a marks s k t → Stands table b marks2 s k t
skipped_stands table a b marks marks2 s k t i h ahead same kept st = record {
  wheel = st.wheel;
  at_list = st.at_list;
  ahead = ahead;
  near = omega (arith, st.near, slots_later table (suc k) a b i h);
  passed = λ j q l e.
      let n = slots_near table (suc k) j a t.deadline i (omega arith) st.near in
      let m = slots_later table j a b i h in
      let f : slot_in table j b ≡ slot_in table j a = omega arith in
      let p = st.passed j q l (omega arith) in
      omega (arith, p, same j (omega arith) l f);
  kept = kept;
}

-- a slot ahead is a tick ahead
pub tick_ahead : (table : List ℕ) (k b d : ℕ) → IsTable table → slot_in table k b < slot_in table k d → b < d
tick_ahead table k b d i h = elim (cases_lt b d) [
  | inl l ↦ l
  | inr l ↦ absurd (omega (arith, slots_later table k d b i (omega arith)))
]

module _ {N : Type 0} {kept : Ghosts N} (t : Table) (b : Buckets N kept) (words : List ℕ) (h : AreWheels t b words) (tick : ℕ) (later : b.tick ≤ tick) (in_range : tick ≤ b.last_tick)
    (none_due : list_at b.slots b.links.lists ≡ []) (ahead : EachRow (IsAheadOf (radices t) tick) b.slots b.links.lists) where
  skip_table : IsTable (radices t)
  skip_table = (of_table t).is_table

  skip_digits : HasDigits (radices t) b.last_tick
  skip_digits = rw h.clock (of_table t).digits

  record Known (s : ℕ) (row : Row) : Type 0 where
    placed : IsSmooth (radices t) b.tick (mark (radices t) b.tick b.links.lists) s row
    ahead_of : IsAheadOf (radices t) tick s row

  known : (s : ℕ) → s < b.slots → AllByRecursion (Known s) (list_at s b.links.lists)
  known s l = all-both (IsSmooth (radices t) b.tick (mark (radices t) b.tick b.links.lists) s) (IsAheadOf (radices t) tick s) (Known s)
      (list_at s b.links.lists) (λ row p q. record { placed = p; ahead_of = q })
      (to_relation (radices t) b.last_tick b.tick b.last_serial (mark (radices t) b.tick b.links.lists) skip_table skip_digits b.slots
      b.links.lists b.sound h.placed s l) (ahead s l)

  later_row : (s : ℕ) (row : Row) → Known s row → IsPending b.last_tick b.tick b.last_serial (row_timer row)
      → IsPending b.last_tick tick b.last_serial (row_timer row)
  later_row s row k p = record {
    later = tick_ahead (radices t) k.placed.on tick (row_timer row).deadline skip_table
        (k.ahead_of k.placed.on k.placed.stands.wheel k.placed.stands.at_list);
    in_range = p.in_range;
    serial = p.serial;
  }

  pub skip_sound : AreBuckets b.slots b.last_tick tick b.last_serial b.links.lists
  skip_sound = record {
    last_in_range = b.sound.last_in_range;
    tick_in_range = in_range;
    serial_in_range = b.sound.serial_in_range;
    has_lists = b.sound.has_lists;
    pending = all-rows_below (λ row. IsPending b.last_tick tick b.last_serial (row_timer row)) b.slots b.links.lists
        (λ s l. all-both (Known s) (λ row. IsPending b.last_tick b.tick b.last_serial (row_timer row))
        (λ row. IsPending b.last_tick tick b.last_serial (row_timer row)) (list_at s b.links.lists) (later_row s) (known s l)
        (all-list_at (λ row. IsPending b.last_tick b.tick b.last_serial (row_timer row)) b.slots b.links.lists b.sound.pending s l));
    distinct = b.sound.distinct;
    due = subst (AllByRecursion (λ row. IsDue tick b.last_serial (row_timer row))) (sym none_due) tt;
    due_in_order = b.sound.due_in_order;
  }

  marks_kept : (j : ℕ) → 0 < j → j < length (radices t) → slot_in (radices t) j tick ≡ slot_in (radices t) j b.tick
      → mark (radices t) tick b.links.lists j ≡ mark (radices t) b.tick b.links.lists j
  marks_kept j z l e = ap (λ (x : ℕ). moved_to (list_at (smooth_list (radices t) j (x + 1)) b.links.lists)) e

  row_skipped : (s : ℕ) (row : Row) → Known s row → moved_to (list_at s b.links.lists) < (row_timer row).serial
      → IsSmooth (radices t) tick (mark (radices t) tick b.links.lists) s row
  row_skipped s row k front =
      let p = k.placed in
      record {
        on = p.on;
        stands = skipped_stands (radices t) b.tick tick (mark (radices t) b.tick b.links.lists) (mark (radices t) tick b.links.lists) s p.on
            (row_timer row) skip_table later (k.ahead_of p.on p.stands.wheel p.stands.at_list) marks_kept
            (λ z e. subst (λ (x : ℕ). moved_to (list_at x b.links.lists) < (row_timer row).serial)
            (p.stands.at_list ∙ ap (smooth_list (radices t) p.on) e) front) p.stands;
        no_rounds = p.no_rounds;
      }

  pub skip_by_law : EachRow (IsByLaw (radices t) tick (mark (radices t) tick b.links.lists)) b.slots b.links.lists
  skip_by_law = to_law (radices t) b.last_tick tick b.last_serial (mark (radices t) tick b.links.lists) skip_table skip_digits b.slots
      b.links.lists skip_sound (λ s l. all-both (Known s) (λ row. moved_to (list_at s b.links.lists) < (row_timer row).serial)
      (IsSmooth (radices t) tick (mark (radices t) tick b.links.lists) s) (list_at s b.links.lists) (row_skipped s) (known s l)
      (front_kept (list_at s b.links.lists) (h.in_order s l)))
