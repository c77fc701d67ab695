-- Lemmas for `next_deadline` of a lazy wheel: a walk along its buckets in the order of their visits.
use Rattle.std.proofs.Common.{◌≡◌, ◌<◌, ◌≤◌, ◌+◌, ◌-◌, ℕ, suc, zero, List, length, sym, ◌∙◌, ap, subst, inl, inr, arith, Some, None, Option}
use Rattle.std.specs.List.{AllByRecursion}
use Rattle.std.proofs.lemmas.Bool.{cases_lt}
use Rattle.timer_base.specs.PlainState.{earliest}
use Rattle.timer_base.proofs.OrderLaws.{All-weaken}
use Rattle.timer_base.specs.WakeUps.{next_deadline}
use Rattle.timer_wheels.specs.Types.{Ghosts, list_at, KeyedLists, Rows, Table}
use Rattle.timer_wheels.specs.BucketLists.{row_timer, row_timers, rows_below}
use Rattle.timer_wheels.specs.Buckets.{state_of}
use Rattle.timer_wheels.specs.Digits.{slots}
use Rattle.timer_wheels.specs.lazy.Files.{AreFiles, IsBy}
use Rattle.timer_wheels.specs.FirstDeadline.{HasDeadline, IsLeastDeadline}
use Rattle.timer_wheels.specs.hier.Leap.{list_visit}
use Rattle.timer_wheels.specs.Occupied.{bit_of}
use Rattle.timer_wheels.specs.Tables.{radices}
use Rattle.timer_wheels.specs.declared.buckets.Buckets.{Buckets}
use Rattle.timer_wheels.proofs.bucket_lemmas.AllLemmas.{all-map, all-of_map}
use Rattle.timer_wheels.proofs.bucket_lemmas.DeadlineLemmas.{has-front, least-more, least_is_next}
use Rattle.timer_wheels.proofs.lazy_lemmas.FiledLemmas.{visited_first}
use Rattle.timer_wheels.proofs.lazy_lemmas.FilesLemmas.{IsKnownFile, is_table, known_files, none_where, spare_none, less_slots}
use Rattle.timer_wheels.proofs.bucket_lemmas.RowLemmas.{all-rows_below, all-list_at, rows_below-fewer, rows_below-more, timers-append}

-- what the first lists have, more of them have
has_more : (d l k : ℕ) (lists : KeyedLists) → l + k ≤ length lists → HasDeadline d (row_timers (rows_below l lists))
    → HasDeadline d (row_timers (rows_below (l + k) lists))
has_more d l zero lists h has = let e : l + zero ≡ l = omega arith in rw e has
has_more d l (suc k) lists h has =
    let e : l + suc k ≡ suc (l + k) = omega arith in
    rw (e, rows_below-more (l + k) lists (omega arith), timers-append (rows_below (l + k) lists) (list_at (l + k) lists))
    (has-front d (row_timers (rows_below (l + k) lists)) (row_timers (list_at (l + k) lists)) (has_more d l k lists (omega arith) has))

module _ {N : Type 0} {kept : Ghosts N} {t : Table} {b : Buckets N kept} {words : List ℕ} (h : AreFiles t b words) where
  abbrev lists : KeyedLists
  lists = b.links.lists

  in_lists : (s : ℕ) → s < slots (radices t) → s < length lists
  in_lists s k = omega (arith, less_slots h, b.sound.has_lists)

  -- lists whose bits are clear have no deadline
  pub least_past : (least : Option ℕ) (from to : ℕ) → from ≤ to → to ≤ slots (radices t) → ((s : ℕ) → from ≤ s → s < to → bit_of words s ≡ 0)
      → IsLeastDeadline least (row_timers (rows_below from lists)) → IsLeastDeadline least (row_timers (rows_below to lists))
  least_past least from to k m clear l = subst (λ (r : Rows). IsLeastDeadline least (row_timers r))
      (sym (rows_below-fewer from to lists k (λ s x y. none_where h s (omega arith) (clear s x y)))) l

  -- one more list
  pub least_one_more : (least one more : Option ℕ) (list : ℕ) → list < slots (radices t) → IsLeastDeadline least (row_timers (rows_below list lists))
      → IsLeastDeadline one (row_timers (list_at list lists)) → more ≡ earliest least one
      → IsLeastDeadline more (row_timers (rows_below (list + 1) lists))
  least_one_more least one more list k l m e = least-more list lists least one more (in_lists list k) l m e

  -- all lists
  pub least_of_all : (least : Option ℕ) (list : ℕ) → list ≡ slots (radices t) → IsLeastDeadline least (row_timers (rows_below list lists))
      → least ≡ next_deadline (state_of b).pending
  least_of_all least list e l = least_is_next least (rows_below b.slots lists) (subst (λ (r : Rows). IsLeastDeadline least (row_timers r))
      (ap (λ (x : ℕ). rows_below x lists) e ∙ sym (rows_below-fewer (slots (radices t)) b.slots lists (less_slots h) (spare_none h))) l)

  not_sooner : (d list s : ℕ) → d ≤ list_visit (radices t) list b.tick → list ≤ s → s < b.slots
      → AllByRecursion (λ row. d ≤ (row_timer row).deadline) (list_at s lists)
  not_sooner d list s k m n = All-weaken (IsKnownFile (radices t) b.last_tick b.tick b.last_serial s) (λ row. d ≤ (row_timer row).deadline)
      (list_at s lists)
      (λ row q.
      (let x : list_visit (radices t) s b.tick ≤ (row_timer row).deadline = q.filed.in_time in
      omega (arith, visited_first (radices t) b.tick s (is_table h) q.digits q.filed.ahead list m)))
      (known_files h s n)

  -- no list that is not visited before a deadline has an earlier one
  pub least_by_visit : (least : Option ℕ) (list : ℕ) → list < slots (radices t) → IsBy (list_visit (radices t) list b.tick) least
      → IsLeastDeadline least (row_timers (rows_below list lists)) → least ≡ next_deadline (state_of b).pending
  least_by_visit None list k by l = absurd by
  least_by_visit (Some d) list k by l =
      let e : list + (b.slots - list) ≡ b.slots = omega (arith, less_slots h) in
      least_is_next (Some d) (rows_below b.slots lists) (record {
        has = subst (λ (x : ℕ). HasDeadline d (row_timers (rows_below x lists))) e
            (has_more d list (b.slots - list) lists (omega (arith, b.sound.has_lists)) l.has);
        none_earlier = all-map row_timer (λ t. d ≤ t.deadline) (rows_below b.slots lists)
            (all-rows_below (λ row. d ≤ (row_timer row).deadline) b.slots lists (λ s m. elim (cases_lt s list) [
              | inl c ↦ all-list_at (λ row. d ≤ (row_timer row).deadline) list lists
                  (all-of_map row_timer (λ t. d ≤ t.deadline) (rows_below list lists) l.none_earlier) s c
              | inr c ↦ not_sooner d list s by c m
            ]));
      })
