-- The buckets of wheels that never leave a restarted timer where it stands: each keeps its rows in order of starting.
use Rattle.std.proofs.Common.{◌≡◌, ◌<◌, ◌+◌, ◌==◌, ℕ, [], ◌∷◌, ◌++◌, length, sym, inl, inr, subst, arith, map, not, get_or-set_other}
use Rattle.std.proofs.lemmas.Bool.{cases_lt}
use Rattle.timer_base.specs.Order.{AreRising}
use Rattle.timer_base.specs.WheelState.{IsPending}
use Rattle.timer_links.specs.Lists.{with_row, without_key}
use Rattle.timer_wheels.specs.Types.{list_at, KeyedLists, Row, Rows}
use Rattle.timer_wheels.specs.Buckets.{IsListOf}
use Rattle.timer_wheels.specs.BucketLists.{row_timer, row_timers, AreInOrder, AreBuckets}
use Rattle.timer_wheels.proofs.bucket_lemmas.Calls.{AreRising-part, AreBelow-pending, in_order-with_row}
use Rattle.timer_wheels.proofs.bucket_lemmas.RowLemmas.{all-list_at, list_at-without_key}

pub ordered-same : (n : ℕ) (old new : KeyedLists) → ((s : ℕ) → s < n → list_at s new ≡ list_at s old) → AreInOrder n old → AreInOrder n new
ordered-same n old new same o s h = subst (λ (rows : Rows). AreRising 0 (row_timers rows)) (sym (same s h)) (o s h)

pub ordered-none : (n : ℕ) (lists : KeyedLists) → ((s : ℕ) → s < n → list_at s lists ≡ []) → AreInOrder n lists
ordered-none n lists e s h = rw (e s h) tt

pub ordered-without_key : (n key : ℕ) (lists : KeyedLists) → AreInOrder n lists → AreInOrder n (map (without_key key) lists)
ordered-without_key n key lists o s h = rw (list_at-without_key s key lists) (AreRising-part (λ r. not (r.0 == key)) 0 (list_at s lists) (o s h))

module _ {n last_tick now last : ℕ} {lists : KeyedLists} (b : AreBuckets n last_tick now last lists) (o : AreInOrder n lists) where
  -- and so does the list of due timers
  pub ordered-all : AreInOrder (n + 1) lists
  ordered-all s h = elim (cases_lt s n) [
    | inl k ↦ o s k
    | inr k ↦
        let e : n ≡ s = omega arith in
        subst (λ (x : ℕ). AreRising 0 (row_timers (list_at x lists))) e b.due_in_order
  ]

  -- the newest row comes to the back of its list
  pub ordered-come : (list : ℕ) (row : Row) → last < (row_timer row).serial → IsListOf list n now (row_timer row).deadline
      → AreInOrder n (with_row list row lists)
  ordered-come list row fresh (inl q) =
      in_order-with_row n list row lists (let k : list < n = q.0 in let l : length lists ≡ n + 1 = b.has_lists in omega arith) (omega arith)
      (AreBelow-pending last_tick now last (row_timer row).serial (list_at list lists) fresh
      (all-list_at (λ r. IsPending last_tick now last (row_timer r)) n lists b.pending list q.0)) o
  ordered-come list row fresh (inr q) =
      let e : list ≡ n = q.0 in
      ordered-same n lists (with_row list row lists)
      (λ s h. get_or-set_other lists list s (list_at list lists ++ row ∷ []) [] (λ (y : s ≡ list). omega arith)) o
