use Rattle.std.proofs.Common.{◌+◌, ◌<◌, ℕ, ap, ◌∙◌, arith}
use Rattle.timer_links.proofs.NewLinks.{no_rows_at}
use Rattle.timer_wheels.specs.Types.{WheelState, list_at}
use Rattle.timer_wheels.specs.Digits.{slots}
use Rattle.timer_wheels.specs.lazy.Filed.{IsFiled, filings_of}
use Rattle.timer_wheels.specs.Tables.{radices}
use Rattle.timer_wheels.proofs.bucket_lemmas.Calls.{each-none}
use Rattle.timer_wheels.proofs.lazy_lemmas.RowSums.{sums-none}
use Rattle.timer_wheels.proofs.bucket_lemmas.OccupiedLemmas.{marked_none}
use Rattle.timer_wheels.proofs.lazy.files.Files.new.Goals as goal

pub invariant_of-result-clause-files : goal.invariant_of-result-clause-files
invariant_of-result-clause-files g c =
    let b = c.in_ok-buckets.buckets in
    let empty = λ (s : ℕ) (h : s < b.slots). ap (list_at s) c.in_ok-buckets.ensures.lists ∙ no_rows_at (c.buckets_of-slots.result + 35 + 1) s in
    record {
      has_slots = c.in_ok-buckets.ensures.slots ∙ ap (λ (x : ℕ). x + 35) c.buckets_of-slots.ensures.value;
      clock = ap (λ (w : WheelState). w.last_tick) c.in_ok-buckets.ensures.state ∙ c.last_tick_of.ensures.value;
      filed = each-none (IsFiled (radices c.args.table) b.tick) b.slots b.links.lists empty;
      marked = marked_none (slots (radices c.args.table)) c.new-2.result b.links.lists c.new-2.ensures
          (λ s h. ap (list_at s) c.in_ok-buckets.ensures.lists ∙ no_rows_at (c.buckets_of-slots.result + 35 + 1) s);
    }

pub invariant_of-result-clause-paid : goal.invariant_of-result-clause-paid
invariant_of-result-clause-paid g c =
    let b = c.in_ok-buckets.buckets in
    omega (
      arith,
      sums-none (filings_of (radices c.args.table) b.tick) (slots (radices c.args.table)) b.links.lists
          (λ s h. ap (list_at s) c.in_ok-buckets.ensures.lists ∙ no_rows_at (c.buckets_of-slots.result + 35 + 1) s),
    )
