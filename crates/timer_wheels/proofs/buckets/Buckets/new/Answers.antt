use Rattle.std.proofs.Common.{◌≡◌, ◌+◌, ℕ, [], length, refl, ◌∙◌, ap, replicate}
use Rattle.std.proofs.lemmas.List.{length-replicate}
use Rattle.timer_links.specs.Lists.{LinksState, list_at}
use Rattle.timer_wheels.proofs.bucket_lemmas.RowLemmas.{rows_below-none}
use Rattle.timer_links.proofs.NewLinks.{no_rows_at}
use Rattle.timer_wheels.proofs.bucket_lemmas.Updates.{emptied}
use Rattle.timer_wheels.proofs.buckets.Buckets.new.Goals as goal

at_new : (k s : ℕ) (links : LinksState) → links ≡ record { lists = replicate k []; room = 0; ready = 0 } → list_at s links.lists ≡ []
at_new k s links e = ap (λ (x : LinksState). list_at s x.lists) e ∙ no_rows_at k s

pub invariant_of-result : goal.invariant_of-result
invariant_of-result g c = record {
  sound = emptied c.args.slots c.args.last_tick c.args.first_tick c.in_ok-new.field-0.lists c.requires.last_tick
      c.requires.first_tick (ap (λ (x : LinksState). length x.lists) c.in_ok-new.ensures ∙ length-replicate (c.args.slots + 1) [])
      (λ s. at_new (c.args.slots + 1) s c.in_ok-new.field-0 c.in_ok-new.ensures);
}

pub returns-clause-state : goal.returns-clause-state
returns-clause-state g c = rw (
  rows_below-none c.args.slots c.in_ok-new.field-0.lists (λ s h. at_new (c.args.slots + 1) s c.in_ok-new.field-0 c.in_ok-new.ensures),
  at_new (c.args.slots + 1) c.args.slots c.in_ok-new.field-0 c.in_ok-new.ensures,
  ap (λ (x : LinksState). x.room) c.in_ok-new.ensures,
) refl
