use Rattle.std.proofs.Common.{◌≡◌, ℕ, List, sym, ap, ◌∙◌, subst, slice_index_or}
use Rattle.timer_wheels.specs.Occupied.{IsLowestSet}
use Rattle.timer_wheels.proofs.bucket_lemmas.OccupiedLemmas.{clear_word, first_bit}
use Rattle.timer_wheels.proofs.occupied.Bits.first.Goals as goal

pub returns-then-word-ne0 : goal.returns-then-word-ne0
returns-then-word-ne0 g c =
    let e : slice_index_or c.self.inside.words c.loop-k.k 0 ≡ slice_index_or c.args.self.now c.loop-k.k 0 =
    ap (λ (w : List ℕ). slice_index_or w c.loop-k.k 0) c.self.view_is in
    let P : ℕ → Type 0 = λ word. IsLowestSet word c.lowest_bit.result in
    first_bit c.loop-k.k c.lowest_bit.result g.row.WORDS c.args.self.now c.loop-k-test.true (subst P e c.lowest_bit.ensures) c.loop-k.invariant

pub loop-k-preserved : goal.loop-k-preserved
loop-k-preserved g c =
    let e : slice_index_or c.args.self.now c.loop-k.k 0 ≡ slice_index_or c.self.inside.words c.loop-k.k 0 =
    ap (λ (w : List ℕ). slice_index_or w c.loop-k.k 0) (sym c.self.view_is) in
    clear_word c.loop-k.k c.args.self.now (e ∙ c.if-word-ne0.false) c.loop-k.invariant
