use Rattle.std.proofs.Common.{◌≡◌, ◌≤◌, ◌+◌, ◌++◌, ℕ, List, take, length, ap, sym, ◌∙◌, arith}
use Rattle.std.proofs.Math.Seq.{take-append-add}
use Rattle.std.proofs.lemmas.List.{take_all, append_assoc}
use Rattle.timer_desk.proofs.backlog.put_words.Goals as goal

-- if all of the first run was put, what was put is that run and the front of the other one
both_runs : {X : Type 0} (old one both first rest items : List X) (n m : ℕ) → first ++ rest ≡ items → n ≤ length first → length first ≤ n
    → one ≡ old ++ take n first → both ≡ one ++ take m rest → both ≡ old ++ take (n + m) items
both_runs old one both first rest items n m i up down a b =
    let e : n ≡ length first = omega arith in
    let whole : one ≡ old ++ first = a ∙ ap (λ x. old ++ x) (take_all n first down) in
    let front : take (n + m) items ≡ first ++ take m rest = ap (take (n + m)) (sym i) ∙ ap (λ k. take (k + m) (first ++ rest)) e
    ∙ take-append-add first rest m in
    b ∙ ap (λ x. x ++ take m rest) whole ∙ append_assoc old first (take m rest) ∙ ap (λ x. old ++ x) (sym front)

pub returns-clause-given : goal.returns-clause-given
returns-clause-given g c =
    let f = c.as_slices.result.0.now in
    let short : length f ≤ c.put_slice-count.result = omega (arith, c.if-count-first.false) in
    both_runs (g.I.Inlet.kind.state c.args.inlet.now).given (g.I.Inlet.kind.state c.put_slice-count.new.self).given
    (g.I.Inlet.kind.state c.put_slice.new.self).given f c.as_slices.result.1.now c.args.outbox.now.items c.put_slice-count.result
    c.put_slice.result c.as_slices.ensures c.put_slice-count.ensures.count short c.put_slice-count.ensures.given
    c.put_slice.ensures.given
