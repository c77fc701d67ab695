use Rattle.std.proofs.Common.{◌≡◌, arith, inl, inr}
use Rattle.std.proofs.lemmas.Bool.{cases_lt}
use Rattle.timer_links.proofs.UniqueLists.{opened}
use Rattle.timer_links.proofs.KeptNodes.{contained}
use Rattle.timer_links.proofs.LinksCalls.{unused}
use Rattle.timer_links.proofs.links.Links.used_from.Goals as goal

pub loop-key-preserved : goal.loop-key-preserved
loop-key-preserved g c key a b =
    let f = g.N.Kept.node_of in
    let h = opened f _ _ _ c.self.inside.nodes c.self.inside.neighbours c.args.self.now c.self.view_is c.self.invariant in
    elim (cases_lt key c.loop-key.key) [
      | inl low ↦ c.loop-key.invariant key a low
      | inr past ↦
          let same : key ≡ c.loop-key.key = omega arith in
          rw same (unused _ _ _ _ h c.loop-key.key (λ i. c.if-contains.ensures.1 (contained f c.self.inside.nodes c.loop-key.key i)))
    ]
