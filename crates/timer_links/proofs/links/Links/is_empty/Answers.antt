use Rattle.std.proofs.Common.{◌≡◌, arith}
use Rattle.std.proofs.lemmas.Bool.Decides.{nat_tests}
use Rattle.timer_links.proofs.UniqueLists.{opened}
use Rattle.timer_links.proofs.LinksCalls.{root_alone}
use Rattle.timer_links.proofs.links.Links.is_empty.Goals as goal

pub returns : goal.returns
returns g c =
    let h = opened g.N.Kept.node_of _ _ _ c.self.inside.nodes c.self.inside.neighbours c.args.self.now c.self.view_is c.self.invariant in
    let r = root_alone _ _ _ _ h c.args.list c.index.result.now c.requires c.index.ensures in
    ((λ t. r.0 (grind (arith, nat_tests))), (λ e. let q : c.index.result.now.after ≡ c.args.list = r.1 e in grind (arith, nat_tests)))
