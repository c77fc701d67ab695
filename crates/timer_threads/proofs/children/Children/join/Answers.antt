use Rattle.std.proofs.Common.{◌≡◌, [], arith}
use Rattle.std.proofs.lemmas.List.{nil_from_length}
use Rattle.timer_threads.specs.Children.{threads_of}
use Rattle.timer_threads.proofs.ThreadLemmas.{leads_end}
use Rattle.timer_threads.proofs.children.Children.join.Goals as goal

pub returns : goal.returns
returns g c =
    let rest = c.loop-child.rest.rest in
    let none : rest.items ≡ [] = nil_from_length rest.items (omega (arith, c.in_default.ensures.cases.0, rest.ok)) in
    leads_end (threads_of c.args.self) rest.items c.loop-child.left.items c.loop-child.invariant.leads none
