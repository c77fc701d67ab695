use Rattle.std.proofs.Common.{Some, None, sym, ◌∙◌}
use Rattle.std.proofs.lemmas.Bool.{ne_eqb, eq-eqb}
use Rattle.timer_wheels.proofs.bucket_lemmas.Handles.{held_is, names_one}
use Rattle.timer_wheels.proofs.buckets.Buckets.look.Goals as goal

pub returns-in_err-node-clause-timer : goal.returns-in_err-node-clause-timer
returns-in_err-node-clause-timer g c = c.from_residual.ensures
    ∙ held_is c.args.self.now.sound c.lemma_keys_unique.ensures c.args.handle None (sym c.in_err-node.was ∙ c.get.ensures)

pub returns-in_err-node-clause-one : goal.returns-in_err-node-clause-one
returns-in_err-node-clause-one g c = names_one c.args.self.now.sound c.lemma_keys_unique.ensures c.args.handle

pub returns-then-node-handle-clause-timer : goal.returns-then-node-handle-clause-timer
returns-then-node-handle-clause-timer g c =
    let h = held_is c.args.self.now.sound c.lemma_keys_unique.ensures c.args.handle (Some c.in_ok-node.node)
    (sym c.in_ok-node.was ∙ c.get.ensures) in
    rw (ne_eqb c.in_ok-node.node.timer.serial c.args.handle.serial c.if-node-handle.true) at h

pub returns-then-node-handle-clause-one : goal.returns-then-node-handle-clause-one
returns-then-node-handle-clause-one g c = names_one c.args.self.now.sound c.lemma_keys_unique.ensures c.args.handle

pub returns-clause-timer : goal.returns-clause-timer
returns-clause-timer g c =
    let h = held_is c.args.self.now.sound c.lemma_keys_unique.ensures c.args.handle (Some c.in_ok-node.node)
    (sym c.in_ok-node.was ∙ c.get.ensures) in
    rw (eq-eqb c.in_ok-node.node.timer.serial c.args.handle.serial c.if-node-handle.false) at h

pub returns-clause-one : goal.returns-clause-one
returns-clause-one g c = names_one c.args.self.now.sound c.lemma_keys_unique.ensures c.args.handle
