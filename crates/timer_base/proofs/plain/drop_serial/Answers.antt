use Rattle.std.proofs.Common.{rules, arith}
use Rattle.std.proofs.lemmas.Fn.{filter_same}
use Rattle.timer_base.proofs.plain.drop_serial.Goals as goal

pub returns-clause-items : goal.returns-clause-items
returns-clause-items c = filter_same _ _ _ (λ x b f' k. search rules) _ _ c.retain.ensures.filtered

pub returns-clause-room : goal.returns-clause-room
returns-clause-room c h = omega (arith, c.retain.ensures.capacity, c.retain.new.self.ok.0, c.args.timers.now.ok.0, c.args.timers.now.ok.1)
