use Rattle.std.proofs.Common.{◌∙◌}
use Rattle.timer_durable.specs.Opening.{WhyNotOpened}
use Rattle.timer_durable.proofs.Preambles.{opened_why, err_is}
use Rattle.timer_durable.proofs.opening.recover_kept.Goals as goal

pub returns-in_err-kept-clause-fault : goal.returns-in_err-kept-clause-fault
returns-in_err-kept-clause-fault g c =
    err_is c.from_residual-in_err-kept.result c.in_err-kept.field-0.0 (WhyNotOpened c.args.options.now (g.D.Device.seen c.args.device.now)) c.from_residual-in_err-kept.ensures.1
    (opened_why c.args.options.now (g.D.Device.seen c.args.device.now) c.deref.result.now c.in_err-kept.field-0.0
    (c.deref.ensures.value ∙ c.in_ok-recovered.ensures.lines) c.in_err-kept.ensures.fault)
