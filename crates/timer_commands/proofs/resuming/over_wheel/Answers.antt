use Rattle.std.proofs.Common.{◌≡◌, IfOk, subst, ap, inl}
use Rattle.timer_base.specs.WheelState.{empty_wheel}
use Rattle.timer_commands.specs.Options.{scheme_last, scheme_layout}
use Rattle.timer_commands.specs.Serving.{IsResumedBy}
use Rattle.timer_commands.proofs.resuming.over_wheel.Goals as goal

-- the wheel has the last tick of the scheme, and the facility the configuration of the options
pub returns-in-Ok-restore : goal.returns-in-Ok-restore
returns-in-Ok-restore g c =
    let o = c.args._options in
    let now = c.in-Ok-restore.player in
    let made : g.W.Wheel.state c.in-Ok.wheel ≡ empty_wheel (scheme_layout o.scheme o.slots) (scheme_last o.scheme) c.args.saved.now.saved.now =
    subst (λ m. IfOk m (λ wheel. g.W.Wheel.state wheel ≡ empty_wheel (scheme_layout o.scheme o.slots) (scheme_last o.scheme) c.args.saved.now.saved.now)) c.in-Ok.is c.requires.state in
    inl (
      now,
      subst (λ config. IsResumedBy config (scheme_last o.scheme) c.args.saved.now now) c.requires.config
          (subst (λ last. IsResumedBy c.args.checked last c.args.saved.now now) (ap (λ w. w.last_tick) made)
          (record { state = c.in-Ok-restore.ensures.state; goes_on = c.in-Ok-restore.ensures.goes_on })),
      c.talk.ensures,
    )
