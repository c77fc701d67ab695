use Rattle.timer_facility.proofs.player.Player.play_ticks.Goals as goal

pub forget-requires : goal.forget-requires
forget-requires g c = c.pass_ticks.ensures.handles _ c.self.invariant.recorded

pub invariant_of-self : goal.invariant_of-self
invariant_of-self g c = record { waiting = c.pass_ticks.ensures.waiting; recorded = c.forget.ensures.recorded; few = c.forget.ensures.few }
