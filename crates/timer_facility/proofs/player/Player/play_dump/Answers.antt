use Rattle.std.proofs.Common.{refl, subst}
use Rattle.std.specs.Prelude.{OnOk}
use Rattle.timer_facility.specs.declared.event.Event.TheVariants as Events
use Rattle.timer_facility.specs.State.{FacilityState, Dump}
use Rattle.timer_facility.specs.Played.{AddsRun}
use Rattle.timer_facility.proofs.PlayedLemmas.{AddsRun-step, done_with}
use Rattle.timer_facility.proofs.player.Player.play_dump.Goals as goal

pub returns-clause-ok : goal.returns-clause-ok
returns-clause-ok g c =
    subst (λ (s : FacilityState). OnOk c.dump.result (AddsRun s Events.Dump c.args.outs.now.items c.dump.new.outs.items s)) c.self.view_is
    (done_with c.dump.result (λ appended. AddsRun-step Events.Dump {made = Dump} Dump refl (λ place. refl)
    (record { place = 0; appended = appended; left = refl })) c.dump.ensures.ok)
