use Rattle.std.proofs.Common.{◌≡◌, ◌∷◌, ◌++◌, [], ap, refl, subst, length, arith, true, append_assoc, map}
use Rattle.timer_facility.specs.declared.event.Event.TheVariants as Events
use Rattle.timer_facility.specs.declared.event.Out.TheVariants as Outs
use Rattle.timer_facility.specs.State.{FacilityState, Close}
use Rattle.timer_facility.specs.Step.{step}
use Rattle.timer_facility.specs.Played.{AddsRun}
use Rattle.timer_facility.proofs.PlayedLemmas.{AddsRun-step, length-closed, outs-closed, outs-close_refused, state-close_refused}
use Rattle.timer_facility.proofs.player.Player.play_close.Goals as goal

pub hand_out-requires : goal.hand_out-requires
hand_out-requires g c = omega (
  arith,
  length-closed c.self.inside.facility.state c.close.new.self c.in-Ok.ensures.closed c.in-Ok.ensures.open,
  c.in_ok-make_room.ensures.room,
  c.push_reserved.ensures.len,
  c.push_reserved.ensures.capacity,
)

pub returns-in-Ok-clause-ok : goal.returns-in-Ok-clause-ok
returns-in-Ok-clause-ok g c =
    let s : FacilityState = c.self.inside.facility.state in
    let before = c.args.outs.now.items in
    let returned = map (λ notice. Outs.Notice notice) c.close.new.self.waiting in
    let outs : c.hand_out.new.outs.items ≡ before ++ (step s Close 0).outs =
    rw (
      c.hand_out.ensures.outs,
      c.push_reserved.ensures.items,
      c.make_room.ensures.items,
      c.in-Ok.ensures.count,
      append_assoc before (Outs.Closed (length s.pending) ∷ []) returned,
    ) (ap (λ os. before ++ os) (outs-closed s c.close.new.self c.in-Ok.ensures.closed c.in-Ok.ensures.open)) in
    let left : c.hand_out.new.facility.state ≡ (step s Close 0).state = rw (c.hand_out.ensures.facility, c.in-Ok.ensures.closed) refl in
    subst (λ a. AddsRun a Events.Close before c.hand_out.new.outs.items c.hand_out.new.facility.state) c.self.view_is
    (AddsRun-step Events.Close {made = Close} Close refl (λ place. refl) (record { place = 0; appended = outs; left = left }))

pub returns-in-Err-Closed-clause-ok : goal.returns-in-Err-Closed-clause-ok
returns-in-Err-Closed-clause-ok g c =
    let s : FacilityState = c.self.inside.facility.state in
    let before = c.args.outs.now.items in
    let closed : s.is_closed ≡ true = c.in-Err-Closed.ensures.fault.0 c.in-Err-Closed.field-0-is in
    let outs : c.push_reserved-in-Err-Closed.new.self.items ≡ before ++ (step s Close 0).outs =
    rw (c.push_reserved-in-Err-Closed.ensures.items, c.make_room.ensures.items, outs-close_refused s closed) refl in
    let left : c.close.new.self.state ≡ (step s Close 0).state = rw (c.in-Err-Closed.ensures.err, state-close_refused s closed) refl in
    subst (λ a. AddsRun a Events.Close before c.push_reserved-in-Err-Closed.new.self.items c.close.new.self.state) c.self.view_is
    (AddsRun-step Events.Close {made = Close} Close refl (λ place. refl) (record { place = 0; appended = outs; left = left }))
