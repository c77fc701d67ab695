use Rattle.std.proofs.Common.{◌≡◌, ◌+◌, ◌-◌, ap, sym, subst, length, arith}
use Rattle.timer_facility.specs.State.{FacilityState}
use Rattle.timer_facility.specs.Facility.{FacilityView}
use Rattle.timer_facility.specs.Handles.{AreRecorded}
use Rattle.timer_facility.specs.Ticked.{AreTicked}
use Rattle.timer_facility.proofs.PlayedTicks.{HasTicked, HasTicked-many, AddsRun-all, AddsRun-refused, length-many}
use Rattle.timer_facility.proofs.HandlesLemmas.{AreRecorded-ticks}
use Rattle.timer_facility.proofs.handing_out.pass_ticks.Goals as goal

pub hand_out-requires : goal.hand_out-requires
hand_out-requires g c = omega (
  arith,
  length-many c.loop-left.left c.in-Ok.passed c.loop-left.facility.state c.ticks.new.self c.in-Ok.ensures.ticked,
  c.loop-left.invariant.room,
)

pub loop-left-preserved : goal.loop-left-preserved
loop-left-preserved g c =
    let here : FacilityState = c.loop-left.facility.state in
    let end : FacilityView = c.hand_out.new.facility in
    let t : AreTicked c.loop-left.left c.in-Ok.passed here c.ticks.new.self = c.in-Ok.ensures.ticked in
    let state : end.state ≡ c.ticks.new.self.state = ap (λ (v : FacilityView). v.state) c.hand_out.ensures.facility in
    let passed : c.args.count - c.loop-left.left + c.in-Ok.passed ≡ c.args.count - (c.loop-left.left - c.in-Ok.passed) =
    omega (arith, t.at_most, c.loop-left.invariant.few) in
    record {
      few = omega (arith, c.loop-left.invariant.few);
      run = subst (λ n. HasTicked c.args.facility.now.state n c.args.outs.now.items c.hand_out.new.outs.items end.state) passed
          (HasTicked-many c.loop-left.invariant.run t c.hand_out.ensures.outs state);
      waiting = ap (λ (v : FacilityView). v.waiting) c.hand_out.ensures.facility;
      room = omega (
        arith,
        length-many c.loop-left.left c.in-Ok.passed here c.ticks.new.self t,
        c.loop-left.invariant.room,
        ap (λ (d : FacilityState). length d.pending) state,
        c.hand_out.ensures.len,
        c.hand_out.ensures.capacity,
      );
      handles = λ handles a. subst (AreRecorded handles) (sym state)
          (AreRecorded-ticks t (c.loop-left.invariant.handles handles a));
    }

pub returns-in-Err-clause-run : goal.returns-in-Err-clause-run
returns-in-Err-clause-run g c =
    AddsRun-refused c.args.count c.loop-left.invariant.run (omega (arith, c.loop-left.invariant.few, c.loop-left-test.true))
    c.in-Err.ensures.fault (ap (λ (v : FacilityView). v.state) c.in-Err.ensures.err) c.push_reserved.ensures.items

pub returns-clause-run : goal.returns-clause-run
returns-clause-run g c =
    let all : c.args.count - c.loop-left.left ≡ c.args.count = omega (arith, c.loop-left-test.false) in
    AddsRun-all (subst (λ n. HasTicked c.args.facility.now.state n c.args.outs.now.items c.loop-left.outs.items c.loop-left.facility.state) all
    c.loop-left.invariant.run)
