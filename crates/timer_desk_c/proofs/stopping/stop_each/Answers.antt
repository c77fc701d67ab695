use Rattle.std.proofs.Common.{arith, refl, ◌∙◌, ap, inl}
use Rattle.timer_desk_c.specs.DeskSlots.{RingDesk}
use Rattle.timer_desk_c.proofs.StoppingLemmas.{stopping-next, stopping-done}
use Rattle.timer_desk_c.proofs.stopping.stop_each.Goals as goal

pub loop-handle-init : goal.loop-handle-init
loop-handle-init c = record {
  stopping = record {
    may = record {
      still_open = c.requires.open;
      is_client = let many = c.lemma_invariant.ensures.clients in let low = c.requires.client in omega (arith, many, low);
      few = c.requires.numbers;
    };
    passed = λ k e l. inl (omega arith);
    rest = λ t stopped. stopped;
  };
  only = refl;
  place_in_range = omega arith;
}

pub loop-handle-preserved : goal.loop-handle-preserved
loop-handle-preserved c =
    let now = c.loop-handle.desk.facility in
    let new = c.stop_own.new.desk.facility in
    let was = c.loop-handle.invariant in
    let did = c.stop_own.ensures in record {
      stopping = stopping-next c.args.client c.loop-handle.place c.args.desk.now.facility now new c.in-Some.handle was.stopping
          c.lemma_invariant-in-Some.ensures.sound.distinct c.in-Some.ensures.first did.own did.other;
      only = did.only ∙ ap (λ (d : RingDesk). let e : RingDesk = record d { facility = new } in e) was.only;
      place_in_range = let h = c.in-Some.ensures.in_range in omega (arith, h);
    }

pub returns-clause-stopped : goal.returns-clause-stopped
returns-clause-stopped c =
    stopping-done c.args.client c.loop-handle.place c.args.desk.now.facility c.loop-handle.desk.facility c.loop-handle.invariant.stopping
    c.in_default.ensures.first
