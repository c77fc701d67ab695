use Rattle.std.proofs.Common.{◌≡◌, ◌+◌, ⊎_elim, false, true, List, length, sym, subst, ap, refl, inl, inr, arith}
use Rattle.std.specs.Prelude.{replicate}
use Rattle.std.proofs.lemmas.List.{length-replicate}
use Rattle.timer_desk.specs.Desk.{DeskState, clients_of}
use Rattle.timer_desk.specs.Types.{Progress}
use Rattle.timer_desk.specs.declared.driver.DriveEnd.TheVariants as DriveEnds
use Rattle.timer_desk.specs.Driver.{no_progress, AllDone, TakesTurn, Drives}
use Rattle.timer_desk.proofs.DriverLemmas.{IsDriving-start, IsDriving-turn, Drives-ran_out, Drives-ended, not_done}
use Rattle.timer_desk.proofs.driver.drive.Goals as goal

pub returns-in_default : goal.returns-in_default
returns-in_default g c =
    let none : List Progress = replicate c.clients.result no_progress in
    Drives-ended g.I.Inlet.kind c.args.goal c.args.limit c.args.desk c.args.desk none 0 DriveEnds.OutOfMemory
    (IsDriving-start g.I.Inlet.kind c.args.goal c.args.limit c.args.desk none c.clients.result c.clients.ensures refl
    c.lemma_invariant.ensures.kept (λ placed k. c.notices_are_owed.ensures c.args.desk.facility placed k c.lemma_invariant.ensures.sound))
    (λ is. absurd (cc)) (λ is. absurd (cc))

pub loop-idle-init : goal.loop-idle-init
loop-idle-init g c = record {
  driving = IsDriving-start g.I.Inlet.kind c.args.goal c.args.limit c.args.desk c.in-Ok.progress.items c.clients.result
      c.clients.ensures c.in-Ok.ensures c.lemma_invariant.ensures.kept
      (λ placed k. c.notices_are_owed.ensures c.args.desk.facility placed k c.lemma_invariant.ensures.sound);
  clients = omega (
    arith,
    length-replicate {A = Progress} c.clients.result no_progress,
    ap (λ ps. length ps) c.in-Ok.ensures,
    c.clients.ensures,
    c.in-Ok.progress.ok,
  );
  within = omega arith;
}

pub returns-then-all_done : goal.returns-then-all_done
returns-then-all_done g c =
    Drives-ended g.I.Inlet.kind c.args.goal c.args.limit c.args.desk c.loop-idle.desk c.loop-idle.progress.items c.loop-idle.idle
    DriveEnds.Done c.loop-idle.invariant.driving
    (λ is. subst (AllDone c.args.goal) c.deref.ensures.value (c.if-all_done.ensures.0 refl)) (λ is. absurd (cc))

pub returns : goal.returns
returns g c =
    let was = c.loop-idle.invariant in
    Drives-ended g.I.Inlet.kind c.args.goal c.args.limit c.args.desk c.loop-idle.desk c.loop-idle.progress.items c.loop-idle.idle
    DriveEnds.Limit was.driving (λ is. absurd (cc)) (λ is. omega (arith, was.within, c.loop-idle-test.false))

pub loop-idle-preserved-in-Passed : goal.loop-idle-preserved-in-Passed
loop-idle-preserved-in-Passed g c =
    let was = c.loop-idle.invariant in
    let turned = c.in-Passed.ensures.turned in
    let short = not_done c.args.goal c.loop-idle.progress.items c.deref.result.now c.deref.ensures.value c.if-all_done.ensures.1 in
    let len : length c.one_turn.new.progress.items ≡ clients_of c.one_turn.new.desk =
    omega (arith, c.in-Passed.ensures.clients, c.one_turn.new.progress.ok) in record {
      driving = IsDriving-turn g.I.Inlet.kind c.args.goal c.args.limit c.args.desk c.loop-idle.desk c.one_turn.new.desk
          c.loop-idle.progress.items c.one_turn.new.progress.items c.loop-idle.idle was.driving c.loop-idle-test.true short false
          turned.0 0 refl len (inl (refl, turned.1));
      clients = c.in-Passed.ensures.clients;
      within = omega arith;
    }

pub loop-idle-preserved : goal.loop-idle-preserved
loop-idle-preserved g c =
    let was = c.loop-idle.invariant in
    let turned = c.in-Idle.ensures.turned in
    let short = not_done c.args.goal c.loop-idle.progress.items c.deref.result.now c.deref.ensures.value c.if-all_done.ensures.1 in
    let len : length c.one_turn.new.progress.items ≡ clients_of c.one_turn.new.desk =
    omega (arith, c.in-Idle.ensures.clients, c.one_turn.new.progress.ok) in record {
      driving = IsDriving-turn g.I.Inlet.kind c.args.goal c.args.limit c.args.desk c.loop-idle.desk c.one_turn.new.desk
          c.loop-idle.progress.items c.one_turn.new.progress.items c.loop-idle.idle was.driving c.loop-idle-test.true short false
          turned.0 (c.loop-idle.idle + 1) refl len (inr (refl, turned.1));
      clients = c.in-Idle.ensures.clients;
      within = omega (arith, c.loop-idle-test.true);
    }

pub returns-in-OutOfMemory : goal.returns-in-OutOfMemory
returns-in-OutOfMemory g c =
    let was = c.loop-idle.invariant in
    let short = not_done c.args.goal c.loop-idle.progress.items c.deref.result.now c.deref.ensures.value c.if-all_done.ensures.1 in
    ⊎_elim
    (λ (same : c.one_turn.new.desk ≡ c.loop-idle.desk).
    subst (λ (d : DeskState g.row.I.Denot). Drives g.I.Inlet.kind c.args.goal c.args.limit c.args.desk d DriveEnds.OutOfMemory)
    (sym same)
    (Drives-ended g.I.Inlet.kind c.args.goal c.args.limit c.args.desk c.loop-idle.desk c.loop-idle.progress.items
    c.loop-idle.idle DriveEnds.OutOfMemory was.driving (λ is. absurd (cc)) (λ is. absurd (cc))))
    (λ (t : TakesTurn g.I.Inlet.kind c.args.goal true c.loop-idle.desk c.one_turn.new.desk c.loop-idle.progress.items
    c.one_turn.new.progress.items).
    Drives-ran_out g.I.Inlet.kind c.args.goal c.args.limit c.args.desk c.loop-idle.desk c.one_turn.new.desk
    c.loop-idle.progress.items c.one_turn.new.progress.items c.loop-idle.idle was.driving c.loop-idle-test.true short true t)
    c.in-OutOfMemory.ensures.turned
