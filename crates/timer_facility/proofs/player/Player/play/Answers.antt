use Rattle.std.proofs.Common.{◌≡◌, take, sym, subst}
use Rattle.std.proofs.lemmas.List.{take_more, take_all}
use Rattle.timer_facility.specs.State.{IsSound}
use Rattle.timer_facility.specs.Played.{IsPlayed, IsRun}
use Rattle.timer_facility.proofs.PlayedLemmas.{IsRun-more, IsPlayed-run}
use Rattle.timer_facility.proofs.player.Player.play.Goals as goal

pub returns-in-Err-clause-stopped : goal.returns-in-Err-clause-stopped
returns-in-Err-clause-stopped g c =
    let sound : IsSound c.args.self.now = rw (← c.self.view_is) c.lemma_sound.ensures in
    rw (c.in-Err.ensures.state, c.in-Err.ensures.outs) (IsPlayed-run c.args.self.now
    (take c.loop-i.i c.args.events.now) c.loop-i.outs.items c.loop-i.self sound c.loop-i.invariant)

pub loop-i-preserved : goal.loop-i-preserved
loop-i-preserved g c =
    let more = take_more c.args.events.now c.loop-i.i _ c.loop-i-test.true in
    subst (λ es. IsRun c.args.self.now es c.play_one.new.outs.items c.play_one.new.self) (sym more)
    (IsRun-more c.args.self.now (take c.loop-i.i c.args.events.now) _ c.loop-i.outs.items c.play_one.new.outs.items c.loop-i.self
    c.play_one.new.self c.loop-i.invariant c.in-Ok.ensures.ok)

pub returns-clause-played : goal.returns-clause-played
returns-clause-played g c =
    let sound : IsSound c.args.self.now = rw (← c.self.view_is) c.lemma_sound.ensures in
    let all : take c.loop-i.i c.args.events.now ≡ c.args.events.now = take_all c.loop-i.i c.args.events.now c.loop-i-test.false in
    subst (λ es. IsPlayed c.args.self.now es c.loop-i.outs.items c.loop-i.self) all
    (IsPlayed-run c.args.self.now (take c.loop-i.i c.args.events.now) c.loop-i.outs.items c.loop-i.self sound c.loop-i.invariant)
