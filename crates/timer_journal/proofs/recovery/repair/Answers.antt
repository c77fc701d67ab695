use Rattle.std.proofs.Common.{◌≡◌, ◌∷◌, [], ℕ, List, take, ◌∙◌, ap, subst, arith}
use Rattle.timer_journal.specs.Device.{Torn, Shortened, overwritten}
use Rattle.timer_journal.specs.Format.{blocks, groups_of, tail_of, Says}
use Rattle.timer_journal.proofs.Writing.{all_fit}
use Rattle.timer_journal.proofs.Moments.{joined, weaker}
use Rattle.timer_journal.proofs.Crashes.{cut_end, is_cut, torn_end, written_end, is_durable}
use Rattle.timer_journal.proofs.recovery.repair.Goals as goal

pub returns-in_err-cut_durably-clause-any_moment : goal.returns-in_err-cut_durably-clause-any_moment
returns-in_err-cut_durably-clause-any_moment g c =
    let file = g.D.Device.seen c.args.device.now in
    let groups = groups_of file in
    let fit = all_fit groups (omega (arith, c.requires.end, c.ranges.end)) in
    weaker g.D.Device.moment g.D.Device.left_since g.D.Device.may_leave g.met.D.Device.begins_now c.args.device.now c.cut_durably.new.device (Shortened c.args.end file) (Says groups)
    c.cut_durably.ensures.any_moment (λ f cut. cut_end groups c.args.end c.requires.end fit (tail_of file) f c.requires.torn (subst (λ d. Shortened c.args.end d f) c.requires.split cut))

pub returns-clause-any_moment : goal.returns-clause-any_moment
returns-clause-any_moment g c =
    let file = g.D.Device.seen c.args.device.now in
    let groups = groups_of file in
    let fit = all_fit groups (omega (arith, c.requires.end, c.ranges.end)) in
    let shorter : g.D.Device.seen c.cut_durably.new.device ≡ blocks groups =
    c.in_ok-cut_durably.ensures.cut ∙ ap (take c.args.end) c.requires.split ∙ is_cut groups c.args.end c.requires.end fit (tail_of file) in
    joined g.D.Device.moment g.D.Device.left_since g.D.Device.may_leave g.met.D.Device.begins_now c.args.device.now c.cut_durably.new.device c.write_durably.new.device
    (Shortened c.args.end file) (Torn c.args.end 1 (g.D.Device.seen c.cut_durably.new.device)) (Says groups) c.cut_durably.ensures.any_moment c.write_durably.ensures.any_moment
    (λ f cut. cut_end groups c.args.end c.requires.end fit (tail_of file) f c.requires.torn (subst (λ d. Shortened c.args.end d f) c.requires.split cut))
    (λ f torn. torn_end groups c.args.end c.requires.end fit f (subst (λ d. Torn c.args.end 1 d f) shorter torn))

pub returns-in_err-write_durably-clause-any_moment : goal.returns-in_err-write_durably-clause-any_moment
returns-in_err-write_durably-clause-any_moment g c =
    let file = g.D.Device.seen c.args.device.now in
    let groups = groups_of file in
    let fit = all_fit groups (omega (arith, c.requires.end, c.ranges.end)) in
    let shorter : g.D.Device.seen c.cut_durably.new.device ≡ blocks groups =
    c.in_ok-cut_durably.ensures.cut ∙ ap (take c.args.end) c.requires.split ∙ is_cut groups c.args.end c.requires.end fit (tail_of file) in
    joined g.D.Device.moment g.D.Device.left_since g.D.Device.may_leave g.met.D.Device.begins_now c.args.device.now c.cut_durably.new.device c.write_durably.new.device
    (Shortened c.args.end file) (Torn c.args.end 1 (g.D.Device.seen c.cut_durably.new.device)) (Says groups) c.cut_durably.ensures.any_moment c.write_durably.ensures.any_moment
    (λ f cut. cut_end groups c.args.end c.requires.end fit (tail_of file) f c.requires.torn (subst (λ d. Shortened c.args.end d f) c.requires.split cut))
    (λ f torn. torn_end groups c.args.end c.requires.end fit f (subst (λ d. Torn c.args.end 1 d f) shorter torn))

pub returns-clause-ok : goal.returns-clause-ok
returns-clause-ok g c =
    let file = g.D.Device.seen c.args.device.now in
    let groups = groups_of file in
    let fit = all_fit groups (omega (arith, c.requires.end, c.ranges.end)) in
    let shorter : g.D.Device.seen c.cut_durably.new.device ≡ blocks groups =
    c.in_ok-cut_durably.ensures.cut ∙ ap (take c.args.end) c.requires.split ∙ is_cut groups c.args.end c.requires.end fit (tail_of file) in
    is_durable g.D.Device.seen g.D.Device.may_leave g.D.Device.is_usable c.write_durably.new.device groups fit
    (c.in_ok-write_durably.ensures.written ∙ ap (λ (d : List ℕ). overwritten d c.args.end (21 ∷ [])) shorter ∙ written_end groups c.args.end c.requires.end fit)
    c.in_ok-write_durably.ensures.durable c.in_ok-write_durably.ensures.usable
