use Rattle.std.proofs.Common.{◌≡◌, ◌+◌, ◌<◌, ◌^◌, ◌++◌, ◌∷◌, [], inl, ℕ, List, length, sym, ◌∙◌, ap, subst, arith}
use Rattle.timer_journal.specs.Device.{Torn, overwritten}
use Rattle.timer_journal.specs.Format.{body_of, blocks, groups_of, Says}
use Rattle.timer_journal.specs.Journal.{IsBeforeOrAfter}
use Rattle.timer_journal.proofs.Writing.{all_fit}
use Rattle.timer_journal.proofs.Moments.{started, joined, weaker}
use Rattle.timer_journal.proofs.Crashes.{staged, torn_group, written_group, torn_gate, written_gate, length-push, is_durable, all_fit_push}
use Rattle.timer_journal.proofs.journal.put_group.Goals as goal

pub returns-in_err-write_durably-clause-any_moment : goal.returns-in_err-write_durably-clause-any_moment
returns-in_err-write_durably-clause-any_moment g c =
    let file = g.D.Device.seen c.args.device.now in
    let groups = groups_of file in
    let at_rest = c.requires.durable.file in
    let fit = all_fit groups (omega (arith, c.requires.end, c.requires.small.0)) in
    weaker g.D.Device.moment g.D.Device.left_since g.D.Device.may_leave g.met.D.Device.begins_now c.args.device.now c.write_durably.new.device
    (Torn (c.args.end + 1) (length c.deref.result.now) file) (IsBeforeOrAfter groups c.args.lines.now) c.write_durably.ensures.any_moment
    (λ f torn. inl (torn_group groups c.args.end c.requires.end fit (length c.deref.result.now) f (subst (λ d. Torn (c.args.end + 1) (length c.deref.result.now) d f) at_rest torn)))

pub returns-in_err-write_durably-2-clause-any_moment : goal.returns-in_err-write_durably-2-clause-any_moment
returns-in_err-write_durably-2-clause-any_moment g c =
    let file = g.D.Device.seen c.args.device.now in
    let groups = groups_of file in
    let lines = c.args.lines.now in
    let at_rest = c.requires.durable.file in
    let fit = all_fit groups (omega (arith, c.requires.end, c.requires.small.0)) in
    let bytes_are : c.deref.result.now ≡ body_of lines ++ 21 ∷ [] = c.deref.ensures.value ∙ c.in_ok-group.ensures in
    let is_staged : g.D.Device.seen c.write_durably.new.device ≡ staged groups lines =
    c.in_ok-write_durably.ensures.written ∙ (λ i. overwritten (at_rest i) (c.args.end + 1) (bytes_are i)) ∙ written_group groups c.args.end c.requires.end fit lines in
    joined g.D.Device.moment g.D.Device.left_since g.D.Device.may_leave g.met.D.Device.begins_now c.args.device.now c.write_durably.new.device c.write_durably-2.new.device
    (Torn (c.args.end + 1) (length c.deref.result.now) file) (Torn c.args.end 1 (g.D.Device.seen c.write_durably.new.device)) (IsBeforeOrAfter groups lines)
    c.write_durably.ensures.any_moment c.write_durably-2.ensures.any_moment
    (λ f torn. inl (torn_group groups c.args.end c.requires.end fit (length c.deref.result.now) f (subst (λ d. Torn (c.args.end + 1) (length c.deref.result.now) d f) at_rest torn)))
    (λ f torn. torn_gate groups c.args.end c.requires.end fit lines (omega (arith, c.requires.small.1)) f (subst (λ d. Torn c.args.end 1 d f) is_staged torn))

pub returns-clause-any_moment : goal.returns-clause-any_moment
returns-clause-any_moment g c =
    let file = g.D.Device.seen c.args.device.now in
    let groups = groups_of file in
    let lines = c.args.lines.now in
    let at_rest = c.requires.durable.file in
    let fit = all_fit groups (omega (arith, c.requires.end, c.requires.small.0)) in
    let bytes_are : c.deref.result.now ≡ body_of lines ++ 21 ∷ [] = c.deref.ensures.value ∙ c.in_ok-group.ensures in
    let is_staged : g.D.Device.seen c.write_durably.new.device ≡ staged groups lines =
    c.in_ok-write_durably.ensures.written ∙ (λ i. overwritten (at_rest i) (c.args.end + 1) (bytes_are i)) ∙ written_group groups c.args.end c.requires.end fit lines in
    joined g.D.Device.moment g.D.Device.left_since g.D.Device.may_leave g.met.D.Device.begins_now c.args.device.now c.write_durably.new.device c.write_durably-2.new.device
    (Torn (c.args.end + 1) (length c.deref.result.now) file) (Torn c.args.end 1 (g.D.Device.seen c.write_durably.new.device)) (IsBeforeOrAfter groups lines)
    c.write_durably.ensures.any_moment c.write_durably-2.ensures.any_moment
    (λ f torn. inl (torn_group groups c.args.end c.requires.end fit (length c.deref.result.now) f (subst (λ d. Torn (c.args.end + 1) (length c.deref.result.now) d f) at_rest torn)))
    (λ f torn. torn_gate groups c.args.end c.requires.end fit lines (omega (arith, c.requires.small.1)) f (subst (λ d. Torn c.args.end 1 d f) is_staged torn))

pub returns-in_err-group-clause-any_moment : goal.returns-in_err-group-clause-any_moment
returns-in_err-group-clause-any_moment g c =
    let groups = groups_of (g.D.Device.seen c.args.device.now) in
    started g.D.Device.moment g.D.Device.left_since g.D.Device.may_leave g.met.D.Device.begins_now c.args.device.now (IsBeforeOrAfter groups c.args.lines.now)
    (λ f now. inl (subst (Says groups) (sym (c.requires.durable.durable f now)) c.requires.durable.says))

pub returns-clause-ok : goal.returns-clause-ok
returns-clause-ok g c =
    let file = g.D.Device.seen c.args.device.now in
    let groups = groups_of file in
    let lines = c.args.lines.now in
    let at_rest = c.requires.durable.file in
    let fit = all_fit groups (omega (arith, c.requires.end, c.requires.small.0)) in
    let fits : length lines < 2 ^ 64 = omega (arith, c.requires.small.1) in
    let bytes_are : c.deref.result.now ≡ body_of lines ++ 21 ∷ [] = c.deref.ensures.value ∙ c.in_ok-group.ensures in
    let is_staged : g.D.Device.seen c.write_durably.new.device ≡ staged groups lines =
    c.in_ok-write_durably.ensures.written ∙ (λ i. overwritten (at_rest i) (c.args.end + 1) (bytes_are i)) ∙ written_group groups c.args.end c.requires.end fit lines in
    let opened = c.in_ok-write_durably-2.ensures.written ∙ ap (λ (d : List ℕ). overwritten d c.args.end (6 ∷ [])) is_staged ∙ written_gate groups c.args.end c.requires.end fit lines fits in
    let ok = is_durable g.D.Device.seen g.D.Device.may_leave g.D.Device.is_usable c.write_durably-2.new.device (groups ++ lines ∷ []) (all_fit_push groups lines fit fits) opened
    c.in_ok-write_durably-2.ensures.durable c.in_ok-write_durably-2.ensures.usable in
    ok

pub returns-clause-end : goal.returns-clause-end
returns-clause-end g c =
    let is = ap (λ (gs : List (List ℕ)). length (blocks gs)) (returns-clause-ok g c).1 in
    let more = length-push (groups_of (g.D.Device.seen c.args.device.now)) c.args.lines.now in
    omega (arith, is, more, ap length c.in_ok-group.ensures, c.requires.end, c.in_ok-group.group.ok)
