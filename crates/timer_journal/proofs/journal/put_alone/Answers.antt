use Rattle.std.proofs.Common.{◌<◌, ◌^◌, ◌∷◌, [], inl, inr, ⊎_elim, ℕ, List, length, length-append, sym, ◌∙◌, ap, subst, arith}
use Rattle.timer_journal.specs.Device.{Only}
use Rattle.timer_journal.specs.Format.{blocks, groups_of, Says}
use Rattle.timer_journal.specs.Journal.{IsBeforeOrAnew}
use Rattle.timer_journal.proofs.Moments.{called}
use Rattle.timer_journal.proofs.Crashes.{is_durable, before_or_anew}
use Rattle.timer_journal.proofs.journal.put_alone.Goals as goal

pub returns-in_err-replace-clause-any_moment : goal.returns-in_err-replace-clause-any_moment
returns-in_err-replace-clause-any_moment g c =
    let device = c.args.device.now in
    let groups = groups_of (g.D.Device.seen device) in
    let lines = c.args.lines.now in
    let fits : length lines < 2 ^ 64 = omega (arith, c.requires.small) in
    let whole = c.deref.ensures.value ∙ c.in_ok-file.ensures in
    let before : (f : List ℕ) → g.D.Device.may_leave device f → Says groups f = λ f now. subst (Says groups) (sym (c.requires.durable.durable f now)) c.requires.durable.says in
    called g.D.Device.moment g.D.Device.left_since g.D.Device.may_leave g.met.D.Device.begins_now device c.replace.new.self (IsBeforeOrAnew groups lines) c.replace.ensures.time (λ f now. inl (before f now))
    (λ f now. before_or_anew groups lines f c.deref.result.now fits (⊎_elim (λ was. inl (before f was)) (λ is. inr is) (c.replace.ensures.crash f now)) whole)

pub returns-clause-any_moment : goal.returns-clause-any_moment
returns-clause-any_moment g c =
    let device = c.args.device.now in
    let groups = groups_of (g.D.Device.seen device) in
    let lines = c.args.lines.now in
    let fits : length lines < 2 ^ 64 = omega (arith, c.requires.small) in
    let whole = c.deref.ensures.value ∙ c.in_ok-file.ensures in
    let before : (f : List ℕ) → g.D.Device.may_leave device f → Says groups f = λ f now. subst (Says groups) (sym (c.requires.durable.durable f now)) c.requires.durable.says in
    called g.D.Device.moment g.D.Device.left_since g.D.Device.may_leave g.met.D.Device.begins_now device c.replace.new.self (IsBeforeOrAnew groups lines) c.replace.ensures.time (λ f now. inl (before f now))
    (λ f now. before_or_anew groups lines f c.deref.result.now fits (⊎_elim (λ was. inl (before f was)) (λ is. inr is) (c.replace.ensures.crash f now)) whole)

pub returns-clause-ok : goal.returns-clause-ok
returns-clause-ok g c =
    let lines = c.args.lines.now in
    let fits : length lines < 2 ^ 64 = omega (arith, c.requires.small) in
    let whole = c.deref.ensures.value ∙ c.in_ok-file.ensures in
    let is = c.in_ok-replace.ensures.replaced ∙ whole in
    let only : Only (g.D.Device.seen c.replace.new.self) (g.D.Device.may_leave c.replace.new.self) = λ f now. c.in_ok-replace.ensures.durable f now ∙ sym c.in_ok-replace.ensures.replaced in
    let ok = is_durable g.D.Device.seen g.D.Device.may_leave g.D.Device.is_usable c.replace.new.self (lines ∷ []) (fits, tt) is only c.in_ok-replace.ensures.usable in
    ok

pub returns-clause-end : goal.returns-clause-end
returns-clause-end g c =
    let is = ap (λ (gs : List (List ℕ)). length (blocks gs)) (returns-clause-ok g c).1 in
    let more = length-append (blocks (c.args.lines.now ∷ [])) (21 ∷ []) in
    omega (arith, is, more, ap length c.in_ok-file.ensures, c.len.ensures, c.in_ok-file.file.ok)
