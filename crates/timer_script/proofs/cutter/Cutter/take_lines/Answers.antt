use Rattle.std.proofs.Common.{◌≡◌, ◌++◌, take, subst, arith, append-nil}
use Rattle.std.proofs.lemmas.Result.{IfOk-weaker, IfErr-weaker}
use Rattle.timer_script.specs.Cutter.{HasSortedSince}
use Rattle.timer_script.proofs.cutter.Cutter.take_lines.Goals as goal

pub returns-clause-cut : goal.returns-clause-cut
returns-clause-cut c = IfOk-weaker c.take_line.result _ _ (λ n cut o came events bad h. cut o came events bad
    (subst (λ z. HasSortedSince o c.take_good_lines.new.self z events bad) (append-nil came)
    (let none : c.in_ok-len.len ≡ 0 = omega (arith, c.if-len-gt0.false) in
    subst (λ k. HasSortedSince o c.take_good_lines.new.self (came ++ take k c.args.bytes.now) events bad) none
    (c.in_ok-len.ensures.cut o came events bad h)))) c.take_line.ensures.cut

pub returns-clause-stopped : goal.returns-clause-stopped
returns-clause-stopped c = IfErr-weaker c.take_line.result _ _ (λ fault stopped o came events bad h. stopped o came events bad
    (subst (λ z. HasSortedSince o c.take_good_lines.new.self z events bad) (append-nil came)
    (let none : c.in_ok-len.len ≡ 0 = omega (arith, c.if-len-gt0.false) in
    subst (λ k. HasSortedSince o c.take_good_lines.new.self (came ++ take k c.args.bytes.now) events bad) none
    (c.in_ok-len.ensures.cut o came events bad h)))) c.take_line.ensures.stopped
