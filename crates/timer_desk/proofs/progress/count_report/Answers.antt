use Rattle.std.proofs.Common.{ap, ◌∙◌, arith}
use Rattle.timer_desk.specs.Driver.{all_left}
use Rattle.timer_desk.proofs.ProgressLemmas.{counted_one_more, fewer_left}
use Rattle.timer_desk.proofs.progress.count_report.Goals as goal
use Rattle.timer_desk.proofs.progress.count_report.Goals.{then-count_member, else-count_member}

pub loop-member-preserved : goal.loop-member-preserved
loop-member-preserved c =
    let was = c.loop-member.invariant in
    let e = c.count_member.ensures in record {
      counted = λ k p l. counted_one_more c.args.goal k c.args.report.now c.loop-member.member-index _ _ _ _ c.loop-member-test.true
          (was.counted k p l) (e.counted k p (omega (arith, l, was.len, c.args.all.now.ok)));
      len = omega (arith, was.len, e.len);
      fewer = λ h. elim c.if-count_member.branch [
        | then-count_member w ↦ fewer_left c.args.goal c.loop-member.passed c.args.all.now.items c.loop-member.all.items
            c.count_member.new.all.items was.fewer was.same (e.fewer w.if-count_member.true)
        | else-count_member w ↦
            let f = was.fewer (cc) in
            let m = ap (all_left c.args.goal) (e.same w.if-count_member.false) in
            omega arith
      ];
      same = λ h. elim c.if-count_member.branch [
        | then-count_member w ↦ absurd (cc)
        | else-count_member w ↦ e.same w.if-count_member.false ∙ was.same (cc)
      ];
    }
