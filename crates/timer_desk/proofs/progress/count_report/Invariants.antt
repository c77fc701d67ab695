use Rattle.std.proofs.Common.{◌≡◌, ◌<◌, true, false, take, vec_len}
use Rattle.timer_desk.specs.Driver.{AllCounted, all_left}
use Rattle.timer_desk.proofs.progress.count_report.Given as goal

abbrev pub invariant-loop-member : goal.invariant-loop-member
invariant-loop-member l = record {
  counted : AllCounted l.goal (take l.member-index l.report) l.fn.all.items l.all.items;
  len : vec_len l.all ≡ vec_len l.fn.all;
  fewer : l.passed ≡ true → all_left l.goal l.all.items < all_left l.goal l.fn.all.items;
  same : l.passed ≡ false → l.all.items ≡ l.fn.all.items;
}
