use Rattle.std.proofs.Common.{rules, ◌++◌, ◌-◌, ◌∙◌, take, refl}
use Rattle.timer_script.proofs.Results.{handed_on, true_false}
use Rattle.timer_script.proofs.CutterLines.{held_sorted, line_front, line_sorted, line_stops, long_stops}
use Rattle.timer_script.proofs.FeedLemmas.{no_feed-append}
use Rattle.timer_script.proofs.cutter.Cutter.take_line.Goals as goal

pub returns-in_ok-sort_line-clause-cut : goal.returns-in_ok-sort_line-clause-cut
returns-in_ok-sort_line-clause-cut c = λ o came events bad h.
    let l = c.line_len-len.ensures in
    let n = c.line_len-len.result in
    let bytes = c.args.bytes.now in
    let p = h.sorted.passes in
    let whole = line_front p.left c.args.self.now.held.items bytes c.extend_from_slice.new.self.items n h.sorted.held_is l.some l.within
    (search rules) (search rules) in
    line_sorted _ bytes n l.some l.within (search rules) refl (search rules) (search rules) h
    (c.in_ok-sort_line.ensures.ended (p.left ++ take (n - 1) bytes)
    (no_feed-append p.left (take (n - 1) bytes) p.cut.unended l.no_feed) (c.deref.ensures.value ∙ whole))

pub returns-in_err-sort_line-clause-stopped : goal.returns-in_err-sort_line-clause-stopped
returns-in_err-sort_line-clause-stopped c =
    let l = c.line_len-len.ensures in
    let fault = c.in_err-sort_line.field-0.0 in
    handed_on _ c.from_residual-in_err-sort_line.result fault c.from_residual-in_err-sort_line.ensures.1 (λ o came events bad.
    line_stops fault c.deref.result.now c.args.bytes.now c.line_len-len.result c.sort_line.new.events.items l.some l.within l.no_feed
    (search rules) (search rules) c.in_err-sort_line.ensures.stopped)

pub returns-then-is_too_long-clause-stopped : goal.returns-then-is_too_long-clause-stopped
returns-then-is_too_long-clause-stopped c = λ o came events bad.
    let l = c.line_len-len.ensures in
    let long = c.is_too_long.ensures.0 c.if-is_too_long.true in
    long_stops c.extend_from_slice.new.self.items c.args.bytes.now c.line_len-len.result long.0 l.some l.within l.no_feed (search rules)
    (search rules) long.1

pub returns-else-is_too_long-clause-cut : goal.returns-else-is_too_long-clause-cut
returns-else-is_too_long-clause-cut c = λ o came events bad.
    let l = c.line_len-len.ensures in
    held_sorted _ c.args.bytes.now c.line_len-len.result l.some l.within l.no_feed (search rules) (search rules) refl refl refl refl
    (λ stop full. true_false c.is_too_long.result (c.is_too_long.ensures.1 (stop, full)) c.if-is_too_long.false)
