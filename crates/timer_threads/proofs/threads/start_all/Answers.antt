use Rattle.std.proofs.Common.{◌∙◌, ap, sym, subst, arith}
use Rattle.std.proofs.lemmas.Grind.{common_steps}
use Rattle.timer_desk.specs.RingEnds.{line_of_end}
use Rattle.timer_threads.specs.Children.{threads_of}
use Rattle.timer_threads.specs.Work.{IsNewEnd}
use Rattle.timer_threads.proofs.ThreadLemmas.{AreThreadsOfLines-more}
use Rattle.timer_threads.proofs.threads.start_all.Goals as goal

pub loop-gate-preserved : goal.loop-gate-preserved
loop-gate-preserved g c =
    let was = c.loop-gate.invariant in
    let inlets = c.push_reserved.ensures in
    let children = c.push_reserved-in-loop-gate.ensures in
    let line = c.in-Ok.ensures in
    let child = c.in-Ok-start.ensures in record {
      tied = rw (inlets.items, children.threads)
          (AreThreadsOfLines-more c.args.count c.args.limit c.loop-gate.inlets.items (threads_of c.loop-gate.children) c.in-Ok.inlet
          c.in-Ok-start.child was.tied (record {
            line = sym line.line ∙ ap line_of_end (sym child.end);
            count_is = child.count;
            limit_is = child.limit;
            inlet_new = record {
              none_got = line.inlet.0;
              none_given = line.inlet.1;
              none_found = line.found.1;
              room = line.room.1;
              unsettled = line.inlet.2;
            };
            end_new = subst IsNewEnd (sym child.end) (record {
              none_sent = line.end.0;
              none_received = line.end.1;
              none_found = line.found.0;
              room = line.room.0;
              first = line.end.2;
            });
          }));
      each = grind (arith, common_steps);
      inlets_room = grind (arith, common_steps);
      children_room = grind (arith, common_steps);
    }
