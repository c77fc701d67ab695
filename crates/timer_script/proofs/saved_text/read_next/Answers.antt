use Rattle.std.proofs.Common.{sym, arith}
use Rattle.timer_script.proofs.LineLemmas.{field_sound}
use Rattle.timer_script.proofs.saved_text.read_next.Goals as goal

pub overflow_add-result : goal.overflow_add-result
overflow_add-result c = omega (arith, (field_sound 10 c.args.bytes.now c.in_ok-used.rest.now c.in_ok-used.used (sym c.in_ok-used.ensures)).0)
