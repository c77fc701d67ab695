use Rattle.std.proofs.Common.{◌≡◌, map, vec_len, vec_capacity}
use Rattle.timer_desk_c.specs.Desks.{AreNewLines}
use Rattle.timer_desk_c.proofs.desk_maker.new_lines.Given as goal

-- so many lines so far, and room for the others
abbrev pub invariant-loop : goal.invariant-loop
invariant-loop l = record {
  lines : AreNewLines l.fn.room l.inlets.items (map (λ b. b.value) l.ends.items);
  inlets : vec_len l.inlets ≡ l.counter;
  ends : vec_len l.ends ≡ l.counter;
  inlets_room : vec_capacity l.inlets ≡ vec_capacity l.initial.inlets;
  ends_room : vec_capacity l.ends ≡ vec_capacity l.initial.ends;
}
