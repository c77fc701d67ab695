use Rattle.std.proofs.Common.{ℕ, List, ◌∙◌, ◌++◌, [], ◌∷◌, map, ap, refl, arith, Box, Global}
use Rattle.timer_desk_c.specs.Types.{RingInlet, Line}
use Rattle.std.proofs.lemmas.Grind.{common_steps}
use Rattle.std.proofs.lemmas.List.{map-append}
use Rattle.timer_desk_c.specs.Desks.{AreNewLines, IsNewLine}
use Rattle.timer_desk_c.proofs.desk_maker.new_lines.Goals as goal

one_more : (room : ℕ) (inlets : List RingInlet) (ends : List Line) (i : RingInlet) (l : Line)
    → AreNewLines room inlets ends → IsNewLine 1 room i l → AreNewLines room (inlets ++ i ∷ []) (ends ++ l ∷ [])
one_more room [] [] i l was one = (one, tt)
one_more room [] (y ∷ ys) i l was one = absurd was
one_more room (x ∷ xs) [] i l was one = absurd was
one_more room (x ∷ xs) (y ∷ ys) i l was one = (was.0, one_more room xs ys i l was.1 one)

pub loop-init : goal.loop-init
loop-init c = record {
  lines = rw (c.in_ok-inlets.ensures.items, c.in_ok-ends.ensures.items) tt;
  inlets = c.in_ok-inlets.ensures.len;
  ends = c.in_ok-ends.ensures.len;
  inlets_room = refl;
  ends_room = refl;
}

pub loop-preserved : goal.loop-preserved
loop-preserved c =
    let new = c.in_ok-inlet.field-0 in
    let ends = map (λ (b : Box Line Global). b.value) c.loop.ends.items in
    let more = one_more c.args.room c.loop.inlets.items ends new.inlet new.end.value c.loop.invariant.lines c.in_ok-inlet.ensures in
    let now = ap (map (λ (b : Box Line Global). b.value)) c.push_reserved-in-loop.ensures.items
    ∙ map-append (λ (b : Box Line Global). b.value) c.loop.ends.items (new.end ∷ []) in record {
      lines = rw (c.push_reserved.ensures.items, now) more;
      inlets = grind (arith, common_steps);
      ends = grind (arith, common_steps);
      inlets_room = grind (arith, common_steps);
      ends_room = grind (arith, common_steps);
    }
