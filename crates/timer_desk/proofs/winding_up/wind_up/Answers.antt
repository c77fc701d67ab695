use Rattle.std.proofs.Common.{◌≡◌, ◌<◌, ◌≤◌, ◌∙◌, length, get_or, vec_len, subst, refl, arith}
use Rattle.std.proofs.lemmas.List.{get_or_default}
use Rattle.timer_desk.specs.Types.{RingInlet, ClientReader}
use Rattle.timer_desk.specs.WindingUp.{IsReadOut}
use Rattle.timer_desk.proofs.WindingUpLemmas.{still_waits, IsReadOut-same, one_more_read, later_stays, keeps_looked, keeps_then}
use Rattle.timer_desk.proofs.winding_up.wind_up.Goals as goal

pub returns-then-not-is_done-clause-err : goal.returns-then-not-is_done-clause-err
returns-then-not-is_done-clause-err g c =
    let n = c.loop-c.c in
    let was = c.loop-c.invariant in
    let low : n < length c.args.desk.inlets = omega (
      arith,
      was.keeps.same_clients,
      was.as_many,
      c.requires.ended.as_many,
      c.loop-c.ended.ok,
      c.args.ended.ok,
      c.len-c-end.ensures,
      c.loop-c-test.true,
      c.loop-c.auto.c-end,
    ) in
    let here : n ≤ n = omega arith in
    let in_ended : n < vec_len c.loop-c.ended = omega (arith, low, was.as_many, c.requires.ended.as_many, c.args.ended.ok) in record {
      client = low;
      idle_before = was.idle;
      got_before = was.got;
      waiting = still_waits n c.args.desk c.loop-c.desk c.args.ended.items c.index_mut.result.now was.keeps low
          (λ e. c.index_mut.ensures.value ∙ was.later n c.index_mut.result.now here in_ended
          ∙ get_or_default c.args.ended.items n c.index_mut.result.now e (omega (arith, in_ended, was.as_many, c.args.ended.ok)))
          (c.if-not-is_done.ensures.waiting refl);
    }

pub loop-k-preserved : goal.loop-k-preserved
loop-k-preserved g c =
    let was = c.loop-k.invariant in
    let n = c.loop-k.k in
    let settled = c.settle_reader.ensures in
    let all = c.args.desk.inlets in
    let start = c.args.readers.items in
    let readers = c.loop-k.readers.items in
    let x = c.settle_reader.new.reader in
    let old = c.index_mut-in-loop-k.result.now in
    let low : n < length readers = omega (arith, c.loop-k-test.true, c.loop-k.auto.k-end, c.len-k-end.ensures, was.as_many, c.loop-k.readers.ok, c.args.readers.ok) in
    let within : n < length start = omega (arith, low, was.as_many, c.loop-k.readers.ok, c.args.readers.ok) in
    let client : n < length all = omega (arith, within, c.requires.readers.as_many) in
    let reader : (r : ClientReader) → old ≡ get_or start n r = λ r.
    c.index_mut-in-loop-k.ensures.value ∙ was.later n old (omega arith) ∙ get_or_default start n old r within in
    let here : (i : RingInlet) (r : ClientReader) → IsReadOut (get_or all n i) (get_or start n r) x = λ i r.
    IsReadOut-same (get_or c.loop-k.desk.inlets n i) (get_or all n i) (get_or start n r) x (was.keeps.same_given n i client)
    (subst (λ q. IsReadOut (get_or c.loop-k.desk.inlets n i) q x) (reader r) (settled.read_out i)) in
    record {
      keeps = keeps_then c.args.desk c.loop-k.desk c.settle_reader.new.self was.keeps
          (keeps_looked n c.loop-k.desk c.settle_reader.new.self settled.looks);
      as_many = was.as_many;
      later = λ k r h. later_stays readers start n x was.later k r h;
      read = λ k i r h. one_more_read all start readers n x low here was.read k i r h;
    }
