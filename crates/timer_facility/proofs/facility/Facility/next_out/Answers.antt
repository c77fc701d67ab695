use Rattle.std.proofs.Common.{◌≡◌, ◌≢◌, ◌≤◌, ℕ, Vec, length, vec_len, get_or, sym, arith}
use Rattle.std.specs.Prelude.{Some, slice_get}
use Rattle.std.proofs.lemmas.Option.{slice_get_read}
use Rattle.timer_facility.specs.Types.{Timer}
use Rattle.timer_facility.proofs.FacilityFields.{agrees, due_counted, returned_counted, facility-expiry, facility-nothing_due, facility-returned}
use Rattle.timer_facility.proofs.facility.Facility.next_out.Goals as goal

-- The next timer that is due.

pub count_one_less-requires : goal.count_one_less-requires
count_one_less-requires g c = (due_counted c.self.invariant.fields c.in-Some.timer (sym c.in-Some.ensures.first)).some

pub invariant_of-self : goal.invariant_of-self
invariant_of-self g c = record {
  fields = facility-expiry c.self.invariant.fields c.in-Some.timer (sym c.in-Some.ensures.first) c.in-Some.ensures.rest
      c.count_one_less.ensures;
  keeps_all = c.self.invariant.keeps_all;
}

pub returns-in-Some-clause-client : goal.returns-in-Some-clause-client
returns-in-Some-clause-client g c = omega (
  arith,
  (due_counted c.self.invariant.fields c.in-Some.timer (sym c.in-Some.ensures.first)).is_client,
  (agrees c.self.invariant.fields c.self.view_is).clients_are,
)

-- The next timer that a close returned.

next_returned : {Z : Type 0} (returned : Vec Timer Z) (handed n : ℕ) (t : Timer) → handed ≤ length returned.items → n ≡ vec_len returned
    → handed ≢ n → t ≡ get_or returned.items handed t → slice_get returned.items handed ≡ Some t
next_returned returned handed n t l e other is =
    let len : n ≡ length returned.items = let k = returned.ok in omega (arith, e) in
    slice_get_read returned.items n handed t len (omega (arith, l, len, other)) is

pub count_one_less-requires-2 : goal.count_one_less-requires-2
count_one_less-requires-2 g c = (returned_counted c.self.invariant.fields c.index-timer.result.now (next_returned c.self.inside.returned
    c.self.inside.handed c.len.result c.index-timer.result.now c.self.invariant.fields.handed_in_range c.len.ensures c.if-self-len.false
    c.index-timer.ensures)).some

pub invariant_of-self-2 : goal.invariant_of-self-2
invariant_of-self-2 g c = record {
  fields = facility-returned (facility-nothing_due c.self.invariant.fields (sym c.in_default.ensures.first) c.in_default.ensures.rest)
      c.index-timer.result.now (next_returned c.self.inside.returned c.self.inside.handed c.len.result c.index-timer.result.now
      c.self.invariant.fields.handed_in_range c.len.ensures c.if-self-len.false c.index-timer.ensures) c.count_one_less-2.ensures;
  keeps_all = c.self.invariant.keeps_all;
}

pub returns-clause-client : goal.returns-clause-client
returns-clause-client g c = omega (
  arith,
  (returned_counted c.self.invariant.fields c.index-timer.result.now (next_returned c.self.inside.returned c.self.inside.handed c.len.result
      c.index-timer.result.now c.self.invariant.fields.handed_in_range c.len.ensures c.if-self-len.false c.index-timer.ensures)).is_client,
  (agrees c.self.invariant.fields c.self.view_is).clients_are,
)
