use Rattle.std.proofs.Common.{◌≡◌, ap, ◌∙◌, arith, subst}
use Rattle.timer_facility.specs.State.{FacilityState, number_of}
use Rattle.timer_desk_c.specs.Desks.{IsNewLine}
use Rattle.timer_desk_c.proofs.EndingLemmas.{looks_then}
use Rattle.timer_desk_c.proofs.opening.open.Goals as goal

pub returns-clause-opened : goal.returns-clause-opened
returns-clause-opened g c =
    let client = c.args.client in
    let old = c.args.desk.now in
    let left = c.is_left.ensures in
    let clear = left.no c.if-is_left.false in
    let looked = looks_then client old c.is_abandoned.new.self c.is_left.new.desk c.is_abandoned.ensures.looks left.looked in
    let number_is : c.next_number-number.result ≡ number_of old.facility client = c.next_number-number.ensures
    ∙ ap (λ (s : FacilityState). number_of s client) looked.same_facility in record {
      client_in_range = omega (arith, c.if-client-clients.false, c.clients.ensures);
      room_in_range = (omega (arith, c.if-room-lt-MIN_ITEMS.false), omega (arith, c.if-room-gt-MAX_ITEMS.false));
      clear = record { idle = record { outbox_empty = cc; none_held = cc }; none_pending = cc };
      between = c.is_left.new.desk;
      looked = looked;
      over = left.over c.if-is_left.false;
      number_in_range = omega (arith, number_is, c.if-number-gt-LAST.false);
      inlet = c.in-Ok.field-0.inlet;
      new_line = subst (λ n. IsNewLine n c.args.room c.in-Ok.field-0.inlet c.in-Ok.field-0.end.value) number_is c.in-Ok.ensures;
      only = c.replace_line.ensures.desk;
    }
