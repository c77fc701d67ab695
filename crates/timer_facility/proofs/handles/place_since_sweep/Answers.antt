use Rattle.std.proofs.Common.{◌<◌, ◌+◌, ◌-◌, ◌%◌, ℕ, length, arith}
use Rattle.timer_facility.proofs.HandlesLemmas.{place_present}
use Rattle.timer_facility.proofs.handles.place_since_sweep.Goals as goal

pub returns-then-list-i : goal.returns-then-list-i
returns-then-list-i c =
    let behind : ℕ = (c.in_ok-last.last.now.serial + (18446744073709551616 - c.args.serial)) % 18446744073709551616 in
    let near = c.if-behind-list.false in
    let within : length c.args.list.now - 1 - behind < length c.args.list.now = omega arith in
    place_present c.args.list.now c.args.serial (length c.args.list.now - 1 - behind) c.requires within c.if-list-i.true
