use Rattle.std.proofs.Common.{◌∙◌, ap}
use Rattle.std.specs.Prelude.{slice_get, unwrap_or}
use Rattle.std.proofs.lemmas.Option.{unwrap_or-slice_get}
use Rattle.timer_facility.specs.Facility.{FacilityView}
use Rattle.timer_desk_c.proofs.opening.next_number.Goals as goal

pub returns : goal.returns
returns g c =
    c.unwrap_or.ensures
    ∙ ap (λ o. unwrap_or o 0)
    (c.next_number.ensures ∙ ap (λ (v : FacilityView). slice_get v.state.numbers c.args.client) c.facility.ensures)
    ∙ unwrap_or-slice_get c.args.desk.now.facility.numbers c.args.client 0
