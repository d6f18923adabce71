use Rattle.std.proofs.Common.{◌≡◌, ◌+◌, ◌-◌, ◌*◌, slice_get, ap, ◌∙◌, arith}
use Rattle.tc_address.specs.Label.{labels}
use Rattle.tc_address.specs.Numbering.{number_of}
use Rattle.tc_address.proofs.OneNumber.{number_of_place, get_number_of}
use Rattle.tc_address.proofs.numbering.number.Goals as goal

-- the label is at the place that its number says
pub returns-clause-place : goal.returns-clause-place
returns-clause-place c =
    let seconds = 60 * (60 * c.hours.result + c.minutes.result) + c.seconds.result in
    let before : c.rate.result * seconds + c.frames.result - c.dropped_before.result ≡ number_of c.args.label.now =
    grind (arith, number_of_place) in
    ap (slice_get (labels c.args.label.now.count)) before ∙ get_number_of c.args.label.now c.hours.ensures.valid
