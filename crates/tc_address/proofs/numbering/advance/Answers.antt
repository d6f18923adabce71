use Rattle.std.proofs.Common.{◌≡◌, ap, ◌∙◌, arith, Some, slice_get, w64, to_z, of_z}
use Rattle.std.proofs.lemmas.Int.{ints}
use Rattle.tc_address.specs.Circle.{moved}
use Rattle.tc_address.specs.Label.{labels}
use Rattle.tc_address.specs.Numbering.{day_length, number_of}
use Rattle.tc_address.proofs.OneNumber.{step_at}
use Rattle.tc_address.proofs.numbering.advance.Goals as goal

-- the label was taken from the place that the step leads to
pub returns-clause-label : goal.returns-clause-label
returns-clause-label c =
    let found : slice_get (labels c.args.label.now.count) c.moved.result ≡ Some c.label_of.result =
    rw c.count-count.ensures.value at c.label_of.ensures.label in
    let day = c.day_labels.ensures.value ∙ ap day_length c.count-count.ensures.value in
    let steps : to_z w64 (of_z w64 c.args.steps) ≡ c.args.steps = omega (arith, ints) in
    let place : c.moved.result ≡ moved (day_length c.args.label.now.count) (number_of c.args.label.now) c.args.steps =
    c.moved.ensures ∙ ap (λ z. moved c.day_labels.result c.number.result z) steps
    ∙ ap (λ d. moved d c.number.result c.args.steps) day
    ∙ ap (λ n. moved (day_length c.args.label.now.count) n c.args.steps) c.number.ensures.before in
    step_at _ _ _ _ found place
