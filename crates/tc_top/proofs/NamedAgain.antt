-- The number that is written has its label, and so has the text.
use Rattle.std.proofs.Common.{◌≡◌, ℕ, ◌<◌, ◌^◌, List, Some, slice_get, arith, refl}
use Rattle.std.specs.Prelude.{decimal}
use Rattle.tc_address.specs.declared.count.Count.{Count}
use Rattle.tc_address.specs.declared.count.Count.TheVariants.{C24, C25, C30, Drop30}
use Rattle.tc_address.specs.Label.{Address, IsLabel, labels}
use Rattle.tc_address.specs.Numbering.{day_length, number_of}
use Rattle.tc_words.specs.NumberLemmas.{number_written}
use Rattle.forms.specs.Form.{form_of, forms}
use Rattle.forms.specs.Made.{task_in}
use Rattle.forms.specs.Named.{task_of}
use Rattle.forms.specs.Reading.{read_on}
use Rattle.forms.specs.Slot.{label_read, numbered}
use Rattle.tc_top.specs.LabelsAgain.{IsNamedAgain, IsNumberedAgain}

-- what the laws of labels say
pub record LabelsLaws : Type 0 where
  pub number : (c : Count) (n : ℕ) (a : Address) → slice_get (labels c) n ≡ Some a
      → (number_of a ≡ n) × (a.count ≡ c) × IsLabel a
  pub below : (a : Address) → IsLabel a → number_of a < day_length a.count

day_fits : (c : Count) → day_length c < 2 ^ 64
day_fits C24 = omega arith
day_fits C25 = omega arith
day_fits C30 = omega arith
day_fits Drop30 = omega arith

small : LabelsLaws → (label : Address) (n : ℕ) → slice_get (labels label.count) n ≡ Some label → n < 2 ^ 64
small laws label n at =
    let is = laws.number label.count n label at in
    let same = is.0 in
    let below = laws.below label is.2 in
    let day = day_fits label.count in
    omega (arith, same, below, day)

-- the label with the number that is written
numbered_again : LabelsLaws → (label : Address) (n : ℕ) → slice_get (labels label.count) n ≡ Some label
    → numbered label.count (decimal n) ≡ Some label
unfolding numbered
numbered_again laws label n at = rw (number_written n (small laws label n at)) at

pub named_again : LabelsLaws → (label : Address) (pulled written : List ℕ) → IsNamedAgain label pulled written
unfolding task_of form_of forms read_on task_in
named_again laws label pulled written = λ is count counted.
    rw (counted, numbered_again laws label is.number is.place) refl

pub numbered_by_text : (label : Address) (pulled written : List ℕ) → IsNumberedAgain label pulled written
unfolding task_of form_of forms read_on task_in label_read
numbered_by_text label pulled written = λ is count counted. rw (counted, is.read) refl
