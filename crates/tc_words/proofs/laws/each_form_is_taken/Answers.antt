use Rattle.std.proofs.Common.{refl, arith}
use Rattle.tc_address.specs.declared.count.Count.TheVariants.{C30}
use Rattle.tc_address.specs.Label.{address, addresses, hour_of, labels, minute_of, second_of}
use Rattle.tc_address.specs.Numbering.{number_of}
use Rattle.tc_words.proofs.FormsTaken.{forms_taken}
use Rattle.tc_words.proofs.laws.each_form_is_taken.Goals as goal

-- the first label of the day has the number 0
pub returns-clause-taken : goal.returns-clause-taken
unfolding number_of labels addresses hour_of minute_of second_of
returns-clause-taken c = forms_taken (c.number_and_label_are_inverse.ensures.label (address C30 0 0 0 0)
    (record {
      hours = omega arith;
      minutes = omega arith;
      seconds = omega arith;
      frames = omega arith;
      counted =
          refl;
    }))
