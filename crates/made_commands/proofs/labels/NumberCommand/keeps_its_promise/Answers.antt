use Rattle.std.proofs.Common.{refl}
use Rattle.tc_address.specs.Numbering.{number_of}
use Rattle.tc_command.specs.ToldLemmas.{made_is_kept}
use Rattle.made_commands.proofs.labels.NumberCommand.keeps_its_promise.Goals as goal

-- the label is found by its number
pub returns : goal.returns
returns c =
    let label = c.args.self.now.label in
    made_is_kept _ _ (record {
      number = number_of label;
      are = refl;
      place = c.number_and_label_are_inverse.ensures.label label c.count-count.ensures.valid;
    })
