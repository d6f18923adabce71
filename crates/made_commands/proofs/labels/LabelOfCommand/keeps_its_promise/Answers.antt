use Rattle.std.proofs.Common.{refl}
use Rattle.tc_address.specs.Spelling.{text_of}
use Rattle.tc_command.specs.ToldLemmas.{made_is_kept}
use Rattle.made_commands.proofs.labels.LabelOfCommand.keeps_its_promise.Goals as goal

-- the text is read as its label
pub returns : goal.returns
returns c =
    let label = c.args.self.now.label in
    made_is_kept _ _ (record {
      text = text_of label;
      are = refl;
      read = c.a_text_is_read_as_its_label.ensures.read label c.count-count.ensures.valid;
    })
