use Rattle.std.proofs.Common.{◌∙◌, ap, refl, sym}
use Rattle.label_text.specs.LabelText.{reading_from, start}
use Rattle.label_command.proofs.labels.LabelAnswers.new.Goals as goal

-- nothing was read or written
pub returns-clause-stands : goal.returns-clause-stands
unfolding reading_from
returns-clause-stands c = record {
  is_good = refl;
  place = sym (c.new.ensures.value ∙ ap start c.base.ensures);
  are = refl;
}
