use Rattle.std.proofs.Common.{refl, sym}
use Rattle.label_text.specs.LabelText.{reading_from}
use Rattle.label_command.proofs.sums.LabelSum.new.Goals as goal

-- nothing was read or added
pub returns-clause-stands : goal.returns-clause-stands
unfolding reading_from
returns-clause-stands c = record {
  is_good = refl;
  place = sym c.new.ensures.value;
  sum = refl;
  none = refl;
}
