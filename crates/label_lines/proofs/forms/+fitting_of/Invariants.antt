use Rattle.std.proofs.Common.{length}
use Rattle.label_lines.proofs.forms.+fitting_of.Given as goal

abbrev pub decreases-fitting_of : goal.decreases-fitting_of
decreases-fitting_of l = length l.forms.now
