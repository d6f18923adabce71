use Rattle.std.proofs.Common.{length}
use Rattle.forms.proofs.choices.+said_at.Given as goal

abbrev pub decreases-said_at : goal.decreases-said_at
decreases-said_at l = length l.choices.now
