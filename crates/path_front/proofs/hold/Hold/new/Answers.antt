use Rattle.std.proofs.Common.{refl}
use Rattle.path_front.specs.Hold.{loudness_of, side_of}
use Rattle.path_front.proofs.hold.Hold.new.Goals as goal

pub returns-clause-stands : goal.returns-clause-stands
unfolding loudness_of side_of
returns-clause-stands c = record { loudness = c.quiet.ensures.value; side = refl }
