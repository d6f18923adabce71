use Rattle.std.proofs.Common.{arith}
use Rattle.tape_sound.proofs.EvenFound.{even_ones}
use Rattle.tape_sound.proofs.rough_laws.even_ones_have_room_for_a_delay.Goals as goal

pub returns-clause-ones : goal.returns-clause-ones
returns-clause-ones c = even_ones

pub returns-clause-whole : goal.returns-clause-whole
returns-clause-whole c =
    λ half delay room. ((omega (arith, room), omega (arith, room)), (omega (arith, room), omega (arith, room)))
