use Rattle.pcm_front.specs.Crossing.{moments}
use Rattle.tape_sound.specs.Heard.{transitions}
use Rattle.tape_sound.proofs.FoundCells.{found_whole}
use Rattle.tape_sound.proofs.WithinTheDelay.{goes_over_within}
use Rattle.tape_sound.proofs.laws.distances_are_the_cells_as_they_are_found.Goals as goal

pub returns : goal.returns
returns c = λ fineness noise low high delay start threshold tape clean sound some noisy stays over long.
    found_whole delay start tape (moments fineness threshold sound) long
    (goes_over_within fineness noise low high delay threshold (transitions start tape) clean sound some noisy stays
    over)
