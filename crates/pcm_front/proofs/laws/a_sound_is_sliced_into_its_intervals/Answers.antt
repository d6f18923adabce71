use Rattle.std.proofs.Common.{ap, ◌∙◌}
use Rattle.std.specs.List.{flat_map}
use Rattle.pcm_front.specs.Distance.{pieces_of}
use Rattle.pcm_front.specs.DistanceLemmas.{written_whole}
use Rattle.pcm_front.proofs.SlicedAgain.{sliced_again, one_times}
use Rattle.pcm_front.proofs.laws.a_sound_is_sliced_into_its_intervals.Goals as goal

pub returns-clause-distances : goal.returns-clause-distances
returns-clause-distances c = λ fineness threshold size intervals some above are. sliced_again fineness threshold size
    intervals some above are

-- an interval is written as it is
pub returns-clause-intervals : goal.returns-clause-intervals
returns-clause-intervals c = λ threshold size lengths some above are.
    ap (flat_map pieces_of) (sliced_again 1 threshold size lengths some above are ∙ one_times lengths)
    ∙ written_whole lengths are
