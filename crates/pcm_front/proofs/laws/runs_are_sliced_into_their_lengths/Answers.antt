use Rattle.std.proofs.Common.{ap, ◌∙◌, map, length}
use Rattle.std.specs.List.{flat_map}
use Rattle.pcm_front.specs.Distance.{pieces_of}
use Rattle.pcm_front.proofs.RunByRun.{whole_runs}
use Rattle.pcm_front.specs.DistanceLemmas.{written_whole}
use Rattle.pcm_front.proofs.laws.runs_are_sliced_into_their_lengths.Goals as goal

pub returns-clause-distances : goal.returns-clause-distances
returns-clause-distances c = λ threshold side first runs last turns. whole_runs threshold side first runs last turns

-- a run that is an interval is written as one
pub returns-clause-intervals : goal.returns-clause-intervals
returns-clause-intervals c = λ threshold side first runs last turns are.
    ap (flat_map pieces_of) (whole_runs threshold side first runs last turns) ∙ written_whole (map length runs) are
