use Rattle.pcm_front.proofs.RunByRun.{runs_of_size}
use Rattle.pcm_front.proofs.laws.runs_of_one_size_are_sliced_into_their_lengths.Goals as goal

pub returns : goal.returns
returns c = λ fineness threshold size side first runs last some above turns.
    runs_of_size fineness threshold size side first runs last some above turns
