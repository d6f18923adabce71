-- Sound that is made of intervals: samples of one size, in turn above and below zero. The form is this project's own.
use Rattle.std.specs.Prelude.{ℕ, ℤ, pos, List, [], ◌∷◌, replicate}
use Rattle.pcm_front.specs.declared.side.Side.{Side}
use Rattle.pcm_front.specs.declared.side.Side.TheVariants.{High, Low}
use Rattle.pcm_front.specs.Side.{other_side, upward}
use Rattle.pcm_front.specs.Runs.{joined}

-- a run of samples for each interval, the first on a side, and one sample more on the next side
abbrev pub sound_runs : ℕ → Side → List ℕ → List (List ℤ)
sound_runs size side [] = (upward side (pos size) ∷ []) ∷ []
sound_runs size side (interval ∷ more) =
    replicate interval (upward side (pos size)) ∷ sound_runs size (other_side side) more

-- the samples of a sound: one below zero, and then the runs, the first above
abbrev pub sound : ℕ → List ℕ → List ℤ
sound size intervals = joined ((upward Low (pos size) ∷ []) ∷ sound_runs size High intervals)
