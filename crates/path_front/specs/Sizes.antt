-- The mean size of the latest sounds. Lists begin with the latest. The rule is this project's own.
use Rattle.std.specs.Prelude.{ℕ, ◌*◌, ◌/◌, List, length, take}
use Rattle.std.specs.List.{sum}
use Rattle.path_front.specs.declared.sizes.TheConstants.{MEANS}

-- the sizes of the latest 512, or of all where there are fewer
abbrev pub latest_sizes : List ℕ → List ℕ
latest_sizes sizes = take MEANS sizes

-- their mean times a number, rounded down
abbrev pub mean_size : ℕ → List ℕ → ℕ
mean_size times sizes = times * sum (latest_sizes sizes) / length (latest_sizes sizes)
