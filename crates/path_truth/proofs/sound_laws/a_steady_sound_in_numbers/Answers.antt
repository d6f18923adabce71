use Rattle.std.proofs.Common.{ℕ, ◌≤◌, ℤ, unsigned_abs, List, [], ◌∷◌}
use Rattle.std.specs.List.{AllByRecursion}
use Rattle.path_truth.specs.Sound.{IsSized}
use Rattle.path_truth.proofs.TapeOfBits.{early_zero, steady_tape}
use Rattle.path_truth.proofs.sound_laws.a_steady_sound_in_numbers.Goals as goal

-- each size is from the least on, and up to the most
sized : (low high : ℕ) (samples : List ℤ) → AllByRecursion (λ sample. low ≤ unsigned_abs sample) samples
    → AllByRecursion (λ sample. unsigned_abs sample ≤ high) samples → AllByRecursion (IsSized low high) samples
sized low high [] least most = tt
sized low high (sample ∷ samples) least most =
    (record { least = least.0; most = most.0 }, sized low high samples least.1 most.1)

pub returns-clause-tape : goal.returns-clause-tape
returns-clause-tape c = steady_tape

pub returns-clause-early : goal.returns-clause-early
returns-clause-early c = early_zero

pub returns-clause-sound : goal.returns-clause-sound
returns-clause-sound c =
    λ place many repeats least low high tape samples steady cells sides some heard near from to. record {
      steady = steady;
      many = many;
      cells = cells;
      sides = sides;
      level = record { some = some; heard = heard; near = near; sizes = sized low high samples from to };
    }
