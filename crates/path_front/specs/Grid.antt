-- How samples become steps. Lists begin with the latest. The rule is this project's own.
use Rattle.std.specs.Prelude.{◌≡◌, ℕ, ◌+◌, ◌*◌, ◌^◌, ◌<◌, ◌≤◌, ◌==◌, cond, ℤ, pos, ◌+ℤ◌, int_div, unsigned_abs}
use Rattle.std.specs.Prelude.{List, [], ◌∷◌, ◌++◌, length, map, replicate, Option, Some, None}
use Rattle.std.specs.Option.{option_to_list}
use Rattle.step_grid.specs.declared.grid.Grid.{Grid}
use Rattle.step_grid.specs.declared.grid.Grid.TheVariants.{Repeat, Sum}
use Rattle.path_front.specs.declared.group.Sounds.{Sounds}

-- the sum of some numbers
unfoldable pub total : List ℤ → ℤ
total [] = pos 0
total (number ∷ more) = number +ℤ total more

-- the mean of some sounds, rounded towards zero
abbrev pub mean_of : ℕ → List Sounds → Sounds
mean_of many sounds = record {
  clipped = int_div (total (map (λ (s : Sounds). s.clipped) sounds)) (pos many);
  held = int_div (total (map (λ (s : Sounds). s.held) sounds)) (pos many);
}

-- the samples that no step has taken yet: it takes them when there are as many as are summed
unfoldable pub waiting : ℕ → List Sounds → List Sounds
waiting summed [] = []
waiting summed (latest ∷ before) =
    let all = latest ∷ waiting summed before in cond (length all == summed) [] all

-- the step that the latest sample brings
abbrev pub due : ℕ → List Sounds → Option Sounds
due summed [] = None
due summed (latest ∷ before) =
    let all = latest ∷ waiting summed before in cond (length all == summed) (Some (mean_of summed all)) None

-- the steps of some samples
unfoldable pub on_grid : Grid → List Sounds → List Sounds
on_grid grid [] = []
on_grid (Repeat repeats) (latest ∷ before) = replicate repeats latest ++ on_grid (Repeat repeats) before
on_grid (Sum summed) (latest ∷ before) =
    option_to_list (due summed (latest ∷ before)) ++ on_grid (Sum summed) before

-- sounds of 16 bits, also with half of a mean size added
pub record IsSounds (sounds : Sounds) : Type 0 where
  pub clipped : unsigned_abs sounds.clipped ≤ 2 ^ 15
  pub held : unsigned_abs sounds.held ≤ 2 ^ 15 + 2 ^ 14

-- the samples that wait for a step: how many, and the sums of them clipped and held
pub record GroupState : Type 0 where
  pub many : ℕ
  pub clipped : ℤ
  pub held : ℤ

-- the sums of the sounds so far
pub record AreGrouped (state : GroupState) : Type 0 where
  pub many : state.many < 2 ^ 16
  pub clipped : unsigned_abs state.clipped ≤ state.many * 2 ^ 15
  pub held : unsigned_abs state.held ≤ state.many * (2 ^ 15 + 2 ^ 14)

-- the sums are those of what waits
pub record GroupStandsFor (summed : ℕ) (state : GroupState) (sounds : List Sounds) : Type 0 where
  pub many : state.many ≡ length (waiting summed sounds)
  pub clipped : state.clipped ≡ total (map (λ (s : Sounds). s.clipped) (waiting summed sounds))
  pub held : state.held ≡ total (map (λ (s : Sounds). s.held) (waiting summed sounds))
