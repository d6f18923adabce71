-- What lies about crossings: the side before each, and that neighbours lie on opposite sides, with none between them.
use Rattle.std.specs.Prelude.{◌≡◌, ◌≢◌, ⊤, ℕ, ◌<◌, ℤ, List, [], ◌∷◌, Some, None}
use Rattle.pcm_front.specs.declared.side.Side.{Side}
use Rattle.pcm_front.specs.declared.threshold.Threshold.{Threshold}
use Rattle.pcm_front.specs.Side.{other_side, side_at}

-- the sample in a place lies on a side, and the latest one before it that lies on any lies on the other: each of the
-- two
-- is beyond the threshold of its own sample
pub record Crosses (threshold : Threshold) (samples : List ℤ) (place : ℕ) : Type 0 where
  pub side : Side
  pub is : side_at threshold samples place ≡ Some side
  pub from : ℕ
  pub before : from < place
  pub was : side_at threshold samples from ≡ Some (other_side side)
  pub none_between : (i : ℕ) → from < i → i < place → side_at threshold samples i ≡ None

-- from one place to a later one the sound turns from a side to the other, on which no sample between them lies
pub record Turns (threshold : Threshold) (samples : List ℤ) (first second : ℕ) : Type 0 where
  pub side : Side
  pub later : first < second
  pub first_is : side_at threshold samples first ≡ Some side
  pub second_is : side_at threshold samples second ≡ Some (other_side side)
  pub none_between : (i : ℕ) → first < i → i < second → side_at threshold samples i ≢ Some (other_side side)

-- so it does from a place to the first of some others, and from each of these to the next
abbrev pub TurnsBehind : Threshold → List ℤ → ℕ → List ℕ → Type 0
TurnsBehind threshold samples first [] = ⊤
TurnsBehind threshold samples first (next ∷ more) =
    Turns threshold samples first next × TurnsBehind threshold samples next more

-- from each of some places to the next the sound turns
abbrev pub TurnByTurn : Threshold → List ℤ → List ℕ → Type 0
TurnByTurn threshold samples [] = ⊤
TurnByTurn threshold samples (first ∷ more) = TurnsBehind threshold samples first more
