-- Parts of the sound, and what is kept of it. Lists begin with the latest.
use Rattle.std.specs.Prelude.{◌≡◌, ℕ, ◌+◌, ◌-◌, ◌*◌, ◌%◌, ◌^◌, ◌<◌, ◌≤◌, ℤ, pos, unsigned_abs}
use Rattle.std.specs.Prelude.{List, length, get_or, take, drop}
use Rattle.std.specs.List.{sum_by, All}
use Rattle.path_front.specs.declared.latest.PartSums.{PartSums}
use Rattle.path_front.specs.Grid.{total}

-- this many steps up to the one so long ago
abbrev pub part : ℕ → ℕ → List ℤ → List ℤ
part ago many sounds = take many (drop ago sounds)

-- the sum of some sounds
abbrev pub sum_of : List ℤ → ℤ
sum_of sounds = total sounds

-- the sum of the squares
abbrev pub squares_of : List ℤ → ℕ
squares_of sounds = sum_by (λ sound. unsigned_abs sound * unsigned_abs sound) sounds

-- the sound of the latest steps, in a ring, and how many steps there were
pub record LatestState : Type 0 where
  pub ring : List ℤ
  pub count : ℕ

-- the sound of the step so long ago
abbrev pub sound_ago : LatestState → ℕ → ℤ
sound_ago latest ago = get_or latest.ring ((latest.count + 4_096 - ago) % 4_096) (pos 0)

-- the ring has 4,096 sounds of at most 2^15, and at most 2^40 steps have come
pub record AreLatest (latest : LatestState) : Type 0 where
  pub long : length latest.ring ≡ 4_096
  pub size : All (λ sound. unsigned_abs sound ≤ 2 ^ 15) latest.ring
  pub count : latest.count ≤ 2 ^ 40

-- as many steps have come, and the sound of the latest 4,096 is this
pub record LatestStandFor (latest : LatestState) (sounds : List ℤ) : Type 0 where
  pub count : latest.count ≡ length sounds
  pub kept : (ago : ℕ) → ago < 4_096 → sound_ago latest ago ≡ get_or sounds ago (pos 0)

-- the sums of so many steps up to the one so long ago
pub record AreSums (latest : LatestState) (ago many : ℕ) (sums : PartSums) : Type 0 where
  pub sum : (sounds : List ℤ) → LatestStandFor latest sounds → sums.sum ≡ sum_of (part ago many sounds)
  pub squares : (sounds : List ℤ) → LatestStandFor latest sounds → sums.squares ≡ squares_of (part ago many sounds)
  pub size : unsigned_abs sums.sum ≤ many * 2 ^ 15
  pub squares_size : sums.squares ≤ many * 2 ^ 30
