-- The sizes that are kept in a ring stand for the latest sounds.
use Rattle.std.specs.Prelude.{◌≡◌, ℕ, ◌+◌, ◌-◌, ◌*◌, ◌%◌, ◌^◌, ◌<◌, ◌≤◌, min, List, length, get_or}
use Rattle.std.specs.List.{sum, All}
use Rattle.path_front.specs.Sizes.{latest_sizes}

-- the latest sizes, in a ring, how many there were, and the sum of those in the ring
pub record SizesState : Type 0 where
  pub ring : List ℕ
  pub count : ℕ
  pub total : ℕ

-- the size of the sound so long ago
abbrev pub size_ago : SizesState → ℕ → ℕ
size_ago sizes ago = get_or sizes.ring ((sizes.count + 512 - ago) % 512) 0

-- sizes of sounds of 16 bits, and their sum
pub record AreSizes (sizes : SizesState) : Type 0 where
  pub long : length sizes.ring ≡ 512
  pub size : All (λ size. size ≤ 2 ^ 15) sizes.ring
  pub total_is : sizes.total ≡ sum sizes.ring
  pub few : sizes.total ≤ min sizes.count 512 * 2 ^ 15
  pub count : sizes.count ≤ 2 ^ 40

-- as many sounds have come, and the latest 512 have these sizes
pub record SizesStandFor (state : SizesState) (sizes : List ℕ) : Type 0 where
  pub count : state.count ≡ length sizes
  pub kept : (ago : ℕ) → ago < 512 → size_ago state ago ≡ get_or sizes ago 0
  pub total : state.total ≡ sum (latest_sizes sizes)
