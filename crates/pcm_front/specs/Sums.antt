-- The sums of the latest samples, which are sliced in place of the samples. The rule is this project's own.
use Rattle.std.specs.Prelude.{ℕ, ◌+◌, ◌-◌, ℤ, pos, ◌+ℤ◌, List, [], ◌∷◌, ◌++◌, length, take, drop, map, replicate}
use Rattle.std.specs.List.{range_with_len}

-- the latest n of some numbers
abbrev pub latest : ℕ → List ℤ → List ℤ
latest n numbers = drop (length numbers - n) numbers

-- the samples up to the one in a place; those before the first are 0
abbrev pub up_to : ℕ → List ℤ → ℕ → List ℤ
up_to smooth samples place = replicate smooth (pos 0) ++ take (place + 1) samples

-- the sum of some numbers
unfoldable pub total : List ℤ → ℤ
total [] = pos 0
total (number ∷ more) = number +ℤ total more

-- the sum at a place, of this many of the latest samples
abbrev pub sum_at : ℕ → List ℤ → ℕ → ℤ
sum_at smooth samples place = total (latest smooth (up_to smooth samples place))

-- the sums at all places
abbrev pub sums : ℕ → List ℤ → List ℤ
sums smooth samples = map (sum_at smooth samples) (range_with_len 0 (length samples))
