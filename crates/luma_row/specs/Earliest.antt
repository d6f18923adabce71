-- The place of the word: the earliest at which all nine sync pairs fall. Where a 1 and a 0 come again in each ten bits,
-- some cells later, nine pairs fall there as deep. Some cells earlier eight may fall deeper, but not the first one: it
-- lies before the word, where all is dark.
use Rattle.std.specs.Prelude.{◌≡◌, ℕ, zero, suc, ◌+◌, ◌-◌, ◌*◌, ◌/◌, ◌<◌, leb, Bool, true, false, cond, List}
use Rattle.luma_row.specs.declared.light.TheConstants.{EVEN}
use Rattle.luma_row.specs.declared.place.Place.{Place}
use Rattle.luma_row.specs.Choice.{all_of}
use Rattle.luma_row.specs.Place.{apart, pair_fall, score}

-- the place of a word eight cells later, and from there so many cells back
abbrev pub back : Place → ℕ → Place
back place cells = record {
  first = place.first + apart place / 10 - cells * apart place / 80;
  last = place.last + apart place / 10 - cells * apart place / 80;
}

-- the nine falls together, and nothing where light falls from behind
abbrev pub falls : List ℕ → Place → ℕ
falls row place = score row place - 9 * EVEN

-- a pair falls half as much as nine do in the mean, or more; this is the sum of the nine
abbrev pub falls_enough : List ℕ → ℕ → Place → ℕ → Bool
falls_enough row sum place pair = leb sum (18 * (pair_fall row place pair - EVEN))

-- each of the nine pairs of a place does
abbrev pub all_fall : List ℕ → ℕ → Place → Bool
all_fall row sum place = all_of 9 (falls_enough row sum place)

-- the earliest place fewer cells back than this at which all pairs fall, measured by the place with the deepest falls;
-- that place itself where there is none
unfoldable pub earliest_within : List ℕ → Place → ℕ → Place
earliest_within row deepest zero = deepest
earliest_within row deepest (suc cells) =
    cond (all_fall row (falls row deepest) (back deepest cells)) (back deepest cells)
    (earliest_within row deepest cells)

-- the earliest of those from eight cells earlier to eight cells later
abbrev pub earliest : List ℕ → Place → Place
earliest row deepest = earliest_within row deepest 17

-- all pairs fall so many cells back, and at none of the 17 places that is further back
pub record IsEarliestAt (row : List ℕ) (deepest place : Place) (cells : ℕ) : Type 0 where
  pub within : cells < 17
  pub place_is : place ≡ back deepest cells
  pub here : all_fall row (falls row deepest) (back deepest cells) ≡ true
  pub none : (more : ℕ) → cells < more → more < 17 → all_fall row (falls row deepest) (back deepest more) ≡ false

-- all pairs fall at none of the 17 places, so the deepest is taken
pub record IsNowhereEarlier (row : List ℕ) (deepest place : Place) : Type 0 where
  pub place_is : place ≡ deepest
  pub none : (cells : ℕ) → cells < 17 → all_fall row (falls row deepest) (back deepest cells) ≡ false
