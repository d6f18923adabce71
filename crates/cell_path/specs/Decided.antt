-- Which cells are decided while the sound goes on. Lists of steps and of cells begin with the latest, but for those in
-- the order of time.
use Rattle.std.specs.Prelude.{◌≡◌, ℕ, ◌+◌, ◌-◌, ◌/◌, ◌%◌, ◌==◌, Bool, true, false, not, ◌&&◌, ◌||◌, leb, ltb}
use Rattle.std.specs.Prelude.{List, [], ◌∷◌, ◌++◌, length, reverse, Option, Some, None}
use Rattle.std.specs.List.{filter}
use Rattle.cell_path.specs.declared.cell.Cell.{Cell}
use Rattle.cell_path.specs.declared.cell.Sign.{Sign}
use Rattle.cell_path.specs.declared.cell.Sign.TheVariants.{Plus, Minus}
use Rattle.cell_path.specs.declared.cell.Step.{Step}
use Rattle.cell_path.specs.declared.cell.Way.{Way}
use Rattle.cell_path.specs.declared.cell.Way.TheVariants.{Same, Shorter, Longer, Jump}
use Rattle.cell_path.specs.declared.follow.TheConstants.{DELAY, EVERY, FIRST}
use Rattle.cell_path.specs.declared.lengths.TheConstants.{LENGTHS}
use Rattle.cell_path.specs.declared.placed.Decided.{Decided}
use Rattle.cell_path.specs.declared.placed.Placed.{Placed}
use Rattle.cell_path.specs.Best.{IsBestOfAll}
use Rattle.cell_path.specs.Lengths.{length_in}
use Rattle.cell_path.specs.Path.{sign_before}
use Rattle.cell_path.specs.Unfinished.{IsBestUnfinished}

-- the cells of a path that ends after this many steps, each with its end
unfoldable pub placed : ℕ → List Cell → List Placed
placed end [] = []
placed end (cell ∷ before) =
    record { end = end; cell = cell } ∷ placed (end - length_in LENGTHS cell.place) before

-- the end of the latest, or of those before them
abbrev pub end_behind : ℕ → List Placed → ℕ
end_behind done [] = done
end_behind done (latest ∷ before) = latest.end

-- after this many steps it ended as long ago as this, and more than a quarter of its length behind what was decided
-- before
abbrev pub is_decided : ℕ → ℕ → ℕ → Placed → Bool
is_decided delay count done cell =
    leb (cell.end + delay) count && ltb (done + length_in LENGTHS cell.cell.place / 4) cell.end

-- after this many steps, those cells of a path that are decided behind what was decided before, if they ended as long
-- ago as this; the path ends some steps ago
abbrev pub newly : ℕ → ℕ → ℕ → ℕ → List Cell → List Placed
newly delay count ago done path = filter (is_decided delay count done) (placed (count - ago) path)

-- a decision falls due after this many steps
abbrev pub is_due : ℕ → Bool
is_due count = leb FIRST count && (count % EVERY == 0)

-- the latest step adds what it decides on the best of the unfinished paths, and nothing where no decision falls due
pub record Adds (steps : List Step) (before all : List Placed) : Type 0 where
  pub due : is_due (length steps) ≡ true
      → (ago : ℕ) × (path : List Cell) × IsBestUnfinished LENGTHS steps ago path
      × (all ≡ newly DELAY (length steps) ago (end_behind 0 before) path ++ before)
  pub idle : is_due (length steps) ≡ false → all ≡ before

-- these cells are decided after these steps, and no others
abbrev pub AreDecided : List Step → List Placed → Type 0
AreDecided [] all = all ≡ []
AreDecided (step ∷ steps) all = (before : List Placed) × AreDecided steps before × Adds (step ∷ steps) before all

-- these cells are decided when the sound ends behind these steps: the best path of all to its end, behind what was
-- decided before
abbrev pub AreDecidedInAll : List Step → List Placed → Type 0
AreDecidedInAll [] all = all ≡ []
AreDecidedInAll (step ∷ steps) all =
    (before : List Placed) × AreDecided (step ∷ steps) before
    × (path : List Cell) × IsBestOfAll LENGTHS (step ∷ steps) path
    × (all ≡ newly 0 (length (step ∷ steps)) 0 (end_behind 0 before) path ++ before)

-- two signs are the same
abbrev pub same_sign : Sign → Sign → Bool
same_sign Plus Plus = true
same_sign Plus Minus = false
same_sign Minus Plus = false
same_sign Minus Minus = true

-- a cell follows the one before it by a jump
abbrev pub is_jump : Way → Bool
is_jump Same = false
is_jump Shorter = false
is_jump Longer = false
is_jump Jump = true

-- how far apart two places are
abbrev pub apart : ℕ → ℕ → ℕ
apart place other = (place - other) + (other - place)

-- the cell does not begin within a quarter of its length where the one before ended, and with its sign: the first does
-- not, and none behind a jump of its path
abbrev pub jumps : Option Placed → Placed → Bool
jumps None cell = true
jumps (Some before) cell =
    let n = length_in LENGTHS cell.cell.place in
    is_jump cell.cell.way || (ltb (n / 4) (apart (cell.end - n) before.end)
    || not (same_sign before.cell.sign (sign_before cell.cell.bit cell.cell.sign)))

-- cells in the order of time, behind one: each with whether it jumps
unfoldable pub joined : Option Placed → List Placed → List Decided
joined before [] = []
joined before (cell ∷ more) = record { placed = cell; jumps = jumps before cell } ∷ joined (Some cell) more

-- the latest cell, if there is one
abbrev pub latest_of : List Placed → Option Placed
latest_of [] = None
latest_of (latest ∷ before) = Some latest

-- what is decided, in the order of time
abbrev pub in_time : List Placed → List Decided
in_time all = joined None (reverse all)

-- the earliest of what was waiting is given
abbrev pub TakesEarliest : List Placed → List Placed → Option Placed → Type 0
TakesEarliest old new None = (old ≡ []) × (new ≡ [])
TakesEarliest old new (Some cell) = old ≡ new ++ cell ∷ []
