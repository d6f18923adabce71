-- A path through a sound: cells one behind the other, and its score. Lists of steps and of cells begin with the latest.
-- The rule is this project's own.
use Rattle.std.specs.Prelude.{◌≡◌, ℕ, ◌+◌, ◌-◌, ◌*◌, ◌/◌, ◌<◌, ◌==◌, cond, ℤ, pos, neg_ℤ, ◌+ℤ◌, ◌-ℤ◌}
use Rattle.std.specs.Prelude.{List, [], ◌∷◌, length, take, drop}
use Rattle.cell_path.specs.declared.cell.Bit.{Bit}
use Rattle.cell_path.specs.declared.cell.Bit.TheVariants.{Zero, One}
use Rattle.cell_path.specs.declared.cell.Cell.{Cell}
use Rattle.cell_path.specs.declared.cell.Sign.{Sign}
use Rattle.cell_path.specs.declared.cell.Sign.TheVariants.{Plus, Minus}
use Rattle.cell_path.specs.declared.cell.Step.{Step}
use Rattle.cell_path.specs.declared.cell.Way.{Way}
use Rattle.cell_path.specs.declared.cell.Way.TheVariants.{Same, Shorter, Longer, Jump}
use Rattle.cell_path.specs.declared.lengths.TheConstants.{EARLY, JUMP}
use Rattle.cell_path.specs.Lengths.{length_in}

-- the other sign
abbrev pub opposite : Sign → Sign
opposite Plus = Minus
opposite Minus = Plus

-- the sign changes where a cell begins, and in the middle of a one: with this sign the cell before has to end
abbrev pub sign_before : Bit → Sign → Sign
sign_before Zero sign = opposite sign
sign_before One sign = sign

-- the sum of the sound
unfoldable pub total : List Step → ℤ
total [] = pos 0
total (step ∷ steps) = step.sound +ℤ total steps

-- a number with a sign
abbrev pub signed : Sign → ℤ → ℤ
signed Plus number = number
signed Minus number = neg_ℤ number

-- the sound of the latest n steps times the signs of a bit that ends with plus: a zero has one sign, and a one minus in
-- its first half and plus in its second. The middle step of an odd one has none.
abbrev pub sound_in : Bit → ℕ → List Step → ℤ
sound_in Zero n steps = total (take n steps)
sound_in One n steps = total (take (n / 2) steps) -ℤ total (take (n / 2) (drop (n - n / 2) steps))

-- the mean size at the latest step
abbrev pub level_at : List Step → ℕ
level_at [] = 0
level_at (step ∷ steps) = step.level

-- a cell, whose length stands in this place, may follow these in this way, where the one before has to end with this
-- sign
abbrev pub Follows : Way → ℕ → Sign → List Cell → Type 0
Follows way place sign [] = way ≡ Jump
Follows Same place sign (before ∷ more) = (before.place ≡ place) × (before.sign ≡ sign)
Follows Shorter place sign (before ∷ more) = (before.place + 1 ≡ place) × (before.sign ≡ sign)
Follows Longer place sign (before ∷ more) = (before.place ≡ place + 1) × (before.sign ≡ sign)
Follows Jump place sign (before ∷ more) = Unit {0}

-- what it costs to follow a cell of another length, or in a jump, as a multiple of the mean size
abbrev pub times_for : List ℕ → Way → ℕ → ℕ → ℕ
times_for lengths Same place before = 0
times_for lengths Shorter place before = length_in lengths place - length_in lengths before
times_for lengths Longer place before = length_in lengths before - length_in lengths place
times_for lengths Jump place before = JUMP * length_in lengths place

-- what it costs to begin a cell this many steps ago: the first one begins with the sound for nothing
abbrev pub cost : List ℕ → List Step → ℕ → ℕ → Way → List Cell → ℤ
cost lengths steps ago place way [] = cond (length steps == ago) (pos 0) EARLY
cost lengths steps ago place way (before ∷ more) =
    pos (times_for lengths way place before.place * level_at (drop ago steps))

-- the score of a path: the sound times its signs, less the costs
abbrev pub score : List ℕ → List Step → List Cell → ℤ
score lengths steps [] = pos 0
score lengths steps (cell ∷ before) =
    let n = length_in lengths cell.place in
    signed cell.sign (sound_in cell.bit n steps)
    +ℤ (score lengths (drop n steps) before -ℤ cost lengths steps n cell.place cell.way before)

-- the cells cover the steps, each of a length from the list, and each follows the one before. Only the first may begin
-- before the sound does.
abbrev pub IsPath : List ℕ → List Step → List Cell → Type 0
IsPath lengths steps [] = length steps ≡ 0
IsPath lengths steps (cell ∷ before) =
    (0 < length steps) × (cell.place < length lengths)
    × Follows cell.way cell.place (sign_before cell.bit cell.sign) before
    × IsPath lengths (drop (length_in lengths cell.place) steps) before
