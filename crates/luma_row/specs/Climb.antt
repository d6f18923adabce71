-- The place with the deepest falls: from the coarse place step by step to the best neighbour, in steps that are halved.
use Rattle.std.specs.Prelude.{◌≡◌, ℕ, zero, suc, ◌+◌, ◌-◌, ◌*◌, ◌/◌, ◌%◌, ◌==◌, cond, List, length}
use Rattle.luma_row.specs.declared.place.Place.{Place}
use Rattle.luma_row.specs.Choice.{IsFirstBest}
use Rattle.luma_row.specs.Place.{fits, score}
use Rattle.luma_row.specs.Width.{grain}

-- a step of an end: it stays, goes back or goes on
abbrev pub moved : ℕ → ℕ → ℕ → ℕ
moved place step zero = place
moved place step (suc zero) = place - step
moved place step (suc (suc _)) = place + step

-- the nine neighbours of a place: both ends stay, go back or go on; the place itself is the first of them
abbrev pub neighbour : Place → ℕ → ℕ → Place
neighbour place step number =
    record { first = moved place.first step (number / 3); last = moved place.last step (number % 3) }

-- the sum of falls of a neighbour, and nothing where the word does not fit; the place itself may stay
abbrev pub worth : List ℕ → Place → ℕ → ℕ → ℕ
worth row place step number =
    cond (number == 0) (score row place)
    (cond (fits (length row) (neighbour place step number)) (score row (neighbour place step number)) 0)

-- to the first of the best neighbours
abbrev pub Moves : List ℕ → ℕ → Place → Place → Type 0
Moves row step from to =
    (number : ℕ) × IsFirstBest 9 (worth row from step) number × (to ≡ neighbour from step number)

-- this many moves one after another
abbrev pub Climbs : List ℕ → ℕ → ℕ → Place → Place → Type 0
Climbs row step zero from to = to ≡ from
Climbs row step (suc moves) from to = (between : Place) × Climbs row step moves from between × Moves row step between to

-- a number halved this many times, rounded down
abbrev pub halved : ℕ → ℕ → ℕ
halved number zero = number
halved number (suc times) = halved number times / 2

-- six moves with each of this many steps: the first is this one, and each further one a half of the one before
abbrev pub Refines : List ℕ → ℕ → ℕ → Place → Place → Type 0
Refines row step zero from to = to ≡ from
Refines row step (suc steps) from to =
    (between : Place) × Refines row step steps from between × Climbs row (halved step steps) 6 between to

-- the place with the deepest falls: eight steps from the coarse place, the first of two grains
abbrev pub IsPlace : List ℕ → Place → Place → Type 0
IsPlace row coarse place = Refines row (2 * grain (length row)) 8 coarse place
