-- What the width of a row says of the words in it: a 96th of the row is a cell, within 5 percent. All is counted in
-- sixteenths of a pixel. The shares of the row are this project's own.
use Rattle.std.specs.Prelude.{ℕ, ◌+◌, ◌-◌, ◌*◌, ◌/◌}

-- ten cells
abbrev pub ten_cells : ℕ → ℕ
ten_cells width = width * 5 / 3

-- a 720th of the row
abbrev pub grain : ℕ → ℕ
grain width = width * 16 / 720

-- a word may end four grains behind the row
abbrev pub end : ℕ → ℕ
end width = 16 * width + 4 * grain width

-- from the first sync pair to the ninth there are 80 cells: the distances that are looked at are two grains apart
abbrev pub narrowest : ℕ → ℕ
narrowest width = 8 * ten_cells width * 95 / 100

-- the greatest distance from the first sync pair to the ninth
abbrev pub widest : ℕ → ℕ
widest width = 8 * ten_cells width * 105 / 100

-- how many distances are looked at
abbrev pub distances : ℕ → ℕ
distances width = (widest width - narrowest width) / (2 * grain width) + 1

-- the distance with this number, from 0
abbrev pub distance : ℕ → ℕ → ℕ
distance width number = narrowest width + 2 * grain width * number

-- the starts that are looked at are a grain apart, as long as the 89 cells behind them end within the row and four
-- grains
abbrev pub earliest : ℕ → ℕ
earliest width = ten_cells width * 95 / 1000

-- how many starts are looked at for a distance
abbrev pub starts : ℕ → ℕ → ℕ
starts width apart = (end width - 89 * apart / 80 - earliest width) / grain width + 1

-- the start with this number, from 0
abbrev pub start : ℕ → ℕ → ℕ
start width number = earliest width + grain width * number
