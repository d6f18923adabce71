-- What the heights of cells say: which bits, and whether two rows say them together.
use Rattle.std.specs.Prelude.{ℕ, zero, suc, ◌+◌, ◌-◌, ◌*◌, leb, Bool, not, ◌&&◌, cond}
use Rattle.std.specs.Prelude.{ℤ, pos, ◌+ℤ◌, int_lt, unsigned_abs, map, get_or}
use Rattle.std.specs.List.{range_with_len}
use Rattle.luma_row.specs.declared.levels.Levels.{Levels}
use Rattle.luma_row.specs.Choice.{all_of, any_of}

-- the height of a bit of a row
abbrev pub height_at : Levels → ℕ → ℤ
height_at levels bit = get_or levels.heights bit (pos 0)

-- a cell above its threshold is a 1
abbrev pub is_one : Levels → ℕ → Bool
is_one levels bit = int_lt (pos 0) (height_at levels bit)

-- An eighth of the way to its level, which stands half a mean swing away: a ninth of the swing of all nine pairs, times
-- 160, by 16.
abbrev pub is_clear : Levels → ℕ → Bool
is_clear levels bit = leb (10 * levels.swing) (9 * unsigned_abs (height_at levels bit))

-- half of the way
abbrev pub is_firm : Levels → ℕ → Bool
is_firm levels bit = leb (40 * levels.swing) (9 * unsigned_abs (height_at levels bit))

-- a bit is firm in both, and another one in each
abbrev pub is_opposite : Levels → Levels → ℕ → Bool
is_opposite a b bit = is_firm a bit && is_firm b bit && cond (is_one a bit) (not (is_one b bit)) (is_one b bit)

-- two rows contradict each other in some bit
abbrev pub contradict : Levels → Levels → Bool
contradict a b = any_of 90 (is_opposite a b)

-- two rows as one: their heights are added, and so are their swings
abbrev pub sum_at : Levels → Levels → ℕ → ℤ
sum_at a b bit = height_at a bit +ℤ height_at b bit

-- two rows as one: their swings and their heights are added
abbrev pub joined : Levels → Levels → Levels
joined a b = record { swing = a.swing + b.swing; heights = map (sum_at a b) (range_with_len 0 90) }

-- the last n bits as a number, the first of them the lowest
unfoldable pub last_bits : ℕ → Levels → ℕ
last_bits zero levels = 0
last_bits (suc count) levels = 2 * last_bits count levels + cond (is_one levels (89 - count)) 1 0

-- the bits as a number, bit 0 the lowest
abbrev pub number_of : Levels → ℕ
number_of levels = last_bits 90 levels

-- the row says its bits: bit 0 is 1, and each is clear
abbrev pub says_bits : Levels → Bool
says_bits levels = is_one levels 0 && all_of 90 (is_clear levels)
