-- The windows of cells, as a reader gathers them.
use Rattle.std.specs.Prelude.{ℕ, ◌+◌, ◌-◌, ◌*◌, List, [], ◌∷◌, length, take, drop, map, Bool}
use Rattle.std.specs.List.{range_with_len}
use Rattle.biphase.specs.declared.cell.Cell.{Cell}
use Rattle.biphase.specs.Chain.{bits}
use Rattle.direction_reader.specs.ListEvents.{duration}
use Rattle.direction_reader.specs.Window.{bit_value}

-- bits as one number, the oldest in bit 0
abbrev pub number_of : List Bool → ℕ
number_of [] = 0
number_of (bit ∷ more) = bit_value bit + 2 * number_of more

-- a window: its 80 bits as a number, the tick at its end, and the sum of its intervals
pub record CellWindow : Type 0 where
  pub bits : ℕ
  pub end : ℕ
  pub length : ℕ

-- of cells that begin at a tick, the window of the 80 from place k on
abbrev pub window_at : ℕ → List Cell → ℕ → CellWindow
window_at tick cells k = record {
  bits = number_of (bits (take 80 (drop k cells)));
  end = tick + duration (take (k + 80) cells);
  length = duration (take 80 (drop k cells));
}

-- all windows of cells that begin at a tick, in order
abbrev pub windows : ℕ → List Cell → List CellWindow
windows tick cells = map (window_at tick cells) (range_with_len 0 (length cells - 79))
