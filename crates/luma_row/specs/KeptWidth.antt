-- Bounds of the widths of rows.
use Rattle.std.specs.Prelude.{ℕ, ◌≤◌}
use Rattle.luma_row.specs.declared.width.TheConstants.{MIN_WIDTH, MAX_WIDTH}

-- a row may have this many pixels
abbrev pub IsWidth : ℕ → Type 0
IsWidth width = (MIN_WIDTH ≤ width) × (width ≤ MAX_WIDTH)
