-- The worked drawing.
use Rattle.luma_truth.specs.Drawing.{Drawing}

-- `10:00:00:00` at 25 frames, without user bits and flags, from pixel 18 on, in cells of seven pixels and a half;
-- between the levels 16 and 200, rounded
abbrev pub ten_hours : Drawing
ten_hours = record {
  word = 1214829931766721331332097;
  begin = 184320;
  cell = 76800;
  dark = 16;
  swing = 184;
  noise = 1;
}
