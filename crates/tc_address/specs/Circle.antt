-- Places on a circle: a day that begins again at its end.
use Rattle.std.specs.Prelude.{◌≡◌, ℕ, ◌+◌, ◌-◌, ◌*◌, ◌%◌, nat_le, cond, ℤ, pos, neg_ℤ, ◌+ℤ◌, ◌*ℤ◌, ◌<ℤ◌, ◌≤ℤ◌}
use Rattle.std.specs.Prelude.{unsigned_abs}
use Rattle.std.specs.Int.{int_rem_euclid}

-- the place that lies this many places further, or back where the steps are negative, modulo the day
abbrev pub moved : ℕ → ℕ → ℤ → ℕ
moved day place steps = unsigned_abs (int_rem_euclid (pos place +ℤ steps) (pos day))

-- d leads from a to b, and -day / 2 < d ≤ day / 2
pub record IsShortest (day a b : ℕ) (d : ℤ) : Type 0 where
  pub reaches : moved day a d ≡ b
  pub above : neg_ℤ (pos day) <ℤ (pos 2 *ℤ d)
  pub within : (pos 2 *ℤ d) ≤ℤ pos day

-- how far b lies ahead of a
abbrev pub ahead : ℕ → ℕ → ℕ → ℕ
ahead day a b = (b + (day - a)) % day

-- that one way: forward up to half the day, and else backward
abbrev pub shortest_way : ℕ → ℕ → ℕ → ℤ
shortest_way day a b = cond (nat_le (2 * ahead day a b) day) (pos (ahead day a b)) (neg_ℤ (pos (day - ahead day a b)))
