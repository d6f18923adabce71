-- A draw of a linear congruential generator, whose numbers are those of Knuth's MMIX.
use Rattle.std.specs.Prelude.{ℕ, ◌+◌, ◌*◌, ◌%◌, ◌^◌}

-- the state behind one draw, which is its value
abbrev pub drawn : ℕ → ℕ
drawn state = (6_364_136_223_846_793_005 * state + 1_442_695_040_888_963_407) % 2 ^ 64
