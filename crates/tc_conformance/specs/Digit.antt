-- The digits of hexadecimal, as a cell of the table spells bytes with them: in lower case.
use Rattle.std.specs.Prelude.{ℕ, ◌+◌, nat_lt, if◌then◌else◌}

-- the character of a digit, by the digit's value: 0 to 9, and then a to f
abbrev pub character_of : ℕ → ℕ
character_of value = if nat_lt value 10 then 48 + value else 87 + value
