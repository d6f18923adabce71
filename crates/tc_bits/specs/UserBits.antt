-- The user groups of a word.
use Rattle.std.specs.Prelude.{ℕ, ◌+◌, ◌-◌, ◌*◌, ◌^◌, List, [], ◌∷◌}
use Rattle.tc_bits.specs.Register.{field}

-- user group 1 to 8 of the user bits
abbrev pub group : ℕ → ℕ → ℕ
group number user = field user (4 * (number - 1)) 4

-- the user bits that groups make up, group 1 first and least significant
abbrev pub number_of_groups : List ℕ → ℕ
number_of_groups [] = 0
number_of_groups (group ∷ more) = group + 2 ^ 4 * number_of_groups more
