-- The numbers of each profile, and what they say of two lengths. The tolerance is this project's own.
use Rattle.std.specs.Prelude.{ℕ, ◌*◌, ◌≤◌}
use Rattle.std.specs.Int.{abs_diff}
use Rattle.biphase.specs.declared.profile.Profile.{Profile}
use Rattle.biphase.specs.declared.profile.Profile.TheVariants.{Normal, Worn, Rough}
use Rattle.biphase.specs.declared.profile.Ratio.{Ratio}
use Rattle.biphase.specs.declared.profile.TheConstants.{NORMAL, WORN, ROUGH}

-- the lesser of two equal intervals is at least this part of the greater
abbrev pub equal_of : Profile → Ratio
equal_of Normal = NORMAL.equal
equal_of Worn = WORN.equal
equal_of Rough = ROUGH.equal

-- the lesser of two unequal intervals is at least this part of the greater
abbrev pub unequal_of : Profile → Ratio
unequal_of Normal = NORMAL.unequal
unequal_of Worn = WORN.unequal
unequal_of Rough = ROUGH.unequal

-- a is at least this part of b
abbrev pub IsAtLeast : Ratio → ℕ → ℕ → Type 0
IsAtLeast ratio a b = ratio.part * b ≤ ratio.whole * a

-- a is at most this part of b
abbrev pub IsAtMost : Ratio → ℕ → ℕ → Type 0
IsAtMost ratio a b = ratio.whole * a ≤ ratio.part * b

-- a is at least and at most such parts of b
abbrev pub IsBetween : Ratio → Ratio → ℕ → ℕ → Type 0
IsBetween least greatest a b = IsAtLeast least a b × IsAtMost greatest a b

-- a and b differ by at most the length divided by this number
abbrev pub IsWithin : ℕ → ℕ → ℕ → ℕ → Type 0
IsWithin number a b length = number * abs_diff a b ≤ length
