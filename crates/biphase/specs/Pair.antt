-- What two neighbouring intervals can be to each other. The tolerance is this project's own.
use Rattle.std.specs.Prelude.{ℕ, min, max}
use Rattle.biphase.specs.declared.profile.Profile.{Profile}
use Rattle.biphase.specs.declared.pair.PairKind.{PairKind}
use Rattle.biphase.specs.declared.pair.PairKind.TheVariants.{Same, Step, Wild}
use Rattle.biphase.specs.Profile.{equal_of, unequal_of, IsAtLeast}

-- the lesser is nearly as long as the greater: two zeros, or two halves
abbrev pub AreEqual : Profile → ℕ → ℕ → Type 0
AreEqual profile a b = IsAtLeast (equal_of profile) (min a b) (max a b)

-- the lesser is too short to be equal, and nearly half of the greater or more: a zero and a half
abbrev pub AreUnequal : Profile → ℕ → ℕ → Type 0
AreUnequal profile a b = ¬ AreEqual profile a b × IsAtLeast (unequal_of profile) (min a b) (max a b)

-- the pair is of this kind
abbrev pub IsKind : Profile → ℕ → ℕ → PairKind → Type 0
IsKind profile a b Same = AreEqual profile a b
IsKind profile a b Step = AreUnequal profile a b
IsKind profile a b Wild = ¬ AreEqual profile a b × ¬ AreUnequal profile a b
