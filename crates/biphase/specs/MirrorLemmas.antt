-- Lemmas of mirrored cells, for the proofs of the crates above: the kinds of its pairs tell the cells of a list, in
-- either order, once one cell is known. All of this is proved here, and no promise rests on it.
use Rattle.std.proofs.Common.{◌≡◌, ℕ, List, [], ◌∷◌, ◌++◌, map, reverse, ◌⊎◌, inl, inr, refl, ap, sym, ◌∙◌, arith}
use Rattle.std.proofs.Common.{append-nil, append_assoc, subst}
use Rattle.std.proofs.lemmas.Grind.{flat_map-append, reverse_onto}
use Rattle.std.proofs.lemmas.List.{reverse-append}
use Rattle.biphase.specs.declared.profile.Profile.{Profile}
use Rattle.biphase.specs.declared.profile.Profile.TheVariants.{Normal, Worn, Rough}
use Rattle.biphase.specs.declared.cell.Cell.{Cell}
use Rattle.biphase.specs.declared.cell.Cell.TheVariants.{Zero, One}
use Rattle.biphase.specs.Pair.{AreEqual, AreUnequal}
use Rattle.biphase.specs.Chain.{intervals_of, flat, Begins, Inner, Meets, Kinds}
use Rattle.biphase.specs.ChainLemmas.{front_with}
use Rattle.biphase.specs.Mirror.{mirror_of, mirrored}

pub mirrored_cons : (cell : Cell) (cells : List Cell) → mirrored (cell ∷ cells) ≡ mirrored cells ++ mirror_of cell ∷ []
mirrored_cons cell cells = reverse_onto (map mirror_of cells) (mirror_of cell) []

-- their intervals stand in the other order
one_mirrored : (cell : Cell) → flat (mirror_of cell ∷ []) ≡ reverse (intervals_of cell)
one_mirrored (Zero x) = refl
one_mirrored (One a b) = refl

pub flat_mirrored : (cells : List Cell) → flat (mirrored cells) ≡ reverse (flat cells)
flat_mirrored [] = refl
flat_mirrored (cell ∷ cells) =
    ap flat (mirrored_cons cell cells) ∙ flat_map-append intervals_of (mirrored cells) (mirror_of cell ∷ [])
    ∙ ap (λ (xs : List ℕ). xs ++ flat (mirror_of cell ∷ [])) (flat_mirrored cells)
    ∙ ap (λ (xs : List ℕ). reverse (flat cells) ++ xs) (one_mirrored cell)
    ∙ sym (reverse-append (intervals_of cell) (flat cells))

-- ---- the kinds of pairs

-- the order of a pair does not matter
equal_turned : (profile : Profile) (a b : ℕ) → AreEqual profile a b → AreEqual profile b a
equal_turned Normal a b equal = omega arith
equal_turned Worn a b equal = omega arith
equal_turned Rough a b equal = omega arith

at_least_turned : (profile : Profile) (a b : ℕ) → AreUnequal profile a b → ¬ AreEqual profile b a
at_least_turned profile a b unequal = λ equal. unequal.0 (equal_turned profile b a equal)

pub unequal_turned : (profile : Profile) (a b : ℕ) → AreUnequal profile a b → AreUnequal profile b a
unequal_turned Normal a b unequal = (at_least_turned Normal a b unequal, omega (arith, unequal.1))
unequal_turned Worn a b unequal = (at_least_turned Worn a b unequal, omega (arith, unequal.1))
unequal_turned Rough a b unequal = (at_least_turned Rough a b unequal, omega (arith, unequal.1))

-- the kinds of a front of the cells
pub front_kinds : (profile : Profile) (cell : Cell) (one two : List Cell) → Kinds profile (cell ∷ (one ++ two))
    → Kinds profile (cell ∷ one)
front_kinds profile cell [] [] kinds = kinds
front_kinds profile cell [] (next ∷ two) kinds = kinds.0
front_kinds profile cell (next ∷ one) two kinds = (kinds.0, kinds.1, front_kinds profile next one two kinds.2)

-- and in the other order of time
inner_turned : (profile : Profile) (cell : Cell) → Inner profile cell → Inner profile (mirror_of cell)
inner_turned profile (Zero x) inner = tt
inner_turned profile (One a b) inner = equal_turned profile a b inner

meets_turned : (profile : Profile) (cell next : Cell) → Meets profile cell next
    → Meets profile (mirror_of next) (mirror_of cell)
meets_turned profile (Zero x) (Zero y) meets = equal_turned profile x y meets
meets_turned profile (Zero x) (One a b) meets = (unequal_turned profile x a meets.0, meets.1)
meets_turned profile (One a b) (Zero y) meets = (unequal_turned profile b y meets.0, meets.1)
meets_turned profile (One a b) (One c d) meets = equal_turned profile b c meets

abbrev Joins : Profile → Cell → List Cell → Type 0
Joins profile cell [] = Unit {0}
Joins profile cell (next ∷ cells) = Meets profile cell next

in_front : (profile : Profile) (cell : Cell) (cells : List Cell) → Inner profile cell → Joins profile cell cells
    → Kinds profile cells
    → Kinds profile (cell ∷ cells)
in_front profile cell [] inner joins kinds = inner
in_front profile cell (next ∷ cells) inner joins kinds = (inner, joins, kinds)

kinds_onto : (profile : Profile) (cell : Cell) (cells others : List Cell) → Kinds profile (cell ∷ cells)
    → Kinds profile others
    → Joins profile (mirror_of cell) others → Kinds profile (mirrored (cell ∷ cells) ++ others)
kinds_onto profile cell [] others kinds too joins =
    in_front profile (mirror_of cell) others (inner_turned profile cell kinds) joins too
kinds_onto profile cell (next ∷ cells) others kinds too joins =
    let more = kinds_onto profile next cells (mirror_of cell ∷ others) kinds.2
    (in_front profile (mirror_of cell) others (inner_turned profile cell kinds.0) joins too)
    (meets_turned profile cell next kinds.1) in
    let same : mirrored (cell ∷ next ∷ cells) ++ others ≡ mirrored (next ∷ cells) ++ mirror_of cell ∷ others =
    ap (λ (cs : List Cell). cs ++ others) (mirrored_cons cell (next ∷ cells))
    ∙ append_assoc (mirrored (next ∷ cells)) (mirror_of cell ∷ []) others in
    subst (Kinds profile) (sym same) more

pub mirrored_kinds : (profile : Profile) (cell : Cell) (cells : List Cell) → Kinds profile (cell ∷ cells)
    → Kinds profile (mirrored (cell ∷ cells))
mirrored_kinds profile cell cells kinds =
    subst (Kinds profile) (append-nil (mirrored (cell ∷ cells))) (kinds_onto profile cell cells [] kinds tt tt)

-- ---- they tell the cells

-- an interval behind a cell is a zero or a half
differ : (profile : Profile) (cell : Cell) (x a b : ℕ) → Meets profile cell (Zero x) → Meets profile cell (One a b)
    → x ≡ a → ⊥
differ profile (Zero z) x a b equal unequal same = unequal.0.0 (rw (← same) equal)
differ profile (One p q) x a b unequal equal same = unequal.0.0 (rw same equal)

-- two lists of cells that begin with one cell and have one list of intervals
pub comparable_kinds : (profile : Profile) (cell : Cell) (one two : List Cell) (rest other : List ℕ)
    → Kinds profile (cell ∷ one)
    → Kinds profile (cell ∷ two) → flat one ++ rest ≡ flat two ++ other → Begins one two ⊎ Begins two one
comparable_kinds profile cell [] two rest other ones twos same = inl (two, refl)
comparable_kinds profile cell (next ∷ one) [] rest other ones twos same = inr (next ∷ one, refl)
comparable_kinds profile cell (Zero x ∷ one) (Zero y ∷ two) rest other ones twos same =
    let head : x ≡ y = cc in
    let tail : flat one ++ rest ≡ flat two ++ other = cc in
    let twos_too : Kinds profile (Zero x ∷ two) = subst (λ v. Kinds profile (Zero v ∷ two)) (sym head) twos.2 in
    let more = comparable_kinds profile (Zero x) one two rest other ones.2 twos_too tail in
    rw (← head) (front_with (Zero x) one two more)
comparable_kinds profile cell (Zero x ∷ one) (One a b ∷ two) rest other ones twos same =
    let head : x ≡ a = cc in absurd (differ profile cell x a b ones.1 twos.1 head)
comparable_kinds profile cell (One a b ∷ one) (Zero x ∷ two) rest other ones twos same =
    let head : x ≡ a = cc in absurd (differ profile cell x a b twos.1 ones.1 head)
comparable_kinds profile cell (One a b ∷ one) (One x y ∷ two) rest other ones twos same =
    let first : a ≡ x = cc in
    let second : b ≡ y = cc in
    let tail : flat one ++ rest ≡ flat two ++ other = cc in
    let twos_too : Kinds profile (One a b ∷ two) =
    subst (λ v. Kinds profile (One v b ∷ two)) (sym first)
    (subst (λ v. Kinds profile (One x v ∷ two)) (sym second) twos.2) in
    rw (← first, ← second) (front_with (One a b) one two
    (comparable_kinds profile (One a b) one two rest other ones.2 twos_too tail))
