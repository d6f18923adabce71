-- Cells that follow others may be cut anywhere, and they go on from what is kept of those before.
use Rattle.std.proofs.Common.{◌≡◌, ℕ, ◌≤◌, List, [], ◌∷◌, ◌++◌, refl, arith}
use Rattle.biphase.specs.Latest.{Latest}
use Rattle.biphase.specs.declared.profile.Profile.{Profile}
use Rattle.biphase.specs.declared.cell.Cell.{Cell}
use Rattle.biphase.specs.declared.cell.Cell.TheVariants.{Zero, One}
use Rattle.biphase.specs.Tolerance.{kept_at_lock, kept_next}
use Rattle.biphase.specs.Tolerance.{length_of}
use Rattle.biphase.specs.Chain.{kept_after, kept_of, IsCell, IsChainAfter, Follow}
use Rattle.biphase.specs.ToleranceLemmas.{last_at_lock, last_next}

-- what is kept of two lists of cells, one after the other
pub kept_after-append : (profile : Profile) (c : Latest) (one two : List Cell)
    → kept_after profile c (one ++ two) ≡ kept_after profile (kept_after profile c one) two
kept_after-append profile c [] two = refl
kept_after-append profile c (cell ∷ one) two = kept_after-append profile (kept_next profile c (length_of cell)) one two

-- what is kept of the cells of a stretch with one cell more
pub kept_of-push : (profile : Profile) (first : Cell) (more : List Cell) (cell : Cell)
    → kept_of profile (first ∷ (more ++ cell ∷ [])) ≡ kept_next profile (kept_of profile (first ∷ more))
    (length_of cell)
kept_of-push profile first more cell = kept_after-append profile (kept_at_lock profile (length_of first)) more
    (cell ∷ [])

-- the second of two lists of cells follows the first
pub chain_rest : (profile : Profile) (c : Latest) (one two : List Cell) → Follow profile c (one ++ two)
    → Follow profile (kept_after profile c one) two
chain_rest profile c [] two chain = chain
chain_rest profile c (cell ∷ one) two chain = chain_rest profile (kept_next profile c (length_of cell)) one two chain.2

-- what follows goes on as one list
pub chain-append : (profile : Profile) (c : Latest) (one two : List Cell) → Follow profile c one
    → Follow profile (kept_after profile c one) two → Follow profile c (one ++ two)
chain-append profile c [] two ones twos = twos
chain-append profile c (cell ∷ one) two ones twos =
    (ones.0, ones.1, chain-append profile (kept_next profile c (length_of cell)) one two ones.2 twos)

-- a cell lasts a tick or more
pub cell_lasts : (profile : Profile) (cell : Cell) → IsCell profile cell → 1 ≤ length_of cell
cell_lasts profile (Zero x) is = is
cell_lasts profile (One a b) is = omega arith

-- so does the last of some
follow_lasts : (profile : Profile) (c : Latest) (cells : List Cell) → 1 ≤ c.last → Follow profile c cells
    → 1 ≤ (kept_after profile c cells).last
follow_lasts profile c [] ticks chain = ticks
follow_lasts profile c (cell ∷ cells) ticks chain =
    follow_lasts profile (kept_next profile c (length_of cell)) cells
    (rw (last_next profile c (length_of cell)) (cell_lasts profile cell chain.0)) chain.2

pub chain_lasts : (profile : Profile) (first : ℕ) (more : List Cell) → 1 ≤ first → IsChainAfter profile first more
    → 1 ≤ (kept_of profile (Zero first ∷ more)).last
chain_lasts profile first more ticks chain =
    follow_lasts profile (kept_at_lock profile first) more (rw (last_at_lock profile first) ticks) chain
