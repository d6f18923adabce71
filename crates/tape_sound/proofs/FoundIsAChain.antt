-- A steady tape, as it is found, is a chain of the tolerance, and has the bits of the tape.
use Rattle.std.proofs.Common.{◌≡◌, ℕ, ◌≤◌, List, [], ◌∷◌, Bool, refl, ap₂}
use Rattle.biphase.specs.declared.cell.Cell.{Cell}
use Rattle.biphase.specs.declared.cell.Cell.TheVariants.{Zero, One}
use Rattle.biphase.specs.declared.profile.Profile.{Profile}
use Rattle.biphase.specs.declared.profile.Profile.TheVariants.{Normal, Worn, Rough}
use Rattle.biphase.specs.Chain.{bit_of, bits, IsChain}
use Rattle.tape_sound.specs.Late.{AreFoundAs, IsFoundAs, IsSteady}
use Rattle.tape_sound.proofs.KeepsTheKinds.{kinds_found}
use Rattle.tape_sound.proofs.KeepsTheLast.{follows_on}
use Rattle.tape_sound.proofs.KeepsTheSum.{each_zero}

pub found_is_a_chain : (profile : Profile) (delay first : ℕ) (tape cells : List Cell) → first ≤ delay
    → IsSteady profile delay tape → AreFoundAs delay first tape cells → IsChain profile cells
found_is_a_chain Normal delay first tape cells early steady found =
    follows_on Normal tt delay first tape cells early steady found
found_is_a_chain Worn delay first tape cells early steady found =
    follows_on Worn tt delay first tape cells early steady found
found_is_a_chain Rough delay first tape cells early steady found =
    (each_zero delay first tape cells early steady found, kinds_found delay first tape cells early steady found)

bit_found : (delay first last : ℕ) (cell found : Cell) → IsFoundAs delay first last cell found
    → bit_of found ≡ bit_of cell
bit_found delay first last (Zero c) (Zero x) is = refl
bit_found delay first last (One a b) (One x y) is = refl
bit_found delay first last (Zero c) (One x y) is = absurd is
bit_found delay first last (One a b) (Zero x) is = absurd is

pub bits_found : (delay first : ℕ) (tape cells : List Cell) → AreFoundAs delay first tape cells → bits cells ≡ bits tape
bits_found delay first [] [] found = refl
bits_found delay first [] (x ∷ cells) found = absurd found
bits_found delay first (cell ∷ tape) [] found = absurd found
bits_found delay first (cell ∷ tape) (x ∷ cells) found =
    ap₂ (λ (b : Bool) (bs : List Bool). b ∷ bs) (bit_found delay first found.0 cell x found.2)
    (bits_found delay found.0 tape cells found.3)
