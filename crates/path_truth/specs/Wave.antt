-- Square waves with noise. Lists of samples and of cells begin with the latest.
use Rattle.std.specs.Prelude.{ℕ, ◌/◌, ℤ, pos, ◌+ℤ◌, List, [], ◌∷◌, ◌++◌, replicate}
use Rattle.cell_path.specs.declared.cell.Bit.{Bit}
use Rattle.cell_path.specs.declared.cell.Bit.TheVariants.{Zero, One}
use Rattle.cell_path.specs.declared.cell.Cell.{Cell}
use Rattle.cell_path.specs.declared.cell.Sign.{Sign}
use Rattle.cell_path.specs.Path.{opposite, signed}

-- n samples of a bit with this sign at its end: a one has the other sign in its first half
abbrev pub wave_of_bit : ℕ → ℕ → Bit → Sign → List ℤ
wave_of_bit level n Zero sign = replicate n (signed sign (pos level))
wave_of_bit level n One sign =
    replicate (n / 2) (signed sign (pos level)) ++ replicate (n / 2) (signed (opposite sign) (pos level))

-- the square wave of a tape, n samples for each cell
unfoldable pub square_wave : ℕ → ℕ → List Cell → List ℤ
square_wave level n [] = []
square_wave level n (cell ∷ before) = wave_of_bit level n cell.bit cell.sign ++ square_wave level n before

-- the samples with noise added, one by one, as far as there is noise
unfoldable pub with_noise : List ℤ → List ℤ → List ℤ
with_noise [] samples = samples
with_noise (noise ∷ more) [] = []
with_noise (noise ∷ more) (sample ∷ samples) = (sample +ℤ noise) ∷ with_noise more samples
