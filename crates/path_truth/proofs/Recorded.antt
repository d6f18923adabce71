-- Each steady tape of an even length has a sound that keeps its sides, and noise that does not
-- reach a step's size leaves it on its side.
use Rattle.std.proofs.Common.{◌≡◌, ℕ, zero, suc, ◌+◌, ◌/◌, ◌%◌, ◌<◌, ◌≤◌, List, [], ◌∷◌, drop, refl, ap, subst}
use Rattle.std.proofs.Common.{ℤ, pos, negsuc, ◌+ℤ◌, ◌<ℤ◌, unsigned_abs, sym, ◌∙◌, arith}
use Rattle.std.proofs.lemmas.Int.{ints}
use Rattle.std.proofs.lemmas.List.{drop-drop}
use Rattle.cell_path.specs.declared.cell.Bit.{Bit}
use Rattle.cell_path.specs.declared.cell.Bit.TheVariants.{Zero, One}
use Rattle.cell_path.specs.declared.cell.Cell.{Cell}
use Rattle.cell_path.specs.declared.cell.Sign.{Sign}
use Rattle.cell_path.specs.declared.cell.Sign.TheVariants.{Plus, Minus}
use Rattle.cell_path.specs.declared.cell.Step.{Step}
use Rattle.cell_path.specs.Path.{opposite, signed}
use Rattle.path_truth.specs.Sides.{AreOnSide, IsOnSide, KeepsItsSides, KeepsSides}

abbrev step_of : Sign → ℕ → ℤ → ℕ → Step
step_of sign size noise level = record { sound = signed sign (pos size) +ℤ noise; level = level }

above_zero : (sign : Sign) (size : ℕ) (noise : ℤ) → unsigned_abs noise < size
    → pos 0 <ℤ signed sign (signed sign (pos size) +ℤ noise)
above_zero Plus size (pos n) less = omega (arith, ints)
above_zero Plus size (negsuc n) less = omega (arith, ints)
above_zero Minus size (pos n) less = omega (arith, ints)
above_zero Minus size (negsuc n) less = omega (arith, ints)

pub noise_keeps : (sign : Sign) (size level : ℕ) (noise : ℤ) → unsigned_abs noise < size → 1 ≤ level
    → IsOnSide sign (step_of sign size noise level)
noise_keeps sign size level noise less some = record { side = above_zero sign size noise less; level = some }

-- ---- a sound for each tape

-- so many steps of the size 1 on this side, in front of others
run_of : Sign → ℕ → List Step → List Step
run_of sign zero rest = rest
run_of sign (suc n) rest = step_of sign 1 (pos 0) 1 ∷ run_of sign n rest

on-run : (sign : Sign) (n : ℕ) (rest : List Step) → AreOnSide sign n (run_of sign n rest)
unfolding run_of
on-run sign zero rest = tt
on-run sign (suc n) rest = (noise_keeps sign 1 1 (pos 0) (omega arith) (omega arith), on-run sign n rest)

drop-run : (sign : Sign) (n : ℕ) (rest : List Step) → drop n (run_of sign n rest) ≡ rest
unfolding run_of
drop-run sign zero rest = refl
drop-run sign (suc n) rest = drop-run sign n rest

sound_of_bit : Bit → Sign → ℕ → List Step → List Step
sound_of_bit Zero sign n rest = run_of sign n rest
sound_of_bit One sign n rest = run_of sign (n / 2) (run_of (opposite sign) (n / 2) rest)

bit-keeps : (bit : Bit) (sign : Sign) (n : ℕ) (rest : List Step) → n % 2 ≡ 0
    → KeepsSides bit sign n (sound_of_bit bit sign n rest)
unfolding sound_of_bit
bit-keeps Zero sign n rest even = on-run sign n rest
bit-keeps One sign n rest even =
    let h = n / 2 in
    let early = run_of (opposite sign) h rest in
    let first = subst (AreOnSide (opposite sign) h) (sym (drop-run sign h early)) (on-run (opposite sign) h rest) in
    (even, on-run sign h early, first)

drop-bit : (bit : Bit) (sign : Sign) (n : ℕ) (rest : List Step) → n % 2 ≡ 0
    → drop n (sound_of_bit bit sign n rest) ≡ rest
unfolding sound_of_bit
drop-bit Zero sign n rest even = drop-run sign n rest
drop-bit One sign n rest even =
    let h = n / 2 in
    let early = run_of (opposite sign) h rest in
    let whole : n ≡ h + h = omega arith in
    ap (λ k. drop k (run_of sign h early)) whole ∙ sym (drop-drop h h (run_of sign h early))
    ∙ ap (drop h) (drop-run sign h early) ∙ drop-run (opposite sign) h rest

pub recorded : (n : ℕ) (tape : List Cell) → n % 2 ≡ 0 → (steps : List Step) × KeepsItsSides n steps tape
recorded n [] even = ([], refl)
recorded n (cell ∷ before) even =
    let more = recorded n before even in (
      sound_of_bit cell.bit cell.sign n more.0,
      (
        bit-keeps cell.bit cell.sign n more.0 even,
        subst (λ l. KeepsItsSides n l before) (sym (drop-bit cell.bit cell.sign n more.0 even)) more.1,
      ),
    )
