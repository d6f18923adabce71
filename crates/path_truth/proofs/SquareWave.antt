-- A square wave with noise that does not reach its level is on the sides of its tape.
use Rattle.std.proofs.Common.{◌≡◌, ℕ, zero, suc, ◌+◌, ◌-◌, ◌*◌, ◌/◌, ◌%◌, ◌<◌, ◌≤◌, List, [], ◌∷◌, ◌++◌, drop}
use Rattle.std.proofs.Common.{replicate}
use Rattle.std.proofs.Common.{ℤ, pos, negsuc, ◌+ℤ◌, ◌<ℤ◌, unsigned_abs, refl, ap, subst, sym, ◌∙◌, arith, append_assoc}
use Rattle.std.specs.List.{AllByRecursion}
use Rattle.std.proofs.Math.Seq.{drop-nil}
use Rattle.std.proofs.lemmas.Int.{ints}
use Rattle.std.proofs.lemmas.List.{drop-drop}
use Rattle.cell_path.specs.declared.cell.Bit.{Bit}
use Rattle.cell_path.specs.declared.cell.Bit.TheVariants.{Zero, One}
use Rattle.cell_path.specs.declared.cell.Cell.{Cell}
use Rattle.cell_path.specs.declared.cell.Sign.{Sign}
use Rattle.cell_path.specs.declared.cell.Sign.TheVariants.{Plus, Minus}
use Rattle.cell_path.specs.declared.lengths.TheConstants.{LENGTHS}
use Rattle.cell_path.specs.Lengths.{length_in}
use Rattle.cell_path.specs.Path.{opposite, signed}
use Rattle.path_truth.specs.Sides.{AreOnSide, IsOnSide, KeepsItsSides, KeepsSides}
use Rattle.path_truth.specs.Sound.{alone, IsSized, IsSoundOf}
use Rattle.path_truth.specs.Tape.{IsSteady}
use Rattle.path_truth.specs.Wave.{square_wave, wave_of_bit, with_noise}
use Rattle.path_truth.proofs.Recorded.{noise_keeps}

-- no noise is greater than this
abbrev pub AreBelow : ℕ → List ℤ → Type 0
AreBelow most noise = AllByRecursion (λ n. unsigned_abs n ≤ most) noise

pub noisy_size : (sign : Sign) (level most : ℕ) (noise : ℤ) → most ≤ level → unsigned_abs noise ≤ most
    → IsSized (level - most) (level + most) (signed sign (pos level) +ℤ noise)
noisy_size Plus level most (pos n) less is = record { least = omega (arith, ints); most = omega (arith, ints) }
noisy_size Plus level most (negsuc n) less is = record { least = omega (arith, ints); most = omega (arith, ints) }
noisy_size Minus level most (pos n) less is = record { least = omega (arith, ints); most = omega (arith, ints) }
noisy_size Minus level most (negsuc n) less is = record { least = omega (arith, ints); most = omega (arith, ints) }

plain_side : (sign : Sign) (level : ℕ) → 1 ≤ level → pos 0 <ℤ signed sign (signed sign (pos level))
plain_side Plus level some = omega (arith, ints)
plain_side Minus level some = omega (arith, ints)

plain_size : (sign : Sign) (level most : ℕ) → most ≤ level
    → IsSized (level - most) (level + most) (signed sign (pos level))
plain_size Plus level most less = record { least = omega arith; most = omega arith }
plain_size Minus level most less = record { least = omega (arith, ints); most = omega (arith, ints) }

-- ---- one run of samples on a side, in front of others

below-drop : (most n : ℕ) (noise : List ℤ) → AreBelow most noise → AreBelow most (drop n noise)
below-drop most zero noise are = are
below-drop most (suc n) [] are = tt
below-drop most (suc n) (x ∷ noise) are = below-drop most n noise are.1

noise-alone : (noise : List ℤ) → with_noise noise [] ≡ []
unfolding with_noise
noise-alone [] = refl
noise-alone (x ∷ noise) = refl

none-left : (n : ℕ) (rest : List ℤ) → alone (with_noise (drop n []) rest) ≡ alone (with_noise [] rest)
none-left n rest = ap (λ l. alone (with_noise l rest)) (drop-nil n)

run-on : (sign : Sign) (level most n : ℕ) (noise rest : List ℤ) → most < level → AreBelow most noise
    → AreOnSide sign n (alone (with_noise noise (replicate n (signed sign (pos level)) ++ rest)))
unfolding with_noise
run-on sign level most zero noise rest less are = tt
run-on sign level most (suc n) [] rest less are =
    let on : IsOnSide sign (record { sound = signed sign (pos level); level = 1 }) =
    record { side = plain_side sign level (omega arith); level = omega arith } in
    (on, run-on sign level most n [] rest less tt)
run-on sign level most (suc n) (x ∷ noise) rest less are =
    (noise_keeps sign level 1 x (omega (arith, are.0)) (omega arith), run-on sign level most n noise rest less are.1)

run-drop : (sign : Sign) (level n : ℕ) (noise rest : List ℤ)
    → drop n (alone (with_noise noise (replicate n (signed sign (pos level)) ++ rest)))
    ≡ alone (with_noise (drop n noise) rest)
unfolding with_noise
run-drop sign level zero noise rest = refl
run-drop sign level (suc n) [] rest = run-drop sign level n [] rest ∙ none-left n rest
run-drop sign level (suc n) (x ∷ noise) rest = run-drop sign level n noise rest

run-sized : (sign : Sign) (level most n : ℕ) (noise rest : List ℤ) → most ≤ level → AreBelow most noise
    → AllByRecursion (IsSized (level - most) (level + most)) (with_noise (drop n noise) rest)
    → AllByRecursion (IsSized (level - most) (level + most))
    (with_noise noise (replicate n (signed sign (pos level)) ++ rest))
unfolding with_noise
run-sized sign level most zero noise rest less are more = more
run-sized sign level most (suc n) [] rest less are more = (
  plain_size sign level most less,
  run-sized sign level most n [] rest less tt
      (subst (λ l. AllByRecursion (IsSized (level - most) (level + most)) (with_noise l rest)) (sym (drop-nil n)) more),
)
run-sized sign level most (suc n) (x ∷ noise) rest less are more =
    (noisy_size sign level most x less are.0, run-sized sign level most n noise rest less are.1 more)

-- ---- a cell, and a tape

record IsBitOf (bit : Bit) (sign : Sign) (n level most : ℕ) (noise rest samples : List ℤ) : Type 0 where
  pub sides : KeepsSides bit sign n (alone samples)
  pub rest_is : drop n (alone samples) ≡ alone (with_noise (drop n noise) rest)
  pub sized : AllByRecursion (IsSized (level - most) (level + most)) (with_noise (drop n noise) rest)
      → AllByRecursion (IsSized (level - most) (level + most)) samples

bit-of : (bit : Bit) (sign : Sign) (n level most : ℕ) (noise rest : List ℤ) → n % 2 ≡ 0 → most < level
    → AreBelow most noise
    → IsBitOf bit sign n level most noise rest (with_noise noise (wave_of_bit level n bit sign ++ rest))
bit-of Zero sign n level most noise rest even less are = record {
  sides = run-on sign level most n noise rest less are;
  rest_is = run-drop sign level n noise rest;
  sized = run-sized sign level most n noise rest (omega (arith, less)) are;
}
bit-of One sign n level most noise rest even less are =
    let h = n / 2 in
    let twice : h + h ≡ n = omega arith in
    let late = replicate h (signed sign (pos level)) in
    let early = replicate h (signed (opposite sign) (pos level)) in
    let all = append_assoc late early rest in
    let below = below-drop most h noise are in
    let first = run-drop sign level h noise (early ++ rest) in
    let behind = drop-drop h h noise ∙ ap (λ k. drop k noise) twice in
    subst (IsBitOf One sign n level most noise rest) (ap (with_noise noise) (sym all)) (record {
      sides = (
        even,
        run-on sign level most h noise (early ++ rest) less are,
        subst (AreOnSide (opposite sign) h) (sym first)
            (run-on (opposite sign) level most h (drop h noise) rest less below),
      );
      rest_is = ap (λ k. drop k (alone (with_noise noise (late ++ (early ++ rest))))) (sym twice)
          ∙ sym (drop-drop h h (alone (with_noise noise (late ++ (early ++ rest)))))
          ∙ ap (drop h) first ∙ run-drop (opposite sign) level h (drop h noise) rest
          ∙ ap (λ l. alone (with_noise l rest)) behind;
      sized = λ more. run-sized sign level most h noise (early ++ rest) (omega (arith, less)) are
          (run-sized (opposite sign) level most h (drop h noise) rest (omega (arith, less)) below
          (subst (λ l. AllByRecursion (IsSized (level - most) (level + most)) (with_noise l rest)) (sym behind) more));
    })

record IsWaveOf (n level most : ℕ) (tape : List Cell) (samples : List ℤ) : Type 0 where
  pub sides : KeepsItsSides n (alone samples) tape
  pub sized : AllByRecursion (IsSized (level - most) (level + most)) samples

wave-of : (n level most : ℕ) (tape : List Cell) (noise : List ℤ) → n % 2 ≡ 0 → most < level → AreBelow most noise
    → IsWaveOf n level most tape (with_noise noise (square_wave level n tape))
unfolding square_wave
wave-of n level most [] noise even less are =
    subst (IsWaveOf n level most []) (sym (noise-alone noise)) (record { sides = refl; sized = tt })
wave-of n level most (cell ∷ before) noise even less are =
    let rest = square_wave level n before in
    let one = bit-of cell.bit cell.sign n level most noise rest even less are in
    let more = wave-of n level most before (drop n noise) even less (below-drop most n noise are) in
    record {
      sides = (one.sides, subst (λ l. KeepsItsSides n l before) (sym one.rest_is) more.sides);
      sized = one.sized more.sized;
    }

pub noisy_wave : (place : ℕ) (tape : List Cell) (repeats many least level most : ℕ) (noise : List ℤ)
    → IsSteady place tape → many * repeats ≡ length_in LENGTHS place → many % 2 ≡ 0 → 17 * most ≤ 11 * level
    → 1 ≤ level → least + most ≤ level → AreBelow most noise
    → IsSoundOf place tape repeats least (level - most) (level + most) (with_noise noise (square_wave level many tape))
noisy_wave place tape repeats many least level most noise steady cells even near some heard are =
    let wave = wave-of many level most tape noise even (omega (arith, near, some)) are in
    record {
      steady = steady;
      many = many;
      cells = cells;
      sides = wave.sides;
      level = record {
        some = omega (arith, near, some);
        heard = omega (arith, heard);
        near = omega (arith, near);
        sizes = wave.sized;
      };
    }
