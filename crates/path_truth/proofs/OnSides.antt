-- Where no step is zero, steps that are worth their sizes with a sign are on its side, and the
-- other way round.
use Rattle.std.proofs.Common.{◌≡◌, ℕ, zero, suc, ◌+◌, ◌-◌, ◌/◌, ◌%◌, ◌<◌, ◌≤◌, ◌⊎◌, inl, inr, List, [], ◌∷◌}
use Rattle.std.proofs.Common.{ℤ, pos, negsuc, ◌+ℤ◌, ◌≤ℤ◌, ◌<ℤ◌, unsigned_abs, length, take, drop, refl, ap, arith}
use Rattle.std.proofs.lemmas.Int.{ints}
use Rattle.std.proofs.lemmas.List.{drop-drop, length-drop}
use Rattle.cell_path.specs.declared.cell.Bit.{Bit}
use Rattle.cell_path.specs.declared.cell.Bit.TheVariants.{Zero, One}
use Rattle.cell_path.specs.declared.cell.Sign.{Sign}
use Rattle.cell_path.specs.declared.cell.Sign.TheVariants.{Plus, Minus}
use Rattle.cell_path.specs.declared.cell.Step.{Step}
use Rattle.cell_path.specs.Path.{opposite, signed, sound_in, total}
use Rattle.cell_path.specs.Unfinished.{sum_of_sizes}
use Rattle.path_truth.specs.Sides.{AreOnSide, IsOnSide, KeepsSides}
use Rattle.path_truth.proofs.NoGreater.{signed-add, signed-less, signed-most, signed-zero, sizes-cons, sizes-halves}
use Rattle.path_truth.proofs.NoGreater.{sizes-nil, total-cons, total-most, total-nil}

-- the sound of a step is not zero, and neither is the level
pub record IsHeard (step : Step) : Type 0 where
  pub size : 0 < unsigned_abs step.sound
  pub level : 1 ≤ step.level

abbrev pub AreHeard : List Step → Type 0
AreHeard [] = Unit {0}
AreHeard (step ∷ steps) = IsHeard step × AreHeard steps

pub heard-drop : (n : ℕ) (steps : List Step) → AreHeard steps → AreHeard (drop n steps)
heard-drop zero steps heard = heard
heard-drop (suc n) [] heard = tt
heard-drop (suc n) (step ∷ steps) heard = heard-drop n steps heard.1

size-above : (sign : Sign) (x : ℤ) → pos 0 <ℤ signed sign x → 0 < unsigned_abs x
size-above Plus (pos n) is = omega (arith, ints)
size-above Plus (negsuc n) is = omega (arith, ints)
size-above Minus (pos n) is = omega (arith, ints)
size-above Minus (negsuc n) is = omega (arith, ints)

-- steps on a side are heard
pub heard-front : (sign : Sign) (n : ℕ) (steps : List Step) → AreOnSide sign n steps → AreHeard (drop n steps)
    → AreHeard steps
heard-front sign zero steps on rest = rest
heard-front sign (suc n) [] on rest = tt
heard-front sign (suc n) (step ∷ steps) on rest =
    (record { size = size-above sign step.sound on.0.side; level = on.0.level }, heard-front sign n steps on.1 rest)

pub sizes-heard : (steps : List Step) → AreHeard steps → 0 < length steps → (n : ℕ) → 0 < n
    → 0 < sum_of_sizes (take n steps)
sizes-heard [] heard some n long = absurd (omega arith)
sizes-heard (step ∷ steps) heard some zero long = absurd (omega arith)
sizes-heard (step ∷ steps) heard some (suc n) long =
    omega (arith, sizes-cons step (take n steps), heard.0.size)

-- there are as many steps as are on a side
pub on-long : (sign : Sign) (n : ℕ) (steps : List Step) → AreOnSide sign n steps → n ≤ length steps
on-long sign zero steps on = omega arith
on-long sign (suc n) [] on = absurd on
on-long sign (suc n) (step ∷ steps) on = omega (arith, on-long sign n steps on.1)

-- ---- from what they are worth to their side

step-side : (sign : Sign) (step : Step) → IsHeard step
    → signed sign step.sound ≡ pos (unsigned_abs step.sound) → IsOnSide sign step
step-side sign step heard is =
    let above : (k : ℕ) → 0 < k → pos 0 <ℤ pos k = λ k h. omega (arith, ints) in
    record { side = omega (arith, ints, is, above (unsigned_abs step.sound) heard.size); level = heard.level }

both_worth : (a b : ℤ) (m n : ℕ) → a ≤ℤ pos m → b ≤ℤ pos n → a +ℤ b ≡ pos (m + n)
    → (a ≡ pos m) × (b ≡ pos n)
both_worth a b m n first second is = (omega (arith, ints), omega (arith, ints))

pub side-of : (sign : Sign) (n : ℕ) (steps : List Step) → AreHeard steps → n ≤ length steps
    → signed sign (total (take n steps)) ≡ pos (sum_of_sizes (take n steps)) → AreOnSide sign n steps
side-of sign zero steps heard long is = tt
side-of sign (suc n) [] heard long is = absurd (omega arith)
side-of sign (suc n) (step ∷ steps) heard long is =
    let more = take n steps in
    let a = ap (signed sign) (total-cons step more) in
    let b = signed-add sign step.sound (total more) in
    let c = sizes-cons step more in
    let parts = both_worth (signed sign step.sound) (signed sign (total more)) (unsigned_abs step.sound)
    (sum_of_sizes more) (signed-most sign step.sound) (total-most sign more)
    (omega (arith, ints, is, a, b, c)) in
    (step-side sign step heard.0 parts.0, side-of sign n steps heard.1 (omega arith) parts.1)

three_worth : (a b : ℤ) (m k n : ℕ) → a ≤ℤ pos m → b ≤ℤ pos n → a +ℤ b ≡ pos (m + k + n)
    → (a ≡ pos m) × (b ≡ pos n) × (k ≡ 0)
three_worth a b m k n first second is = (omega (arith, ints), omega (arith, ints), omega (arith, ints))

middle : (n : ℕ) → 0 < n - n / 2 - n / 2 ⊎ (n % 2 ≡ 0)
middle n = grind arith

pub sides-of : (bit : Bit) (sign : Sign) (n : ℕ) (steps : List Step) → AreHeard steps → n ≤ length steps
    → signed sign (sound_in bit n steps) ≡ pos (sum_of_sizes (take n steps)) → KeepsSides bit sign n steps
sides-of Zero sign n steps heard long is = side-of sign n steps heard long is
sides-of One sign n steps heard long is =
    let h = n / 2 in
    let m = n - h - h in
    let late = take h steps in
    let mid = take m (drop h steps) in
    let early = take h (drop (n - h) steps) in
    let a = signed-less sign (total late) (total early) in
    let b = sizes-halves n steps in
    let parts = three_worth (signed sign (total late)) (signed (opposite sign) (total early)) (sum_of_sizes late)
    (sum_of_sizes mid) (sum_of_sizes early) (total-most sign late) (total-most (opposite sign) early)
    (omega (arith, ints, is, a, b)) in
    let even : n % 2 ≡ 0 = elim (middle n) [
      | inl odd ↦ absurd (let some = sizes-heard (drop h steps) (heard-drop h steps heard)
          (omega (arith, length-drop h steps)) m odd in omega (arith, some, parts.2))
      | inr even ↦ even
    ] in
    let halves : n - h ≡ h = omega arith in
    let second : signed (opposite sign) (total (take h (drop h steps))) ≡ pos (sum_of_sizes (take h (drop h steps))) =
    rw halves at parts.1 in (
      even,
      side-of sign h steps heard (omega arith) parts.0,
      side-of (opposite sign) h (drop h steps) (heard-drop h steps heard) (omega (arith, length-drop h steps)) second,
    )

-- ---- and back

side-worth : (sign : Sign) (x : ℤ) → pos 0 <ℤ signed sign x → signed sign x ≡ pos (unsigned_abs x)
side-worth Plus (pos n) is = refl
side-worth Plus (negsuc n) is = absurd (omega (arith, ints))
side-worth Minus (pos n) is = absurd (omega (arith, ints))
side-worth Minus (negsuc n) is = omega (arith, ints)

worth-of : (sign : Sign) (n : ℕ) (steps : List Step) → AreOnSide sign n steps
    → signed sign (total (take n steps)) ≡ pos (sum_of_sizes (take n steps))
worth-of sign zero steps on = omega (arith, ints, ap (signed sign) total-nil, signed-zero sign, sizes-nil)
worth-of sign (suc n) [] on = absurd on
worth-of sign (suc n) (step ∷ steps) on =
    let more = take n steps in
    omega (
      arith,
      ints,
      ap (signed sign) (total-cons step more),
      signed-add sign step.sound (total more),
      side-worth sign step.sound on.0.side,
      worth-of sign n steps on.1,
      sizes-cons step more,
    )

pub sides-worth : (bit : Bit) (sign : Sign) (n : ℕ) (steps : List Step) → KeepsSides bit sign n steps
    → signed sign (sound_in bit n steps) ≡ pos (sum_of_sizes (take n steps))
sides-worth Zero sign n steps keeps = worth-of sign n steps keeps
sides-worth One sign n steps keeps =
    let h = n / 2 in
    let even = keeps.0 in
    let halves : h ≡ n - h = omega arith in
    let none : 0 ≡ n - h - h = omega arith in
    omega (
      arith,
      ints,
      signed-less sign (total (take h steps)) (total (take h (drop (n - h) steps))),
      worth-of sign h steps keeps.1,
      ap (λ k. signed (opposite sign) (total (take h (drop k steps)))) halves,
      ap (λ k. sum_of_sizes (take h (drop k steps))) halves,
      ap (λ k. sum_of_sizes (take k (drop h steps))) none,
      worth-of (opposite sign) h (drop h steps) keeps.2,
      sizes-halves n steps,
      sizes-nil,
    )

-- a cell's sides are heard, and there are as many steps
pub keeps-long : (bit : Bit) (sign : Sign) (n : ℕ) (steps : List Step) → KeepsSides bit sign n steps
    → n ≤ length steps
keeps-long Zero sign n steps keeps = on-long sign n steps keeps
keeps-long One sign n steps keeps =
    let h = n / 2 in
    let even = keeps.0 in
    let long = on-long (opposite sign) h (drop h steps) keeps.2 in
    let first = on-long sign h steps keeps.1 in
    omega (arith, long, length-drop h steps)

pub keeps-heard : (bit : Bit) (sign : Sign) (n : ℕ) (steps : List Step) → KeepsSides bit sign n steps
    → AreHeard (drop n steps) → AreHeard steps
keeps-heard Zero sign n steps keeps rest = heard-front sign n steps keeps rest
keeps-heard One sign n steps keeps rest =
    let h = n / 2 in
    let even = keeps.0 in
    let whole : n ≡ h + h = omega arith in
    let behind : AreHeard (drop h (drop h steps)) = rw (drop-drop h h steps, ← whole) rest in
    heard-front sign h steps keeps.1 (heard-front (opposite sign) h (drop h steps) keeps.2 behind)
