-- Each step counts once with a sign, or not at all, and no cost is below zero: so no score is
-- greater than the sum of the sizes.
use Rattle.std.proofs.Common.{◌≡◌, ℕ, zero, suc, ◌+◌, ◌-◌, ◌*◌, ◌/◌, ◌==◌, Bool, true, false, cond, List, [], ◌∷◌}
use Rattle.std.proofs.Common.{ℤ, pos, negsuc, ◌+ℤ◌, ◌-ℤ◌, ◌≤ℤ◌, unsigned_abs, length, take, drop, refl, ap, sym}
use Rattle.std.proofs.Common.{◌∙◌, arith}
use Rattle.std.proofs.lemmas.Int.{ints}
use Rattle.cell_path.specs.declared.cell.Bit.{Bit}
use Rattle.cell_path.specs.declared.cell.Bit.TheVariants.{Zero, One}
use Rattle.cell_path.specs.declared.cell.Cell.{Cell}
use Rattle.cell_path.specs.declared.cell.Sign.{Sign}
use Rattle.cell_path.specs.declared.cell.Sign.TheVariants.{Plus, Minus}
use Rattle.cell_path.specs.declared.cell.Step.{Step}
use Rattle.cell_path.specs.declared.cell.Way.{Way}
use Rattle.cell_path.specs.declared.lengths.TheConstants.{EARLY}
use Rattle.cell_path.specs.Lengths.{length_in}
use Rattle.cell_path.specs.Path.{cost, level_at, opposite, score, signed, sound_in, times_for, total}
use Rattle.cell_path.specs.Unfinished.{sum_of_sizes}

pub sizes-cons : (step : Step) (steps : List Step)
    → sum_of_sizes (step ∷ steps) ≡ unsigned_abs step.sound + sum_of_sizes steps
unfolding sum_of_sizes
sizes-cons step steps = refl

pub sizes-nil : sum_of_sizes [] ≡ 0
unfolding sum_of_sizes
sizes-nil = refl

pub total-cons : (step : Step) (steps : List Step) → total (step ∷ steps) ≡ step.sound +ℤ total steps
unfolding total
total-cons step steps = refl

pub total-nil : total [] ≡ pos 0
unfolding total
total-nil = refl

-- the sizes of some steps and of those before them
pub sizes-parts : (n : ℕ) (steps : List Step)
    → sum_of_sizes steps ≡ sum_of_sizes (take n steps) + sum_of_sizes (drop n steps)
sizes-parts zero steps = omega (arith, sizes-nil)
sizes-parts (suc n) [] = omega (arith, sizes-nil)
sizes-parts (suc n) (step ∷ steps) =
    omega (arith, sizes-cons step steps, sizes-cons step (take n steps), sizes-parts n steps)

sizes-empty : (n : ℕ) → sum_of_sizes (take n []) ≡ 0
sizes-empty zero = sizes-nil
sizes-empty (suc n) = sizes-nil

pub sizes-take : (m n : ℕ) (steps : List Step)
    → sum_of_sizes (take (m + n) steps) ≡ sum_of_sizes (take m steps) + sum_of_sizes (take n (drop m steps))
sizes-take zero n steps =
    let same : zero + n ≡ n = omega arith in
    ap (λ k. sum_of_sizes (take k steps)) same ∙ omega (arith, sizes-nil)
sizes-take (suc m) n [] = omega (arith, sizes-nil, sizes-empty (suc m + n), sizes-empty n)
sizes-take (suc m) n (step ∷ steps) =
    let next : suc m + n ≡ suc (m + n) = omega arith in
    ap (λ k. sum_of_sizes (take k (step ∷ steps))) next
    ∙ omega (arith, sizes-cons step (take (m + n) steps), sizes-cons step (take m steps), sizes-take m n steps)

-- a number with a sign is at most its size
pub signed-most : (sign : Sign) (x : ℤ) → signed sign x ≤ℤ pos (unsigned_abs x)
signed-most Plus (pos n) = omega (arith, ints)
signed-most Plus (negsuc n) = omega (arith, ints)
signed-most Minus (pos n) = omega (arith, ints)
signed-most Minus (negsuc n) = omega (arith, ints)

pub signed-add : (sign : Sign) (x y : ℤ) → signed sign (x +ℤ y) ≡ signed sign x +ℤ signed sign y
signed-add Plus x y = refl
signed-add Minus x y = omega (arith, ints)

pub signed-less : (sign : Sign) (x y : ℤ) → signed sign (x -ℤ y) ≡ signed sign x +ℤ signed (opposite sign) y
signed-less Plus x y = omega (arith, ints)
signed-less Minus x y = omega (arith, ints)

pub signed-zero : (sign : Sign) → signed sign (pos 0) ≡ pos 0
signed-zero Plus = refl
signed-zero Minus = refl

pub total-most : (sign : Sign) (steps : List Step) → signed sign (total steps) ≤ℤ pos (sum_of_sizes steps)
total-most sign [] = omega (arith, ints, ap (signed sign) total-nil, signed-zero sign, sizes-nil)
total-most sign (step ∷ steps) =
    omega (
      arith,
      ints,
      ap (signed sign) (total-cons step steps),
      signed-add sign step.sound (total steps),
      signed-most sign step.sound,
      total-most sign steps,
      sizes-cons step steps,
    )

-- the steps of a one: its second half, a middle step or none, and its first half
pub sizes-halves : (n : ℕ) (steps : List Step)
    → sum_of_sizes (take n steps) ≡ sum_of_sizes (take (n / 2) steps)
    + sum_of_sizes (take (n - n / 2 - n / 2) (drop (n / 2) steps))
    + sum_of_sizes (take (n / 2) (drop (n - n / 2) steps))
sizes-halves n steps =
    let h = n / 2 in
    let m = n - h - h in
    let late : h + m ≡ n - h = omega arith in
    let whole : (n - h) + h ≡ n = omega arith in
    ap (λ k. sum_of_sizes (take k steps)) (sym whole) ∙ sizes-take (n - h) h steps
    ∙ ap (λ k. sum_of_sizes (take k steps) + sum_of_sizes (take h (drop (n - h) steps))) (sym late)
    ∙ ap (λ k. k + sum_of_sizes (take h (drop (n - h) steps))) (sizes-take h m steps)

pub sound-most : (bit : Bit) (sign : Sign) (n : ℕ) (steps : List Step)
    → signed sign (sound_in bit n steps) ≤ℤ pos (sum_of_sizes (take n steps))
sound-most Zero sign n steps = total-most sign (take n steps)
sound-most One sign n steps =
    let h = n / 2 in
    let early = take h (drop (n - h) steps) in
    omega (
      arith,
      ints,
      signed-less sign (total (take h steps)) (total early),
      total-most sign (take h steps),
      total-most (opposite sign) early,
      sizes-halves n steps,
    )

first-cost : (b : Bool) → pos 0 ≤ℤ cond b (pos 0) EARLY
first-cost true = omega (arith, ints)
first-cost false = omega (arith, ints)

pub cost-least : (lengths : List ℕ) (steps : List Step) (ago place : ℕ) (way : Way) (before : List Cell)
    → pos 0 ≤ℤ cost lengths steps ago place way before
cost-least lengths steps ago place way [] = first-cost (length steps == ago)
cost-least lengths steps ago place way (cell ∷ before) =
    let k = times_for lengths way place cell.place * level_at (drop ago steps) in
    let above : (n : ℕ) → pos 0 ≤ℤ pos n = λ n. omega (arith, ints) in
    above k

pub score-most : (lengths : List ℕ) (steps : List Step) (path : List Cell)
    → score lengths steps path ≤ℤ pos (sum_of_sizes steps)
score-most lengths steps [] = omega (arith, ints)
score-most lengths steps (cell ∷ before) =
    let n = length_in lengths cell.place in
    omega (
      arith,
      ints,
      sound-most cell.bit cell.sign n steps,
      score-most lengths (drop n steps) before,
      cost-least lengths steps n cell.place cell.way before,
      sizes-parts n steps,
    )
