-- The sound of some steps is a difference of two sums, and so is that of each half of a one.
use Rattle.std.proofs.Common.{◌≡◌, ℕ, zero, suc, ◌+◌, ◌-◌, ◌/◌, ◌≤◌, ℤ, pos, ◌+ℤ◌, ◌-ℤ◌, List, [], ◌∷◌, take, drop}
use Rattle.std.proofs.Common.{refl, ap, ap₂, sym, ◌∙◌, arith}
use Rattle.std.proofs.lemmas.Int.{ints}
use Rattle.cell_path.specs.declared.cell.Bit.TheVariants.{Zero, One}
use Rattle.cell_path.specs.declared.cell.Sign.{Sign}
use Rattle.cell_path.specs.declared.cell.Sign.TheVariants.{Plus, Minus}
use Rattle.cell_path.specs.declared.cell.Step.{Step}
use Rattle.cell_path.specs.Kept.{sum_ago, SumsState}
use Rattle.cell_path.specs.Path.{signed, sound_in, total}
use Rattle.cell_path.specs.Four.{low}
use Rattle.cell_path.specs.StandsFor.{steps_at, SumsStandFor}
use Rattle.cell_path.specs.Within.{IsWithin}

pub total-cons : (step : Step) (steps : List Step) → total (step ∷ steps) ≡ step.sound +ℤ total steps
unfolding total
total-cons step steps = refl

pub total-nil : total [] ≡ pos 0
unfolding total
total-nil = refl

total-front : (n : ℕ) (steps : List Step) → total (take n steps) ≡ total steps -ℤ total (drop n steps)
total-front zero steps = let e = total-nil in omega (arith, ints)
total-front (suc n) [] = omega (arith, ints, total-nil)
total-front (suc n) (step ∷ steps) =
    let a = total-cons step (take n steps) in let b = total-cons step steps in let e = total-front n steps in
    omega (arith, ints, a, b, e)

drop-nil : (n : ℕ) → drop {A = Step} n [] ≡ []
drop-nil zero = refl
drop-nil (suc n) = refl

pub drop-drop : (m n : ℕ) (steps : List Step) → drop m (drop n steps) ≡ drop (n + m) steps
drop-drop m zero steps = ap (λ k. drop k steps) (omega arith)
drop-drop m (suc n) [] = drop-nil m ∙ sym (drop-nil (suc n + m))
drop-drop m (suc n) (step ∷ steps) =
    drop-drop m n steps ∙ ap (λ k. drop k (step ∷ steps)) (let e : suc (n + m) ≡ suc n + m = omega arith in e)

-- a zero, as the difference of the sums at its ends
pub sound_of_zero : (n : ℕ) (steps : List Step) → total steps -ℤ total (drop n steps) ≡ sound_in Zero n steps
sound_of_zero n steps = sym (total-front n steps)

-- a one, as that of its second half less that of its first
pub sound_of_one : (n : ℕ) (steps : List Step)
    → (total steps -ℤ total (drop (n / 2) steps)) -ℤ (total (drop (n - n / 2) steps) -ℤ total (drop n steps))
    ≡ sound_in One n steps
sound_of_one n steps =
    let h = n / 2 in
    let whole : (n - h) + h ≡ n = omega arith in
    let end : drop h (drop (n - h) steps) ≡ drop n steps = drop-drop h (n - h) steps ∙ ap (λ k. drop k steps) whole in
    ap₂ ◌-ℤ◌ (sym (total-front h steps)) (ap (λ l. total (drop (n - h) steps) -ℤ total l) (sym end)
    ∙ sym (total-front h (drop (n - h) steps)))

-- the sum up to some steps before one of the latest four
pub sum_at : (sums : SumsState) (steps : List Step) (step k : ℕ) → SumsStandFor sums steps → k ≤ 96
    → sum_ago sums (3 - step + k) ≡ low (total (drop k (steps_at step steps)))
sum_at sums steps step k stand near =
    stand (3 - step + k) (omega (arith, near)) ∙ ap (λ l. low (total l)) (sym (drop-drop k (3 - step) steps))

pub signed-within : (most : ℕ) (sign : Sign) (number : ℤ) → IsWithin most number → IsWithin most (signed sign number)
signed-within most Plus number is = is
signed-within most Minus number is =
    record { above = omega (arith, ints, is.above, is.below); below = omega (arith, ints, is.above, is.below) }
