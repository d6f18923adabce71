-- What the best paths to two of the latest steps lack lies near: the path to the one is cut off and led on to the
-- other.
use Rattle.std.proofs.Common.{◌≡◌, ℕ, zero, suc, ◌+◌, ◌-◌, ◌*◌, ◌^◌, ◌<◌, ◌≤◌, ◌⊎◌, inl, inr, ℤ, pos, ◌+ℤ◌, ◌≤ℤ◌}
use Rattle.std.proofs.Common.{unsigned_abs, List, [], ◌∷◌, length, drop, refl, ap, subst, sym, ◌∙◌, arith}
use Rattle.std.proofs.lemmas.Int.{ints}
use Rattle.std.proofs.lemmas.List.{length-drop}
use Rattle.cell_path.specs.declared.cell.Cell.{Cell}
use Rattle.cell_path.specs.declared.cell.Step.{Step}
use Rattle.cell_path.specs.declared.lengths.TheConstants.{LENGTHS}
use Rattle.cell_path.specs.Best.{IsBestOfAll}
use Rattle.cell_path.specs.Four.{AreNear}
use Rattle.cell_path.specs.Path.{score, IsPath}
use Rattle.cell_path.specs.Scores.{AreSteps, IsStep}
use Rattle.cell_path.specs.Unfinished.{lack, sum_of_sizes}
use Rattle.cell_path.proofs.LowScores.{cut, steps_before}
use Rattle.cell_path.proofs.NearScores.{led_on, not_less}
use Rattle.cell_path.proofs.SoundOfBits.{drop-drop}

-- ---- the scores

-- the best path to an earlier step is worth little less
earlier_is_near : (k : ℕ) (steps : List Step) (path other : List Cell) → AreSteps steps → k ≤ 95 → 195 ≤ length steps
    → IsPath LENGTHS steps path → IsBestOfAll LENGTHS (drop k steps) other
    → score LENGTHS steps path ≤ℤ (score LENGTHS (drop k steps) other +ℤ pos (2 ^ 29))
earlier_is_near k steps path other are few long is best =
    let left = cut steps path (k + 4) are is (omega (arith, few, long)) in
    let more = left.gone - (k + 4) in
    let e = length-drop k steps in
    let sum : k + (more + 4) ≡ left.gone = omega (arith, left.enough) in
    let same : drop (more + 4) (drop k steps) ≡ drop left.gone steps =
    drop-drop (more + 4) k steps ∙ ap (λ n. drop n steps) sum in
    let led = led_on more (drop k steps) left.rest (steps_before k steps are)
    (omega (arith, e, left.enough, left.within)) (subst (λ s. IsPath LENGTHS s left.rest) (sym same) left.is_path) in
    let worth = subst (λ s. score LENGTHS s left.rest
    ≤ℤ (score LENGTHS (drop k steps) led.path +ℤ pos ((more + 4) * 163_840))) same led.worth in
    let low = not_less (score LENGTHS (drop k steps) other) (score LENGTHS (drop k steps) led.path) other led.path
    (best.wins led.path led.is_path) in
    omega (arith, ints, left.worth, worth, low, few, left.few, left.enough)

-- and that to a later one
later_is_near : (k : ℕ) (steps : List Step) (path other : List Cell) → AreSteps steps → k ≤ 95 → 195 ≤ length steps
    → IsPath LENGTHS (drop k steps) path → IsBestOfAll LENGTHS steps other
    → score LENGTHS (drop k steps) path ≤ℤ (score LENGTHS steps other +ℤ pos (2 ^ 29))
later_is_near k steps path other are few long is best =
    let e = length-drop k steps in
    let left = cut (drop k steps) path 4 (steps_before k steps are) is (omega (arith, e, few, long)) in
    let more = k + left.gone - 4 in
    let sum : more + 4 ≡ k + left.gone = omega (arith, left.enough) in
    let same : drop (more + 4) steps ≡ drop left.gone (drop k steps) =
    ap (λ n. drop n steps) sum ∙ sym (drop-drop left.gone k steps) in
    let led = led_on more steps left.rest are (omega (arith, e, sum, left.within, few, long))
    (subst (λ s. IsPath LENGTHS s left.rest) (sym same) left.is_path) in
    let worth = subst (λ s. score LENGTHS s left.rest
    ≤ℤ (score LENGTHS steps led.path +ℤ pos ((more + 4) * 163_840))) same led.worth in
    let low = not_less (score LENGTHS steps other) (score LENGTHS steps led.path) other led.path
    (best.wins led.path led.is_path) in
    omega (arith, ints, left.worth, worth, low, few, left.few, left.enough)

-- ---- the sizes

pub sizes-cons : (step : Step) (steps : List Step)
    → sum_of_sizes (step ∷ steps) ≡ unsigned_abs step.sound + sum_of_sizes steps
unfolding sum_of_sizes
sizes-cons step steps = refl

pub sizes-nil : sum_of_sizes [] ≡ 0
unfolding sum_of_sizes
sizes-nil = refl

pub size-within : (step : Step) → IsStep step → unsigned_abs step.sound ≤ 2 ^ 16
size-within step is = omega (arith, ints, is.sound.above, is.sound.below)

-- the steps since add little
sizes-before : (k : ℕ) (steps : List Step) → AreSteps steps
    → (sum_of_sizes (drop k steps) ≤ sum_of_sizes steps)
    × (sum_of_sizes steps ≤ sum_of_sizes (drop k steps) + k * 2 ^ 16)
sizes-before zero steps are = (omega arith, omega arith)
sizes-before (suc k) [] are = (omega arith, omega arith)
sizes-before (suc k) (step ∷ steps) are =
    let more = sizes-before k steps are.1 in
    let e = sizes-cons step steps in
    let size = size-within step are.0 in
    (omega (arith, e, more.0), omega (arith, e, more.1, size))

-- ---- what is lacking

-- neither is far above the other
abbrev pub AreClose : ℤ → ℤ → Type 0
AreClose x y = (x ≤ℤ (y +ℤ pos (2 ^ 30))) × (y ≤ℤ (x +ℤ pos (2 ^ 30)))

abbrev lack_of : List Step → List Cell → ℤ
lack_of steps path = lack LENGTHS steps path

close_by : (k : ℕ) (steps : List Step) (path other : List Cell) → AreSteps steps → k ≤ 95 → 195 ≤ length steps
    → IsBestOfAll LENGTHS steps path → IsBestOfAll LENGTHS (drop k steps) other
    → AreClose (lack_of steps path) (lack_of (drop k steps) other)
close_by k steps path other are few long best like =
    let a = earlier_is_near k steps path other are few long best.is_path like in
    let b = later_is_near k steps other path are few long like.is_path best in
    let s = sizes-before k steps are in
    (omega (arith, ints, a, b, s.0, s.1, few), omega (arith, ints, a, b, s.0, s.1, few))

-- between two of the latest steps
between : (steps : List Step) (near far : ℕ) (path other : List Cell) → AreSteps steps → near ≤ far → far ≤ 95
    → 2_048 ≤ length steps → IsBestOfAll LENGTHS (drop near steps) path → IsBestOfAll LENGTHS (drop far steps) other
    → AreClose (lack_of (drop near steps) path) (lack_of (drop far steps) other)
between steps near far path other are order few long best like =
    let k = far - near in
    let e = length-drop near steps in
    let sum : near + k ≡ far = omega (arith, order) in
    let same : drop k (drop near steps) ≡ drop far steps = drop-drop k near steps ∙ ap (λ n. drop n steps) sum in
    subst (λ s. AreClose (lack_of (drop near steps) path) (lack_of s other)) same
    (close_by k (drop near steps) path other (steps_before near steps are) (omega (arith, few))
    (omega (arith, e, long, order, few)) best (subst (λ s. IsBestOfAll LENGTHS s other) (sym same) like))

pub close_lacks : (steps : List Step) (ago other : ℕ) (path others : List Cell) → AreSteps steps → ago < 96
    → other < 96 → 2_048 ≤ length steps → IsBestOfAll LENGTHS (drop ago steps) path
    → IsBestOfAll LENGTHS (drop other steps) others
    → AreClose (lack LENGTHS (drop ago steps) path) (lack LENGTHS (drop other steps) others)
close_lacks steps ago other path others are few low long best like =
    let cases : (ago ≤ other) ⊎ (other ≤ ago) = grind arith in
    elim cases [
      | inl before ↦ between steps ago other path others are before (omega (arith, low)) long best like
      | inr behind ↦
          let turned = between steps other ago others path are behind (omega (arith, few)) long like best in
          (turned.1, turned.0)
    ]

pub near_lacks : (steps : List Step) (ago other : ℕ) (path others : List Cell) → AreSteps steps → ago < 96 → other < 96
    → 2_048 ≤ length steps → IsBestOfAll LENGTHS (drop ago steps) path → IsBestOfAll LENGTHS (drop other steps) others
    → AreNear (lack LENGTHS (drop ago steps) path) (lack LENGTHS (drop other steps) others)
near_lacks steps ago other path others are few low long best like =
    let close = close_lacks steps ago other path others are few low long best like in
    record { above = omega (arith, ints, close.0); below = omega (arith, ints, close.1) }
