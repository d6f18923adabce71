-- The sound, the level and the score of a path are bounded by the steps that it covers.
use Rattle.std.proofs.Common.{◌≡◌, ℕ, zero, suc, ◌+◌, ◌-◌, ◌*◌, ◌/◌, ◌^◌, ◌<◌, ◌≤◌, ◌==◌, min, ℤ, pos, ◌+ℤ◌}
use Rattle.std.proofs.Common.{◌≤ℤ◌, ◌⊎◌, inl, inr, List, [], ◌∷◌, Bool, true, false, cond, length, take, drop}
use Rattle.std.proofs.Common.{subst, sym, arith}
use Rattle.std.proofs.lemmas.Int.{ints}
use Rattle.std.proofs.lemmas.List.{drop_min, length-drop}
use Rattle.cell_path.specs.declared.cell.Bit.{Bit}
use Rattle.cell_path.specs.declared.cell.Bit.TheVariants.{Zero, One}
use Rattle.cell_path.specs.declared.cell.Cell.{Cell}
use Rattle.cell_path.specs.declared.cell.Step.{Step}
use Rattle.cell_path.specs.declared.cell.Way.{Way}
use Rattle.cell_path.specs.declared.lengths.TheConstants.{EARLY, LENGTHS}
use Rattle.cell_path.specs.Lengths.{length_in}
use Rattle.cell_path.specs.Path.{cost, level_at, score, sound_in, total, IsPath}
use Rattle.cell_path.specs.Scores.{AreSteps}
use Rattle.cell_path.specs.Within.{IsWithin}
use Rattle.cell_path.proofs.LengthsOfCells.{length_bounds}
use Rattle.cell_path.proofs.SoundOfBits.{drop-drop, signed-within, total-cons, total-nil}

-- ---- the sound and the size of some steps

pub steps_before : (n : ℕ) (steps : List Step) → AreSteps steps → AreSteps (drop n steps)
steps_before zero steps are = are
steps_before (suc n) [] are = are
steps_before (suc n) (step ∷ steps) are = steps_before n steps are.1

total-within : (n : ℕ) (steps : List Step) → AreSteps steps
    → IsWithin (min n (length steps) * 2 ^ 16) (total (take n steps))
total-within zero steps are =
    let e = total-nil in record { above = omega (arith, ints, e); below = omega (arith, ints, e) }
total-within (suc n) [] are =
    let e = total-nil in record { above = omega (arith, ints, e); below = omega (arith, ints, e) }
total-within (suc n) (step ∷ steps) are =
    let e = total-cons step (take n steps) in
    let s = are.0.sound in
    let t = total-within n steps are.1 in
    record { above = omega (arith, ints, e, s.above, t.above); below = omega (arith, ints, e, s.below, t.below) }

pub sound-within : (bit : Bit) (n : ℕ) (steps : List Step) → AreSteps steps
    → IsWithin (min n (length steps) * 2 ^ 16) (sound_in bit n steps)
sound-within Zero n steps are = total-within n steps are
sound-within One n steps are =
    let h = n / 2 in
    let a = total-within h steps are in
    let b = total-within h (drop (n - h) steps) (steps_before (n - h) steps are) in
    let e = length-drop (n - h) steps in
    record {
      above = omega (arith, ints, a.above, a.below, b.above, b.below, e);
      below = omega (arith, ints, a.above, a.below, b.above, b.below, e);
    }

pub level-within : (steps : List Step) → AreSteps steps → level_at steps ≤ 2 ^ 15
level-within [] are = omega arith
level-within (step ∷ steps) are = are.0.level

pub cost_is_none : (lengths : List ℕ) (steps : List Step) (ago place : ℕ) (way : Way) (before : List Cell)
    → pos 0 ≤ℤ cost lengths steps ago place way before
cost_is_none lengths steps ago place way [] =
    let either : (b : Bool) → pos 0 ≤ℤ cond b (pos 0) EARLY = λ b. elim b as (λ b. pos 0 ≤ℤ cond b (pos 0) EARLY)
    [ true ↦ omega (arith, ints) | false ↦ omega (arith, ints) ] in
    either (length steps == ago)
cost_is_none lengths steps ago place way (cell ∷ more) = omega (arith, ints)

-- ---- the latest cells are cut off

-- how many steps a cell has of those that there are
abbrev pub share : ℕ → List Step → ℕ
share place steps = min (length_in LENGTHS place) (length steps)

cell_adds : (steps : List Step) (cell : Cell) (before : List Cell) → AreSteps steps
    → score LENGTHS steps (cell ∷ before)
    ≤ℤ (score LENGTHS (drop (length_in LENGTHS cell.place) steps) before +ℤ pos (share cell.place steps * 2 ^ 16))
cell_adds steps cell before are =
    let n = length_in LENGTHS cell.place in
    let s = signed-within (share cell.place steps * 2 ^ 16) cell.sign (sound_in cell.bit n steps)
    (sound-within cell.bit n steps are) in
    let c = cost_is_none LENGTHS steps n cell.place cell.way before in
    omega (arith, ints, s.above, c)

-- no score is greater than the sound at its greatest
pub score_is_low : (steps : List Step) (path : List Cell) → AreSteps steps → IsPath LENGTHS steps path
    → score LENGTHS steps path ≤ℤ pos (length steps * 2 ^ 16)
score_is_low steps [] are is = omega (arith, ints)
score_is_low steps (cell ∷ before) are is =
    let n = length_in LENGTHS cell.place in
    let adds = cell_adds steps cell before are in
    let rest = score_is_low (drop n steps) before (steps_before n steps are) is.3 in
    let e = length-drop n steps in
    omega (arith, ints, adds, rest, e)

-- what is left of a path, when its latest cells of these steps or some more are gone
pub record Cut (steps : List Step) (least : ℕ) (number : ℤ) : Type 0 where
  pub gone : ℕ
  pub rest : List Cell
  pub enough : least ≤ gone
  pub few : gone ≤ least + 95
  pub within : gone ≤ length steps
  pub is_path : IsPath LENGTHS (drop gone steps) rest
  pub worth : number ≤ℤ (score LENGTHS (drop gone steps) rest +ℤ pos (gone * 2 ^ 16))

pub cut : (steps : List Step) (path : List Cell) (least : ℕ) → AreSteps steps → IsPath LENGTHS steps path
    → least ≤ length steps → Cut steps least (score LENGTHS steps path)
cut steps path zero are is low = record {
  gone = 0;
  rest = path;
  enough = omega arith;
  few = omega arith;
  within = omega arith;
  is_path = is;
  worth = omega (arith, ints);
}
cut steps [] (suc n) are is low = absurd (omega (arith, is, low))
cut steps (cell ∷ before) (suc n) are is low =
    let l = length_in LENGTHS cell.place in
    let bounds = length_bounds cell.place is.1 in
    let adds = cell_adds steps cell before are in
    let cases : (suc n ≤ share cell.place steps) ⊎ (share cell.place steps < suc n) = grind arith in
    elim cases [
      | inl enough ↦
          let same : drop (share cell.place steps) steps ≡ drop l steps = drop_min l steps in
          record {
            gone = share cell.place steps;
            rest = before;
            enough = enough;
            few = omega (arith, bounds.1);
            within = omega arith;
            is_path = subst (λ s. IsPath LENGTHS s before) (sym same) is.3;
            worth = subst (λ s. score LENGTHS steps (cell ∷ before)
                ≤ℤ (score LENGTHS s before +ℤ pos (share cell.place steps * 2 ^ 16))) (sym same) adds;
          }
      | inr less ↦
          let e = length-drop l steps in
          let more = cut (drop l steps) before (suc n - l) (steps_before l steps are) is.3 (omega (arith, e, low)) in
          let same = drop-drop more.gone l steps in
          let within = more.within in
          let worth = subst (λ s. score LENGTHS (drop l steps) before
          ≤ℤ (score LENGTHS s more.rest +ℤ pos (more.gone * 2 ^ 16))) same more.worth in
          record {
            gone = l + more.gone;
            rest = more.rest;
            enough = omega (arith, more.enough);
            few = omega (arith, more.few, less, low);
            within = omega (arith, within, e, less, low);
            is_path = subst (λ s. IsPath LENGTHS s more.rest) same more.is_path;
            worth = omega (arith, ints, adds, worth, less, low);
          }
    ]
