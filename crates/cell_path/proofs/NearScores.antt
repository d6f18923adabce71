-- The best scores lie near one another: a path is worth little more than what is left when its latest cells are cut
-- off, and jumps lead from there to each end at little cost.
use Rattle.std.proofs.Common.{◌≡◌, ℕ, zero, suc, ◌+◌, ◌-◌, ◌*◌, ◌^◌, ◌<◌, ◌≤◌, ◌==◌, ℤ, pos, ◌+ℤ◌}
use Rattle.std.proofs.Common.{◌≤ℤ◌, ◌⊎◌, inl, inr, List, [], ◌∷◌, Bool, true, false, cond, length, drop}
use Rattle.std.proofs.Common.{refl, ap, subst, sym, ◌∙◌, mul-le-mul, arith}
use Rattle.std.proofs.lemmas.Bool.Decides.{nat_tests}
use Rattle.std.proofs.lemmas.Int.{ints}
use Rattle.std.proofs.lemmas.List.{drop_all, length-drop}
use Rattle.cell_path.specs.declared.cell.Bit.{Bit}
use Rattle.cell_path.specs.declared.cell.Bit.TheVariants.{Zero}
use Rattle.cell_path.specs.declared.cell.Cell.{Cell}
use Rattle.cell_path.specs.declared.cell.Sign.{Sign}
use Rattle.cell_path.specs.declared.cell.Sign.TheVariants.{Plus}
use Rattle.cell_path.specs.declared.cell.Step.{Step}
use Rattle.cell_path.specs.declared.cell.Way.{Way}
use Rattle.cell_path.specs.declared.cell.Way.TheVariants.{Jump}
use Rattle.cell_path.specs.declared.lengths.TheConstants.{EARLY, JUMP, LENGTHS}
use Rattle.cell_path.specs.Best.{rank_of_way, EndsIn, Wins}
use Rattle.cell_path.specs.Lengths.{length_in}
use Rattle.cell_path.specs.Number.{score_before, IsBeginning, IsEnd, WinsBy}
use Rattle.cell_path.specs.Path.{cost, level_at, score, sound_in, IsPath}
use Rattle.cell_path.specs.Scores.{AreSteps}
use Rattle.cell_path.proofs.BestBeginning.{behind_jump}
use Rattle.cell_path.proofs.LengthsOfCells.{length_bounds}
use Rattle.cell_path.proofs.SoundOfBits.{drop-drop, signed-within}
use Rattle.cell_path.proofs.LowScores.{cost_is_none, cut, level-within, score_is_low, share, sound-within}
use Rattle.cell_path.proofs.LowScores.{steps_before}

-- ---- a jump leads on

abbrev jump_to : ℕ → Sign → Cell
jump_to place sign = record { place = place; bit = Zero; sign = sign; way = Jump }

-- what it costs to begin it behind a path
jump_costs : (steps : List Step) (place : ℕ) (rest : List Cell) → AreSteps steps → place < 45
    → length_in LENGTHS place ≤ length steps → IsPath LENGTHS (drop (length_in LENGTHS place) steps) rest
    → cost LENGTHS steps (length_in LENGTHS place) place Jump rest ≤ℤ pos (length_in LENGTHS place * 98_304)
jump_costs steps place [] are within low is =
    let l = length_in LENGTHS place in
    let e = length-drop l steps in
    let all : length steps ≡ l = omega (arith, is, e, low) in
    let test : (length steps == l) ≡ true = grind (arith, nat_tests) in
    let none = ap (λ (b : Bool). cond b (pos 0) EARLY) test in
    omega (arith, ints, none)
jump_costs steps place (cell ∷ more) are within low is =
    let l = length_in LENGTHS place in
    let level = level-within (drop l steps) (steps_before l steps are) in
    let product : JUMP * l * level_at (drop l steps) ≤ JUMP * l * 2 ^ 15 = mul-le-mul (omega arith) level in
    omega (arith, ints, product)

-- the path with the jump
jump_is_path : (steps : List Step) (place : ℕ) (sign : Sign) (rest : List Cell) → 0 < length steps → place < 45
    → IsPath LENGTHS (drop (length_in LENGTHS place) steps) rest → IsPath LENGTHS steps (jump_to place sign ∷ rest)
jump_is_path steps place sign rest some within is = (some, within, behind_jump place sign rest, is)

jump_loses : (steps : List Step) (place : ℕ) (sign : Sign) (rest : List Cell) → AreSteps steps → place < 45
    → length_in LENGTHS place ≤ length steps → IsPath LENGTHS (drop (length_in LENGTHS place) steps) rest
    → score LENGTHS (drop (length_in LENGTHS place) steps) rest
    ≤ℤ (score LENGTHS steps (jump_to place sign ∷ rest) +ℤ pos (length_in LENGTHS place * 163_840))
jump_loses steps place sign rest are within low is =
    let l = length_in LENGTHS place in
    let s = signed-within (share place steps * 2 ^ 16) sign (sound_in Zero l steps) (sound-within Zero l steps are) in
    let c = jump_costs steps place rest are within low is in
    omega (arith, ints, s.below, s.above, c)

-- a path that was led on over some steps
pub record LedOn (steps : List Step) (n : ℕ) (number : ℤ) : Type 0 where
  pub path : List Cell
  pub is_path : IsPath LENGTHS steps path
  pub worth : number ≤ℤ (score LENGTHS steps path +ℤ pos (n * 163_840))

by_one : (steps : List Step) (place : ℕ) (rest : List Cell) → AreSteps steps → place < 45
    → length_in LENGTHS place ≤ length steps → IsPath LENGTHS (drop (length_in LENGTHS place) steps) rest
    → LedOn steps (length_in LENGTHS place) (score LENGTHS (drop (length_in LENGTHS place) steps) rest)
by_one steps place rest are within low is =
    let bounds = length_bounds place within in
    record {
      path = jump_to place Plus ∷ rest;
      is_path = jump_is_path steps place Plus rest (omega (arith, bounds.0, low)) within is;
      worth = jump_loses steps place Plus rest are within low is;
    }

-- over four steps or more
pub led_on : (more : ℕ) (steps : List Step) (rest : List Cell) → AreSteps steps → more + 4 ≤ length steps
    → IsPath LENGTHS (drop (more + 4) steps) rest → LedOn steps (more + 4) (score LENGTHS (drop (more + 4) steps) rest)
led_on zero steps rest are low is = by_one steps 0 rest are (omega arith) low is
led_on (suc zero) steps rest are low is = by_one steps 1 rest are (omega arith) low is
led_on (suc (suc zero)) steps rest are low is = by_one steps 2 rest are (omega arith) low is
led_on (suc (suc (suc zero))) steps rest are low is = by_one steps 3 rest are (omega arith) low is
led_on (suc (suc (suc (suc more)))) steps rest are low is =
    let same = drop-drop (more + 4) 4 steps in
    let eight : 4 + (more + 4) ≡ suc (suc (suc (suc more))) + 4 = omega arith in
    let here : drop (more + 4) (drop 4 steps) ≡ drop (suc (suc (suc (suc more))) + 4) steps =
    same ∙ ap (λ n. drop n steps) eight in
    let e = length-drop 4 steps in
    let before = led_on more (drop 4 steps) rest (steps_before 4 steps are) (omega (arith, e, low))
    (subst (λ s. IsPath LENGTHS s rest) (sym here) is) in
    let last = by_one steps 0 before.path are (omega arith) (omega (arith, low)) before.is_path in
    let worth = subst (λ s. score LENGTHS s rest
    ≤ℤ (score LENGTHS (drop 4 steps) before.path +ℤ pos ((more + 4) * 163_840))) here before.worth in
    record { path = last.path; is_path = last.is_path; worth = omega (arith, ints, worth, last.worth) }

-- a path that begins before the sound does
early_path : (steps : List Step) (place : ℕ) (sign : Sign) → AreSteps steps → 0 < length steps → place < 45
    → length steps ≤ length_in LENGTHS place
    → IsPath LENGTHS steps (jump_to place sign ∷ [])
    × (pos 0 ≤ℤ (score LENGTHS steps (jump_to place sign ∷ []) +ℤ pos (2 ^ 28 + length steps * 2 ^ 16)))
early_path steps place sign are some within short =
    let l = length_in LENGTHS place in
    let none = drop_all l steps short in
    let s = signed-within (share place steps * 2 ^ 16) sign (sound_in Zero l steps) (sound-within Zero l steps are) in
    let either : (b : Bool) → cond b (pos 0) EARLY ≤ℤ pos (2 ^ 28) = λ b.
    elim b as (λ b. cond b (pos 0) EARLY ≤ℤ pos (2 ^ 28)) [
      | true ↦ omega (arith, ints)
      | false ↦ omega (arith, ints)
    ] in
    let c = either (length steps == l) in
    (jump_is_path steps place sign [] some within (ap length none), omega (arith, ints, s.below, s.above, c, short))

-- ---- the ends at a step

-- there is a path to each end that is not worth much less
record Reached (steps : List Step) (place : ℕ) (sign : Sign) (number : ℤ) : Type 0 where
  path : List Cell
  is_path : IsPath LENGTHS steps path
  ends : EndsIn place sign path
  worth : number ≤ℤ (score LENGTHS steps path +ℤ pos (2 ^ 29))

-- from what is left of the path, in jumps
reached_late : (steps : List Step) (path : List Cell) (place : ℕ) (sign : Sign) → AreSteps steps
    → IsPath LENGTHS steps path → place < 45 → length_in LENGTHS place + 4 ≤ length steps
    → Reached steps place sign (score LENGTHS steps path)
reached_late steps path place sign are is within long =
    let l = length_in LENGTHS place in
    let bounds = length_bounds place within in
    let left = cut steps path (l + 4) are is long in
    let more = left.gone - (l + 4) in
    let e = length-drop l steps in
    let sum : l + (more + 4) ≡ left.gone = omega (arith, left.enough) in
    let same : drop (more + 4) (drop l steps) ≡ drop left.gone steps =
    drop-drop (more + 4) l steps ∙ ap (λ n. drop n steps) sum in
    let led = led_on more (drop l steps) left.rest (steps_before l steps are)
    (omega (arith, e, left.enough, left.within)) (subst (λ s. IsPath LENGTHS s left.rest) (sym same) left.is_path) in
    let worth = subst (λ s. score LENGTHS s left.rest
    ≤ℤ (score LENGTHS (drop l steps) led.path +ℤ pos ((more + 4) * 163_840))) same led.worth in
    let last = jump_loses steps place sign led.path are within (omega (arith, long)) led.is_path in
    record {
      path = jump_to place sign ∷ led.path;
      is_path = jump_is_path steps place sign led.path (omega (arith, long)) within led.is_path;
      ends = (refl, refl);
      worth = omega (arith, ints, left.worth, worth, last, bounds.1, left.few, left.enough);
    }

-- near the beginning of the sound, from before it
reached_early : (steps : List Step) (path : List Cell) (place : ℕ) (sign : Sign) → AreSteps steps
    → IsPath LENGTHS steps path → 0 < length steps → place < 45 → length steps < length_in LENGTHS place + 4
    → Reached steps place sign (score LENGTHS steps path)
reached_early steps path place sign are is some within short =
    let l = length_in LENGTHS place in
    let bounds = length_bounds place within in
    let low = score_is_low steps path are is in
    let cases : (length steps ≤ l) ⊎ (l < length steps) = grind arith in
    elim cases [
      | inl one ↦
          let early = early_path steps place sign are some within one in
          record {
            path = jump_to place sign ∷ [];
            is_path = early.0;
            ends = (refl, refl);
            worth = omega (arith, ints, low, early.1, one, bounds.1);
          }
      | inr two ↦
          let e = length-drop l steps in
          let early = early_path (drop l steps) 0 Plus (steps_before l steps are) (omega (arith, e, two))
          (omega arith) (omega (arith, e, short)) in
          let last = jump_loses steps place sign (jump_to 0 Plus ∷ []) are within (omega (arith, two)) early.0 in
          record {
            path = jump_to place sign ∷ (jump_to 0 Plus ∷ []);
            is_path = jump_is_path steps place sign (jump_to 0 Plus ∷ []) some within early.0;
            ends = (refl, refl);
            worth = omega (arith, ints, low, early.1, last, e, short, bounds.1);
          }
    ]

reached : (steps : List Step) (path : List Cell) (place : ℕ) (sign : Sign) → AreSteps steps
    → IsPath LENGTHS steps path → 0 < length steps → place < 45 → Reached steps place sign (score LENGTHS steps path)
reached steps path place sign are is some within =
    let cases : (length_in LENGTHS place + 4 ≤ length steps) ⊎ (length steps < length_in LENGTHS place + 4) =
    grind arith in
    elim cases [
      | inl long ↦ reached_late steps path place sign are is within long
      | inr short ↦ reached_early steps path place sign are is some within short
    ]

-- a path that ends somewhere has a step, and its length is in the list
place_of_end : (steps : List Step) (path : List Cell) (place : ℕ) (sign : Sign) → IsPath LENGTHS steps path
    → EndsIn place sign path → (0 < length steps) × (place < 45)
place_of_end steps [] place sign is ends = absurd ends
place_of_end steps (cell ∷ before) place sign is ends = (is.0, omega (arith, is.1, ends.0))

-- what wins is not less
pub not_less : (number less : ℤ) (path other : List Cell) → Wins number path less other → less ≤ℤ number
not_less number less path other (inl above) = omega (arith, ints)
not_less number less path other (inr same) = omega (arith, ints, same.0)

pub near_ends : (steps : List Step) (place other_place : ℕ) (sign other_sign : Sign) (number other : ℤ)
    (bit other_bit : Bit) → AreSteps steps → IsEnd LENGTHS steps place sign number bit
    → IsEnd LENGTHS steps other_place other_sign other other_bit → number ≤ℤ (other +ℤ pos (2 ^ 29))
near_ends steps place other_place sign other_sign number other bit other_bit are end last =
    let at = place_of_end steps last.path other_place other_sign last.is_best.is_path last.is_best.ends in
    let way = reached steps end.path other_place other_sign are end.is_best.is_path at.0 at.1 in
    let low = not_less (score LENGTHS steps last.path) (score LENGTHS steps way.path) last.path way.path
    (last.is_best.wins way.path way.is_path way.ends) in
    omega (arith, ints, way.worth, low, end.number_is, last.number_is)

-- ---- the beginnings of a cell

not_less_by : (number less : ℤ) (rank other_rank : ℕ) (path other : List Cell)
    → WinsBy number rank path less other_rank other → less ≤ℤ number
not_less_by number less rank other_rank path other (inl above) = omega (arith, ints)
not_less_by number less rank other_rank path other (inr same) = omega (arith, ints, same.0)

-- of what stands before a cell, a jump costs little more than any other way
jump_is_near : (steps : List Step) (ago place : ℕ) (way : Way) (before : List Cell) → AreSteps steps → place < 45
    → score_before LENGTHS steps ago place way before
    ≤ℤ (score_before LENGTHS steps ago place Jump before +ℤ pos (2 ^ 24))
jump_is_near steps ago place way [] are within = omega (arith, ints)
jump_is_near steps ago place way (cell ∷ more) are within =
    let none = cost_is_none LENGTHS steps ago place way (cell ∷ more) in
    let level = level-within (drop ago steps) (steps_before ago steps are) in
    let bounds = length_bounds place within in
    let times : JUMP * length_in LENGTHS place ≤ 288 = omega (arith, bounds.1) in
    let product : JUMP * length_in LENGTHS place * level_at (drop ago steps) ≤ 288 * 2 ^ 15 = mul-le-mul times level in
    omega (arith, ints, none, product)

pub near_beginnings : (steps : List Step) (ago place : ℕ) (sign other_sign : Sign) (number other : ℤ)
    (way other_way : Way) → AreSteps steps → place < 45 → IsBeginning LENGTHS steps ago place sign number way
    → IsBeginning LENGTHS steps ago place other_sign other other_way → number ≤ℤ (other +ℤ pos (2 ^ 24))
near_beginnings steps ago place sign other_sign number other way other_way are within one two =
    let near = jump_is_near steps ago place way one.before are within in
    let low = not_less_by other (score_before LENGTHS steps ago place Jump one.before) (rank_of_way other_way) 3
    two.before one.before
    (two.wins Jump one.before (record {
      follows = behind_jump place other_sign one.before;
      is_path = one.begins.is_path;
    })) in
    omega (arith, ints, near, low, one.number_is)
