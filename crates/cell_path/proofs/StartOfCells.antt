-- Of the best so far and the best in one more way the better is the best of both. They lie near one another, since
-- all come behind ends of the same step.
use Rattle.std.proofs.Common.{◌≡◌, ℕ, ◌+◌, ◌-◌, ◌*◌, ◌<◌, ◌≤◌, ◌^◌, ℤ, pos, ◌+ℤ◌, ◌-ℤ◌, ◌≤ℤ◌, ◌<ℤ◌, ◌⊎◌, inl, inr, List}
use Rattle.std.proofs.Common.{length, refl, ap, ◌∙◌, mul-le-mul, arith}
use Rattle.std.proofs.lemmas.Int.{ints}
use Rattle.std.proofs.lemmas.List.{length-drop}
use Rattle.cell_path.specs.declared.cell.Bit.{Bit}
use Rattle.cell_path.specs.declared.cell.Sign.{Sign}
use Rattle.cell_path.specs.declared.cell.Step.{Step}
use Rattle.cell_path.specs.declared.cell.Way.{Way}
use Rattle.cell_path.specs.declared.cell.Way.TheVariants.{Same}
use Rattle.cell_path.specs.declared.four.Four.{Four}
use Rattle.cell_path.specs.declared.lengths.TheConstants.{LENGTHS}
use Rattle.cell_path.specs.Best.{rank_of_way}
use Rattle.cell_path.specs.Four.{at_step, low, AreNear}
use Rattle.cell_path.specs.Marks.{way_from}
use Rattle.cell_path.specs.Number.{IsBestEnd, IsEnd}
use Rattle.cell_path.specs.Path.{level_at}
use Rattle.cell_path.specs.Scores.{AreSteps}
use Rattle.cell_path.specs.StandsFor.{steps_at, IsEndAt, IsStartAt}
use Rattle.cell_path.specs.Started.{IsStartSoFar}
use Rattle.cell_path.specs.Trying.{IsBestOfWay}
use Rattle.cell_path.proofs.BestBeginning.{all_tried, same_best, way_comes, way_stays}
use Rattle.cell_path.proofs.BestEnd.{bit_at, has_bit_at}
use Rattle.cell_path.proofs.Lowest.{low_small}
use Rattle.cell_path.proofs.LowScores.{level-within, steps_before}
use Rattle.cell_path.proofs.NearScores.{near_ends}

below_or_above : (a b : ℤ) → (b ≤ℤ a) ⊎ (a <ℤ b)
below_or_above a b = grind (arith, ints)

-- there is a step
pub some_step : (steps : List Step) (step : ℕ) → step < 4 → 4 ≤ length steps → 0 < length (steps_at step steps)
some_step steps step within long = let e = length-drop (3 - step) steps in omega (arith, e, long)

-- behind a cell that is as long
pub first_start : (steps : List Step) (place : ℕ) (sign : Sign) (four result : Four) (step : ℕ) → step < 4
    → 4 ≤ length steps → AreSteps steps → IsEndAt steps place sign four step → result.numbers ≡ four.numbers
    → at_step result.codes step ≡ 0 → IsStartSoFar steps 1 place sign result step
first_start steps place sign four result step within long are end numbers code =
    let S = steps_at step steps in
    let are_here = steps_before (3 - step) steps are in
    record {
      number = end.number;
      way = Same;
      is = same_best LENGTHS S place sign end.number end.bit (some_step steps step within long) end.is;
      kept = ap (λ l. at_step l step) numbers ∙ end.kept;
      code = ap way_from code;
      near = λ other bit is. (
        near_ends S place place sign sign other end.number bit end.bit are_here is end.is,
        near_ends S place place sign sign end.number other end.bit bit are_here end.is is,
      );
    }

-- the mean size is kept whole
pub level_kept : (levels : List ℕ) (steps : List Step) (step : ℕ) → AreSteps steps
    → at_step levels step ≡ level_at (steps_at step steps)
    → at_step levels step ≡ low (pos (level_at (steps_at step steps)))
level_kept levels steps step are is =
    let level = level-within (steps_at step steps) (steps_before (3 - step) steps are) in
    is ∙ low_small (level_at (steps_at step steps)) (omega (arith, level))

-- the score that a way has: that of an end, less what the way costs
pub record Behind (S : List Step) (new : ℤ) : Type 0 where
  place : ℕ
  sign : Sign
  number : ℤ
  bit : Bit
  is : IsEnd LENGTHS S place sign number bit
  cost : ℕ
  few : cost ≤ 2 ^ 24
  new_is : new ≡ number -ℤ pos cost

pub behind : (S : List Step) (place : ℕ) (sign : Sign) (number : ℤ) (bit : Bit) (times : ℕ)
    → IsEnd LENGTHS S place sign number bit → AreSteps S → times ≤ 288
    → Behind S (number -ℤ pos (times * level_at S))
behind S place sign number bit times is are few =
    let level = level-within S are in
    let product : times * level_at S ≤ 288 * 2 ^ 15 = mul-le-mul few level in
    record {
      place = place;
      sign = sign;
      number = number;
      bit = bit;
      is = is;
      cost = times * level_at S;
      few = omega (arith, product);
      new_is = refl;
    }

-- the better of the best so far and one more way
pub or_way : (steps : List Step) (place : ℕ) (sign : Sign) (so_far : Four) (others : List ℕ) (code step : ℕ)
    (result : Four) (more : Way) (new : ℤ) (end : ℤ) (bit : Bit) → AreSteps steps
    → IsEnd LENGTHS (steps_at step steps) place sign end bit → way_from code ≡ more
    → Behind (steps_at step steps) new → at_step others step ≡ low new
    → IsBestOfWay LENGTHS (steps_at step steps) place sign more new
    → ((x y : ℤ) → at_step so_far.numbers step ≡ low x → at_step others step ≡ low y
    → AreNear x y → y ≤ℤ x → (at_step result.numbers step ≡ low x)
    × (at_step result.codes step ≡ at_step so_far.codes step))
    → ((x y : ℤ) → at_step so_far.numbers step ≡ low x → at_step others step ≡ low y
    → AreNear x y → x <ℤ y → (at_step result.numbers step ≡ low y) × (at_step result.codes step ≡ code))
    → IsStartSoFar steps (rank_of_way more) place sign so_far step
    → IsStartSoFar steps (rank_of_way more + 1) place sign result step
or_way steps place sign so_far others code step result more new end bit are end_is code_is comes_from others_is way
    stays comes best =
    let S = steps_at step steps in
    let are_here = steps_before (3 - step) steps are in
    let few = comes_from.few in
    let new_is = comes_from.new_is in
    let close : (e : ℤ) (b : Bit) → IsEnd LENGTHS S place sign e b
    → (e ≤ℤ (comes_from.number +ℤ pos (2 ^ 29))) × (comes_from.number ≤ℤ (e +ℤ pos (2 ^ 29))) = λ e b is. (
      near_ends S place comes_from.place sign comes_from.sign e comes_from.number b comes_from.bit are_here is
          comes_from.is,
      near_ends S comes_from.place place comes_from.sign sign comes_from.number e comes_from.bit b are_here
          comes_from.is is,
    ) in
    let c = close end bit end_is in
    let n = best.near end bit end_is in
    let near : AreNear best.number new = record {
      above = omega (arith, ints, c.0, c.1, n.0, n.1, few, new_is);
      below = omega (arith, ints, c.0, c.1, n.0, n.1, few, new_is);
    } in
    elim (below_or_above best.number new) [
      | inl below ↦ let r = stays best.number new best.kept others_is near below in
          record {
            number = best.number;
            way = best.way;
            is = way_stays LENGTHS S place sign best.number best.way more new best.is way below;
            kept = r.0;
            code = ap way_from r.1 ∙ best.code;
            near = best.near;
          }
      | inr above ↦ let r = comes best.number new best.kept others_is near above in
          record {
            number = new;
            way = more;
            is = way_comes LENGTHS S place sign best.number best.way more new best.is way above;
            kept = r.0;
            code = ap way_from r.1 ∙ code_is;
            near = λ e b is.
                let d = close e b is in
                let o = best.near e b is in
                (omega (arith, ints, o.0, above), omega (arith, ints, d.1, new_is));
          }
    ]

-- the best path of all is the best that ends as it does
pub best_is_end : (steps : List Step) (place : ℕ) (sign : Sign) (number : ℤ)
    (best : IsBestEnd LENGTHS steps place sign number) → IsEnd LENGTHS steps place sign number (bit_at best.path)
best_is_end steps place sign number best = record {
  path = best.path;
  is_best = record {
    is_path = best.is_best.is_path;
    ends = best.ends;
    wins = λ other is ends. best.is_best.wins other is;
  };
  number_is = best.number_is;
  bit_is = has_bit_at place sign best.path best.ends;
}

-- with all ways tried
pub started : (steps : List Step) (place : ℕ) (sign : Sign) (so_far : Four) (step : ℕ)
    → IsStartSoFar steps 4 place sign so_far step → IsStartAt steps place sign so_far step
started steps place sign so_far step best = record {
  number = best.number;
  way = best.way;
  is = all_tried LENGTHS (steps_at step steps) place sign best.number best.way best.is;
  kept = best.kept;
  code = best.code;
}
