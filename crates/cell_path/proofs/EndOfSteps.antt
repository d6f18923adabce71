-- A cell that began before the latest step is a step longer now, and the better of its two bits ends best.
use Rattle.std.proofs.Common.{◌≡◌, ℕ, zero, suc, ◌+◌, ◌-◌, ◌*◌, ◌^◌, ◌<◌, ◌≤◌, ◌==◌, min, Bool, cond, ℤ, pos, ◌+ℤ◌}
use Rattle.std.proofs.Common.{◌-ℤ◌, ◌≤ℤ◌, ◌<ℤ◌, ◌⊎◌, inl}
use Rattle.std.proofs.Common.{inr, List, [], ◌∷◌, length, drop, ap, ap₂, subst, sym, ◌∙◌, arith}
use Rattle.std.proofs.lemmas.Int.{ints}
use Rattle.std.proofs.lemmas.List.{length-drop}
use Rattle.std.proofs.lemmas.Bool.Decides.{nat_tests}
use Rattle.cell_path.specs.declared.cell.Bit.TheVariants.{Zero, One}
use Rattle.cell_path.specs.declared.cell.Cell.{Cell}
use Rattle.cell_path.specs.declared.cell.Sign.{Sign}
use Rattle.cell_path.specs.declared.cell.Step.{Step}
use Rattle.cell_path.specs.declared.cell.Way.{Way}
use Rattle.cell_path.specs.declared.four.Four.{Four}
use Rattle.cell_path.specs.declared.lengths.TheConstants.{EARLY, LENGTHS}
use Rattle.cell_path.specs.Best.{rank_of_way}
use Rattle.cell_path.specs.Lengths.{length_in}
use Rattle.cell_path.specs.Number.{score_before, IsBeginning, IsEnd, WinsBy}
use Rattle.cell_path.specs.Path.{cost, level_at, score, sign_before, signed, sound_in, times_for, IsPath}
use Rattle.cell_path.specs.Four.{at_step, low, AreNear}
use Rattle.cell_path.specs.Kept.{number_ago, RowsState}
use Rattle.cell_path.specs.Marks.{bit_from}
use Rattle.cell_path.specs.Scores.{AreSteps}
use Rattle.cell_path.specs.StandsFor.{steps_at, HasBeginning, IsEndAt, RowsStandFor}
use Rattle.cell_path.proofs.BestEnd.{one_ends, zero_ends}
use Rattle.cell_path.proofs.LengthsOfCells.{length_bounds}
use Rattle.cell_path.proofs.NearScores.{near_beginnings}
use Rattle.cell_path.proofs.LowScores.{sound-within, steps_before}
use Rattle.cell_path.proofs.SoundOfBits.{drop-drop, signed-within}

drop-step : (step : Step) (steps : List Step) (ago : ℕ) → drop (ago + 1) (step ∷ steps) ≡ drop ago steps
drop-step step steps ago = let e : ago + 1 ≡ suc ago = omega arith in ap (λ n. drop n (step ∷ steps)) e

same_test : (a b : ℕ) → (a + 1 == b + 1) ≡ (a == b)
same_test a b = grind (arith, nat_tests)

longer : (step : Step) (steps : List Step) → length (step ∷ steps) ≡ length steps + 1
longer step steps = omega arith

same_cost : (lengths : List ℕ) (step : Step) (steps : List Step) (ago place : ℕ) (way : Way) (before : List Cell)
    → cost lengths (step ∷ steps) (ago + 1) place way before ≡ cost lengths steps ago place way before
same_cost lengths step steps ago place way [] =
    ap (λ (b : Bool). cond b (pos 0) EARLY) (ap (λ n. n == ago + 1) (longer step steps) ∙ same_test (length steps) ago)
same_cost lengths step steps ago place way (cell ∷ before) =
    ap (λ l. pos (times_for lengths way place cell.place * level_at l)) (drop-step step steps ago)

same_score : (lengths : List ℕ) (step : Step) (steps : List Step) (ago place : ℕ) (way : Way) (before : List Cell)
    → score_before lengths (step ∷ steps) (ago + 1) place way before ≡ score_before lengths steps ago place way before
same_score lengths step steps ago place way before =
    ap₂ ◌-ℤ◌ (ap (λ l. score lengths l before) (drop-step step steps ago))
    (same_cost lengths step steps ago place way before)

-- a beginning is a step further back, and nothing else changes
pub older : (lengths : List ℕ) (step : Step) (steps : List Step) (ago place : ℕ) (sign : Sign) (number : ℤ) (way : Way)
    → IsBeginning lengths steps ago place sign number way
    → IsBeginning lengths (step ∷ steps) (ago + 1) place sign number way
older lengths step steps ago place sign number way is = record {
  before = is.before;
  begins = record {
    follows = is.begins.follows;
    is_path = subst (λ l. IsPath lengths l is.before) (sym (drop-step step steps ago)) is.begins.is_path;
  };
  number_is = is.number_is ∙ sym (same_score lengths step steps ago place way is.before);
  wins = λ other others begins.
      subst (λ s. WinsBy number (rank_of_way way) is.before s (rank_of_way other) others)
      (sym (same_score lengths step steps ago place other others))
      (is.wins other others (record {
        follows = begins.follows;
        is_path = subst (λ l. IsPath lengths l others) (drop-step step steps ago) begins.is_path;
      }));
}

-- some steps further back
pub older_by : (lengths : List ℕ) (more : ℕ) (steps : List Step) (ago place : ℕ) (sign : Sign) (number : ℤ) (way : Way)
    → more ≤ length steps → IsBeginning lengths (drop more steps) ago place sign number way
    → IsBeginning lengths steps (ago + more) place sign number way
older_by lengths zero steps ago place sign number way few is =
    let e : ago ≡ ago + 0 = omega arith in subst (λ n. IsBeginning lengths steps n place sign number way) e is
older_by lengths (suc more) [] ago place sign number way few is = absurd (omega (arith, few))
older_by lengths (suc more) (step ∷ steps) ago place sign number way few is =
    let e : (ago + more) + 1 ≡ ago + suc more = omega arith in
    subst (λ n. IsBeginning lengths (step ∷ steps) n place sign number way) e
    (older lengths step steps (ago + more) place sign number way
    (older_by lengths more steps ago place sign number way (omega (arith, few)) is))

below_or_above : (a b : ℤ) → (b ≤ℤ a) ⊎ (a <ℤ b)
below_or_above a b = grind (arith, ints)

-- where a cell began that ends with one of the latest four steps
began : (steps : List Step) (rows : RowsState) (n place : ℕ) (sign : Sign) (step : ℕ) → step < 4 → 4 ≤ length steps
    → 4 ≤ n → n ≤ 96 → place < 45 → RowsStandFor rows (drop 4 steps)
    → HasBeginning LENGTHS (steps_at step steps) n place sign (number_ago rows (n - 1 - step) place sign)
began steps rows n place sign step within long least most place_in stand =
    let was = stand (n - 1 - step) place sign (omega (arith, most)) place_in in
    let S = steps_at step steps in
    let e = length-drop (3 - step) steps in
    let same : drop 4 steps ≡ drop (1 + step) S =
    ap (λ k. drop k steps) (let f : 4 ≡ (3 - step) + (1 + step) = omega arith in f)
    ∙ sym (drop-drop (1 + step) (3 - step) steps) in
    let at : (n - 1 - step) + (1 + step) ≡ n = omega (arith, least) in
    record {
      number = was.number;
      way = was.way;
      is = subst (λ k. IsBeginning LENGTHS S k place sign was.number was.way) at
          (older_by LENGTHS (1 + step) S (n - 1 - step) place sign was.number was.way (omega (arith, e, long))
          (subst (λ l. IsBeginning LENGTHS l (n - 1 - step) place sign was.number was.way) same was.is));
      kept_is = was.kept_is;
    }

-- the two bits are near
bits_are_near : (S : List Step) (n place : ℕ) (sign : Sign) (l h : ℤ) (flat turned : Way) → AreSteps S → n ≤ 96
    → place < 45 → IsBeginning LENGTHS S n place (sign_before Zero sign) l flat
    → IsBeginning LENGTHS S n place (sign_before One sign) h turned
    → AreNear (signed sign (sound_in Zero n S) +ℤ l) (signed sign (sound_in One n S) +ℤ h)
bits_are_near S n place sign l h flat turned are few within low_is high_is =
    let z = signed-within (min n (length S) * 2 ^ 16) sign (sound_in Zero n S) (sound-within Zero n S are) in
    let o = signed-within (min n (length S) * 2 ^ 16) sign (sound_in One n S) (sound-within One n S are) in
    let a = near_beginnings S n place (sign_before Zero sign)
    (sign_before One sign) l h flat turned are within low_is high_is
    in
    let b = near_beginnings S n place (sign_before One sign)
    (sign_before Zero sign) h l turned flat are within high_is low_is
    in
    record {
      above = omega (arith, ints, z.above, z.below, o.above, o.below, a, b, few);
      below = omega (arith, ints, z.above, z.below, o.above, o.below, a, b, few);
    }

-- the better of two bits, each behind the best that can come before it
pub found_end : (steps : List Step) (rows : RowsState) (n place : ℕ) (sign : Sign) (step : ℕ) (flat turned : List ℕ)
    (result : Four) → step < 4 → 4 ≤ length steps → AreSteps steps → place < 45 → n ≡ length_in LENGTHS place
    → RowsStandFor rows (drop 4 steps)
    → ((y : ℤ) → number_ago rows (n - 1 - step) place (sign_before Zero sign) ≡ low y
    → at_step flat step ≡ low (signed sign (sound_in Zero n (steps_at step steps)) +ℤ y))
    → ((y : ℤ) → number_ago rows (n - 1 - step) place (sign_before One sign) ≡ low y
    → at_step turned step ≡ low (signed sign (sound_in One n (steps_at step steps)) +ℤ y))
    → ((x y : ℤ) → at_step flat step ≡ low x → at_step turned step ≡ low y → AreNear x y → y ≤ℤ x
    → (at_step result.numbers step ≡ low x) × (at_step result.codes step ≡ 0))
    → ((x y : ℤ) → at_step flat step ≡ low x → at_step turned step ≡ low y → AreNear x y → x <ℤ y
    → (at_step result.numbers step ≡ low y) × (at_step result.codes step ≡ 1))
    → IsEndAt steps place sign result step
found_end steps rows n place sign step flat turned result within long are place_in n_is stand flat_is turned_is stays
    comes =
    let S = steps_at step steps in
    let bounds = length_bounds place place_in in
    let flat_end = began steps rows n place (sign_before Zero sign) step within long (omega (arith, n_is, bounds.0))
    (omega (arith, n_is, bounds.1)) place_in stand in
    let turned_end = began steps rows n place (sign_before One sign) step within long (omega (arith, n_is, bounds.0))
    (omega (arith, n_is, bounds.1)) place_in stand in
    let are_here = steps_before (3 - step) steps are in
    let near = bits_are_near S n place sign flat_end.number turned_end.number flat_end.way turned_end.way are_here
    (omega (arith, n_is, bounds.1)) place_in flat_end.is turned_end.is in
    let x = signed sign (sound_in Zero n S) +ℤ flat_end.number in
    let y = signed sign (sound_in One n S) +ℤ turned_end.number in
    let x_is = flat_is flat_end.number flat_end.kept_is in
    let y_is = turned_is turned_end.number turned_end.kept_is in
    let e = length-drop (3 - step) steps in
    let some : 0 < length S = omega (arith, e, long) in
    let low_is : IsBeginning LENGTHS S (length_in LENGTHS place) place
    (sign_before Zero sign) flat_end.number flat_end.way =
    subst (λ k. IsBeginning LENGTHS S k place (sign_before Zero sign) flat_end.number flat_end.way) n_is flat_end.is in
    let high_is : IsBeginning LENGTHS S (length_in LENGTHS place) place
    (sign_before One sign) turned_end.number turned_end.way =
    subst (λ k. IsBeginning LENGTHS S k place
    (sign_before One sign) turned_end.number turned_end.way) n_is turned_end.is in
    let X : ℕ → ℤ = λ k. signed sign (sound_in Zero k S) +ℤ flat_end.number in
    let Y : ℕ → ℤ = λ k. signed sign (sound_in One k S) +ℤ turned_end.number in
    elim (below_or_above x y) [
      | inl below ↦ let r = stays x y x_is y_is near below in
          record {
            number = x;
            bit = Zero;
            is = subst (λ k. IsEnd LENGTHS S place sign (X k) Zero) (sym n_is)
                (zero_ends LENGTHS S place sign flat_end.number turned_end.number flat_end.way turned_end.way
                low_is high_is some place_in
                (subst (λ k. Y k ≤ℤ X k) n_is below));
            kept = r.0;
            code = ap bit_from r.1;
          }
      | inr above ↦ let r = comes x y x_is y_is near above in
          record {
            number = y;
            bit = One;
            is = subst (λ k. IsEnd LENGTHS S place sign (Y k) One) (sym n_is)
                (one_ends LENGTHS S place sign flat_end.number turned_end.number flat_end.way turned_end.way
                low_is high_is some place_in
                (subst (λ k. X k <ℤ Y k) n_is above));
            kept = r.0;
            code = ap bit_from r.1;
          }
    ]
