-- Where lengths rise by the same, so do the costs of jumps, and to change the length costs the same everywhere.
use Rattle.std.proofs.Common.{◌≡◌, ℕ, ◌+◌, ◌-◌, ◌*◌, ◌<◌, ◌≤◌, ℤ, pos, ◌+ℤ◌, List, ap, subst, sym, ◌∙◌, mul-add}
use Rattle.std.proofs.Common.{add-mul, arith}
use Rattle.std.proofs.lemmas.Int.{ints}
use Rattle.cell_path.specs.declared.ends.Ends.{Ends}
use Rattle.cell_path.specs.declared.four.Four.{Four}
use Rattle.cell_path.specs.declared.lengths.TheConstants.{JUMP, LENGTHS}
use Rattle.cell_path.specs.Four.{at_step, low}
use Rattle.cell_path.specs.Kept.{RowsState}
use Rattle.cell_path.specs.Lengths.{length_in, IsEven}
use Rattle.cell_path.specs.Started.{AreCosts, AreTimes, StartsSoFar}

added : (levels : List ℕ) (x y : ℕ) (a b sum : List ℕ) → AreTimes levels x a → AreTimes levels y b
    → ((step : ℕ) (m n : ℤ) → step < 4 → at_step a step ≡ low m → at_step b step ≡ low n
    → at_step sum step ≡ low (m +ℤ n))
    → AreTimes levels (x + y) sum
added levels x y a b sum a_is b_is sum_is step n few is =
    let both : (x + y) * n ≡ x * n + y * n = add-mul x y n in
    let e : (pos (x * n) +ℤ pos (y * n)) ≡ pos ((x + y) * n) = omega (arith, ints, both) in
    sum_is step (pos (x * n)) (pos (y * n)) few (a_is step n few is) (b_is step n few is) ∙ ap low e

pub even_costs : (levels : List ℕ) (rise from to place : ℕ) (by more old new : List ℕ) → IsEven rise from to
    → from ≤ place → place < to → AreTimes levels rise by → AreTimes levels (JUMP * rise) more
    → AreTimes levels (JUMP * length_in LENGTHS (place - 1)) old
    → ((step : ℕ) (m n : ℤ) → step < 4 → at_step old step ≡ low m → at_step more step ≡ low n
    → at_step new step ≡ low (m +ℤ n))
    → AreCosts levels place (record { shorter = by; longer = by; jump = new })
even_costs levels rise from to place by more old new even reached within by_is more_is old_is new_is =
    let here = even place reached (omega (arith, within)) in
    let next = even (place + 1) (omega (arith, reached)) (omega (arith, within)) in
    let back : place + 1 - 1 ≡ place = omega arith in
    let next_is : length_in LENGTHS (place + 1) ≡ length_in LENGTHS place + rise =
    next ∙ ap (λ k. length_in LENGTHS k + rise) back in
    let below : length_in LENGTHS place - length_in LENGTHS (place - 1) ≡ rise = omega (arith, here) in
    let above : length_in LENGTHS (place + 1) - length_in LENGTHS place ≡ rise = omega (arith, next_is) in
    let jumps : JUMP * length_in LENGTHS place ≡ JUMP * length_in LENGTHS (place - 1) + JUMP * rise =
    ap (λ k. JUMP * k) here ∙ mul-add JUMP (length_in LENGTHS (place - 1)) rise in
    record {
      shorter = λ some. subst (λ k. AreTimes levels k by) (sym below) by_is;
      longer = λ less. subst (λ k. AreTimes levels k by) (sym above) by_is;
      jump = subst (λ k. AreTimes levels k new) (sym jumps)
          (added levels (JUMP * length_in LENGTHS (place - 1)) (JUMP * rise) old more new old_is more_is new_is);
    }

-- the starts of some lengths in a row so far, and the cost of a jump before the next
pub record SomeSoFar (old new : RowsState) (old_marks new_marks : List (List ℕ)) (ends : Ends) (best : Four)
    (levels : List ℕ) (from place : ℕ) (cost : List ℕ) : Type 0 where
  pub reached : from ≤ place
  pub jump : AreTimes levels (JUMP * length_in LENGTHS (place - 1)) cost
  pub started : (first : RowsState) → StartsSoFar first old old_marks ends best levels from
      → StartsSoFar first new new_marks ends best levels place
