-- The marks of four steps are those of the ends, of the ways to begin and of the best path of all at each.
use Rattle.std.proofs.Common.{◌≡◌, ℕ, ◌/◌, ◌%◌, ◌<◌, List, [], ◌∷◌, refl, ap, subst, sym, ◌∙◌}
use Rattle.std.proofs.Common.{arith}
use Rattle.cell_path.specs.declared.cell.Sign.{Sign}
use Rattle.cell_path.specs.declared.cell.Sign.TheVariants.{Plus, Minus}
use Rattle.cell_path.specs.declared.cell.Step.{Step}
use Rattle.cell_path.specs.declared.ends.Ends.{Ends}
use Rattle.cell_path.specs.declared.four.Four.{Four}
use Rattle.cell_path.specs.declared.lengths.TheConstants.{LENGTHS}
use Rattle.cell_path.specs.declared.mark.FourMarks.{FourMarks}
use Rattle.cell_path.specs.Four.{at_step}
use Rattle.cell_path.specs.Kept.{RowsState}
use Rattle.cell_path.specs.Marks.{bit_from, marked_bit, marked_way, sign_from, way_from, IsMarked}
use Rattle.cell_path.specs.Number.{IsBeginning, IsBestEnd, IsEnd}
use Rattle.cell_path.specs.Path.{level_at}
use Rattle.cell_path.specs.Scores.{AreSteps}
use Rattle.cell_path.specs.StandsFor.{steps_at, AreEnds, IsBestAt}
use Rattle.cell_path.specs.Started.{mark_at, mark_of_step, marks_of, AreStarted}
use Rattle.cell_path.specs.Trying.{end_number}
use Rattle.cell_path.proofs.Lowest.{at_each_step}

-- the code of an end says its place and its sign
place_from : (code place : ℕ) (sign : Sign) → code ≡ end_number place sign → code / 2 ≡ place
place_from code place Plus is = omega (arith, is)
place_from code place Minus is = omega (arith, is)

sign_of : (code place : ℕ) (sign : Sign) → code ≡ end_number place sign → sign_from (code % 2) ≡ sign
sign_of code place Plus is = let e : code % 2 ≡ 0 = omega (arith, is) in ap sign_from e
sign_of code place Minus is = let e : code % 2 ≡ 1 = omega (arith, is) in ap sign_from e

-- a byte of a mark says all of it
same_bit : (mark : ℕ) (sign : Sign) → marked_bit (mark % 256) sign ≡ marked_bit mark sign
same_bit mark Plus = let e : mark % 256 % 2 ≡ mark % 2 = omega arith in ap bit_from e
same_bit mark Minus = let e : mark % 256 / 2 % 2 ≡ mark / 2 % 2 = omega arith in ap bit_from e

same_way : (mark : ℕ) (sign : Sign) → marked_way (mark % 256) sign ≡ marked_way mark sign
same_way mark Plus = let e : mark % 256 / 4 % 4 ≡ mark / 4 % 4 = omega arith in ap way_from e
same_way mark Minus = let e : mark % 256 / 16 % 4 ≡ mark / 16 % 4 = omega arith in ap way_from e

pub marked_step : (all : List Step) (step : ℕ) (rows : RowsState) (lengths : List (List ℕ)) (marks : FourMarks)
    (ends : Ends) (best : Four)
    → AreStarted 45 all rows lengths ends step → AreEnds 45 ends all step → IsBestAt all best step
    → ((place : ℕ) → place < 45 → mark_of_step marks step place ≡ mark_at lengths step place % 256)
    → (marks_of marks step).best_place ≡ at_step best.codes step / 2
    → (marks_of marks step).best_sign ≡ sign_from (at_step best.codes step % 2)
    → IsMarked (marks_of marks step) (steps_at step all)
marked_step all step rows lengths marks ends best started ends_are best_is kept place_is sign_is =
    let S = steps_at step all in
    let p = place_is ∙ place_from (at_step best.codes step) best_is.place best_is.sign best_is.code in
    let s = sign_is ∙ sign_of (at_step best.codes step) best_is.place best_is.sign best_is.code in
    record {
      ends = λ place sign within.
          let end = ends_are place sign within in
          let start = started place sign within in
          let bit = ap (λ m. marked_bit m sign) (kept place within) ∙ same_bit (mark_at lengths step place) sign
          ∙ start.bit ∙ end.code in
          (end.number, subst (IsEnd LENGTHS S place sign end.number) (sym bit) end.is);
      starts = λ place sign within.
          let start = started place sign within in
          let way = ap (λ m. marked_way m sign) (kept place within) ∙ same_way (mark_at lengths step place) sign
          ∙ start.marked in
          (start.number, subst (IsBeginning LENGTHS S 0 place sign start.number) (sym way) start.is);
      best = (
        best_is.number,
        subst (λ n. IsBestEnd LENGTHS S n (marks_of marks step).best_sign best_is.number) (sym p)
            (subst (λ x. IsBestEnd LENGTHS S best_is.place x best_is.number) (sym s) best_is.is),
      );
    }

-- the steps are those of a sound
pub four_more : (a b c d : Step) (steps : List Step) → AreSteps (d ∷ c ∷ b ∷ a ∷ []) → AreSteps steps
    → AreSteps (d ∷ c ∷ b ∷ a ∷ steps)
four_more a b c d steps four are = (four.0, (four.1.0, (four.1.1.0, (four.1.1.1.0, are))))

-- and their mean sizes those that they have
pub levels_are : (a b c d : Step) (steps : List Step) (step : ℕ) → step < 4
    → at_step (a.level ∷ b.level ∷ c.level ∷ d.level ∷ []) step ≡ level_at (steps_at step (d ∷ c ∷ b ∷ a ∷ steps))
levels_are a b c d steps step within =
    at_each_step (λ s. at_step (a.level ∷ b.level ∷ c.level ∷ d.level ∷ []) s
    ≡ level_at (steps_at s (d ∷ c ∷ b ∷ a ∷ steps))) refl refl refl refl step within
