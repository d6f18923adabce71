-- Some neighbouring transitions of a tape, as they are heard, are a piece of its cells as they are found: the others
-- may be thought to be found in time.
use Rattle.std.proofs.Common.{◌≡◌, ℕ, suc, ◌≤◌, List, [], ◌∷◌, ◌++◌, length, drop, refl, ap, sym, subst, ◌∙◌}
use Rattle.std.proofs.Common.{arith}
use Rattle.pcm_front.specs.DistanceLemmas.{gaps-front}
use Rattle.biphase.specs.declared.cell.Cell.{Cell}
use Rattle.biphase.specs.declared.profile.Profile.{Profile}
use Rattle.biphase.specs.Chain.{flat}
use Rattle.cell_tracker.specs.ChainPiece.{IsPiece}
use Rattle.pcm_front.specs.Distance.{gaps, gaps_after}
use Rattle.tape_sound.specs.Heard.{AreHeard}
use Rattle.tape_sound.specs.Late.{AreFoundAs}
use Rattle.tape_sound.specs.Margin.{ComeWithin}
use Rattle.tape_sound.proofs.FoundCells.{heard_whole}

within_itself : (delay : ℕ) (xs : List ℕ) → ComeWithin delay xs xs
within_itself delay [] = tt
within_itself delay (x ∷ xs) = (omega arith, omega arith, within_itself delay xs)

within_both : (delay : ℕ) (one two xs ys : List ℕ) → ComeWithin delay one xs → ComeWithin delay two ys
    → ComeWithin delay (one ++ two) (xs ++ ys)
within_both delay [] two [] ys first second = second
within_both delay [] two (x ∷ xs) ys first second = absurd first
within_both delay (c ∷ one) two [] ys first second = absurd first
within_both delay (c ∷ one) two (x ∷ xs) ys first second =
    (first.0, first.1, within_both delay one two xs ys first.2 second)

gaps_after-drop : (b : ℕ) (bs ys : List ℕ) → drop (suc (length bs)) (gaps_after b (bs ++ ys)) ≡ gaps ys
gaps_after-drop b [] [] = refl
gaps_after-drop b [] (y ∷ ys) = refl
gaps_after-drop b (c ∷ bs) ys = gaps_after-drop c bs ys

gaps-drop : (bs ys : List ℕ) → drop (length bs) (gaps (bs ++ ys)) ≡ gaps ys
gaps-drop [] ys = refl
gaps-drop (b ∷ bs) ys = gaps_after-drop b bs ys

-- a tape as it is heard: its cells as they are found, of which the distances are a piece
pub record HeardPiece (profile : Profile) (delay : ℕ) (tape : List Cell) (cut : ℕ) (moments : List ℕ) : Type 0 where
  pub late : ℕ
  pub small : late ≤ delay
  pub cells : List Cell
  pub are : AreFoundAs delay late tape cells
  pub piece : IsPiece profile (gaps moments) cells cut

pub heard_piece : (profile : Profile) (delay : ℕ) (tape : List Cell) (cut : ℕ) (moments : List ℕ)
    → AreHeard profile delay tape cut moments → HeardPiece profile delay tape cut moments
heard_piece profile delay tape cut moments heard =
    let all : List ℕ = heard.before ++ (moments ++ heard.behind) in
    let within : ComeWithin delay (heard.before ++ (heard.heard ++ heard.behind)) all =
    within_both delay heard.before (heard.heard ++ heard.behind) heard.before (moments ++ heard.behind)
    (within_itself delay heard.before)
    (within_both delay heard.heard heard.behind moments heard.behind heard.within (within_itself delay heard.behind)) in
    let found = heard_whole profile delay heard.start tape all heard.steady
    (subst (λ (l : List ℕ). ComeWithin delay l all) (sym heard.are) within) in
    let front = gaps-front moments heard.behind in
    record {
      late = found.late;
      small = found.small;
      cells = found.cells;
      are = found.are;
      piece = record {
        chain = found.chain;
        part = (
          front.0,
          ap (λ (k : ℕ). drop k (flat found.cells)) (sym heard.place)
              ∙ ap (drop (length heard.before)) found.same
              ∙ gaps-drop heard.before (moments ++ heard.behind)
              ∙ front.1,
        );
      };
    }
