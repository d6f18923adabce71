-- The moments of some samples stay if samples follow, and the later ones come behind them; so do their distances.
use Rattle.std.proofs.Common.{◌≡◌, ℕ, cond, ℤ, List, [], ◌∷◌, ◌++◌, length, ap, sym, ◌∙◌, append_assoc}
use Rattle.std.proofs.Common.{append-nil}
use Rattle.pcm_front.specs.DistanceLemmas.{gaps_after-front, gaps-front}
use Rattle.pcm_front.specs.declared.start.Start.{Start}
use Rattle.pcm_front.specs.declared.start.Start.TheVariants.{Crossing, Tick}
use Rattle.pcm_front.specs.declared.threshold.Threshold.{Threshold}
use Rattle.pcm_front.specs.Crossing.{is_crossing, moment, moments}
use Rattle.pcm_front.specs.Distance.{gaps, gaps_after, distances_since}
use Rattle.pcm_front.proofs.OneMore.{moments-more}

moments-stay : (f : ℕ) (threshold : Threshold) (xs more : List ℤ) →
    (rest : List ℕ) × (moments f threshold (xs ++ more) ≡ moments f threshold xs ++ rest)
moments-stay f threshold xs [] =
    ([], ap (moments f threshold) (append-nil xs) ∙ sym (append-nil (moments f threshold xs)))
moments-stay f threshold xs (s ∷ more) =
    let front : List ℤ = xs ++ s ∷ [] in
    let new : List ℕ = cond (is_crossing threshold front (length xs)) (moment f threshold front (length xs) ∷ []) [] in
    let later = moments-stay f threshold front more in (
      new ++ later.0,
      ap (moments f threshold) (sym (append_assoc xs (s ∷ []) more))
          ∙ later.1
          ∙ ap (λ ms. ms ++ later.0) (moments-more f threshold xs s)
          ∙ append_assoc (moments f threshold xs) new later.0,
    )

-- the distances, if the first one begins there
pub distances-stay : (start : Start) (f : ℕ) (threshold : Threshold) (xs more : List ℤ) →
    (rest : List ℕ) × (distances_since start f threshold (xs ++ more) ≡ distances_since start f threshold xs ++ rest)
distances-stay Crossing f threshold xs more =
    let later = moments-stay f threshold xs more in
    let ds = gaps-front (moments f threshold xs) later.0 in
    (ds.0, ap gaps later.1 ∙ ds.1)
distances-stay Tick f threshold xs more =
    let later = moments-stay f threshold xs more in
    let ds = gaps_after-front 0 (moments f threshold xs) later.0 in
    (ds.0, ap (gaps_after 0) later.1 ∙ ds.1)
