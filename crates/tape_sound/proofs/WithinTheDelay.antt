-- Each crossing of a sound comes within the delay of its own moment, and there are no others: there is none up to the
-- place where the clean sound is on a side, and from there on they lie between its turns.
use Rattle.std.proofs.Common.{◌≡◌, ℕ, ◌+◌, ◌-◌, ◌≤◌, ℤ, List, [], ◌++◌, length, map, ap}
use Rattle.std.proofs.Common.{subst, sym, ◌∙◌, append-nil, arith}
use Rattle.pcm_front.specs.declared.threshold.Threshold.{Threshold}
use Rattle.pcm_front.specs.Crossing.{moment, moments}
use Rattle.tape_sound.specs.Margin.{moments_in, turns, ComeBehind, ComeWithin, GoesOverAt, IsNoisy}
use Rattle.tape_sound.specs.Margin.{StaysBetween}
use Rattle.tape_sound.proofs.BetweenTheBounds.{high_on, low_reached, part_within}
use Rattle.tape_sound.proofs.NoLater.{reach}
use Rattle.tape_sound.proofs.NoneBefore.{none_up_to}
use Rattle.tape_sound.proofs.ThreeParts.{parts}

module _ (f : ℕ) (noise : ℕ → ℕ) (low high : ℕ → ℤ) (delay : ℕ) (threshold : Threshold) (from : List ℕ)
    (clean sound : List ℤ) (some : 1 ≤ f) (noisy : IsNoisy noise clean sound)
    (stays : StaysBetween low high noise threshold sound)
    (at : GoesOverAt f low high delay from clean) where
  -- up to the place where the clean sound is on its side
  none : moments_in f threshold sound 0 (at.first + 1) ≡ []
  none =
      ap (map (moment f threshold sound))
      (none_up_to low high threshold clean sound (length sound)
      (λ i h side is. reach (low i) _
      (low_reached f noise low high threshold clean sound some 0 (length sound) (λ j g. noisy.near j) (λ j g. stays j) i
      (omega arith) h side is))
      at.side at.first (omega (arith, noisy.long, at.there))
      (high_on f noise low high threshold clean sound some 0 (length sound) (λ j g. noisy.near j) (λ j g. stays j)
      at.first
      (omega arith) (omega (arith, noisy.long, at.there)) at.side at.stands)
      at.before)

  abbrev count : ℕ
  count = length sound - (at.first + 1)

  -- from there on
  rest : ComeWithin delay from (moments_in f threshold sound (at.first + 1) count)
  rest =
      let same : length clean - (at.first + 1) ≡ count = omega (arith, noisy.long) in
      part_within f noise low high threshold clean sound some 0 (length sound) (λ j g. noisy.near j) (λ j g. stays j)
      delay
      from at.side at.first count (omega arith) (omega (arith, noisy.long, at.there)) at.stands
      (subst (λ (n : ℕ). ComeBehind (turns f low clean at.side (at.first + 1) n) from) same at.no_sooner)
      (subst (λ (n : ℕ). ComeWithin delay from (turns f high clean at.side (at.first + 1) n)) same at.within)

  pub goes_over_within : ComeWithin delay from (moments f threshold sound)
  goes_over_within =
      let left : length sound - ((at.first + 1) + count) ≡ 0 = omega (arith, noisy.long, at.there) in
      let own : List ℕ = moments_in f threshold sound (at.first + 1) count in
      let are : moments f threshold sound ≡ own =
      parts f threshold sound (at.first + 1) count (omega (arith, noisy.long, at.there))
      ∙ ap (λ (l : List ℕ). l ++ (own ++ moments_in f threshold sound ((at.first + 1) + count)
      (length sound - ((at.first + 1) + count)))) none
      ∙ ap (λ (n : ℕ). own ++ moments_in f threshold sound ((at.first + 1) + count) n) left
      ∙ append-nil own in
      subst (ComeWithin delay from) (sym are) rest
