-- Which words a flywheel has heard and which frames it has given, without keeping them.
use Rattle.std.specs.Prelude.{◌≡◌, ℕ, ◌+◌, ◌≤◌, ◌⊎◌, true, List, [], ◌∷◌, ◌++◌, map, Option, Some, None}
use Rattle.std.specs.List.{range_with_len}
use Rattle.flywheel.specs.declared.heard.HeardWord.{HeardWord}
use Rattle.flywheel.specs.declared.frame.Frame.{Frame}
use Rattle.flywheel.specs.declared.frame.Frame.TheVariants.{Gone}
use Rattle.flywheel.specs.Frames.{frames, invented_after, is_due, tick_after}
use Rattle.flywheel.specs.Wheel.{Wheel}

-- the first n frames after a word
abbrev pub first_invented : HeardWord → ℕ → List Frame
first_invented word n = map (invented_after word) (range_with_len 1 n)

-- the last word is the reference: the frames up to it were given, and this many of those after it, which were due
pub record HasGivenAfter (limit : ℕ) (word : HeardWord) (invented : ℕ) (words : List HeardWord) (tick : ℕ)
    (given : List Frame) : Type 0 where
  pub earlier : List HeardWord
  pub told : words ≡ earlier ++ word ∷ []
  pub given_are : given ≡ frames limit words word.tick ++ first_invented word invented
  pub least : 1 ≤ word.length
  pub within : invented ≤ limit
  pub before : word.tick ≤ tick
  pub due : (k : ℕ) → 1 ≤ k → k ≤ invented → is_due word k tick ≡ true

-- there is no reference, since more was due after the last word than the limit: all frames up to that end were given
pub record HasGivenUp (limit : ℕ) (words : List HeardWord) (tick : ℕ) (given : List Frame) : Type 0 where
  pub earlier : List HeardWord
  pub word : HeardWord
  pub told : words ≡ earlier ++ word ∷ []
  pub given_are : given ≡ frames limit words word.tick
      ++ (first_invented word limit ++ Gone (tick_after word (limit + 1)) ∷ [])
  pub least : 1 ≤ word.length
  pub due : is_due word (limit + 1) tick ≡ true

-- a flywheel with this reference, or with none, has given these frames of these words, up to a tick
abbrev pub HasGiven : ℕ → Option HeardWord → ℕ → List HeardWord → ℕ → List Frame → Type 0
HasGiven limit (Some word) invented words tick given = HasGivenAfter limit word invented words tick given
HasGiven limit None invented words tick given = ((words ≡ []) × (given ≡ [])) ⊎ HasGivenUp limit words tick given

-- a flywheel that was told these words, and no tick after `tick`, has given these frames
abbrev pub StandsFor : Wheel → List HeardWord → ℕ → List Frame → Type 0
StandsFor wheel words tick given = HasGiven wheel.limit wheel.reference wheel.invented words tick given

-- and these are all frames of the words up to the tick
abbrev pub HasGivenAll : Wheel → List HeardWord → ℕ → List Frame → Type 0
HasGivenAll wheel words tick given = StandsFor wheel words tick given × (frames wheel.limit words tick ≡ given)

-- what was given before a tick, with what the tick brought: where it brought nothing, all was given
abbrev pub StandsAfterTick : Wheel → List HeardWord → ℕ → List Frame → Option Frame → Type 0
StandsAfterTick wheel words tick given None = HasGivenAll wheel words tick given
StandsAfterTick wheel words tick given (Some frame) = StandsFor wheel words tick (given ++ frame ∷ [])
