-- What a flywheel with its clock keeps, and which words it stands for, with the frames that it has given of them.
use Rattle.std.specs.Prelude.{ℕ, ◌≤◌, ◌<◌, ◌^◌, List, Option, IfSome}
use Rattle.flywheel.specs.declared.frame.Frame.{Frame}
use Rattle.flywheel.specs.declared.heard.HeardWord.{HeardWord}
use Rattle.flywheel.specs.StandsFor as flywheel
use Rattle.flywheel.specs.Wheel.{Wheel}

-- the flywheel, and the latest tick that it was told
pub record WheelState : Type 0 where
  pub wheel : Wheel
  pub tick : ℕ

-- the last word was not heard after the latest tick
pub record IsKept (s : WheelState) : Type 0 where
  pub below : s.tick < 2 ^ 60
  pub before : IfSome s.wheel.reference (λ word. word.tick ≤ s.tick)

-- a tick may be told next
pub record MayTell (s : WheelState) (tick : ℕ) : Type 0 where
  pub later : s.tick ≤ tick
  pub below : tick < 2 ^ 60

-- it has heard these words, and has given these frames of them, up to the latest tick
abbrev pub StandsFor : WheelState → List HeardWord → List Frame → Type 0
StandsFor s words given = flywheel.StandsFor s.wheel words s.tick given

-- and these are all frames of the words up to that tick
abbrev pub HasGivenAll : WheelState → List HeardWord → List Frame → Type 0
HasGivenAll s words given = flywheel.HasGivenAll s.wheel words s.tick given

-- what was given before a tick, with what the tick brought: where it brought nothing, all was given
abbrev pub StandsAfter : WheelState → List HeardWord → List Frame → Option Frame → Type 0
StandsAfter s words given result = flywheel.StandsAfterTick s.wheel words s.tick given result
