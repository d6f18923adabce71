-- A tape that is heard: its transitions, and a sound with a margin for it. The rules are this project's own.
use Rattle.std.specs.Prelude.{◌≡◌, ℕ, ◌+◌, ◌*◌, ◌<◌, ◌≤◌, ℤ, List, [], ◌∷◌, ◌++◌, length}
use Rattle.std.specs.List.{AllByRecursion}
use Rattle.biphase.specs.declared.cell.Cell.{Cell}
use Rattle.limits.specs.declared.recording.TheConstants.{MAX_INTERVAL, MAX_INTERVALS}
use Rattle.biphase.specs.declared.profile.Profile.{Profile}
use Rattle.biphase.specs.Chain.{flat}
use Rattle.biphase.specs.Tolerance.{length_of}
use Rattle.pcm_front.specs.declared.threshold.Threshold.{Threshold}
use Rattle.tape_sound.specs.Late.{AreFoundAs, IsSteady}
use Rattle.tape_sound.specs.Margin.{ComeWithin, GoesOverAt, GoesOverToItsEnd, IsNoisy, StaysBetween}

-- the transitions behind one at a tick, where these are the intervals between them
abbrev pub transitions_after : ℕ → List ℕ → List ℕ
transitions_after tick [] = []
transitions_after tick (interval ∷ more) = (tick + interval) ∷ transitions_after (tick + interval) more

-- the transitions of a tape that begins at a tick: at its begin, at the end of each cell, and in the middle of each one
abbrev pub transitions : ℕ → List Cell → List ℕ
transitions tick tape = tick ∷ transitions_after tick (flat tape)

-- these moments are those of neighbouring transitions of a tape that runs steadily, each found within the delay. The
-- first of them is the transition in the place `cut`, counted from 0
pub record AreHeard (profile : Profile) (delay : ℕ) (tape : List Cell) (cut : ℕ) (moments : List ℕ) : Type 0 where
  pub start : ℕ
  pub steady : IsSteady profile delay tape
  pub before : List ℕ
  pub heard : List ℕ
  pub behind : List ℕ
  pub are : transitions start tape ≡ before ++ (heard ++ behind)
  pub place : length before ≡ cut
  pub within : ComeWithin delay heard moments

-- each interval of a tape lasts two delays or more, so that no transition is found behind the next one
abbrev pub LastTwoDelays : ℕ → List Cell → Type 0
LastTwoDelays delay tape = AllByRecursion (λ interval. 2 * delay ≤ interval) (flat tape)

-- these distances are the intervals of the cells of a tape as they are found
pub record AreFoundCells (delay : ℕ) (tape : List Cell) (distances : List ℕ) : Type 0 where
  pub first : ℕ
  pub small : first ≤ delay
  pub cells : List Cell
  pub are : AreFoundAs delay first tape cells
  pub same : distances ≡ flat cells

-- a sound has a margin for a tape: it is a clean sound and some noise, its threshold stays between two bounds with room
-- for the noise, and the clean sound goes over at each transition of the tape within the delay. The tape runs steadily
-- for this delay
pub record HasMargin (profile : Profile) (fineness : ℕ) (threshold : Threshold) (tape : List Cell) (sound : List ℤ)
    : Type 0 where
  pub delay : ℕ
  pub start : ℕ
  pub noise : ℕ → ℕ
  pub low : ℕ → ℤ
  pub high : ℕ → ℤ
  pub clean : List ℤ
  pub noisy : IsNoisy noise clean sound
  pub stays : StaysBetween low high noise threshold sound
  pub goes_over : GoesOverAt fineness low high delay (transitions start tape) clean
  pub steady : IsSteady profile delay tape

-- the same of a sound that ends while it goes over at the tape's last transition
pub record HasMarginToItsEnd (profile : Profile) (fineness : ℕ) (threshold : Threshold) (tape : List Cell)
    (sound : List ℤ) : Type 0 where
  pub delay : ℕ
  pub start : ℕ
  pub noise : ℕ → ℕ
  pub low : ℕ → ℤ
  pub high : ℕ → ℤ
  pub clean : List ℤ
  pub noisy : IsNoisy noise clean sound
  pub stays : StaysBetween low high noise threshold sound
  pub from : List ℕ
  pub last : ℕ
  pub are : transitions start tape ≡ from ++ last ∷ []
  pub goes_over : GoesOverToItsEnd fineness low high delay from last clean
  pub steady : IsSteady profile delay tape

-- the tape's intervals are none too long and none too many for a file, also where each is found late
pub record FitsAFile (delay : ℕ) (tape : List Cell) : Type 0 where
  pub short : AllByRecursion (λ interval. interval + delay ≤ MAX_INTERVAL) (flat tape)
  pub few : length (flat tape) ≤ MAX_INTERVALS

-- the length of the first cell of a tape
abbrev pub first_length : List Cell → ℕ
first_length [] = 0
first_length (cell ∷ tape) = length_of cell

-- the tape begins behind a silence that is longer than three of its first cell
abbrev pub BeginsLate : ℕ → ℕ → List Cell → Type 0
BeginsLate delay start tape = 3 * (first_length tape + delay) < start

-- such a silence is one interval more, and fits the file too
pub record FitsBehindASilence (delay start : ℕ) (tape : List Cell) : Type 0 where
  pub tape_fits : AllByRecursion (λ interval. interval + delay ≤ MAX_INTERVAL) (flat tape)
  pub silence_fits : start + delay ≤ MAX_INTERVAL
  pub few : length (flat tape) < MAX_INTERVALS
