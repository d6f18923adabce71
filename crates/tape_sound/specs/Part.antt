-- A part of a sound, between damage. The rules are this project's own.
use Rattle.std.specs.Prelude.{◌≡◌, ℕ, ◌+◌, ◌<◌, ◌≤◌, ℤ, List, ◌++◌, length, true}
use Rattle.biphase.specs.declared.cell.Cell.{Cell}
use Rattle.biphase.specs.declared.profile.Profile.{Profile}
use Rattle.biphase.specs.declared.profile.Profile.TheVariants.{Rough}
use Rattle.biphase.specs.Chain.{bits}
use Rattle.cell_tracker.specs.ChainPiece.{cells_from, IsPiece}
use Rattle.cell_tracker.specs.EvenRun.{IsEvenRun}
use Rattle.cell_tracker.specs.FoundAgain.{IsSecondLock}
use Rattle.cell_tracker.specs.Lock.{IsLock}
use Rattle.direction_reader.specs.declared.event.Event.{Event}
use Rattle.direction_reader.specs.Tape.{TellFrom}
use Rattle.pcm_front.specs.declared.side.Side.{Side}
use Rattle.pcm_front.specs.declared.threshold.Threshold.{Threshold}
use Rattle.pcm_front.specs.Crossing.{apart}
use Rattle.pcm_front.specs.Distance.{distances, gaps}
use Rattle.pcm_front.specs.Level.{threshold_at}
use Rattle.pcm_front.specs.Side.{sample_at}
use Rattle.tc_address.specs.declared.system.System.{System}
use Rattle.tape_sound.specs.EvenTape.{IsEvenRunFor}
use Rattle.tape_sound.specs.Heard.{transitions}
use Rattle.tape_sound.specs.Late.{IsSteady}
use Rattle.tape_sound.specs.Margin.{moments_in, noise_in_step, reaches, turns, ComeBehind, ComeWithin, HasRoom}

-- a part of a sound has a margin for a part of a tape. From a place on, at which the clean sound stands on a side at
-- the high bound, this many samples are those of the clean sound and some noise, and in them it goes over at each of
-- these neighbouring transitions of the tape. What comes before and behind may be anything
pub record PartHasMargin (profile : Profile) (fineness : ℕ) (threshold : Threshold) (tape : List Cell) (cut : ℕ)
    (sound : List ℤ) (first count : ℕ) : Type 0 where
  -- the tape, and the transitions of the part
  pub delay : ℕ
  pub start : ℕ
  pub before : List ℕ
  pub heard : List ℕ
  pub behind : List ℕ
  pub are : transitions start tape ≡ before ++ (heard ++ behind)
  pub place : length before ≡ cut
  pub steady : IsSteady profile delay tape
  -- the sound, and the bounds of its threshold
  pub noise : ℕ → ℕ
  pub low : ℕ → ℤ
  pub high : ℕ → ℤ
  pub clean : List ℤ
  pub room : (first + 1) + count ≤ length sound
  pub near : (place : ℕ) → first ≤ place → place < (first + 1) + count
      → apart (sample_at sound place) (sample_at clean place) ≤ noise place
  pub stays : (place : ℕ) → first ≤ place → place < (first + 1) + count
      → HasRoom (low place) (high place) (noise_in_step noise place) (threshold_at threshold sound place)
  -- how the clean sound goes over
  pub side : Side
  pub stands : reaches (high first) side (sample_at clean first) ≡ true
  pub no_sooner : ComeBehind (turns fineness low clean side (first + 1) count) heard
  pub within : ComeWithin delay heard (turns fineness high clean side (first + 1) count)

-- the events of a sound find this part of the tape: from the second unequal pair of its distances to their end they are
-- those of cells with the tape's bits there, and nothing else
pub record FindThePart (system : System) (profile : Profile) (fineness : ℕ) (threshold : Threshold) (tape : List Cell)
    (cut : ℕ) (sound : List ℤ) (first count : ℕ) (events : List Event) : Type 0 where
  pub before : List ℕ
  pub kept : List ℕ
  pub behind : List ℕ
  pub kept_are : kept ≡ gaps (moments_in fineness threshold sound (first + 1) count)
  pub are : distances fineness threshold sound ≡ before ++ kept ++ behind
  pub tell : (second : ℕ) → IsSecondLock profile kept second → (cells : List Cell)
      × (bits cells ≡ bits (cells_from tape cut kept second))
      × TellFrom system (before ++ kept) (length before + second) cells events

-- the events of a sound find this part of the tape under the rough tolerance, behind even ones. Its distances are a
-- piece of cells with the tape's bits, which have a run of even ones if the tape has one with room for the delay.
-- From the next unequal pair behind such a run and its zero to their end the events are those of these cells, and
-- nothing else
pub record FindThePartBehindOnes (system : System) (delay fineness : ℕ) (threshold : Threshold) (tape : List Cell)
    (cut : ℕ) (sound : List ℤ) (first count : ℕ) (events : List Event) : Type 0 where
  pub before : List ℕ
  pub kept : List ℕ
  pub behind : List ℕ
  pub kept_are : kept ≡ gaps (moments_in fineness threshold sound (first + 1) count)
  pub are : distances fineness threshold sound ≡ before ++ kept ++ behind
  pub cells : List Cell
  pub bits_are : bits cells ≡ bits tape
  pub piece : IsPiece Rough kept cells cut
  pub even : (end : ℕ) → IsEvenRunFor delay kept tape cut end → IsEvenRun kept cells cut end
  pub tell : (end second : ℕ) → IsEvenRun kept cells cut end → IsLock Rough kept end second
      → TellFrom system (before ++ kept) (length before + second) (cells_from cells cut kept second) events
