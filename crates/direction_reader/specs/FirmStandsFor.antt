-- What a word that waits for its witness says of the cells so far: what was told and what waits are together their
-- events.
use Rattle.std.specs.Prelude.{◌≡◌, ℕ, ◌+◌, ◌<◌, ◌≤◌, ◌⊎◌, List, [], ◌∷◌, ◌++◌, length, take, drop, map}
use Rattle.std.specs.Prelude.{Option, Some, None, Bool, true}
use Rattle.biphase.specs.declared.cell.Cell.{Cell}
use Rattle.ltc_word.specs.Reversal.{EndsInSync}
use Rattle.tc_address.specs.declared.direction.Direction.TheVariants.{Backward}
use Rattle.tc_address.specs.declared.system.System.{System}
use Rattle.direction_reader.specs.declared.firm_event.FirmEvent.{FirmEvent}
use Rattle.direction_reader.specs.declared.waiting.Waiting.{Waiting}
use Rattle.direction_reader.specs.Beside.{BesideBits, beside_with}
use Rattle.direction_reader.specs.Events.{is_word}
use Rattle.direction_reader.specs.Firm.{candidate_at}
use Rattle.direction_reader.specs.FirmKnown.{Sight, Beside, all_sure, known, sights_of}
use Rattle.direction_reader.specs.FirmStep.{firm_listed}
use Rattle.direction_reader.specs.ListEvents.{bits_in}

-- the register that was given these bits, one after another
abbrev pub beside_of : BesideBits → List Bool → BesideBits
beside_of b [] = b
beside_of b (bit ∷ more) = beside_of (beside_with b bit) more

-- a word waits that is that of the window from a place on, so many cells before the end as it has waited; all that
-- comes behind it is known, and the candidate behind it is one of a later window
pub record OneWaits (w : Waiting) (system : System) (tick : ℕ) (cells : List Cell) (front : List Sight) : Type 0 where
  pub place : ℕ
  pub age : place + 80 + w.age ≡ length cells
  pub young : w.age < 16
  pub word : candidate_at system tick cells place Backward ≡ w.word ∷ []
  pub is : is_word w.word ≡ true
  pub rest : List Sight
  pub are : sights_of system tick cells ≡ front ++ Beside w.word (drop (place + 80) cells) ∷ rest
  pub sure : map (known true) rest ≡ all_sure (firm_listed w.behind)
  pub behind : (firm_listed w.behind ≡ []) ⊎ ((j : ℕ) × (place < j) × (j + 80 ≤ length cells)
      × EndsInSync (bits_in (take 80 (drop j cells))))

-- these are the candidates of cells before a word that waits, if one does
abbrev pub AreBefore : Option Waiting → System → ℕ → List Cell → List Sight → Type 0
AreBefore None system tick cells front = sights_of system tick cells ≡ front
AreBefore (Some w) system tick cells front = OneWaits w system tick cells front

-- what has been told is known of the candidates before what waits
pub record WaitsFor (waits : Option Waiting) (system : System) (tick : ℕ) (cells : List Cell) (told : List FirmEvent)
    : Type 0 where
  pub front : List Sight
  pub sure : map (known true) front ≡ all_sure told
  pub before : AreBefore waits system tick cells front
