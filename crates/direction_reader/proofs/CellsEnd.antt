-- Each cell lasts a tick at least and twice the greatest interval at most, so the boundaries that are
-- kept say how long a window can be.
use Rattle.std.proofs.Common.{◌≡◌, ◌<◌, ◌≤◌, ℕ, ◌+◌, ◌-◌, ◌*◌, List, [], ◌∷◌, ◌++◌, length, drop, Bool, arith, refl}
use Rattle.std.proofs.Common.{true, false}
use Rattle.std.specs.Prelude.{slice_index, nat_lt}
use Rattle.std.proofs.Math.Decide.{dec_lt}
use Rattle.std.proofs.lemmas.Grind.{common_steps}
use Rattle.limits.specs.declared.recording.TheConstants.{MAX_INTERVAL}
use Rattle.direction_reader.specs.Tracking.{Tracking}
use Rattle.direction_reader.specs.Tracking.{Hunting, AtCell, MidCell}
use Rattle.direction_reader.specs.declared.state.Step.TheVariants.{Cell}
use Rattle.direction_reader.specs.Tracker.{Steps}
use Rattle.direction_reader.specs.LatestCells.{with_boundary}
use Rattle.direction_reader.specs.Invariants.{AreBoundariesTo, FitsTracker}
use Rattle.direction_reader.specs.Brings.{greatest_cell}

-- one boundary more
added : (end tick : ℕ) (bs : List ℕ) → AreBoundariesTo end bs → end < tick → tick ≤ end + greatest_cell
    → AreBoundariesTo tick (bs ++ tick ∷ [])
added end tick [] are later near = absurd are
added end tick (last ∷ []) are later near = (omega arith, omega arith, refl)
added end tick (b ∷ next ∷ rest) are later near = (are.0, are.1, added end tick (next ∷ rest) are.2 later near)

-- without the oldest
without_oldest : (tick : ℕ) (bs : List ℕ) → AreBoundariesTo tick bs → 1 < length bs → AreBoundariesTo tick (drop 1 bs)
without_oldest tick [] are more = absurd are
without_oldest tick (last ∷ []) are more = absurd (omega arith)
without_oldest tick (b ∷ next ∷ rest) are more = are.2

-- the boundaries that are kept, with one more
pub kept : (end tick : ℕ) (bs : List ℕ) → AreBoundariesTo end bs → end < tick → tick ≤ end + greatest_cell
    → AreBoundariesTo tick (with_boundary bs tick)
kept end tick bs are later near = elim (dec_lt (length bs) 81) [
  | yes room ↦ (let test : nat_lt (length bs) 81 ≡ true = grind (arith, common_steps) in
      rw test (added end tick bs are later near))
  | no full ↦ (let test : nat_lt (length bs) 81 ≡ false = grind (arith, common_steps) in
      let many : 1 < length bs = omega arith in
      rw test (added end tick (drop 1 bs) (without_oldest end bs are many) later near))
]

-- cells last a tick each at least
span-least : (tick : ℕ) (bs : List ℕ) → AreBoundariesTo tick bs → slice_index bs 0 + length bs ≤ tick + 1
span-least tick [] are = absurd are
span-least tick (last ∷ []) are = omega arith
span-least tick (b ∷ next ∷ rest) are = let more = span-least tick (next ∷ rest) are.2 in omega arith

-- and at most
span-most : (tick : ℕ) (bs : List ℕ) → AreBoundariesTo tick bs
    → tick + greatest_cell ≤ slice_index bs 0 + length bs * greatest_cell
span-most tick [] are = absurd are
span-most tick (last ∷ []) are = omega arith
span-most tick (b ∷ next ∷ rest) are = let more = span-most tick (next ∷ rest) are.2 in omega arith

-- the 80 cells of a full window
pub window_length : (tick : ℕ) (bs : List ℕ) → AreBoundariesTo tick bs → length bs ≡ 81
    → (slice_index bs 0 + 80 ≤ tick) × (tick ≤ slice_index bs 0 + 80 * greatest_cell)
window_length tick bs are full = let least = span-least tick bs are in let most = span-most tick bs are in
    (omega arith, omega arith)

-- a cell that ends is one boundary more
pub cell_ended : (old next : Tracking) (x tick : ℕ) (bit : Bool) (bs : List ℕ) → FitsTracker old tick bs → 1 ≤ x
    → x ≤ MAX_INTERVAL
    → Steps old x next (Cell bit) → AreBoundariesTo (tick + x) (with_boundary bs (tick + x))
cell_ended (Hunting h) next x tick bit bs fits least most steps = absurd steps
cell_ended (AtCell a) next x tick bit bs fits least most steps =
    kept tick (tick + x) bs fits (omega arith) (omega arith)
cell_ended (MidCell m) next x tick bit bs fits least most steps =
    kept (tick - m.half) (tick + x) bs fits.3 (omega arith) (omega arith)

-- and the state at its end fits these boundaries
pub fits_after : (old next : Tracking) (x tick : ℕ) (bit : Bool) (bs : List ℕ) → Steps old x next (Cell bit)
    → AreBoundariesTo tick bs → FitsTracker next tick bs
fits_after (Hunting h) next x tick bit bs steps are = absurd steps
fits_after (AtCell a) (Hunting n) x tick bit bs steps are = absurd steps.1
fits_after (AtCell a) (MidCell n) x tick bit bs steps are = absurd steps.1
fits_after (AtCell a) (AtCell n) x tick bit bs steps are = are
fits_after (MidCell m) (Hunting n) x tick bit bs steps are = absurd steps.1
fits_after (MidCell m) (MidCell n) x tick bit bs steps are = absurd steps.1
fits_after (MidCell m) (AtCell n) x tick bit bs steps are = are

-- what the reader keeps fits if a cell has ended
pub cell_fits : (old next : Tracking) (x tick now : ℕ) (bit : Bool) (bs new : List ℕ) → FitsTracker old tick bs → 1 ≤ x
    → x ≤ MAX_INTERVAL
    → Steps old x next (Cell bit) → now ≡ tick + x → new ≡ with_boundary bs now → FitsTracker next now new
cell_fits old next x tick now bit bs new fits least most steps is are =
    let ended = cell_ended old next x tick bit bs fits least most steps in
    rw (are, is) (fits_after old next x (tick + x) bit (with_boundary bs (tick + x)) steps ended)
