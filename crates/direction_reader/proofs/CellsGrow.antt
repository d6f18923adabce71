-- What is kept of some cells becomes what is kept of one cell more.
use Rattle.std.proofs.Common.{◌≡◌, ◌<◌, ℕ, ◌+◌, ◌-◌, ◌*◌, ◌^◌, List, [], ◌∷◌, ◌++◌, length, drop, ap, sym, ◌∙◌, arith}
use Rattle.std.proofs.Common.{refl, subst}
use Rattle.std.proofs.Common.{length-append, append_assoc, zero, suc, true, false}
use Rattle.std.specs.Prelude.{nat_lt, slice_index}
use Rattle.std.proofs.lemmas.Grind.{common_steps}
use Rattle.std.proofs.lemmas.List.{map-append, length-map}
use Rattle.biphase.specs.declared.cell.Cell.{Cell}
use Rattle.biphase.specs.Tolerance.{length_of}
use Rattle.biphase.specs.Chain.{bit_of, bits}
use Rattle.tc_address.specs.declared.system.System.{System}
use Rattle.direction_reader.specs.declared.event.Events.{Events}
use Rattle.direction_reader.specs.declared.latest_bits.LatestBits.{LatestBits}
use Rattle.direction_reader.specs.declared.latest_bits.LatestBits.TheVariants as latest
use Rattle.direction_reader.specs.Bits.{FillingBits}
use Rattle.direction_reader.specs.Candidate.{AreEventsOf}
use Rattle.direction_reader.specs.LatestBits.{after_bit}
use Rattle.direction_reader.specs.LatestCells.{Cells, with_boundary, no_cells, AreWindowEvents}
use Rattle.direction_reader.specs.Windows.{CellWindow, number_of, window_at}
use Rattle.direction_reader.specs.ListEvents.{duration}
use Rattle.direction_reader.specs.StandsFor.{ticks, BitsStandFor, CellsStandFor}
use Rattle.direction_reader.specs.Window.{slid_by}
use Rattle.direction_reader.proofs.BitsShift.{slid-full, slid-filling}
use Rattle.direction_reader.proofs.WindowsGrow.{last_window}
use Rattle.direction_reader.specs.PlayedLemmas.{duration-append, duration-one, duration-cons}

-- one cell more
pub duration_more : (cells : List Cell) (cell : Cell) → duration (cells ++ cell ∷ []) ≡ duration cells + length_of cell
duration_more cells cell = duration-append cells (cell ∷ []) ∙ ap (λ n. duration cells + n) (duration-one cell)

-- one boundary more than cells
length-ticks : (tick : ℕ) (cells : List Cell) → length (ticks tick cells) ≡ length cells + 1
length-ticks tick [] = refl
length-ticks tick (cell ∷ cells) = let more = length-ticks (tick + length_of cell) cells in omega arith

-- the boundary at the end of one cell more
ticks-append : (tick end : ℕ) (cells : List Cell) (cell : Cell) → end ≡ tick + duration cells + length_of cell →
    ticks tick (cells ++ cell ∷ []) ≡ ticks tick cells ++ end ∷ []
ticks-append tick end [] cell is = let same : tick + length_of cell ≡ end = omega arith in rw same refl
ticks-append tick end (d ∷ cells) cell is =
    let cons = duration-cons d cells in
    ap (λ l. tick ∷ l) (ticks-append (tick + length_of d) end cells cell (omega arith))

-- the bits of one cell more
bits-append : (cells : List Cell) (cell : Cell) → bits (cells ++ cell ∷ []) ≡ bits cells ++ bit_of cell ∷ []
bits-append cells cell = map-append bit_of cells (cell ∷ [])

-- a boundary more if there are fewer than 81
boundary_more : (bs : List ℕ) (end : ℕ) → length bs < 81 → with_boundary bs end ≡ bs ++ end ∷ []
boundary_more bs end less = let test : nat_lt (length bs) 81 ≡ true = grind (arith, common_steps) in rw test refl

-- and in place of the oldest if there are 81
boundary_last : (b : ℕ) (bs : List ℕ) (end : ℕ) → length bs ≡ 80 → with_boundary (b ∷ bs) end ≡ bs ++ end ∷ []
boundary_last b bs end all =
    let test : nat_lt (length (b ∷ bs)) 81 ≡ false = grind (arith, common_steps) in
    let rest : drop 1 (b ∷ bs) ≡ bs = refl in
    rw (test, rest) refl

-- a window that is full
full_more : (n : ℕ) (bs : List ℕ) (kept : Cells) (tick end : ℕ) (older newest : List Cell) (cell : Cell)
    → BitsStandFor (latest.Full n) older newest → bs ≡ ticks (tick + duration older) newest
    → end ≡ tick + duration (older ++ newest) + length_of cell
    → kept.bits ≡ after_bit (latest.Full n) (bit_of cell) → kept.boundaries ≡ with_boundary bs end
    → CellsStandFor kept tick ((older ++ newest) ++ cell ∷ [])
full_more n bs kept tick end older [] cell is at ends is_bits is_boundaries = absurd (omega arith)
full_more n bs kept tick end older (first ∷ rest) cell is at ends is_bits is_boundaries =
    let eighty : length rest ≡ 79 = omega arith in
    let whole = duration-append older (first ∷ rest) in
    let cons = duration-cons first rest in
    let begins = duration-append older (first ∷ []) in
    let one = duration-one first in
    let begin : tick + duration (older ++ first ∷ []) ≡ tick + duration older + length_of first = omega arith in
    let shifted = slid-full (bit_of first) (bits rest) (bit_of cell) (length-map rest bit_of ∙ eighty) in
    record {
      older = older ++ first ∷ [];
      newest = rest ++ cell ∷ [];
      are = append_assoc older (first ∷ rest) (cell ∷ []) ∙ sym (append_assoc older (first ∷ []) (rest ++ cell ∷ []));
      bits_are = subst (λ (b : LatestBits). BitsStandFor b (older ++ first ∷ []) (rest ++ cell ∷ [])) (sym is_bits) (
        omega (arith, length-append rest (cell ∷ [])),
        ap (λ m. slid_by m (bit_of cell)) is.1 ∙ shifted ∙ ap number_of (sym (bits-append rest cell)),
      );
      boundaries_are = is_boundaries ∙ ap (λ l. with_boundary l end) at
          ∙ boundary_last (tick + duration older) (ticks (tick + duration older + length_of first) rest) end
          (omega (arith, length-ticks (tick + duration older + length_of first) rest))
          ∙ sym (rw begin (ticks-append (tick + duration older + length_of first) end rest cell (omega arith)));
    }

-- the bits of a window that is filling, or full with the eightieth
filled : (f : FillingBits) (newest : List Cell) (cell : Cell) (room : ℕ) → f.count ≡ length newest
    → length newest + room ≡ 79
    → slid_by f.bits (bit_of cell) ≡ number_of (bits (newest ++ cell ∷ [])) * 2 ^ room
    → BitsStandFor (after_bit (latest.Filling f) (bit_of cell)) [] (newest ++ cell ∷ [])
filled f newest cell zero count places shifted =
    let test : nat_lt (f.count + 1) 80 ≡ false = grind (arith, common_steps) in
    rw test (omega (arith, length-append newest (cell ∷ [])), shifted ∙ (omega arith))
filled f newest cell (suc room) count places shifted =
    let test : nat_lt (f.count + 1) 80 ≡ true = grind (arith, common_steps) in
    let more = length-append newest (cell ∷ []) in
    let same : suc room ≡ room + 1 = omega arith in
    rw test (
      refl,
      omega arith,
      (
        room,
        omega arith,
        shifted
            ∙ ap (λ n. number_of (bits (newest ++ cell ∷ [])) * 2 ^ n) same,
      ),
    )

-- a window that is filling
filling_more : (f : FillingBits) (bs : List ℕ) (kept : Cells) (tick end : ℕ) (older newest : List Cell) (cell : Cell)
    (room : ℕ)
    → older ≡ [] → f.count ≡ length newest → length newest + room ≡ 79
    → f.bits ≡ number_of (bits newest) * 2 ^ (room + 1)
    → bs ≡ ticks (tick + duration older) newest → end ≡ tick + duration (older ++ newest) + length_of cell
    → kept.bits ≡ after_bit (latest.Filling f) (bit_of cell) → kept.boundaries ≡ with_boundary bs end
    → CellsStandFor kept tick ((older ++ newest) ++ cell ∷ [])
filling_more f bs kept tick end older newest cell room none count places value at ends is_bits is_boundaries =
    let begin : tick + duration older ≡ tick = rw none (omega arith) in
    let nothing : tick + duration [] ≡ tick = omega arith in
    let all : older ++ newest ≡ newest = rw none refl in
    let long = length-ticks (tick + duration older) newest in
    let shifted : slid_by f.bits (bit_of cell) ≡ number_of (bits (newest ++ cell ∷ [])) * 2 ^ room =
    ap (λ m. slid_by m (bit_of cell)) value
    ∙ slid-filling (bits newest) (bit_of cell) room (ap (λ n. n + room) (length-map newest bit_of) ∙ places)
    ∙ ap (λ l. number_of l * 2 ^ room) (sym (bits-append newest cell)) in
    record {
      older = [];
      newest = newest ++ cell ∷ [];
      are = ap (λ l. l ++ cell ∷ []) all;
      bits_are = subst (λ (b : LatestBits). BitsStandFor b [] (newest ++ cell ∷ [])) (sym is_bits)
          (filled f newest cell room count places shifted);
      boundaries_are = is_boundaries ∙ ap (λ l. with_boundary l end) at
          ∙ boundary_more (ticks (tick + duration older) newest) end (omega arith)
          ∙ ap (λ t. ticks t newest ++ end ∷ []) begin
          ∙ sym (ticks-append tick end newest cell (omega (arith, ap duration all)))
          ∙ ap (λ t. ticks t (newest ++ cell ∷ [])) (sym nothing);
    }

-- one cell more
grown : (old : LatestBits) (bs : List ℕ) (kept : Cells) (tick end : ℕ) (older newest : List Cell) (cell : Cell)
    → BitsStandFor old older newest → bs ≡ ticks (tick + duration older) newest
    → end ≡ tick + duration (older ++ newest) + length_of cell
    → kept.bits ≡ after_bit old (bit_of cell) → kept.boundaries ≡ with_boundary bs end
    → CellsStandFor kept tick ((older ++ newest) ++ cell ∷ [])
grown (latest.Full n) bs kept tick end older newest cell is at ends is_bits is_boundaries =
    full_more n bs kept tick end older newest cell is at ends is_bits is_boundaries
grown (latest.Filling f) bs kept tick end older newest cell is at ends is_bits is_boundaries =
    filling_more f bs kept tick end older newest cell is.2.0 is.0 is.1 is.2.1 is.2.2 at ends is_bits is_boundaries

pub cell_more : (old kept : Cells) (tick end : ℕ) (cells : List Cell) (cell : Cell) → CellsStandFor old tick cells
    → end ≡ tick + duration cells + length_of cell
    → kept.bits ≡ after_bit old.bits (bit_of cell) → kept.boundaries ≡ with_boundary old.boundaries end
    → CellsStandFor kept tick (cells ++ cell ∷ [])
cell_more old kept tick end cells cell stands ends is_bits is_boundaries =
    let same = stands.are in
    let ends_too : end ≡ tick + duration (stands.older ++ stands.newest) + length_of cell =
    subst (λ l. end ≡ tick + duration l + length_of cell) same ends in
    subst (λ l. CellsStandFor kept tick (l ++ cell ∷ [])) (sym same)
    (grown old.bits old.boundaries kept tick end stands.older stands.newest cell stands.bits_are stands.boundaries_are
    ends_too is_bits is_boundaries)

-- no cell yet
pub none_yet : (tick : ℕ) → CellsStandFor (no_cells tick) tick []
none_yet tick =
    let nothing : tick ≡ tick + duration [] = omega arith in
    record {
      older = [];
      newest = [];
      are = refl;
      bits_are = (refl, refl, (79, refl, refl));
      boundaries_are = ap (λ t. t ∷ []) nothing;
    }

-- the oldest boundary
pub oldest : (tick : ℕ) (cells : List Cell) → slice_index (ticks tick cells) 0 ≡ tick
oldest tick [] = refl
oldest tick (cell ∷ cells) = refl

-- the events of what is kept are those of the last window
pub kept_events : (system : System) (kept : Cells) (n tick end : ℕ) (cells : List Cell) (events : Events)
    → CellsStandFor kept tick cells
    → kept.bits ≡ latest.Full n → end ≡ tick + duration cells
    → AreWindowEvents system kept.bits kept.boundaries end events
    → (79 < length cells) × (let w : CellWindow = window_at tick cells (length cells - 80) in
    AreEventsOf system w.bits w.end w.length events)
kept_events system kept n tick end cells events stands full ends are =
    let is = subst (λ (b : LatestBits). BitsStandFor b stands.older stands.newest) full stands.bits_are in
    let same = stands.are in
    let count : length cells ≡ length stands.older + 80 = ap length same ∙ length-append stands.older stands.newest
    ∙ ap (λ m. length stands.older + m) is.0 in
    let place : length cells - 80 ≡ length stands.older = omega arith in
    let window : window_at tick cells (length cells - 80)
    ≡ record {
      bits = number_of (bits stands.newest);
      end = tick + duration (stands.older ++ stands.newest);
      length =
          duration stands.newest;
    } =
    rw place (rw same (last_window tick stands.older stands.newest is.0)) in
    let of_full = subst (λ (b : LatestBits). AreWindowEvents system b kept.boundaries end events) full are in
    let first : slice_index kept.boundaries 0 ≡ tick + duration stands.older =
    ap (λ l. slice_index l 0) stands.boundaries_are ∙ oldest _ stands.newest in
    let whole = duration-append stands.older stands.newest in
    let long : end - slice_index kept.boundaries 0 ≡ duration stands.newest = omega (arith, ap duration same) in
    let ends_there : end ≡ tick + duration (stands.older ++ stands.newest) = omega (arith, ap duration same) in
    let by_bits = subst (λ m. AreEventsOf system m end (end - slice_index kept.boundaries 0) events) is.1 of_full in
    let by_length = subst (λ m. AreEventsOf system (number_of (bits stands.newest)) end m events) long by_bits in
    let by_end = subst (λ m. AreEventsOf system (number_of (bits stands.newest)) m
    (duration stands.newest) events) ends_there by_length in
    (omega arith, subst (λ (w : CellWindow). AreEventsOf system w.bits w.end w.length events) (sym window) by_end)
