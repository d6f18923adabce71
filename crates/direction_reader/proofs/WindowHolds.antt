-- A window with one bit more holds the latest of the bits with one more at the end.
use Rattle.direction_reader.specs.Windows.{number_of}
use Rattle.std.proofs.Common.{◌≡◌, ◌<◌, ◌≤◌, ℕ, ◌+◌, ◌-◌, ◌*◌, ◌^◌, List, [], ◌∷◌, ◌++◌, length, drop, Bool, ap, arith}
use Rattle.std.proofs.Common.{sym, ◌∙◌}
use Rattle.std.proofs.Common.{length-append}
use Rattle.std.proofs.lemmas.List.{drop-append-le, drop-drop, length-drop}
use Rattle.direction_reader.specs.Bits.{FillingBits}
use Rattle.direction_reader.specs.HoldsBits.{HoldsAll, HoldsLatest}
use Rattle.direction_reader.specs.Window.{slid_by}
use Rattle.direction_reader.proofs.BitsShift.{slid-full, slid-filling}

-- 80 bits, the oldest of which goes
oldest_goes : (newest : List Bool) (bit : Bool) → length newest ≡ 80
    → slid_by (number_of newest) bit ≡ number_of (drop 1 newest ++ bit ∷ [])
oldest_goes [] bit count = absurd (omega arith)
oldest_goes (b ∷ bs) bit count = slid-full b bs bit (omega arith)

-- a full window
pub full_holds : (window : ℕ) (bits : List Bool) (bit : Bool) → HoldsLatest window bits
    → HoldsLatest (slid_by window bit) (bits ++ bit ∷ [])
full_holds window bits bit holds =
    let enough = holds.enough in
    let more = length-append bits (bit ∷ []) in
    let start = length bits - 80 in
    let eighty : length (drop start bits) ≡ 80 = omega (arith, length-drop start bits) in
    let place : length (bits ++ bit ∷ []) - 80 ≡ start + 1 = omega arith in
    let latest : drop (start + 1) (bits ++ bit ∷ []) ≡ drop 1 (drop start bits) ++ bit ∷ [] =
    drop-append-le (start + 1) bits (bit ∷ []) (omega arith)
    ∙ ap (λ bs. bs ++ bit ∷ []) (sym (drop-drop 1 start bits)) in
    record {
      enough = omega arith;
      value = rw place (ap (λ n. slid_by n bit) holds.value ∙ oldest_goes (drop start bits) bit eighty ∙ ap number_of
          (sym latest));
    }

-- the register of a window that is filling
filling_shifts : (window : FillingBits) (bits : List Bool) (bit : Bool) → HoldsAll window bits
    → slid_by window.bits bit ≡ number_of (bits ++ bit ∷ []) * 2 ^ (79 - length bits)
filling_shifts window bits bit holds =
    let fewer = holds.fewer in
    let room = 79 - length bits in
    let power : 80 - length bits ≡ room + 1 = omega arith in
    let value : window.bits ≡ number_of bits * 2 ^ (room + 1) = rw power at holds.value in
    ap (λ n. slid_by n bit) value ∙ slid-filling bits bit room (omega arith)

-- a window that is filling still
pub still_filling : (window : FillingBits) (bits : List Bool) (bit : Bool) → HoldsAll window bits
    → window.count + 1 < 80
    → HoldsAll (record { bits = slid_by window.bits bit; count = window.count + 1 }) (bits ++ bit ∷ [])
still_filling window bits bit holds less =
    let count = holds.count in
    let more = length-append bits (bit ∷ []) in
    let left : 80 - length (bits ++ bit ∷ []) ≡ 79 - length bits = omega arith in
    record { fewer = omega arith; count = omega arith; value = rw left (filling_shifts window bits bit holds) }

-- a window that is full with this bit
pub fills : (window : FillingBits) (bits : List Bool) (bit : Bool) → HoldsAll window bits → 80 ≤ window.count + 1
    → HoldsLatest (slid_by window.bits bit) (bits ++ bit ∷ [])
fills window bits bit holds full =
    let fewer = holds.fewer in
    let count = holds.count in
    let more = length-append bits (bit ∷ []) in
    let none : 79 - length bits ≡ 0 = omega arith in
    let all : length (bits ++ bit ∷ []) - 80 ≡ 0 = omega arith in
    let whole : slid_by window.bits bit ≡ number_of (bits ++ bit ∷ []) * 2 ^ 0 =
    rw none at (filling_shifts window bits bit holds) in
    record { enough = omega arith; value = rw all (whole ∙ (omega arith)) }
