-- An event is complete at the place of the byte that completes it.
use Rattle.std.proofs.Common.{◌≡◌, ℕ, ◌+◌, Bool, true, false, List, cond, if◌then◌else◌, Some, None, refl, ap}
use Rattle.std.specs.Prelude.{reverse, map}
use Rattle.std.specs.Str.{bytes_eq}
use Rattle.tc_address.specs.declared.direction.Direction.{Direction}
use Rattle.tc_address.specs.declared.direction.Direction.TheVariants.{Forward, Backward}
use Rattle.tc_address.specs.Label.{Address, is_label}
use Rattle.mtc_reader.specs.declared.event.MtcEvent.TheVariants.{Full, Quarter, RefusedFull, RefusedQuarter}
use Rattle.mtc_reader.specs.Events.{fault_of, full_event, piece_of, pieces, quarter_address, quarter_event}
use Rattle.mtc_reader.specs.Events.{window_event}
use Rattle.mtc_reader.specs.StandsFor.{place_of, IsCompleteWith}

full_by : (b : Bool) (a : Address) (place : ℕ)
    → place_of (cond b (Full a place) (RefusedFull (fault_of a) place)) ≡ place
full_by true a place = refl
full_by false a place = refl

-- that of a full message
pub full_place : (a : Address) (place : ℕ) → place_of (full_event a place) ≡ place
full_place a place = full_by (is_label a) a place

quarter_by : (b : Bool) (direction : Direction) (a : Address) (place : ℕ)
    → place_of (cond b (Quarter direction a place) (RefusedQuarter direction (fault_of a) place)) ≡ place
quarter_by true direction a place = refl
quarter_by false direction a place = refl

-- that of eight quarter frames
pub quarter_place : (direction : Direction) (a : Address) (place : ℕ)
    → place_of (quarter_event direction a place) ≡ place
quarter_place direction a place = quarter_by (is_label a) direction a place

window_by : (rises falls : Bool) (a b : Address) (place : ℕ) → IsCompleteWith (place + 1)
    (if rises then Some (quarter_event Forward a place) else if falls then Some (quarter_event Backward b place)
    else None)
window_by true falls a b place = ap (λ n. n + 1) (quarter_place Forward a place)
window_by false true a b place = ap (λ n. n + 1) (quarter_place Backward b place)
window_by false false a b place = tt

-- what the latest eight carry
pub window_place : (window : List ℕ) (place : ℕ) → IsCompleteWith (place + 1) (window_event window place)
window_place window place =
    window_by (bytes_eq (map piece_of window) pieces) (bytes_eq (map piece_of (reverse window)) pieces)
    (quarter_address window) (quarter_address (reverse window)) place
