-- One cell more makes one window more, and decides of one window alone whether it has its witness: the one that ended
-- sixteen cells before. So what was given stays.
use Rattle.std.proofs.Common.{◌≡◌, ◌<◌, ◌≤◌, ℕ, ◌+◌, ◌-◌, Bool, true, List, [], ◌∷◌, ◌++◌, length}
use Rattle.std.proofs.Common.{take, drop, map}
use Rattle.std.proofs.Common.{ap, ap₂, ◌∙◌, arith, refl, inl, inr}
use Rattle.std.specs.Prelude.{nat_lt}
use Rattle.std.proofs.lemmas.Bool.{cases_lt}
use Rattle.std.proofs.lemmas.Grind.{common_steps}
use Rattle.std.proofs.lemmas.List.{take-append-le, drop-append-le, length-drop}
use Rattle.biphase.specs.declared.cell.Cell.{Cell}
use Rattle.tc_address.specs.declared.direction.Direction.{Direction}
use Rattle.tc_address.specs.declared.direction.Direction.TheVariants.{Forward, Backward}
use Rattle.tc_address.specs.declared.system.System.{System}
use Rattle.direction_reader.specs.declared.event.Event.{Event}
use Rattle.direction_reader.specs.Firm.{is_firm, judged, candidate_at, firm_candidate_at}

-- ---- a window that was there

pub taken_stays : (n k : ℕ) (cells more : List Cell) → k + n ≤ length cells
    → take n (drop k (cells ++ more)) ≡ take n (drop k cells)
taken_stays n k cells more within =
    ap (λ (l : List Cell). take n l) (drop-append-le k cells more (omega arith))
    ∙ take-append-le n (drop k cells) more (omega (arith, length-drop k cells))

pub candidate_stays : (system : System) (tick : ℕ) (cells more : List Cell) (k : ℕ) (d : Direction)
    → k + 80 ≤ length cells
    → candidate_at system tick (cells ++ more) k d ≡ candidate_at system tick cells k d
candidate_stays system tick cells more k Forward within =
    let same = taken_stays 80 k cells more within in
    let front : take (k + 80) (cells ++ more) ≡ take (k + 80) cells = take-append-le (k + 80) cells more within in
    rw (same, front) refl
candidate_stays system tick cells more k Backward within =
    let same = taken_stays 80 k cells more within in
    let front : take (k + 80) (cells ++ more) ≡ take (k + 80) cells = take-append-le (k + 80) cells more within in
    rw (same, front) refl

-- the 16 cells before it
forward_firm_stays : (cells more : List Cell) (k : ℕ) → k + 80 ≤ length cells
    → is_firm Forward (cells ++ more) k ≡ is_firm Forward cells k
forward_firm_stays cells more k within =
    elim (cases_lt k 16) [
      | inl few ↦ (let test : nat_lt k 16 ≡ true = grind (arith, common_steps) in rw test refl)
      | inr many ↦ (let same = taken_stays 16 (k - 16) cells more (omega arith) in rw same refl)
    ]

pub forward_stays : (system : System) (tick : ℕ) (cells more : List Cell) (k : ℕ) → k + 80 ≤ length cells
    → firm_candidate_at system tick (cells ++ more) k Forward ≡ firm_candidate_at system tick cells k Forward
forward_stays system tick cells more k within =
    ap₂ (λ (b : Bool) (es : List Event). map (judged b) es) (forward_firm_stays cells more k within)
    (candidate_stays system tick cells more k Forward within)

-- its sixteen cells behind it are not there yet
pub not_yet : (cells : List Cell) (k : ℕ) → length cells < k + 96 → is_firm Backward cells k ≡ true
not_yet cells k few =
    let test : nat_lt (length cells) (k + 96) ≡ true = grind (arith, common_steps) in rw test refl
