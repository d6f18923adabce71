-- The first grid that is fit, one after another.
use Rattle.std.proofs.Common.{◌≡◌, ℕ, zero, suc, ◌<◌, Bool, true, false, List, [], ◌∷◌, Some, length, get_or, drop}
use Rattle.std.proofs.Common.{ap, arith}
use Rattle.std.specs.Prelude.{if◌then◌else◌}
use Rattle.step_grid.specs.declared.grid.Grid.{Grid}
use Rattle.tc_address.specs.declared.system.System.{System}
use Rattle.tc_job.specs.PathGrid.{first_fit, is_fit}

-- it is the next one
pub first_here : (system : System) (rate : ℕ) (index : ℕ) (list : List Grid) (other : Grid) → index < length list
    → is_fit system rate (get_or list index other) ≡ true
    → first_fit system rate (drop index list) ≡ Some (get_or list index other)
unfolding first_fit
first_here system rate index [] other within fit = absurd (omega arith)
first_here system rate zero (grid ∷ more) other within fit =
    ap (λ (b : Bool). if b then Some grid else first_fit system rate more) fit
first_here system rate (suc index) (grid ∷ more) other within fit =
    first_here system rate index more other (omega arith) fit

-- or one after it
pub first_behind : (system : System) (rate : ℕ) (index : ℕ) (list : List Grid) (other : Grid) → index < length list
    → is_fit system rate (get_or list index other) ≡ false
    → first_fit system rate (drop index list) ≡ first_fit system rate (drop (suc index) list)
unfolding first_fit
first_behind system rate index [] other within fit = absurd (omega arith)
first_behind system rate zero (grid ∷ more) other within fit =
    ap (λ (b : Bool). if b then Some grid else first_fit system rate more) fit
first_behind system rate (suc index) (grid ∷ more) other within fit =
    first_behind system rate index more other (omega arith) fit
