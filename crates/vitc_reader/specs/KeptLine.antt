-- What one run more brings to the runs so far of a line. No promise speaks of it.
use Rattle.std.specs.Prelude.{◌≡◌, ℕ, ◌+◌, ◌-◌, ◌*◌, ◌/◌, ◌^◌, ◌<◌, ◌≤◌}
use Rattle.vitc_reader.specs.declared.fault.RunFault.{RunFault}
use Rattle.vitc_reader.specs.declared.fault.RunFault.TheVariants.{Run, TooLong}
use Rattle.vitc_reader.specs.declared.reading.Turned.{Turned}
use Rattle.vitc_reader.specs.Runs.{IsCells}

-- what a number is multiplied with in place of a division by four times the length of a line: the quotient is the
-- product by 2 ^ 64
abbrev pub factor_on : ℕ → ℕ
factor_on n = (2 ^ 43 / (4 * n) + 1) * 2 ^ 21

-- the run has its cells, there is room for them, and the bits before it turn
abbrev pub IsTurnedBy : ℕ → Turned → ℕ → Turned → Type 0
IsTurnedBy n line run next =
    (more : ℕ) × IsCells n run more × (next.cells ≡ line.cells + more) × (next.cells ≤ 90)
    × (next.bits ≡ 2 ^ next.cells - 1 - line.bits)

-- the run at this place has no number of cells, or there is no room for them
abbrev pub IsRefusedAt : ℕ → Turned → ℕ → ℕ → RunFault → Type 0
IsRefusedAt n line run place (Run i) = (i ≡ place) × ((k : ℕ) → ¬ IsCells n run k)
IsRefusedAt n line run place (TooLong i) = (i ≡ place) × (k : ℕ) × IsCells n run k × (90 < line.cells + k)
