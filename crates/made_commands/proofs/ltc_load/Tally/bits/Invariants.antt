use Rattle.std.proofs.Common.{◌≡◌, ◌≤◌, ◌+◌, ◌*◌, ◌-◌, ◌++◌, List, ℕ}
use Rattle.biphase.specs.Chain.{flat}
use Rattle.direction_reader.specs.Played.{low_bits}
use Rattle.made_commands.specs.KeptLoad.{FitsTally, HasRead}
use Rattle.made_commands.specs.Load.{IsChance, behind, cells_by}
use Rattle.made_commands.proofs.ltc_load.Tally.bits.Given as goal

-- what was read and the cells of the bits that are left are the whole
abbrev pub invariant-cells : goal.invariant-cells
invariant-cells l = record {
  chance : IsChance l.chance;
  next : behind l.chance (low_bits (80 - l._done) l.rest) ≡ behind l.fn.chance (low_bits 80 l.fn.bits);
  fits : FitsTally l.self;
  count : l.self.reader.intervals ≤ l.fn.self.reader.intervals + 2 * l._done;
  reads : (intervals : List ℕ) → HasRead l.fn.self intervals → (fed : List ℕ) × HasRead l.self fed
      × (fed ++ flat (cells_by l.chance (low_bits (80 - l._done) l.rest)) ≡ intervals
      ++ flat (cells_by l.fn.chance (low_bits 80 l.fn.bits)));
}
