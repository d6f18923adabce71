use Rattle.std.proofs.Common.{◌≡◌, ◌-◌, ◌*◌, ◌≤◌, ◌++◌, Bool, List, take, drop}
use Rattle.direction_reader.specs.Played.{low_bits}
use Rattle.code_maker.specs.Bits.{ticks_of}
use Rattle.code_maker.proofs.bits.put_bits.Given as goal

-- what was written and the cells of the bits that are left are the whole
abbrev pub invariant-cells : goal.invariant-cells
invariant-cells l = record {
  most : l.made ≤ 2 * l._done;
  cells : (more : List Bool) → take l.made l.ticks ++ ticks_of l.shaper (low_bits (l.count - l._done) l.rest ++ more)
      ≡ ticks_of l.fn.shaper (low_bits l.fn.count l.fn.bits ++ more);
  rest : drop l.made l.ticks ≡ drop l.made l.fn.ticks;
}
