use Rattle.std.proofs.Common.{arith}
use Rattle.direction_reader.specs.Bits.{FillingBits}
use Rattle.direction_reader.specs.HoldsBits.{HoldsAll}
use Rattle.direction_reader.proofs.WindowHolds.{still_filling, fills}
use Rattle.direction_reader.proofs.window.Filling.bit.Goals as goal

pub returns-then-count-lt-WINDOW_BITS-clause-holds : goal.returns-then-count-lt-WINDOW_BITS-clause-holds
returns-then-count-lt-WINDOW_BITS-clause-holds c = λ bits holds.
    let less = c.if-count-lt-WINDOW_BITS.true in
    let inside : FillingBits = record { bits = c.self.inside.bits; count = c.self.inside.count } in
    let all : HoldsAll inside bits = rw c.self.view_is holds in
    rw c.slid-bits.ensures.value (still_filling inside bits c.args.bit all (omega arith))

pub returns-else-count-lt-WINDOW_BITS-clause-holds : goal.returns-else-count-lt-WINDOW_BITS-clause-holds
returns-else-count-lt-WINDOW_BITS-clause-holds c = λ bits holds.
    let full = c.if-count-lt-WINDOW_BITS.false in
    let inside : FillingBits = record { bits = c.self.inside.bits; count = c.self.inside.count } in
    let all : HoldsAll inside bits = rw c.self.view_is holds in
    rw c.slid-bits.ensures.value (fills inside bits c.args.bit all (omega arith))
