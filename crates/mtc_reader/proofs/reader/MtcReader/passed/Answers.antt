use Rattle.std.proofs.Common.{◌+◌, ◌≤◌, length, subst, arith}
use Rattle.mtc_reader.proofs.PieceByPiece.{nothing_yet, passes_on, two_more, Passes}
use Rattle.mtc_reader.proofs.reader.MtcReader.passed.Goals as goal

pub bytes-init : goal.bytes-init
bytes-init c = record { within = omega arith; count = omega arith; passes = nothing_yet c.args.self.now }

-- a quarter frame more
pub bytes-preserved : goal.bytes-preserved
bytes-preserved c =
    let i = c.bytes.invariant in
    let at = c.bytes.at in
    let bytes = c.args.bytes.now in
    let e = c.pass.ensures in
    let took = c.if-not-pass.false in
    let within : at + 2 ≤ length bytes = omega (arith, i.within, c.bytes-test.true) in
    record {
      within = within;
      count = omega (arith, e.count took, i.count);
      passes = subst (λ bs. Passes c.args.self.now c.pass.new.self bs) (two_more at bytes within)
          (passes_on c.args.self.now c.bytes.self c.pass.new.self _ _ i.passes
          (λ front stands. (e.stands took front stands, e.none took front stands)));
    }
