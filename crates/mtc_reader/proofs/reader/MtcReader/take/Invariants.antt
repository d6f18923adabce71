use Rattle.std.proofs.Common.{length, take, ◌-◌, ◌≡◌, ◌≤◌, ◌+◌}
use Rattle.mtc_reader.proofs.PieceByPiece.{Passes}
use Rattle.mtc_reader.proofs.reader.MtcReader.take.Given as goal

-- the bytes so far were taken, and gave nothing
abbrev pub invariant-bytes : goal.invariant-bytes
invariant-bytes l = record {
  within : l.at ≤ length l.bytes;
  count : l.self.bytes ≡ l.fn.self.bytes + l.at;
  passes : Passes l.fn.self l.self (take l.at l.bytes);
}

abbrev pub decreases-bytes : goal.decreases-bytes
decreases-bytes l = length l.bytes - l.at
