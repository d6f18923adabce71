use Rattle.std.proofs.Common.{List, ℕ, take, subst}
use Rattle.tc_c.specs.Write.{MtcGoes}
use Rattle.tc_c.proofs.BytesOn.{front_of_front}
use Rattle.tc_c.proofs.mtc_read.read_mtc.Goals as goal

-- what was taken of the bytes that may be taken is taken of all
pub returns-clause-goes : goal.returns-clause-goes
returns-clause-goes c =
    let used = c.read_on-used.result.0 in
    let reader = c.read_on-used.new.reader in
    subst
    (λ (l : List ℕ). MtcGoes c.args.reader.now reader l (take c.read_on-used.result.1 c.read_on-used.new.events))
    (front_of_front used c.if-bytes-room.most c.args.bytes.now c.read_on-used.ensures.used) c.read_on-used.ensures.goes
