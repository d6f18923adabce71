use Rattle.std.proofs.Common.{take, subst, ◌∙◌}
use Rattle.mtc_reader.specs.declared.reader.MtcReader.{MtcReader}
use Rattle.tc_c.specs.Write.{MtcGoes}
use Rattle.tc_c.proofs.mtc_reader_exports.tc_mtc_reader_read_.Goals as goal

-- the reader is the one that the handle has
pub returns-clause-goes : goal.returns-clause-goes
returns-clause-goes c =
    let used = take c.read_mtc.result.used c.args.bytes.now in
    let made = take c.read_mtc.result.made c.read_mtc.new.events in
    subst (λ (reader : MtcReader). MtcGoes reader c.read_mtc.new.reader used made)
    (c.behind-handle.view_is ∙ c.reader.ensures.value) c.read_mtc.ensures.goes
