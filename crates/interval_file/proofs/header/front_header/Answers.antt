use Rattle.std.proofs.Common.{◌∙◌, sym}
use Rattle.tc_io.specs.ByteLemmas.{are_bytes}
use Rattle.interval_file.proofs.HeaderFront.{a_fault, a_header}
use Rattle.interval_file.proofs.header.front_header.Goals as goal

-- a byte of the first eight may not stand
pub returns-in-Some : goal.returns-in-Some
returns-in-Some c = a_fault c.args.bytes.now c.in-Some.fault (sym c.first_wrong.ensures ∙ c.in-Some.is)

-- the header is whole
pub returns-in-Some-header_of : goal.returns-in-Some-header_of
returns-in-Some-header_of c =
    a_header c.args.bytes.now c.in-Some-header_of.header (are_bytes c.args.bytes.now c.type_inv.bytes) c.if-bytes.false
    (sym c.first_wrong.ensures ∙ c.in_default.is) (sym c.header_of.ensures ∙ c.in-Some-header_of.is)
