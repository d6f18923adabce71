use Rattle.std.proofs.Common.{sym, ◌∙◌}
use Rattle.mtc_reader.specs.StandsFor.{eight_in}
use Rattle.mtc_reader.proofs.PackedRow.{no_ends}
use Rattle.mtc_reader.proofs.row.Row.event.Goals as goal

-- their ends are none that carry an address
pub returns-else-may_carry : goal.returns-else-may_carry
returns-else-may_carry c =
    sym (no_ends (eight_in c.args.self.now.latest) c.args.place (sym c.may_carry.ensures ∙ c.if-may_carry.false))
