use Rattle.std.proofs.Common.{arith, ◌∙◌}
use Rattle.signal_commands.proofs.LumaLines.{all_lines}
use Rattle.signal_commands.proofs.luma_lines.field_of.Goals as goal

pub returns : goal.returns
returns c =
    let within = c.lines.invariant.within in
    c.lines.invariant.items ∙ all_lines c.args.lines.now.items c.lines.index
    (omega (arith, within, c.lines-test.false, c.lines.auto.index-end))
