use Rattle.std.proofs.Common.{◌++◌, List, ℕ, take, ap, sym, ◌∙◌, arith}
use Rattle.std.proofs.lemmas.List.{length-take-le}
use Rattle.line_file.specs.Grammar.{line_bytes}
use Rattle.signal_commands.proofs.LumaLines.{line_of_runs}
use Rattle.signal_commands.proofs.luma_lines.add_line.Goals as goal

pub returns-clause-items : goal.returns-clause-items
returns-clause-items c =
    let number = c.runs_of-number.result in
    let runs = take number c.runs_of-number.new.runs in
    let old = c.args.field.now.items in
    let room = c.runs_of-number.array_long in
    let long = length-take-le number c.runs_of-number.new.runs (omega (arith, c.runs_of-number.ensures.number, room)) in
    line_of_runs c.add_runs.new.field.items c.push.new.self.items old number runs c.add_runs.ensures.items
    c.push.ensures.items (sym long)
    ∙ ap (λ (rs : List ℕ). old ++ line_bytes rs) c.runs_of-number.ensures.exact
