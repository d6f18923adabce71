use Rattle.std.proofs.Common.{◌≤◌, ◌+◌, ◌*◌, ◌∙◌, List, ℕ, subst, sym, ap, arith}
use Rattle.limits.specs.declared.recording.TheConstants.{MAX_INTERVALS}
use Rattle.direction_reader.specs.FirmStep.{firm_list, firm_listed}
use Rattle.interval_commands.specs.declared.counts.Counts.{Counts}
use Rattle.interval_commands.specs.FirmReport.{firm_lines}
use Rattle.interval_commands.specs.KeptFirmReport.{all_told, counts_in}
use Rattle.interval_commands.proofs.FirmCounted.{all_told-append, one_at_most}
use Rattle.interval_commands.proofs.FirmLines.{lines_of_held}
use Rattle.interval_commands.proofs.counts.Counts.write.Goals as goal

-- there is room for what comes behind a word that was held
pub write_three-requires-clause-room : goal.write_three-requires-clause-room
write_three-requires-clause-room g c =
    subst (λ (r : Counts). counts_in r ≤ 4 * MAX_INTERVALS + 1) (sym c.write_one.ensures.counted)
    (omega (arith, one_at_most c.args.told.now.held c.args.self.now, c.requires.room))

-- it, and the others
pub returns-clause-counted : goal.returns-clause-counted
returns-clause-counted g c =
    let told = c.args.told.now in
    c.write_three.ensures.counted ∙ ap (all_told (firm_list told.events)) c.write_one.ensures.counted
    ∙ sym (all_told-append (firm_listed told.held) (firm_list told.events) c.args.self.now)

pub returns-clause-lines : goal.returns-clause-lines
returns-clause-lines g c =
    let header = c.args.header.now in
    let told = c.args.told.now in
    subst (λ (l : List ℕ). g.O.Output.given c.args.out.now c.write_three.new.out l) (sym (lines_of_held header told))
    (g.O.Output.given_more _ _ _ (firm_lines header (firm_listed told.held)) (firm_lines header (firm_list told.events))
    c.write_one.ensures.line c.write_three.ensures.lines)
