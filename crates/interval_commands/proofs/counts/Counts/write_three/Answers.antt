use Rattle.std.proofs.Common.{◌≤◌, ◌+◌, ◌*◌, ◌∙◌, ◌++◌, List, ℕ, subst, sym, ap, arith}
use Rattle.limits.specs.declared.recording.TheConstants.{MAX_INTERVALS}
use Rattle.direction_reader.specs.FirmStep.{firm_listed}
use Rattle.interval_commands.specs.declared.counts.Counts.{Counts}
use Rattle.interval_commands.specs.FirmReport.{firm_lines}
use Rattle.interval_commands.specs.KeptFirmReport.{all_told, counts_in}
use Rattle.interval_commands.proofs.FirmCounted.{all_told-append, one_at_most}
use Rattle.interval_commands.proofs.FirmLines.{lines_of_three}
use Rattle.interval_commands.proofs.counts.Counts.write_three.Goals as goal

-- there is room for the second
pub write_one-requires-2-clause-room : goal.write_one-requires-2-clause-room
write_one-requires-2-clause-room g c =
    subst (λ (r : Counts). counts_in r ≤ 4 * MAX_INTERVALS + 3) (sym c.write_one.ensures.counted)
    (omega (arith, one_at_most c.args.told.now.first c.args.self.now, c.requires.room))

-- and for the third
pub write_one-requires-3-clause-room : goal.write_one-requires-3-clause-room
write_one-requires-3-clause-room g c =
    let first = firm_listed c.args.told.now.first in
    let one = one_at_most c.args.told.now.first c.args.self.now in
    let two = one_at_most c.args.told.now.second (all_told first c.args.self.now) in
    subst (λ (r : Counts). counts_in r ≤ 4 * MAX_INTERVALS + 3) (sym c.write_one-2.ensures.counted)
    (subst (λ (r : Counts). counts_in (all_told (firm_listed c.args.told.now.second) r) ≤ 4 * MAX_INTERVALS + 3)
    (sym c.write_one.ensures.counted) (omega (arith, one, two, c.requires.room)))

-- all three
pub returns-clause-counted : goal.returns-clause-counted
returns-clause-counted g c =
    let told = c.args.told.now in
    let f = firm_listed told.first in
    let s = firm_listed told.second in
    let t = firm_listed told.third in
    c.write_one-3.ensures.counted
    ∙ ap (all_told t) (c.write_one-2.ensures.counted ∙ ap (all_told s) c.write_one.ensures.counted
    ∙ sym (all_told-append f s c.args.self.now)) ∙ sym (all_told-append (f ++ s) t c.args.self.now)

pub returns-clause-lines : goal.returns-clause-lines
returns-clause-lines g c =
    let header = c.args.header.now in
    let told = c.args.told.now in
    let f = firm_lines header (firm_listed told.first) in
    let s = firm_lines header (firm_listed told.second) in
    let t = firm_lines header (firm_listed told.third) in
    subst (λ (l : List ℕ). g.O.Output.given c.args.out.now c.write_one-3.new.out l) (sym (lines_of_three header told))
    (g.O.Output.given_more _ _ _ (f ++ s) t
    (g.O.Output.given_more _ _ _ f s c.write_one.ensures.line c.write_one-2.ensures.line) c.write_one-3.ensures.line)
