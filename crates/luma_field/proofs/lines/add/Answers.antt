use Rattle.std.proofs.Common.{rules, ◌≡◌, length}
use Rattle.luma_field.specs.Field.{line_of}
use Rattle.luma_field.proofs.FirstTwenty.{full_stays}
use Rattle.luma_field.proofs.lines.add.Goals as goal

pub returns-then-is_full : goal.returns-then-is_full
returns-then-is_full c =
    let items = c.args.lines.now.items in
    let full : length items ≡ 20 = search rules in
    full_stays items (line_of c.args.levels.now) full
