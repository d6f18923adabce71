use Rattle.std.proofs.Common.{◌≡◌, ◌++◌, map, drop}
use Rattle.made_commands.specs.About.{usage_lines}
use Rattle.made_commands.proofs.about.push_usages.Given as goal

-- what was written, and the lines that are left, are the whole
abbrev pub invariant-usages : goal.invariant-usages
invariant-usages l =
    l.room.items ++ usage_lines (map (λ row. (row.0.now, row.1.now)) (drop l.command-index l.usages))
    ≡ l.fn.room.items ++ usage_lines (map (λ row. (row.0.now, row.1.now)) l.fn.usages)
