use Rattle.std.proofs.Common.{◌≡◌, ◌++◌, map, drop}
use Rattle.made_commands.specs.Pages.{page_lines, row_of}
use Rattle.made_commands.proofs.pages.push_lines.Given as goal

-- what was written, and the lines that are left, are the whole
abbrev pub invariant-rows : goal.invariant-rows
invariant-rows l =
    l.room.items
    ++ page_lines l.topic (map (λ row. row_of row.0.now row.1.0.now row.1.1.now row.1.2.now) (drop l.told-index l.rows))
    ≡ l.fn.room.items
    ++ page_lines l.topic (map (λ row. row_of row.0.now row.1.0.now row.1.1.now row.1.2.now) l.fn.rows)
