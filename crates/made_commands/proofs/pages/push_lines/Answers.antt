use Rattle.std.proofs.Common.{ℕ, List, [], Bor, length, drop, map, ap, arith}
use Rattle.std.proofs.lemmas.List.{length-append}
use Rattle.made_commands.specs.Pages.{page_lines, row_of}
use Rattle.made_commands.proofs.PageLines.{a_row_fits}
use Rattle.made_commands.proofs.pages.push_lines.Goals as goal

-- the room for all that are left takes the next line
pub push_row-requires : goal.push_row-requires
push_row-requires c =
    let text : Bor (List ℕ) = record { ref_ptr = (0, 0); now = [] } in
    let none : Bor (List ℕ) × (Bor (List ℕ) × Bor (List ℕ) × Bor (List ℕ)) = (text, (text, text, text)) in
    let topic = c.args.topic.now in
    let rows = c.args.rows.now in
    let more = drop c.rows.told-index rows in
    let left = page_lines topic (map (λ row. row_of row.0.now row.1.0.now row.1.1.now row.1.2.now) more) in
    let all = page_lines topic (map (λ row. row_of row.0.now row.1.0.now row.1.1.now row.1.2.now) rows) in
    omega (
      arith,
      ap length c.rows.invariant,
      length-append c.rows.room.items left,
      length-append c.args.room.now.items all,
      a_row_fits topic (λ row. row_of row.0.now row.1.0.now row.1.1.now row.1.2.now) rows c.rows.told-index none
          c.rows-test.true,
      c.requires,
    )
