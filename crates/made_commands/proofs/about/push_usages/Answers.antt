use Rattle.std.proofs.Common.{ℕ, List, [], Bor, length, drop, map, ap, arith}
use Rattle.std.proofs.lemmas.List.{length-append}
use Rattle.made_commands.specs.About.{usage_lines}
use Rattle.made_commands.proofs.UsageLines.{a_line_fits}
use Rattle.made_commands.proofs.about.push_usages.Goals as goal

-- the room for all that are left takes the next line
pub push_usage-requires : goal.push_usage-requires
push_usage-requires c =
    let none : Bor (List ℕ) × Bor (List ℕ) =
    (record { ref_ptr = (0, 0); now = [] }, record { ref_ptr = (0, 0); now = [] }) in
    omega (
      arith,
      ap length c.usages.invariant,
      length-append c.usages.room.items
          (usage_lines (map (λ row. (row.0.now, row.1.now)) (drop c.usages.command-index c.args.usages.now))),
      length-append c.args.room.now.items (usage_lines (map (λ row. (row.0.now, row.1.now)) c.args.usages.now)),
      a_line_fits (λ row. (row.0.now, row.1.now)) c.args.usages.now c.usages.command-index none c.usages-test.true,
      c.requires,
    )
