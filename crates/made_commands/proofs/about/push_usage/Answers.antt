use Rattle.std.proofs.Common.{arith}
use Rattle.made_commands.proofs.UsageLines.{line_in_parts, line_long}
use Rattle.made_commands.proofs.about.push_usage.Goals as goal

-- the line is as long as its parts
pub put_bytes-requires-3 : goal.put_bytes-requires-3
put_bytes-requires-3 g c =
    let long = line_long _ _ _ _ c.as_bytes.ensures.value c.as_bytes-2.ensures.value in
    omega (arith, c.requires, c.put_bytes.ensures.len, c.put_bytes-2.ensures.len, long)

pub returns-clause-items : goal.returns-clause-items
returns-clause-items g c =
    line_in_parts _ _ _ _ _ _ _ _ c.put_bytes.ensures.items c.put_bytes-2.ensures.items c.put_bytes-3.ensures.items
    c.as_bytes.ensures.value c.as_bytes-2.ensures.value

pub returns-clause-len : goal.returns-clause-len
returns-clause-len g c =
    let long = line_long _ _ _ _ c.as_bytes.ensures.value c.as_bytes-2.ensures.value in
    omega (arith, c.put_bytes.ensures.len, c.put_bytes-2.ensures.len, c.put_bytes-3.ensures.len, long)
