use Rattle.std.proofs.Common.{arith}
use Rattle.made_commands.specs.About.{usage_line}
use Rattle.made_commands.specs.Pages.{examples, page_lines, said, values}
use Rattle.made_commands.proofs.PageLines.{joined, parts_long}
use Rattle.made_commands.proofs.pages.push_page.Goals as goal

pub push_usage-requires : goal.push_usage-requires
push_usage-requires c = omega (arith, c.requires, parts_long (c.args.command.now, c.args.values.now))

pub push_said-requires : goal.push_said-requires
push_said-requires c =
    omega (arith, c.requires, parts_long (c.args.command.now, c.args.values.now), c.push_usage.ensures.len)

pub push_values-requires : goal.push_values-requires
push_values-requires c = omega (
  arith,
  c.requires,
  parts_long (c.args.command.now, c.args.values.now),
  c.push_usage.ensures.len,
  c.push_said.ensures.len,
)

pub push_examples-requires : goal.push_examples-requires
push_examples-requires c = omega (
  arith,
  c.requires,
  parts_long (c.args.command.now, c.args.values.now),
  c.push_usage.ensures.len,
  c.push_said.ensures.len,
  c.push_values.ensures.len,
)

pub returns : goal.returns
returns c =
    let command = c.args.command.now in
    joined c.args.room.now.items (usage_line (command, c.args.values.now)) (page_lines command said)
    (page_lines command values) (page_lines command examples) c.push_usage.new.room.items
    c.push_said.new.room.items c.push_values.new.room.items c.push_examples.new.room.items c.push_usage.ensures.items
    c.push_said.ensures.items c.push_values.ensures.items c.push_examples.ensures.items
