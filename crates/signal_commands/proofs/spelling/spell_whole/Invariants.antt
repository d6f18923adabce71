use Rattle.std.proofs.Common.{replicate}
use Rattle.interval_file.specs.declared.header.FileVersion.TheVariants.{One}
use Rattle.interval_file.specs.Grammar.{intervals_bytes}
use Rattle.signal_commands.proofs.spelling.spell_whole.Given as goal

-- the intervals so far were written
abbrev pub invariant-pieces : goal.invariant-pieces
invariant-pieces g l = g.O.Output.given l.fn.out l.out (intervals_bytes One (replicate l._done l.length))
