-- What `help` writes says how each command is typed.
use Rattle.std.specs.Prelude.{◌≡◌, ℕ, true, List, ◌++◌, codes}
use Rattle.made_commands.specs.declared.about.TheConstants.{MANUAL}
use Rattle.made_commands.specs.About.{usage_lines}
use Rattle.tc_words.specs.Forms.{AreTaken, are_once, rows}
use Rattle.tc_words.specs.Usages.{HaveUsages, are_commands}

-- what was written is a line for each command, its word and its form, and where the manual is. Each command has one of
-- these lines, and nothing else has one. And each way to make words by a form, with a value for each word in capitals,
-- is taken: it names a task
pub record TellsTheForms (written : List ℕ) : Type 0 where
  pub are : written ≡ usage_lines rows ++ MANUAL.now ++ codes "\n"
  pub each : HaveUsages
  pub once : are_once rows ≡ true
  pub only : are_commands ≡ true
  pub taken : AreTaken rows
