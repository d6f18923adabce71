-- What the program says of itself: `help` and `version`.
use Rattle.std.specs.Prelude.{ℕ, List, ◌++◌, codes, map}
use Rattle.std.specs.List.{flat_map}
use Rattle.made_commands.specs.declared.about.TheConstants.{MANUAL, VERSION}
use Rattle.tc_job.specs.declared.usages.TheConstants.{USAGES}
use Rattle.tc_command.specs.Told.{Told, told_text}

-- the word of a command, and what follows it in its line
abbrev pub Usage : Type 0
Usage = List ℕ × List ℕ

-- the line of a command
abbrev pub usage_line : Usage → List ℕ
usage_line usage = usage.0 ++ usage.1 ++ codes "\n"

-- a line each
abbrev pub usage_lines : List Usage → List ℕ
usage_lines usages = flat_map usage_line usages

-- the table of usages
abbrev pub usages : List Usage
usages = map (λ row. (row.0.now, row.1.now)) USAGES

-- a line a command, and where the manual is
unfoldable pub help_text : List ℕ
help_text = usage_lines usages ++ MANUAL.now ++ codes "\n"

-- the line of `version`
abbrev pub version_line : List ℕ
version_line = codes "tc " ++ VERSION.now ++ codes "\n"

-- what is claimed of `help` and `version`
abbrev pub told_help : Told
told_help = told_text help_text

-- what `version` writes, and what it promises
abbrev pub told_version : Told
told_version = told_text version_line
