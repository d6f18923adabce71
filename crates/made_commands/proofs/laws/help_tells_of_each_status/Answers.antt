use Rattle.std.proofs.Common.{refl}
use Rattle.made_commands.specs.Pages.{exit_numbers}
use Rattle.made_commands.proofs.NotesTold.{stop_told, words_told}
use Rattle.made_commands.proofs.laws.help_tells_of_each_status.Goals as goal

pub returns-clause-usage : goal.returns-clause-usage
unfolding exit_numbers
returns-clause-usage c = refl

pub returns-clause-refused : goal.returns-clause-refused
unfolding exit_numbers
returns-clause-refused c = refl

pub returns-clause-read : goal.returns-clause-read
unfolding exit_numbers
returns-clause-read c = refl

pub returns-clause-write : goal.returns-clause-write
unfolding exit_numbers
returns-clause-write c = refl

pub returns-clause-memory : goal.returns-clause-memory
unfolding exit_numbers
returns-clause-memory c = refl

pub returns-clause-limit : goal.returns-clause-limit
unfolding exit_numbers
returns-clause-limit c = refl

pub returns-clause-notes : goal.returns-clause-notes
returns-clause-notes c = record { stops = stop_told; words = words_told }

pub returns-clause-numbers : goal.returns-clause-numbers
unfolding exit_numbers
returns-clause-numbers c = refl
