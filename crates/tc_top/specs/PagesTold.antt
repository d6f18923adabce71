-- What `help COMMAND` and `help statuses` write says what is read, and how a run ends.
use Rattle.std.specs.Prelude.{◌≡◌, ℕ, true, List, [], get_or, map}
use Rattle.forms.specs.Help.{are_listed_so}
use Rattle.made_commands.specs.Pages.{exit_numbers, page_text, statuses_text}
use Rattle.made_commands.specs.Statuses.{TellTheNotes, number_in_row}
use Rattle.tc_top.specs.declared.exit.TheConstants.{NO_ARGUMENTS}
use Rattle.tc_words.specs.Forms.{rows}
use Rattle.tc_words.specs.Pages.{AreNamed, are_examples_taken, are_shown, are_values_read}

-- what was written is the page of the command: its form, and the lines of the tables about it. The lines of its values
-- are those of its slots, and each slot has one. The words of each example there are taken by its command, each value
-- that is spelled is read at its place, and of the words that a command takes each is named by its page
pub record TellsOfTheCommand (page : ℕ) (written : List ℕ) : Type 0 where
  pub are : written ≡ page_text page
  pub listed : are_listed_so ≡ true
  pub shown : are_shown ≡ true
  pub examples : are_examples_taken ≡ true
  pub read : are_values_read ≡ true
  pub named : AreNamed rows

-- what was written is the page of the exit numbers. Each note begins as it says of its number, and the last number is
-- that of arguments that can't be had
pub record TellsOfTheStatuses (written : List ℕ) : Type 0 where
  pub are : written ≡ statuses_text
  pub notes : TellTheNotes
  pub last : get_or (map {B = List ℕ} (λ row. row.before) exit_numbers) 7 [] ≡ number_in_row NO_ARGUMENTS
