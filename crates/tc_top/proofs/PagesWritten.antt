-- The pages of help are those of their tables, which say what is read and how a run ends.
use Rattle.std.proofs.Common.{◌≡◌, ℕ, List, ◌∷◌, [], true, ap, get_or, map}
use Rattle.std.specs.Prelude.{codes}
use Rattle.forms.specs.Help.{are_listed_so}
use Rattle.made_commands.specs.Pages.{exit_numbers, page_text, statuses_text}
use Rattle.made_commands.specs.Statuses.{TellTheNotes}
use Rattle.tc_top.specs.PagesTold.{TellsOfTheCommand, TellsOfTheStatuses}
use Rattle.tc_words.specs.Forms.{rows}
use Rattle.tc_words.specs.Pages.{AreNamed, are_examples_taken, are_shown, are_values_read}

-- what the laws of the words and of the statuses say
pub record PagesLaws : Type 0 where
  pub listed : are_listed_so ≡ true
  pub shown : are_shown ≡ true
  pub examples : are_examples_taken ≡ true
  pub read : are_values_read ≡ true
  pub named : AreNamed rows
  pub notes : TellTheNotes
  pub numbers : map {B = List ℕ} (λ row. row.before) exit_numbers ≡ codes "0  " ∷ codes "2  " ∷ codes "3  "
      ∷ codes "4  " ∷ codes "5  " ∷ codes "6  " ∷ codes "7  " ∷ codes "8  " ∷ []

pub tells_of_the_command : PagesLaws → (page : ℕ) (written : List ℕ) → written ≡ page_text page
    → TellsOfTheCommand page written
tells_of_the_command laws page written is =
    record {
      are = is;
      listed = laws.listed;
      shown = laws.shown;
      examples = laws.examples;
      read = laws.read;
      named = laws.named;
    }

pub tells_of_the_statuses : PagesLaws → (written : List ℕ) → written ≡ statuses_text → TellsOfTheStatuses written
tells_of_the_statuses laws written is =
    record { are = is; notes = laws.notes; last = ap (λ (numbers : List (List ℕ)). get_or numbers 7 []) laws.numbers }
