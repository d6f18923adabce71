-- The lines of `help` are those of the table of usages, which says how each command is typed.
use Rattle.std.proofs.Common.{◌≡◌, ℕ, List, true}
use Rattle.made_commands.specs.About.{help_text}
use Rattle.tc_words.specs.Forms.{AreTaken, are_once, rows}
use Rattle.tc_words.specs.Usages.{HaveUsages, are_commands}
use Rattle.tc_top.specs.FormsTyped.{TellsTheForms}

-- what the laws of the words say
pub record FormsLaws : Type 0 where
  pub each : HaveUsages
  pub once : are_once rows ≡ true
  pub only : are_commands ≡ true
  pub taken : AreTaken rows

pub tells_the_forms : FormsLaws → (written : List ℕ) → written ≡ help_text → TellsTheForms written
unfolding help_text
tells_the_forms laws written is =
    record { are = is; each = laws.each; once = laws.once; only = laws.only; taken = laws.taken }
