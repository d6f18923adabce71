-- What the engine of `labels` keeps. No promise speaks of it.
use Rattle.std.specs.Prelude.{◌≡◌, ℕ, ◌+◌, ◌-◌, ◌*◌, List, length}
use Rattle.label_command.specs.declared.labels.LabelAnswers.{LabelAnswers}
use Rattle.label_command.specs.Labels.{along_labels, answers}
use Rattle.label_text.specs.declared.reader.TheConstants.{MAX_LINE, MAX_LINES}
use Rattle.label_text.specs.LabelText.{IsPlace, Place, reading_of}
use Rattle.tc_command.specs.Meaning.{Meaning, Shows}
use Rattle.tc_io.specs.Verdict.{good}
use Rattle.tc_io.specs.VerdictLemmas.{good_too}
use Rattle.tc_command.specs.declared.input_fault.InputFault.TheVariants.{Labels}

-- its reader is at a place of a text, whose labels are those of its run
pub record IsGoing (s : LabelAnswers) : Type 0 where
  pub place : IsPlace s.reader
  pub base : s.reader.base ≡ s.run.base

-- it was given these bytes, and what it wrote are the answers to their labels
pub record Stands (s : LabelAnswers) (bytes written : List ℕ) : Type 0 where
  pub is_good : (reading_of s.run.base bytes).verdict ≡ good
  pub place : (reading_of s.run.base bytes).place ≡ s.reader
  pub are : written ≡ answers s.run (reading_of s.run.base bytes).labels

-- how many bytes are still taken, at most: those of the line, and a newline and the bytes of each other one
abbrev pub bytes_left : Place → ℕ
bytes_left p = (MAX_LINES + 1 - p.number) * (MAX_LINE + 1) + (MAX_LINE - length p.line)

-- what was written is the part of the bytes
pub stands_well : (s : LabelAnswers) (bytes written : List ℕ) → Stands s bytes written
    → Shows (along_labels s.run) good bytes × Meaning.part (along_labels s.run) bytes written
stands_well s bytes written stands =
    (record { is = good_too Labels _ stands.is_good; unspent = λ spent. spent }, stands.are)
