-- What the engine of `labels COUNT sum` keeps. No promise speaks of it.
use Rattle.std.specs.Prelude.{◌≡◌, ℕ, ◌+◌, ◌*◌, ◌≤◌, List, []}
use Rattle.label_command.specs.declared.sums.LabelSum.{LabelSum}
use Rattle.label_command.specs.Sums.{along_sum, sum_of}
use Rattle.label_text.specs.LabelText.{IsPlace, reading_of}
use Rattle.tc_command.specs.declared.input_fault.InputFault.TheVariants.{Labels}
use Rattle.tc_command.specs.Meaning.{Meaning, Shows}
use Rattle.tc_io.specs.Verdict.{good}
use Rattle.tc_io.specs.VerdictLemmas.{good_too}

-- its reader is at a place of a text, whose labels are those of its count, and each line before it has added less than
-- the longest day
pub record IsAdding (s : LabelSum) : Type 0 where
  pub place : IsPlace s.reader
  pub base : s.reader.base ≡ s.base
  pub sum : s.sum + 2_592_000 ≤ s.reader.number * 2_592_000

-- it was given these bytes, and has the sum of their labels
pub record Stands (s : LabelSum) (bytes written : List ℕ) : Type 0 where
  pub is_good : (reading_of s.base bytes).verdict ≡ good
  pub place : (reading_of s.base bytes).place ≡ s.reader
  pub sum : s.sum ≡ sum_of (reading_of s.base bytes).labels
  pub none : written ≡ []

-- what was written is the part of the bytes
pub stands_well : (s : LabelSum) (bytes written : List ℕ) → Stands s bytes written
    → Shows (along_sum s.base) good bytes × Meaning.part (along_sum s.base) bytes written
stands_well s bytes written stands =
    (record { is = good_too Labels _ stands.is_good; unspent = λ spent. spent }, stands.none)
