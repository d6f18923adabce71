-- What the engine of `vitc-read` keeps. No promise speaks of it.
use Rattle.std.specs.Prelude.{◌≡◌, ℕ, ◌+◌, ◌*◌, ◌≤◌, List, length, count_by}
use Rattle.vitc_reader.specs.declared.field.FieldAnswer.{FieldAnswer}
use Rattle.vitc_reader.specs.declared.field.FieldAnswer.TheVariants.{NoLine, Agreed, Conflict, Nothing}
use Rattle.tc_io.specs.Verdict.{good}
use Rattle.line_file.specs.declared.decoder.TheConstants.{FIELD_ROOM, MAX_FIELDS}
use Rattle.line_file.specs.declared.header.TheConstants.{HEADER_LENGTH}
use Rattle.line_file.specs.LineFile.{reading_of}
use Rattle.line_file.specs.StandsFor as reads
use Rattle.line_file.specs.StandsFor.{IsTold}
use Rattle.signal_commands.specs.declared.vitc_read.FieldReport.{FieldReport}
use Rattle.tc_command.specs.Meaning.{Meaning, Shows}
use Rattle.signal_commands.specs.VitcRead.{along_fields, answer_lines, is_agreed, is_conflict, is_nothing}
use Rattle.tc_io.specs.VerdictLemmas.{good_too}
use Rattle.tc_command.specs.declared.input_fault.InputFault.TheVariants.{Lines}

-- one field more, of its kind
abbrev pub counted : FieldAnswer → FieldReport → FieldReport
counted (Agreed word) r = record r { fields = r.fields + 1; agreed = r.agreed + 1 }
counted (Conflict word other) r = record r { fields = r.fields + 1; conflict = r.conflict + 1 }
counted NoLine r = record r { fields = r.fields + 1; nothing = r.nothing + 1 }
counted (Nothing fault) r = record r { fields = r.fields + 1; nothing = r.nothing + 1 }

-- the most bytes that are taken: a header, and the fields within the limit
abbrev pub most_bytes : ℕ
most_bytes = HEADER_LENGTH + FIELD_ROOM * MAX_FIELDS

-- each field was counted once, and none past the limit
pub record FitsFields (r : FieldReport) : Type 0 where
  pub number : r.fields ≡ r.decoder.fields
  pub within : r.fields ≤ MAX_FIELDS
  pub counts : r.agreed + r.conflict + r.nothing ≤ r.fields

-- it was given these bytes, and wrote the lines of their fields
pub record Stands (r : FieldReport) (bytes written : List ℕ) : Type 0 where
  pub answers : List FieldAnswer
  pub decoder : reads.StandsFor r.decoder bytes answers
  pub told : IsTold (reading_of bytes) good answers
  pub are : written ≡ answer_lines 0 answers
  pub fields : r.fields ≡ length answers
  pub agreed : r.agreed ≡ count_by is_agreed answers
  pub conflict : r.conflict ≡ count_by is_conflict answers
  pub nothing : r.nothing ≡ count_by is_nothing answers

-- what was written is the part of the bytes
pub stands_well : (r : FieldReport) (bytes written : List ℕ) → Stands r bytes written
    → Shows along_fields good bytes × Meaning.part along_fields bytes written
stands_well r bytes written s =
    (record { is = good_too Lines _ s.told.0; unspent = λ spent. spent }, (s.answers, s.told.1, s.are))
