-- `luma-vitc`: fields of gray pixels, as a line file of what their rows say.
use Rattle.std.specs.Prelude.{◌≡◌, ℕ, ◌*◌, ◌%◌, ◌==◌, true, false, cond, List, length, map, take, Option, Some, None}
use Rattle.std.specs.List.{concat, All, AllByRecursion, AllZip}
use Rattle.line_file.specs.declared.decoder.TheConstants.{MAX_FIELDS}
use Rattle.line_file.specs.declared.header.LineHeader.{LineHeader}
use Rattle.line_file.specs.Grammar.{file_of}
use Rattle.line_file.specs.LineFile.{reading_of}
use Rattle.luma_field.specs.Parts.{whole_parts}
use Rattle.luma_field.specs.Raster.{size_of}
use Rattle.luma_field.specs.Rows.{SaysLines}
use Rattle.tc_command.specs.declared.input_fault.InputFault.{InputFault}
use Rattle.tc_command.specs.declared.input_fault.InputFault.TheVariants.{HalfField}
use Rattle.tc_command.specs.Meaning.{Meaning}
use Rattle.tc_command.specs.Told.{Told}
use Rattle.tc_io.specs.Verdict.{good}
use Rattle.tc_job.specs.LumaRun.{LumaReading}
use Rattle.vitc_reader.specs.Runs.{StandFor}
use Rattle.vitc_reader.specs.Written.{runs_in}
use Rattle.signal_commands.specs.declared.luma_lines.TheConstants.{LINE_LENGTH}
use Rattle.signal_commands.specs.MtcRead.{verdict_within}

-- the header: a line lasts 115 cells of 16 ticks
abbrev pub luma_header : LumaReading → LineHeader
luma_header luma = record { system = luma.system; length = LINE_LENGTH }

-- the lines of a field as runs: a bit is a cell
abbrev pub written_lines : List ℕ → List (List ℕ)
written_lines lines = map (runs_in LINE_LENGTH) lines

-- the line file of fields, one after another
pub record IsLumaFile (luma : LumaReading) (fields : List (List ℕ)) (written : List ℕ) : Type 0 where
  pub lines : List (List ℕ)
  pub say : AllZip (SaysLines luma.raster) fields lines
  pub file : written ≡ file_of (luma_header luma) (map written_lines lines)

-- the bytes of as many fields as are taken
abbrev pub most_pixels : LumaReading → ℕ
most_pixels luma = MAX_FIELDS * size_of luma.raster

-- the input may not end inside a field
abbrev pub cut_field : LumaReading → List ℕ → Option InputFault
cut_field luma bytes = cond (length bytes % size_of luma.raster == 0) None (Some (HalfField (length bytes)))

-- what it takes and what it writes: the header stands before the first field
abbrev pub along_pixels : LumaReading → Meaning
along_pixels luma = record {
  reads = true;
  verdict = verdict_within (most_pixels luma);
  end_fault = cut_field luma;
  spent = λ bytes. ⊥;
  part = λ bytes written. IsLumaFile luma (whole_parts (size_of luma.raster) (take (most_pixels luma) bytes)) written;
  output = λ bytes written. IsLumaFile luma (whole_parts (size_of luma.raster) bytes) written;
}

-- ---- what is promised

-- the runs that are written of a line stand for its bits
abbrev pub IsReadBack : ℕ → Type 0
IsReadBack bits = StandFor LINE_LENGTH (runs_in LINE_LENGTH bits) bits

-- the input is fields, one behind another. What was written is the line file of the lines that they say, and is read as
-- this file: its header, and of each field its lines, as runs that stand for the bits of the rows
pub record ReadsThePixels (luma : LumaReading) (pulled written : List ℕ) : Type 0 where
  pub all : concat (whole_parts (size_of luma.raster) pulled) ≡ pulled
  pub file : IsLumaFile luma (whole_parts (size_of luma.raster) pulled) written
  pub read : reading_of written ≡ record {
    header = Some (luma_header luma);
    fields = map written_lines file.lines;
    verdict = good;
    is_whole = true;
  }
  pub stand : AllByRecursion (All IsReadBack) file.lines

-- what is told of it
abbrev pub told_luma_vitc : LumaReading → Told
told_luma_vitc luma =
    record { meaning = along_pixels luma; promise = ReadsThePixels luma; has_own_limit = false }
