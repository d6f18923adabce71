-- What `luma-vitc` writes of a picture is what `vitc-read` reads: the lines of its fields.
use Rattle.std.specs.Prelude.{◌≡◌, ℕ, List, map}
use Rattle.line_file.specs.Answers.{AreAnswers}
use Rattle.signal_commands.specs.LumaVitc.{luma_header, written_lines, ReadsThePixels}
use Rattle.signal_commands.specs.VitcRead.{field_report}
use Rattle.tc_command.specs.Meaning.{Meaning, IsInput}
use Rattle.tc_job.specs.LumaRun.{LumaReading}
use Rattle.tc_job.specs.declared.job.Job.TheVariants.{VitcRead}
use Rattle.tc_top.specs.Commands.{meaning_of}
use Rattle.vitc_reader.specs.declared.field.FieldAnswer.{FieldAnswer}

-- what was written is an input of `vitc-read`, and its report is known: the answer of each field, by the lines that the
-- rows of the field say, and the last line
pub record IsReadAsFields (luma : LumaReading) (pulled written : List ℕ) : Type 0 where
  pub pixels : ReadsThePixels luma pulled written
  pub input : IsInput (meaning_of VitcRead) written
  pub answers : List FieldAnswer
  pub are_answers : AreAnswers (luma_header luma) (map written_lines pixels.file.lines) answers
  pub report : (text : List ℕ) → Meaning.output (meaning_of VitcRead) written text → text ≡ field_report answers
