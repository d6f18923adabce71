-- The file of a picture's lines is read whole, and each of its fields has one answer.
use Rattle.std.proofs.Common.{◌≡◌, ℕ, List, None, ap, subst, ◌∙◌}
use Rattle.std.specs.Option.{option_map}
use Rattle.std.specs.Prelude.{if◌then◌else◌, length, Some}
use Rattle.file_faults.specs.declared.lines.LineFileFault.TheVariants as fault
use Rattle.line_file.specs.Answers.{AreAnswersOf}
use Rattle.line_file.specs.LineFile.{reading_of, Reading}
use Rattle.signal_commands.specs.LumaVitc.{along_pixels, told_luma_vitc, ReadsThePixels}
use Rattle.signal_commands.specs.VitcRead.{field_report}
use Rattle.tc_command.specs.declared.input_fault.InputFault.TheVariants.{Lines}
use Rattle.tc_command.specs.Meaning.{Meaning, IsInput}
use Rattle.tc_command.specs.Told.{KeepsPromise}
use Rattle.tc_io.specs.Bytes.{AreBytes}
use Rattle.tc_io.specs.Verdict.{verdict_as}
use Rattle.tc_job.specs.LumaRun.{LumaReading}
use Rattle.tc_top.specs.FieldsAgain.{IsReadAsFields}
use Rattle.vitc_reader.specs.declared.field.FieldAnswer.{FieldAnswer}

-- what the laws of line files say
pub record AnswersLaws : Type 0 where
  pub some : (bytes : List ℕ) → (answers : List FieldAnswer) × AreAnswersOf (reading_of bytes) answers
  pub one : (bytes : List ℕ) (a b : List FieldAnswer) → AreAnswersOf (reading_of bytes) a
      → AreAnswersOf (reading_of bytes) b → a ≡ b

pub read_as_fields : AnswersLaws → (luma : LumaReading) → KeepsPromise (told_luma_vitc luma) → (pulled written : List ℕ)
    → AreBytes pulled → IsInput (along_pixels luma) pulled → Meaning.output (along_pixels luma) pulled written
    → IsReadAsFields luma pulled written
read_as_fields laws luma kept pulled written are input output =
    let pixels : ReadsThePixels luma pulled written = kept pulled written are input output in
    let answers = laws.some written in
    record {
      pixels = pixels;
      input = record {
        verdict = ap (λ (r : Reading). verdict_as Lines r.verdict) pixels.read;
        unspent = λ spent. spent;
        end = ap (λ (r : Reading). option_map Lines
            (if r.is_whole then None else Some (fault.Truncated (length written)))) pixels.read;
      };
      answers = answers.0;
      are_answers = subst (λ (r : Reading). AreAnswersOf r answers.0) pixels.read answers.1;
      report = λ text text_is. text_is.2 ∙ ap field_report (laws.one written text_is.0 answers.0 text_is.1 answers.1);
    }
