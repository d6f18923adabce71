-- `labels`: what is answered to each line of a text that says a label, a line each.
use Rattle.std.specs.List.{flat_map}
use Rattle.std.specs.Option.{option_map}
use Rattle.std.specs.Prelude.{◌≡◌, ℕ, ◌≤◌, true, false, List, length}
use Rattle.label_command.specs.TextLines.{HasLines, IsFirstRefused, SayLabels}
use Rattle.label_lines.specs.Answer.{answer_line}
use Rattle.label_text.specs.declared.fault.LineFault.{LineFault}
use Rattle.label_text.specs.declared.reader.TheConstants.{MAX_LINES}
use Rattle.label_text.specs.LabelText.{end_fault_of, labels_of, reading_of}
use Rattle.tc_address.specs.Label.{Address}
use Rattle.tc_command.specs.declared.input_fault.InputFault.{InputFault}
use Rattle.tc_command.specs.declared.input_fault.InputFault.TheVariants.{Labels}
use Rattle.tc_command.specs.Meaning.{Meaning}
use Rattle.tc_command.specs.Told.{Told}
use Rattle.tc_io.specs.Verdict.{verdict_as}
use Rattle.tc_job.specs.LabelRun.{LabelRunning}

-- the lines that are answered to labels
abbrev pub answers : LabelRunning → List Address → List ℕ
answers run labels = flat_map (answer_line run.base run.way) labels

-- what it takes and what it writes: the lines of the labels so far, and at the end that of the last line too, which no
-- newline need end
abbrev pub along_labels : LabelRunning → Meaning
along_labels run = record {
  reads = true;
  verdict = λ bytes. verdict_as Labels (reading_of run.base bytes).verdict;
  end_fault = λ bytes. option_map Labels (end_fault_of run.base bytes);
  spent = λ bytes. ⊥;
  part = λ bytes written. written ≡ answers run (reading_of run.base bytes).labels;
  output = λ bytes written. written ≡ answers run (labels_of run.base bytes);
}

-- ---- what is promised

-- the input is a text of lines, each of which says a label, and what was written are the lines that are answered to
-- these labels, in their order
pub record AnswersTheLines (run : LabelRunning) (bytes written : List ℕ) : Type 0 where
  pub lines : List (List ℕ)
  pub text : HasLines bytes lines
  pub few : length lines ≤ MAX_LINES
  pub labels : List Address
  pub say : SayLabels run.base lines labels
  pub are : written ≡ answers run labels

-- the fault is that of the first line that says no label, and what was written are the lines that are answered to those
-- before it
pub record IsRefusedAtALine (run : LabelRunning) (lines : List (List ℕ)) (fault : InputFault) (written : List ℕ)
    : Type 0 where
  pub place : LineFault
  pub names : fault ≡ Labels place
  pub labels : List Address
  pub first : IsFirstRefused run.base lines labels place
  pub are : written ≡ answers run labels

-- what is told of it
abbrev pub told_labels : LabelRunning → Told
told_labels run = record { meaning = along_labels run; promise = AnswersTheLines run; has_own_limit = false }
