-- `labels COUNT sum`: how much the labels of a text are together, as a line behind the last of them. The forms are this
-- project's own.
use Rattle.std.specs.Option.{option_map}
use Rattle.std.specs.Prelude.{◌≡◌, ℕ, ◌+◌, ◌*◌, ◌/◌, ◌%◌, ◌≤◌, true, false, List, [], ◌∷◌, ◌++◌}
use Rattle.std.specs.Prelude.{codes, decimal, drop, length}
use Rattle.label_command.specs.TextLines.{HasLines, SayLabels}
use Rattle.label_lines.specs.Answer.{label_from_midnight}
use Rattle.label_lines.specs.declared.timebase.Timebase.{Timebase}
use Rattle.label_lines.specs.Timebase.{count_of}
use Rattle.label_text.specs.declared.reader.TheConstants.{MAX_LINES}
use Rattle.label_text.specs.LabelText.{end_fault_of, labels_of, reading_of}
use Rattle.tc_address.specs.declared.count.Count.{Count}
use Rattle.tc_address.specs.Label.{Address}
use Rattle.tc_address.specs.Numbering.{day_length, number_of}
use Rattle.tc_address.specs.Spelling.{text_of}
use Rattle.tc_command.specs.declared.input_fault.InputFault.TheVariants.{Labels}
use Rattle.tc_command.specs.Meaning.{Meaning}
use Rattle.tc_command.specs.Told.{Told}
use Rattle.tc_io.specs.Verdict.{verdict_as}

-- how many frames labels are together, of which each stands for its number
abbrev pub sum_of : List Address → ℕ
sum_of [] = 0
sum_of (label ∷ labels) = number_of label + sum_of labels

-- the label of what is left of so many frames behind whole days
abbrev pub rest_of : Count → ℕ → Address
rest_of count frames = label_from_midnight count (frames % day_length count)

-- so many frames as a label that no day ends: its hours are 24 of each whole day and those of the rest, without a zero
-- before them, and behind them it is as the label of the rest
abbrev pub whole_label : Count → ℕ → List ℕ
whole_label count frames =
    decimal (24 * (frames / day_length count) + (rest_of count frames).hours) ++ drop 2 (text_of (rest_of count frames))

-- the line of a sum
abbrev pub sum_line : Count → ℕ → List ℕ
sum_line count frames = decimal frames ++ codes " " ++ whole_label count frames ++ codes "\n"

-- what it takes and what it writes: nothing of a line, and at the end the sum of all of them
abbrev pub along_sum : Timebase → Meaning
along_sum base = record {
  reads = true;
  verdict = λ bytes. verdict_as Labels (reading_of base bytes).verdict;
  end_fault = λ bytes. option_map Labels (end_fault_of base bytes);
  spent = λ bytes. ⊥;
  part = λ bytes written. written ≡ [];
  output = λ bytes written. written ≡ sum_line (count_of base) (sum_of (labels_of base bytes));
}

-- ---- what is promised

-- the input is a text of lines, each of which says a label, and what was written is the line of their sum
pub record SumsTheLines (base : Timebase) (bytes written : List ℕ) : Type 0 where
  pub lines : List (List ℕ)
  pub text : HasLines bytes lines
  pub few : length lines ≤ MAX_LINES
  pub labels : List Address
  pub say : SayLabels base lines labels
  pub are : written ≡ sum_line (count_of base) (sum_of labels)

-- what is told of it
abbrev pub told_sum : Timebase → Told
told_sum base = record { meaning = along_sum base; promise = SumsTheLines base; has_own_limit = false }
