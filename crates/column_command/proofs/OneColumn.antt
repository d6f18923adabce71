-- A column that is answered is the text of a label, which by itself is a line that `labels` answers so.
use Rattle.std.proofs.Common.{◌≡◌, ◌≤◌, ◌<◌, ℕ, List, [], ◌∷◌, ◌++◌, ap, append-nil, arith, length, refl, sym}
use Rattle.std.proofs.Common.{Some, None, ◌∙◌}
use Rattle.std.specs.Prelude.{codes, option_map, Ok}
use Rattle.std.specs.declared.option.Option.{Option}
use Rattle.column_command.proofs.LineByLine.{AnswersAreLines}
use Rattle.label_columns.specs.Columns.{answer_to}
use Rattle.label_command.specs.AnsweredAgain.{Writes}
use Rattle.label_command.specs.Labels.{along_labels, answers}
use Rattle.label_command.specs.TextLines.{HasLines, IsLine, SayLabels}
use Rattle.label_lines.specs.Answer.{answer}
use Rattle.label_lines.specs.Line.{read_line}
use Rattle.label_lines.specs.Timebase.{count_of}
use Rattle.label_lines.specs.declared.timebase.Timebase.{Timebase}
use Rattle.label_lines.specs.declared.way.Way.{Way}
use Rattle.label_text.specs.declared.reader.TheConstants.{MAX_LINES}
use Rattle.tc_address.specs.Label.{Address, IsLabel}
use Rattle.tc_address.specs.Spelling.{label_in}
use Rattle.tc_command.specs.Meaning.{IsInput, Meaning}
use Rattle.tc_job.specs.LabelRun.{LabelRunning, label_run_of}

-- what the laws of labels say of a text that is a label, of an answer, and of a text of lines
pub record LineLaws : Type 0 where
  pub text : (base : Timebase) (text : List ℕ) (a : Address) → label_in (count_of base) text ≡ Some a
      → IsLabel a × (a.count ≡ count_of base) × (read_line base text ≡ Ok a) × IsLine text × (0 < length text)
  pub answer : (base : Timebase) (way : Way) (a : Address) → IsLabel a → a.count ≡ count_of base
      → IsLine (answer base way a) × (0 < length (answer base way a))
  pub whole : (run : LabelRunning) (text : List ℕ) (lines : List (List ℕ)) (labels : List Address)
      → HasLines text lines → length lines ≤ MAX_LINES → SayLabels run.base lines labels
      → IsInput (along_labels run) text × Meaning.output (along_labels run) text (answers run labels)

-- the label that is answered, and its answer
the_label : (f : Address → List ℕ) (said : Option Address) (put : List ℕ) → option_map f said ≡ Some put
    → (a : Address) × (said ≡ Some a) × (f a ≡ put)
the_label f None put is = absurd cc
the_label f (Some a) put is = (a, refl, cc)

pub answered_label : (base : Timebase) (way : Way) (column put : List ℕ) → answer_to base way column ≡ Some put
    → (a : Address) × (label_in (count_of base) column ≡ Some a) × (answer base way a ≡ put)
unfolding answer_to
answered_label base way column put is = the_label (answer base way) (label_in (count_of base) column) put is

pub answers_are_lines : LineLaws → AnswersAreLines
answers_are_lines laws base way column put is =
    let (a, said, same) = answered_label base way column put is in
    let text = laws.text base column a said in
    rw (← same) (laws.answer base way a text.0 text.1)

-- a text of one line that is not ended
one_line : (line : List ℕ) → IsLine line → 0 < length line → HasLines line (line ∷ [])
one_line [] is some = absurd (omega (arith, some))
one_line (byte ∷ line) is some =
    record { front = []; rest = byte ∷ line; are = refl; each = tt; last = is; lines_are = refl }

pub column_alone : LineLaws → (base : Timebase) (way : Way) (column put : List ℕ)
    → answer_to base way column ≡ Some put → Writes base way column (put ++ codes "\n")
column_alone laws base way column put is =
    let (a, said, same) = answered_label base way column put is in
    let (label, count, read, line, some) = laws.text base column a said in
    let run = label_run_of base way in
    let all = laws.whole run column (column ∷ []) (a ∷ []) (one_line column line some) (omega arith)
    (ap (λ r. r ∷ []) read) in
    record {
      input = all.0;
      output = ap (λ (l : List ℕ). l ++ codes "\n") (sym same)
          ∙ sym (append-nil (answer base way a ++ codes "\n")) ∙ all.1;
    }
