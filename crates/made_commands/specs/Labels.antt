-- The commands that turn labels into numbers and back: each writes one line.
use Rattle.std.specs.Prelude.{◌≡◌, ℕ, List, ◌++◌, Some, codes, decimal, slice_get}
use Rattle.tc_address.specs.Label.{Address, labels}
use Rattle.tc_address.specs.Spelling.{label_in, text_of}
use Rattle.tc_address.specs.Numbering.{number_of}
use Rattle.tc_command.specs.Told.{Told, told_made}

-- the line of `number`
abbrev pub number_line : ℕ → List ℕ
number_line number = decimal number ++ codes "\n"

-- the line of `label`
abbrev pub label_line : Address → List ℕ
label_line label = text_of label ++ codes "\n"

-- what was written is the line of a number, and the label is at this place in the list of the labels of its day
pub record NumbersTheLabel (label : Address) (written : List ℕ) : Type 0 where
  pub number : ℕ
  pub are : written ≡ number_line number
  pub place : slice_get (labels label.count) number ≡ Some label

-- what was written is a line, and its text is read as the label
pub record NamesTheLabel (label : Address) (written : List ℕ) : Type 0 where
  pub text : List ℕ
  pub are : written ≡ text ++ codes "\n"
  pub read : label_in label.count text ≡ Some label

-- what is claimed of `number` and `label`
abbrev pub told_number : Address → Told
told_number label = told_made (number_line (number_of label)) (NumbersTheLabel label)

-- what `label` writes, and what it promises
abbrev pub told_label : Address → Told
told_label label = told_made (label_line label) (NamesTheLabel label)
