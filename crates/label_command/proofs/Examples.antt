-- A text of two lines that say labels, and one whose second line says none: what is supposed of a text and its lines
-- can be met.
use Rattle.std.proofs.Common.{◌≡◌, ℕ, true, not, List, [], ◌∷◌, refl, arith}
use Rattle.std.specs.Prelude.{◌==◌, codes}
use Rattle.std.specs.List.{list_all}
use Rattle.std.proofs.lemmas.Bool.{and_parts, eqb-false, not-true}
use Rattle.tc_address.specs.declared.count.Count.TheVariants.{C25}
use Rattle.tc_address.specs.Label.{Address, address}
use Rattle.tc_job.specs.LabelRun.{LabelRunning, label_run_of}
use Rattle.label_lines.specs.declared.timebase.Timebase.TheVariants.{F25}
use Rattle.label_lines.specs.declared.way.Way.TheVariants as ways
use Rattle.label_lines.specs.Forms.{fitting, fitting_one}
use Rattle.label_lines.specs.Line.{read_line}
use Rattle.label_text.specs.declared.fault.LineFault.{LineFault}
use Rattle.label_command.specs.Labels.{AnswersTheLines}
use Rattle.label_command.specs.TextLines.{HasLines, IsFirstRefused, IsLine, SayLabels}

-- a line, by a test of its bytes
line_by_test : (line : List ℕ) → list_all (λ byte. not (byte == 10)) line ≡ true → IsLine line
line_by_test [] test = tt
line_by_test (byte ∷ line) test =
    let both = and_parts (not (byte == 10)) _ test in
    (eqb-false byte 10 (not-true (byte == 10) both.0), line_by_test line both.1)

first : List ℕ
first = codes "10:00:00:00"

second : List ℕ
second = codes "23:59:59:24"

no_label : List ℕ
no_label = codes "24:00:00:00"

first_label : Address
first_label = address C25 10 0 0 0

second_label : Address
second_label = address C25 23 59 59 24

-- `labels 25 label`
run : LabelRunning
run = label_run_of F25 ways.Label

first_is : IsLine first
unfolding first
first_is = line_by_test (codes "10:00:00:00") refl

second_is : IsLine second
unfolding second
second_is = line_by_test (codes "23:59:59:24") refl

no_label_is : IsLine no_label
unfolding no_label
no_label_is = line_by_test (codes "24:00:00:00") refl

-- ---- both say labels, and the second one is not ended

two_lines : HasLines (codes "10:00:00:00\n23:59:59:24") (first ∷ second ∷ [])
unfolding first second
two_lines = record {
  front = first ∷ [];
  rest = second;
  are = refl;
  each = (first_is, tt);
  last = second_is;
  lines_are = refl;
}

they_say : SayLabels F25 (first ∷ second ∷ []) (first_label ∷ second_label ∷ [])
unfolding first second first_label second_label read_line fitting fitting_one
they_say = refl

they_are_answered : AnswersTheLines run (codes "10:00:00:00\n23:59:59:24") (codes "10:00:00:00\n23:59:59:24\n")
unfolding run first_label second_label
they_are_answered = record {
  lines = first ∷ second ∷ [];
  text = two_lines;
  few = omega arith;
  labels = first_label ∷ second_label ∷ [];
  say = they_say;
  are = refl;
}

-- ---- the second one says none

fault : LineFault
fault = record { line = 2; column = 1 }

lines_then_none : HasLines (codes "10:00:00:00\n24:00:00:00\n") (first ∷ no_label ∷ [])
unfolding first no_label
lines_then_none = record {
  front = first ∷ no_label ∷ [];
  rest = [];
  are = refl;
  each = (first_is, (no_label_is, tt));
  last = tt;
  lines_are = refl;
}

it_is_refused : IsFirstRefused F25 (first ∷ no_label ∷ []) (first_label ∷ []) fault
unfolding first no_label first_label fault read_line fitting fitting_one
it_is_refused = record {
  before = first ∷ [];
  line = no_label;
  behind = [];
  are = refl;
  say = refl;
  refused = refl;
  number = refl;
}
