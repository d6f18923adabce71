-- What `labels` answers to what it answered: one way behind another is a third. This project's own.
use Rattle.std.specs.Prelude.{◌≡◌, ⊤, ℕ, ◌+◌, List, pos, neg_ℤ}
use Rattle.label_command.specs.Labels.{along_labels}
use Rattle.label_lines.specs.declared.timebase.Timebase.{Timebase}
use Rattle.label_lines.specs.declared.way.Way.{Way}
use Rattle.label_lines.specs.declared.way.Way.TheVariants as ways
use Rattle.tc_address.specs.Label.{Address}
use Rattle.tc_address.specs.Numbering.{step}
use Rattle.tc_command.specs.Meaning.{Meaning, IsInput}
use Rattle.tc_job.specs.LabelRun.{LabelRunning, label_run_of}

-- the text is an input in this way, and this is written of it
pub record Writes (base : Timebase) (way : Way) (text written : List ℕ) : Type 0 where
  pub input : IsInput (along_labels (label_run_of base way)) text
  pub output : Meaning.output (along_labels (label_run_of base way)) text written

-- the answers are lines that say labels: not where they tell a way or a length between two labels, or what another
-- count shows
abbrev pub SaysALabel : Way → Type 0
SaysALabel (ways.Since label) = ⊥
SaysALabel (ways.Length label) = ⊥
SaysALabel (ways.To other) = ⊥
SaysALabel way = ⊤

-- the label that such an answer says
abbrev pub label_told : Way → Address → Address
label_told (ways.Plus steps) label = step label (pos steps)
label_told (ways.Minus steps) label = step label (neg_ℤ (pos steps))
label_told way label = label

-- what the second way answers to the answers of the first is what this way answers: a number, a label and seconds say
-- the label itself, sums add up, and the same sum is undone
abbrev pub AreTogether : Way → Way → Way → Type 0
AreTogether ways.Number next whole = next ≡ whole
AreTogether ways.Label next whole = next ≡ whole
AreTogether ways.Seconds next whole = next ≡ whole
AreTogether (ways.Plus m) (ways.Plus n) whole = whole ≡ ways.Plus (m + n)
AreTogether (ways.Minus m) (ways.Minus n) whole = whole ≡ ways.Minus (m + n)
AreTogether (ways.Plus m) (ways.Minus n) whole = (n ≡ m) × (whole ≡ ways.Label)
AreTogether (ways.Minus m) (ways.Plus n) whole = (n ≡ m) × (whole ≡ ways.Label)
AreTogether first next whole = ⊥

-- what is written of what was written is what another way writes of the bytes themselves
abbrev pub IsAnsweredAgain : LabelRunning → List ℕ → List ℕ → Type 0
IsAnsweredAgain run bytes written = (next whole : Way) → AreTogether run.way next whole → (again : List ℕ)
    → Writes run.base whole bytes again → Writes run.base next written again
