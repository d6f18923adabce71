use Rattle.std.proofs.Common.{length, ◌-◌, ◌≡◌, ◌+◌, ◌≤◌, drop}
use Rattle.label_lines.specs.Forms.{fitting}
use Rattle.label_lines.proofs.forms.fitting.Given as goal

-- how many fit so far, and how many of the rest do
abbrev pub invariant-bytes : goal.invariant-bytes
invariant-bytes l = record {
  all : fitting l.form l.line ≡ l.at + fitting (drop l.at l.form) (drop l.at l.line);
  form : l.at ≤ length l.form;
  line : l.at ≤ length l.line;
}

abbrev pub decreases-bytes : goal.decreases-bytes
decreases-bytes l = length l.form - l.at
