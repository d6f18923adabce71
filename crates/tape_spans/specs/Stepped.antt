-- The label at the end of a span: as many steps from the first one as frames lie between the two.
use Rattle.std.specs.Prelude.{◌≡◌, ℕ, ◌+◌, ◌-◌, ◌≤◌}
use Rattle.tc_address.specs.Numbering.{step}
use Rattle.flywheel.specs.Frames.{steps_in}
use Rattle.tape_spans.specs.declared.span.Span.{Span}

-- how many steps lead from the frame heard first to the one heard last
abbrev pub steps_along : Span → ℕ
steps_along span = span.heard + span.bridged - 1

-- the frame heard last is the first one itself, or its label is that many steps from the first one's, in its direction
pub record EndsStepped (span : Span) : Type 0 where
  pub direction : span.last.direction ≡ span.first.direction
  pub alone : steps_along span ≡ 0 → span.last ≡ span.first
  pub stepped : 1 ≤ steps_along span
      → span.last.label ≡ step span.first.label (steps_in span.first.direction (steps_along span))
