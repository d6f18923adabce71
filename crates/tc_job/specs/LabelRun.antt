-- What the words say of the labels of a text.
use Rattle.label_lines.specs.declared.timebase.Timebase.{Timebase}
use Rattle.label_lines.specs.declared.way.Way.{Way}

-- labels that are counted so and run so fast, and what is answered to each
pub record LabelRunning : Type 0 where
  pub base : Timebase
  pub way : Way

-- a run of `labels`, by its values
abbrev pub label_run_of : Timebase → Way → LabelRunning
label_run_of base way = record { base = base; way = way }
