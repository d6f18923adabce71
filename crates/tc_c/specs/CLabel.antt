-- What a frame address in numbers means. The numbers are this project's own.
use Rattle.std.specs.Prelude.{◌≡◌}
use Rattle.tc_address.specs.Label.{Address, IsLabel}
use Rattle.tc_c.specs.CEvent.{count_number}
use Rattle.tc_c.specs.declared.label.TcLabel.{TcLabel}

-- the numbers of a label
abbrev pub c_label : Address → TcLabel
c_label a = record {
  count = count_number a.count;
  hours = a.hours;
  minutes = a.minutes;
  seconds = a.seconds;
  frames = a.frames;
}

-- the numbers that stand where there is no label
abbrev pub c_no_label : TcLabel
c_no_label = record { count = 0; hours = 0; minutes = 0; seconds = 0; frames = 0 }

-- the numbers mean this label
pub record MeansLabel (numbers : TcLabel) (a : Address) : Type 0 where
  pub label : IsLabel a
  pub count : count_number a.count ≡ numbers.count
  pub hours : a.hours ≡ numbers.hours
  pub minutes : a.minutes ≡ numbers.minutes
  pub seconds : a.seconds ≡ numbers.seconds
  pub frames : a.frames ≡ numbers.frames
