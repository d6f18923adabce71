-- Labels that belong to a system: those of the words that are read at it, and of their frames.
use Rattle.std.specs.Prelude.{◌≡◌, List, [], ◌∷◌}
use Rattle.tc_address.specs.declared.system.System.{System}
use Rattle.tc_address.specs.Count.{system_with}
use Rattle.tc_address.specs.Label.{Address, IsLabel}
use Rattle.direction_reader.specs.declared.event.Event.{Event}
use Rattle.direction_reader.specs.declared.event.Event.TheVariants.{Word, Refused, Lost}
use Rattle.flywheel.specs.declared.frame.Frame.{Frame}
use Rattle.flywheel.specs.declared.frame.Frame.TheVariants.{Heard, Invented, Gone}
use Rattle.flywheel.specs.declared.heard.HeardWord.{HeardWord}

-- the label belongs to a count of the system
abbrev pub IsLabelOf : System → Address → Type 0
IsLabelOf system label = IsLabel label × (system_with label.count ≡ system)

-- so does the label of an event, if it is a word
abbrev pub IsEventOf : System → Event → Type 0
IsEventOf system (Word direction word tick length) = IsLabelOf system word.fields.label
IsEventOf system (Refused direction fault tick) = Unit {0}
IsEventOf system (Lost interval tick) = Unit {0}

-- so do those of the words among events
abbrev pub AreEventsOf : System → List Event → Type 0
AreEventsOf system [] = Unit {0}
AreEventsOf system (event ∷ more) = IsEventOf system event × AreEventsOf system more

-- so do those of words that are heard
abbrev pub AreHeardOf : System → List HeardWord → Type 0
AreHeardOf system [] = Unit {0}
AreHeardOf system (word ∷ more) = IsLabelOf system word.label × AreHeardOf system more

-- so does the label of a frame, if it has one
abbrev pub IsFrameOf : System → Frame → Type 0
IsFrameOf system (Heard label direction joined tick) = IsLabelOf system label
IsFrameOf system (Invented label direction step tick) = IsLabelOf system label
IsFrameOf system (Gone tick) = Unit {0}

-- so do those of frames
abbrev pub AreFramesOf : System → List Frame → Type 0
AreFramesOf system [] = Unit {0}
AreFramesOf system (frame ∷ more) = IsFrameOf system frame × AreFramesOf system more
