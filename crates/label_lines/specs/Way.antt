-- What is answered to a line.
use Rattle.std.specs.Prelude.{◌≡◌, ⊤}
use Rattle.tc_address.specs.declared.count.Count.{Count}
use Rattle.tc_address.specs.Label.{IsLabel}
use Rattle.label_lines.specs.declared.way.Way.{Way}
use Rattle.label_lines.specs.declared.way.Way.TheVariants.{Length, Since}

-- the label from which ways and lengths are told is one of the count
abbrev pub IsWayOf : Count → Way → Type 0
IsWayOf count (Since label) = (label.count ≡ count) × IsLabel label
IsWayOf count (Length label) = (label.count ≡ count) × IsLabel label
IsWayOf count _ = ⊤
