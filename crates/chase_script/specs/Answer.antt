-- What the reading of a script answers.
use Rattle.std.specs.Prelude.{◌≡◌, List, [], ◌∷◌, Err}
use Rattle.tc_address.specs.declared.count.Count.{Count}
use Rattle.chase_script.specs.declared.fault.ScriptFault.{ScriptFault}
use Rattle.chase_script.specs.declared.fault.ScriptFault.TheVariants.{Row, Memory}
use Rattle.chase_script.specs.declared.row.ScriptRow.{ScriptRow}
use Rattle.chase_script.specs.Script.{Script, IsRowFor}

-- each row keeps to the labels of the count, and to the range of slips
unfoldable pub AreRowsFor : Count → List ScriptRow → Type 0
AreRowsFor count [] = Unit {0}
AreRowsFor count (row ∷ rows) = IsRowFor count row × AreRowsFor count rows

-- the fault is that of the script, or want of memory
abbrev pub IsRefusal : Script → ScriptFault → Type 0
IsRefusal script (Row fault) = script ≡ Err fault
IsRefusal script (Memory error) = Unit {0}
