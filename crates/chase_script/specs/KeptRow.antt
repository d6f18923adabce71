-- The steps by which the code judges a row. No promise speaks of them: each is a part of a definition of `Script.antt`.
use Rattle.std.specs.Prelude.{◌==◌, Bool, ◌&&◌, ◌∷◌, length, Option, Some, None, Result, Ok}
use Rattle.std.specs.Prelude.{Err, if◌then◌else◌, nat_lt}
use Rattle.std.specs.Prelude.{nat_le}
use Rattle.std.specs.Char.{is_ascii_digit}
use Rattle.std.specs.List.{list_all}
use Rattle.tc_address.specs.declared.count.Count.{Count}
use Rattle.tc_address.specs.Label.{Address}
use Rattle.tc_address.specs.Numbering.{number_of}
use Rattle.chase_core.specs.declared.command.Command as command
use Rattle.chase_core.specs.declared.command.Command.TheVariants as commands
use Rattle.chase_core.specs.declared.command.Master as master
use Rattle.chase_script.specs.declared.column.Column as column
use Rattle.chase_script.specs.declared.column.Column.TheVariants as columns
use Rattle.chase_script.specs.declared.row.ScriptRow.{ScriptRow}
use Rattle.chase_script.specs.Script.{Field, Script, and_then, command_in, direction_in, master_in, slip_in}

-- it holds nothing
abbrev pub is_empty : Field → Bool
is_empty field = length field == 0

-- a command to go to a label
abbrev pub to_target : Option Address → Result (Option command.Command) column.Column
to_target label = elim label [
  | Some l ↦ Ok (Some (commands.Locate (number_of l)))
  | None ↦ Err columns.Target
]

-- a master that reads a label
abbrev pub master_at : Option Address → Field → Result (Option master.Master) column.Column
master_at label direction = elim label [
  | Some l ↦ and_then (direction_in direction) (λ d. Ok (Some (record { number = number_of l; direction = d })))
  | None ↦ Err columns.Master
]

-- no master, and no direction
abbrev pub no_master : Field → Result (Option master.Master) column.Column
no_master direction = if length direction == 0 then Ok None else Err columns.Direction

-- one to seven digits that write a number up to a million
abbrev pub is_length : Field → Bool
is_length digits = nat_lt 0 (length digits) && nat_le (length digits) 7 && list_all is_ascii_digit digits

-- five fields
abbrev pub row_of_fields : Count → Field → Field → Field → Field → Field → Result ScriptRow column.Column
row_of_fields count word target label direction slip =
    and_then (command_in count word target) (λ command.
    and_then (master_in count label direction) (λ master.
    and_then (slip_in slip) (λ subframes. Ok (record { command = command; master = master; slip = subframes }))))

-- a row and then those of a script
abbrev pub with_row : ScriptRow → Script → Script
with_row row script = elim script [ Ok rows ↦ Ok (row ∷ rows) | Err fault ↦ Err fault ]
