-- The chase script: a text of comma-separated values, a record a row. The form is this project's own; the records are
-- those of RFC 4180, as `csv` reads them.
use Rattle.std.specs.Prelude.{ℕ, ◌<◌, ◌≤◌, ◌==◌, suc, ◌&&◌, List, [], ◌∷◌, length, Option, Some, None, Result, Ok}
use Rattle.std.specs.Prelude.{Err, if◌then◌else◌, nat_lt}
use Rattle.std.specs.Prelude.{nat_le, codes}
use Rattle.std.specs.Prelude.{ℤ, pos, neg_ℤ, unsigned_abs, IfSome}
use Rattle.std.specs.Char.{is_ascii_digit}
use Rattle.std.specs.List.{list_all}
use Rattle.std.specs.Option.{ok_or, option_map}
use Rattle.std.specs.Str.{bytes_eq}
use Rattle.std.specs.Str.Parse.{digits_value}
use Rattle.line_text.specs.Line.{direction_named}
use Rattle.csv.specs.Reading.{default_config, records, strip_bom}
use Rattle.tc_address.specs.declared.count.Count.{Count}
use Rattle.tc_address.specs.declared.direction.Direction.{Direction}
use Rattle.tc_address.specs.Numbering.{number_of, day_length}
use Rattle.tc_address.specs.Spelling.{label_in}
use Rattle.chase_core.specs.declared.command.Command as command
use Rattle.chase_core.specs.declared.command.Command.TheVariants as commands
use Rattle.chase_core.specs.declared.command.Master as master
use Rattle.chase_core.specs.Step.{IsCommandOf}
use Rattle.chase_script.specs.declared.column.Column as column
use Rattle.chase_script.specs.declared.column.Column.TheVariants as columns
use Rattle.chase_script.specs.declared.fault.RowFault.{RowFault}
use Rattle.chase_script.specs.declared.row.ScriptRow.{ScriptRow}

-- the bytes of a field
abbrev pub Field : Type 0
Field = List ℕ

-- what follows from a value, and the refused column where there is none
abbrev pub and_then : {X Y : Type 0} → Result X column.Column → (X → Result Y column.Column) → Result Y column.Column
and_then (Ok value) next = next value
and_then (Err column) next = Err column

-- ---- the columns

-- a command that has no target
abbrev pub without_target : Option command.Command → Field → Result (Option command.Command) column.Column
without_target command target = if length target == 0 then Ok command else Err columns.Target

-- columns 1 and 2: no command, `play`, `wait`, or `locate` and a label of the count
abbrev pub command_in : Count → Field → Field → Result (Option command.Command) column.Column
command_in count word target =
    if length word == 0 then without_target None target
    else if bytes_eq word (codes "play") then without_target (Some commands.Play) target
    else if bytes_eq word (codes "wait") then without_target (Some commands.Wait) target
    else if bytes_eq word (codes "locate") then elim (label_in count target) [
      | Some label ↦ Ok (Some (commands.Locate (number_of label)))
      | None ↦ Err columns.Target
    ] else Err columns.Command

-- column 4: `forward` or `backward`
abbrev pub direction_in : Field → Result Direction column.Column
direction_in word = ok_or (direction_named word) columns.Direction

-- columns 3 and 4: a label of the count and a direction, or neither
abbrev pub master_in : Count → Field → Field → Result (Option master.Master) column.Column
master_in count label direction =
    if length label == 0 then (if length direction == 0 then Ok None else Err columns.Direction)
    else elim (label_in count label) [
      | Some l ↦ and_then (direction_in direction) (λ d. Ok (Some (record { number = number_of l; direction = d })))
      | None ↦ Err columns.Master
    ]

-- one to seven digits that write a number up to a million
abbrev pub length_in : Field → Option ℕ
length_in digits =
    if nat_lt 0 (length digits) && nat_le (length digits) 7 && list_all is_ascii_digit digits
    && nat_le (digits_value 10 digits) 1_000_000
    then Some (digits_value 10 digits) else None

-- column 5: empty for none, and else a number of subframes, behind a `-` where the transport falls back
abbrev pub slip_in : Field → Result ℤ column.Column
slip_in [] = Ok (pos 0)
slip_in (byte ∷ digits) =
    if byte == 45 then ok_or (option_map (λ n. neg_ℤ (pos n)) (length_in digits)) columns.Slip
    else ok_or (option_map pos (length_in (byte ∷ digits))) columns.Slip

-- ---- a record

-- the row of a record, which has five fields, or its least refused column
abbrev pub row_in : Count → List Field → Result ScriptRow column.Column
row_in count (word ∷ target ∷ label ∷ direction ∷ slip ∷ []) =
    and_then (command_in count word target) (λ command. and_then (master_in count label direction) (λ master.
    and_then (slip_in slip) (λ subframes. Ok (record { command = command; master = master; slip = subframes }))))
row_in count _ = Err columns.Fields

-- ---- all records

-- the rows of a script, or its first refused record
abbrev pub Script : Type 0
Script = Result (List ScriptRow) RowFault

-- the rows of records, the first of which has this number
unfoldable pub rows_from : Count → ℕ → List (List Field) → Script
rows_from count n [] = Ok []
rows_from count n (fields ∷ more) = elim (row_in count fields) [
  | Ok row ↦ elim (rows_from count (suc n) more) [ Ok rows ↦ Ok (row ∷ rows) | Err fault ↦ Err fault ]
  | Err column ↦ Err (record { row = n; column = column })
]

-- the script of a text: its rows, or its first refused record. A byte order mark at the very start is none of it
abbrev pub script_in : Count → List ℕ → Script
script_in count text = rows_from count 1 (records default_config (strip_bom text))

-- ---- what a row keeps to

-- command and master name labels of the count, and the slip is at most a million subframes
pub record IsRowFor (count : Count) (row : ScriptRow) : Type 0 where
  pub command : IfSome row.command (λ c. IsCommandOf count c)
  pub master : IfSome row.master (λ m. m.number < day_length count)
  pub slip : unsigned_abs row.slip ≤ 1_000_000
