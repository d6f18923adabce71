-- The next row of a steady master, however far the transport slips before it.
use Rattle.std.specs.Prelude.{◌≡◌, Some, None}
use Rattle.tc_address.specs.declared.count.Count.{Count}
use Rattle.chase_core.specs.declared.command.Master.{Master}
use Rattle.chase_core.specs.Trace.{Row, next_of}

-- the row after this one reads on: no command, and the master one frame further
pub record ReadsOn (count : Count) (row next : Row) : Type 0 where
  pub no_command : next.command ≡ None
  pub master : Master
  pub reads : row.master ≡ Some master
  pub steady : next.master ≡ Some (next_of count master)
