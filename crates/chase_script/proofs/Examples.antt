-- The slips of a script at their edges, and a run that begins Pulling, worked by hand.
use Rattle.std.proofs.Common.{◌≡◌, ℕ, ◌*◌, ◌+◌, ◌≤◌, pos, neg_ℤ, Option, Some, None, Ok, Err, List, [], ◌∷◌, refl}
use Rattle.std.proofs.Common.{arith}
use Rattle.std.specs.Prelude.{codes}
use Rattle.tc_address.specs.declared.count.Count.TheVariants.{C25}
use Rattle.tc_address.specs.declared.direction.Direction.TheVariants.{Forward}
use Rattle.tc_address.specs.Label.{address, addresses, hour_of, labels, minute_of, second_of}
use Rattle.tc_address.specs.Numbering.{number_of}
use Rattle.chase_core.specs.declared.command.Command.{Command}
use Rattle.chase_core.specs.declared.command.Command.TheVariants.{Play}
use Rattle.chase_core.specs.declared.command.Master.{Master}
use Rattle.chase_core.specs.Trace.{after_rows, row_with}
use Rattle.chase_script.specs.declared.row.ScriptRow.{ScriptRow}
use Rattle.chase_script.specs.Lock.{IsPulledAt, error_at}
use Rattle.chase_script.specs.declared.column.Column.TheVariants.{Slip}
use Rattle.chase_script.specs.Script.{slip_in}

the_greatest : slip_in (codes "1000000") ≡ Ok (pos 1_000_000)
the_greatest = refl

the_least : slip_in (codes "-1000000") ≡ Ok (neg_ℤ (pos 1_000_000))
the_least = refl

one_too_many : slip_in (codes "1000001") ≡ Err Slip
one_too_many = refl

one_too_few : slip_in (codes "-1000001") ≡ Err Slip
one_too_few = refl

none : slip_in (codes "") ≡ Ok (pos 0)
none = refl

eight_digits : slip_in (codes "00000001") ≡ Err Slip
eight_digits = refl

-- ---- a chase at 00:00:00:00 is told to play, and reads a master 48 frames ahead

master_at : ℕ → Master
master_at number = record { number = number; direction = Forward }

pulled_row : Option Command → ℕ → ScriptRow
pulled_row command number = record { command = command; master = Some (master_at number); slip = pos 0 }

far_ahead : List ScriptRow
far_ahead = pulled_row (Some Play) 48 ∷ pulled_row None 49 ∷ pulled_row None 50 ∷ []

begins_pulling : IsPulledAt (address C25 0 0 0 0) far_ahead 0 (row_with (Some Play) (Some (master_at 48)) (pos 0))
    (master_at 48)
unfolding far_ahead pulled_row master_at after_rows
begins_pulling = record { is = refl; reads = refl; pulls = refl }

-- and is so far from it that it is locked within three rows
within_three_rows : error_at (address C25 0 0 0 0) far_ahead 0 (master_at 48) ≤ 40 + 1_272 * 3
unfolding far_ahead pulled_row master_at after_rows number_of labels addresses hour_of minute_of second_of
within_three_rows =
    let error : error_at (address C25 0 0 0 0) far_ahead 0 (master_at 48) ≡ 48 * 80 = refl in omega (arith, error)
