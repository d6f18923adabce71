-- A word that bears a tick and the length of its window ends at that tick and has the length of 80 cells.
use Rattle.std.proofs.Common.{◌≤◌, ◌*◌, ℕ, IfSome, Some, None, arith}
use Rattle.std.specs.declared.option.Option.{Option}
use Rattle.direction_reader.specs.declared.event.Event.{Event}
use Rattle.direction_reader.specs.declared.event.Event.TheVariants.{Word, Refused, Lost}
use Rattle.direction_reader.specs.Brings.{IsWordAt}
use Rattle.direction_reader.specs.Candidate.{Bears}
use Rattle.direction_reader.specs.Brings.{greatest_cell}

event_ends : (tick n : ℕ) (event : Event) → Bears tick n event → 80 ≤ n → n ≤ 80 * greatest_cell → IsWordAt tick event
event_ends tick n (Word d w t l) bears least most = (bears.0, omega arith, omega arith)
event_ends tick n (Refused d f t) bears least most = bears
event_ends tick n (Lost p t) bears least most = absurd bears

pub ends : (tick n : ℕ) (event : Option Event) → IfSome event (Bears tick n) → 80 ≤ n → n ≤ 80 * greatest_cell
    → IfSome event (IsWordAt tick)
ends tick n None bears least most = tt
ends tick n (Some event) bears least most = event_ends tick n event bears least most
