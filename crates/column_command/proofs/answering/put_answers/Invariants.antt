use Rattle.std.proofs.Common.{◌≡◌, ◌≤◌, ◌-◌, ◌+◌, ◌++◌, ℕ, List, length, drop}
use Rattle.column_command.proofs.FieldByField.{answers_from, stretch}
use Rattle.column_command.proofs.answering.put_answers.Given as goal

-- what was written, what is still to be written of the fields before this one, and what is answered from this one on
abbrev pub invariant-fields : goal.invariant-fields
invariant-fields g l = record {
  within : l.at ≤ length l.fields;
  behind : l.put ≤ l.at;
  least : 1 ≤ l.number;
  number : l.number ≤ l.at + 1;
  wrote : (written : List ℕ) × g.O.Output.given l.fn.out l.out written
      × (written ++ (stretch l.put l.at l.fields ++ answers_from l.run l.number (drop l.at l.fields))
      ≡ answers_from l.run 1 l.fields);
}

abbrev pub decreases-fields : goal.decreases-fields
decreases-fields g l = length l.fields - l.at
