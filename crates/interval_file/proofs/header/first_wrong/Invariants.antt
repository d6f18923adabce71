use Rattle.std.proofs.Common.{◌≡◌, ◌≤◌, ◌-◌, drop, length, min, take}
use Rattle.interval_file.specs.Contents.{first_wrong}
use Rattle.interval_file.proofs.header.first_wrong.Given as goal

-- the bytes before may stand, and the rest is looked at
abbrev pub invariant-head : goal.invariant-head
invariant-head l = record {
  head : l.head ≡ min (length l.bytes) 8;
  within : l.place ≤ l.head;
  rest : first_wrong 0 (take 8 l.bytes) ≡ first_wrong l.place (drop l.place (take 8 l.bytes));
}

abbrev pub decreases-head : goal.decreases-head
decreases-head l = l.head - l.place
