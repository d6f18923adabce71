use Rattle.std.proofs.Common.{◌≡◌, ◌++◌, [], ℕ, List}
use Rattle.std.specs.Io.KnownBytes.{Appends}
use Rattle.tc_command.proofs.making.give_all.Given as goal

-- what was pushed, and what is still to come, are the whole
abbrev pub invariant-pieces : goal.invariant-pieces
invariant-pieces g l = record {
  empty : l.room.items ≡ [];
  given : (front : List ℕ) × Appends (g.K.Sink.written l.fn.out) (g.K.Sink.written l.out) front
      × (g.M.Maker.rest l.fn.maker ≡ front ++ g.M.Maker.rest l.maker);
  same : g.K.Sink.faults l.out ≡ g.K.Sink.faults l.fn.out;
}

abbrev pub decreases-pieces : goal.decreases-pieces
decreases-pieces g l = g.M.Maker.pieces l.maker
