use Rattle.std.proofs.Common.{◌+◌, ◌%◌, arith, ◌∙◌}
use Rattle.std.proofs.lemmas.List.{length-set}
use Rattle.std.specs.Prelude.{slice_set}
use Rattle.direction_reader.proofs.WrittenOver.{latest_length, latest_written}
use Rattle.direction_reader.proofs.boundaries.Boundaries.push.Goals as goal

-- the oldest place is written over
pub returns-clause-added : goal.returns-clause-added
returns-clause-added c =
    let over = latest_written c.self.inside.ring c.self.inside.next c.args.tick c.self.invariant.0 c.self.invariant.1 in
    rw (← c.self.view_is) over

-- and 81 are the latest
pub returns-clause-all : goal.returns-clause-all
returns-clause-all c =
    let ring = c.self.inside.ring in
    let next = c.self.inside.next in
    latest_length (slice_set ring next c.args.tick) ((next + 1) % 256)
    (length-set ring next c.args.tick ∙ c.self.invariant.0) (omega arith)
