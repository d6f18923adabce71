use Rattle.std.proofs.Common.{◌^◌, ◌<◌, arith}
use Rattle.direction_reader.specs.ConsecutiveStep.{consecutive_list}
use Rattle.frame_commands.proofs.HeardWords.{told_in_range, told_in_turn}
use Rattle.frame_commands.proofs.hearing.AnyHearing.words.Goals as goal

pub returns-clause-range : goal.returns-clause-range
returns-clause-range g c =
    let r = g.R.Reading.reading c.args.self.now in
    let value = c.ticks-below.ensures.value in
    let most = c.ticks-below.ensures.most in
    let below : r.tick < 2 ^ 60 = omega (arith, value, most) in
    rw c.told-2.ensures (told_in_range r.count r.tick c.told.result below c.told.ensures.brings)

-- in turn
pub returns-clause-in_turn : goal.returns-clause-in_turn
returns-clause-in_turn g c = λ from may.
    let r = g.R.Reading.reading c.args.self.now in
    rw c.told-2.ensures (told_in_turn from r.until (consecutive_list c.told.result) (c.told.ensures.in_turn from may))
