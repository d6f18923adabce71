use Rattle.std.proofs.Common.{◌++◌, ◌+◌, ◌*◌}
use Rattle.frame_commands.proofs.FlightGrows.{flown_end}
use Rattle.frame_commands.proofs.NextFrame.{turn_due}
use Rattle.frame_commands.proofs.Ready.{ready_at_end, turns_of}
use Rattle.frame_commands.proofs.flight.FlightToBehind.finish.Goals as goal

-- there is room for the frames of two words
pub give-requires-clause-ready : goal.give-requires-clause-ready
give-requires-clause-ready g c =
    let s = c.args.self.now in
    let count = c.requires.0 in (
      2 * count + 2,
      ready_at_end (g.R.Hearing.hearer s.reader) s.frames c.last_words-self.result (g.T.FrameSink.taken s.sink) count
          c.ticks-ticks.result c.requires.2 c.ticks-ticks.ensures.below,
    )

pub give-requires-clause-turns : goal.give-requires-clause-turns
give-requires-clause-turns g c =
    let s = c.args.self.now in
    let h = g.R.Hearing.hearer s.reader in
    rw c.ticks-ticks.ensures.value (turns_of h s.frames (g.T.FrameSink.taken s.sink) c.requires.0 h.tick
    c.last_words-self.result c.requires.2 c.last_words-self.ensures.in_turn)

-- what waited was sent, and what comes last
pub returns : goal.returns
returns g c = λ choice header intervals written stands.
    let s = c.args.self.now in
    let h = g.R.Hearing.hearer s.reader in
    let after = c.give.new.self in
    let e = c.give.ensures in
    let told = c.last_words-self.ensures.told in
    let words = c.last_words-self.result in
    let ticks = c.ticks-ticks.ensures.value in
    let count = rw e.reader at c.intervals.ensures.value in
    let all = rw ticks at e.gives.3 in
    let w = flown_end g.R.Hearing.witness g.T.FrameSink.flight g.T.FrameSink.made g.T.FrameSink.given g.O.Output.given h
    s.frames after.frames s.sink after.sink choice header intervals written told.0 words e.gives.0 _ _ stands told.2
    told.1 (turn_due words h.until h.tick c.last_words-self.ensures.in_turn) e.limit all
    (record { heard = e.gives.1.heard; invented = e.gives.1.invented; gone = e.gives.1.gone }) e.gives.2 in
    let last = (g.T.FrameSink.made choice).last header intervals w.frames_given in (
      w.bytes ++ last,
      g.O.Output.given_more _ _ _ w.bytes last w.sent
          (c.finish.ensures choice header intervals w.frames_given w.has_all (rw (count, ticks) w.counts)),
      w.whole,
    )
