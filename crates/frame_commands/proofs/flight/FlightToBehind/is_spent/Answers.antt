use Rattle.frame_commands.proofs.FewerFrames.{given_too_many, given_within}
use Rattle.frame_commands.proofs.flight.FlightToBehind.is_spent.Goals as goal

-- the frames that were given are too many
pub returns-clause-spent : goal.returns-clause-spent
returns-clause-spent g c = λ is choice header intervals written stands.
    given_too_many g.R.Hearing.witness g.T.FrameSink.flight g.T.FrameSink.made g.T.FrameSink.given
    (g.R.Hearing.hearer c.args.self.now.reader) c.args.self.now.frames c.args.self.now.sink choice header intervals
    written stands (c.is_spent.ensures.spent is choice header stands.given stands.sent)

-- and they are within the limit
pub returns-clause-going : goal.returns-clause-going
returns-clause-going g c = λ is choice header intervals written stands.
    given_within g.R.Hearing.witness (c.what_is_heard_is_in_order.ensures g.R.Hearing.witness)
    g.T.FrameSink.flight g.T.FrameSink.made g.T.FrameSink.given (g.R.Hearing.hearer c.args.self.now.reader)
    c.args.self.now.frames c.args.self.now.sink choice header intervals written stands
    (c.is_spent.ensures.going is choice header stands.given stands.sent)
