use Rattle.std.proofs.Common.{arith, refl}
use Rattle.frame_commands.proofs.NextFrame.{heard_later}
use Rattle.frame_commands.proofs.flight.FlightTo.hear.Goals as goal

-- the last word was heard before
pub is_quiet-requires-clause-heard_by : goal.is_quiet-requires-clause-heard_by
is_quiet-requires-clause-heard_by g c =
    let s = c.args.self.now in
    heard_later s.frames.wheel (g.R.Hearing.hearer s.reader).until c.tick_after.result c.tick_after.ensures.within
    c.requires.heard_by

-- and none is due by the tick up to which all is given
pub returns-then-is_nothing-clause-quiet : goal.returns-then-is_nothing-clause-quiet
returns-then-is_nothing-clause-quiet g c = λ none.
    let now = g.R.Hearing.hearer c.step-brought.new.self in
    let within = c.step-brought.ensures.within in
    let tick = c.step-brought.ensures.next.tick in
    let value = c.tick_after.ensures.value in
    c.if-not-is_quiet.ensures.quiet refl now.until (omega (arith, within, tick, value))
