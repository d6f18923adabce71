use Rattle.std.proofs.Common.{[], ◌+◌, ◌*◌, ◌<◌, refl, arith}
use Rattle.limits.specs.declared.recording.TheConstants.{MAX_INTERVALS}
use Rattle.frame_commands.proofs.FlightGrows.{due_alone, flown}
use Rattle.frame_commands.proofs.FramesInOrder.{none_counted, sends_none}
use Rattle.frame_commands.proofs.NextFrame.{turn_due}
use Rattle.frame_commands.proofs.Ready.{given_fits, quiet_fits, ready_for, turns_of}
use Rattle.frame_commands.proofs.flight.FlightToBehind.interval.Goals as goal

-- nothing came, and nothing was due
pub returns-in_default-clause-fits : goal.returns-in_default-clause-fits
returns-in_default-clause-fits g c = λ count fits.
    let s = c.args.self.now in
    let h = g.R.Hearing.hearer s.reader in
    let now = g.R.Hearing.hearer c.hear.new.self.reader in
    let own = c.requires.fits.2.counts in
    let here = fits.counts in
    let room = c.requires.fits.1 in
    rw (c.hear.ensures.frames, c.hear.ensures.sink)
    (quiet_fits h now s.frames (g.T.FrameSink.taken s.sink) count c.args.x
    fits (omega (arith, own, here, room)) c.hear.ensures.next c.hear.ensures.later
    (c.in_default.ensures.below refl))

pub returns-in_default-clause-works : goal.returns-in_default-clause-works
returns-in_default-clause-works g c = λ choice header intervals written stands.
    let s = c.args.self.now in
    let h = g.R.Hearing.hearer s.reader in
    let reader = c.hear.new.self.reader in
    let now = g.R.Hearing.hearer reader in
    let made = g.T.FrameSink.made in
    let given = g.T.FrameSink.given in
    let none = none_counted s.frames in
    rw (c.hear.ensures.frames, c.hear.ensures.sink) (flown g.R.Hearing.witness g.T.FrameSink.flight made given
    g.O.Output.given h now s.frames s.frames s.sink s.sink choice header intervals written c.args.x [] [] []
    c.args.out.now c.args.out.now stands c.hear.ensures.next
    (c.in_default.ensures.nothing refl) (c.what_is_told_is_heard.ensures reader) refl c.hear.ensures.later refl
    (due_alone s.frames.wheel s.frames.wheel now.until [] (c.in_default.ensures.quiet refl))
    (record { heard = none.heard; invented = none.invented; gone = none.gone })
    (sends_none made given g.O.Output.given s.sink c.args.out.now (g.O.Output.given_none c.args.out.now)))

-- there is room for the frames of two words
pub give-requires-clause-ready : goal.give-requires-clause-ready
give-requires-clause-ready g c =
    let s = c.args.self.now in
    let now = g.R.Hearing.hearer c.hear.new.self.reader in
    let count = c.requires.fits.0 in (
      2 * (count + 1),
      rw (c.hear.ensures.frames, c.until-until.ensures.value)
          (ready_for (g.R.Hearing.hearer s.reader) now s.frames c.words.new.words
          (g.T.FrameSink.taken s.sink) count c.args.x c.requires.fits.2 c.requires.fits.1 c.hear.ensures.next
          (rw (← c.until-until.ensures.value) c.until-until.ensures.below)),
    )

pub give-requires-clause-turns : goal.give-requires-clause-turns
give-requires-clause-turns g c =
    let s = c.args.self.now in
    let h = g.R.Hearing.hearer s.reader in
    let now = g.R.Hearing.hearer c.hear.new.self.reader in
    rw (c.hear.ensures.frames, c.until-until.ensures.value)
    (turns_of h s.frames (g.T.FrameSink.taken s.sink) c.requires.fits.0 now.until
    c.words.new.words c.requires.fits.2 (c.words.ensures.in_turn h.until c.in-Some.ensures.may))

-- the frames that were due, and those of the words, were sent
pub returns-in-Some-clause-fits : goal.returns-in-Some-clause-fits
returns-in-Some-clause-fits g c = λ count fits.
    let gave_here = rw c.hear.ensures.frames at c.give.ensures.fits in
    let s = c.args.self.now in
    let h = g.R.Hearing.hearer s.reader in
    let now = g.R.Hearing.hearer c.hear.new.self.reader in
    let after = c.give.new.self in
    let own = c.requires.fits.2.counts in
    let here = fits.counts in
    let room = c.requires.fits.1 in
    let below = rw c.until-until.ensures.value at c.until-until.ensures.below in
    let room_here : count < MAX_INTERVALS = omega (arith, own, here, room) in
    let ready = ready_for h now s.frames c.words.new.words (g.T.FrameSink.taken s.sink) count c.args.x fits room_here
    c.hear.ensures.next below in
    let sink = rw c.until-until.ensures.value at gave_here in
    rw c.give.ensures.reader (given_fits h now s.frames after.frames (g.T.FrameSink.taken s.sink)
    (g.T.FrameSink.taken after.sink) count c.args.x fits room_here c.hear.ensures.next below
    (sink (2 * (count + 1)) ready))

pub returns-in-Some-clause-works : goal.returns-in-Some-clause-works
returns-in-Some-clause-works g c = λ choice header intervals written stands.
    let e = c.give.ensures in
    let s = c.args.self.now in
    let h = g.R.Hearing.hearer s.reader in
    let reader = c.hear.new.self.reader in
    let now = g.R.Hearing.hearer reader in
    let after = c.give.new.self in
    let told = c.words.ensures.told in
    let words = c.words.new.words in
    let gives = rw (c.hear.ensures.frames, c.hear.ensures.sink) at e.gives in
    let limit = rw c.hear.ensures.frames at e.limit in
    let all = rw c.until-until.ensures.value at gives.3 in
    rw e.reader (flown g.R.Hearing.witness g.T.FrameSink.flight g.T.FrameSink.made g.T.FrameSink.given
    g.O.Output.given h now s.frames after.frames s.sink after.sink choice header intervals written c.args.x told.0 words gives.0 _ _ stands
    c.hear.ensures.next (λ xs es st. c.in-Some.ensures.stands xs es told.0 st told.1)
    (c.what_is_told_is_heard.ensures reader) told.2
    (turn_due words h.until now.until (c.words.ensures.in_turn h.until c.in-Some.ensures.may)) limit all
    (record { heard = gives.1.heard; invented = gives.1.invented; gone = gives.1.gone }) gives.2)
