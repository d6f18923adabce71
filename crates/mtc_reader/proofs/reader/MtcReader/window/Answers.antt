use Rattle.std.proofs.Common.{take, refl, ap, arith, ◌∙◌, ◌+◌, ℕ, List}
use Rattle.tc_address.specs.declared.direction.Direction.TheVariants.{Forward}
use Rattle.mtc_reader.specs.Events.{quarter_address, quarter_event}
use Rattle.mtc_reader.specs.StandsFor.{eight_in, place_of}
use Rattle.mtc_reader.proofs.EndOfEvents.{quarter_place}
use Rattle.mtc_reader.proofs.WholeWindow.{rising_taken}
use Rattle.mtc_reader.proofs.reader.MtcReader.window.Goals as goal

-- the sixteen bytes were taken, and give one event
pub returns-clause-takes : goal.returns-clause-takes
returns-clause-takes c = λ front stands.
    let is = c.in-Some.ensures in
    let row = c.pass_window.ensures in
    let took = c.if-not-pass_window.false in
    let event = c.quarter.ensures
    ∙ ap (λ (l : List ℕ). quarter_event Forward (quarter_address l) (c.args.self.now.bytes + 15)) c.numbers.ensures
    in
    rising_taken c.args.self.now _ front (take 16 c.args.bytes.now) (eight_in c.in-Some.eight) c.quarter.result
    is.pieces is.front refl c.pass.ensures
    (ap eight_in (row.latest took)) (row.none took) event stands

-- with the last of them
pub returns-clause-place : goal.returns-clause-place
returns-clause-place c =
    let place = ap place_of c.quarter.ensures
    ∙ quarter_place Forward (quarter_address c.numbers.result) (c.args.self.now.bytes + 15) in
    omega (arith, place)
