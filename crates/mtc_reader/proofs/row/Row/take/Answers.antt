use Rattle.std.proofs.Common.{◌+◌, ◌++◌, ◌∷◌, ◌∙◌, [], ap, arith, subst, sym, Option}
use Rattle.mtc_reader.specs.Events.{full_address, row_in, window_event}
use Rattle.mtc_reader.specs.declared.event.MtcEvent.{MtcEvent}
use Rattle.mtc_reader.specs.StandsFor.{eight_in, padded, place_of, IsCompleteWith}
use Rattle.mtc_reader.proofs.EndOfEvents.{full_place, window_place}
use Rattle.mtc_reader.proofs.LatestEight.{padded_event}
use Rattle.mtc_reader.proofs.row.Row.take.Goals as goal

-- the quarter frame was added
pub returns-in-QuarterFrame-clause-keeps : goal.returns-in-QuarterFrame-clause-keeps
returns-in-QuarterFrame-clause-keeps c = λ before keeps.
    rw c.in-QuarterFrame.is (c.next-self.ensures (padded (row_in before)) (omega arith) keeps)

-- and the row says what it carries
pub returns-in-QuarterFrame-clause-gives : goal.returns-in-QuarterFrame-clause-gives
returns-in-QuarterFrame-clause-gives c = λ before keeps.
    let row = row_in before ++ c.in-QuarterFrame.quarter ∷ [] in
    rw c.in-QuarterFrame.is (c.event.ensures
    ∙ ap (λ l. window_event l c.args.place) (c.next-self.ensures (padded (row_in before)) (omega arith) keeps)
    ∙ padded_event row c.args.place)

-- it is complete at this place
pub returns-in-QuarterFrame-clause-place : goal.returns-in-QuarterFrame-clause-place
returns-in-QuarterFrame-clause-place c =
    subst (λ (e : Option MtcEvent). IsCompleteWith (c.args.place + 1) e) (sym c.event.ensures)
    (window_place (eight_in c.next-self.result) c.args.place)

pub returns-in-FullMessage-clause-place : goal.returns-in-FullMessage-clause-place
returns-in-FullMessage-clause-place c =
    let m = c.in-FullMessage in
    ap (λ (e : MtcEvent). place_of e + 1) c.full.ensures
    ∙ ap (λ n. n + 1) (full_place (full_address m.hours m.minutes m.seconds m.frames) c.args.place)
