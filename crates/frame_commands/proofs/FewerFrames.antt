-- No front of a recording has more frames than the whole, so too many frames stay too many; and those that were given
-- are all of them.
use Rattle.std.proofs.Common.{◌≡◌, ℕ, ◌≤◌, List, ◌++◌, length, length-append, Option, Some, None, sym, ◌∙◌, ap, ap₂}
use Rattle.std.proofs.Common.{subst}
use Rattle.std.proofs.Common.{arith}
use Rattle.direction_reader.specs.declared.event.Event.{Event}
use Rattle.flywheel.specs.declared.frame.Frame.{Frame}
use Rattle.flywheel.specs.Frames.{frames}
use Rattle.interval_file.specs.declared.header.IntervalHeader.{IntervalHeader}
use Rattle.tc_job.specs.declared.flight.Flight.{Flight}
use Rattle.tc_job.specs.declared.witness.Witness.{Witness}
use Rattle.frame_commands.specs.declared.frames.Frames.{Frames}
use Rattle.frame_commands.specs.Hearing.{Hearer}
use Rattle.frame_commands.specs.KeptFlight.{Stands}
use Rattle.frame_commands.specs.KeptHeard.{HeardInOrder}
use Rattle.frame_commands.specs.OfFrames.{AreTooMany, FrameText, IsFlightSpent, frames_until, words_heard}
use Rattle.frame_commands.proofs.FramesFirst.{FrameLaws, frames_first}
use Rattle.frame_commands.proofs.FramesInOrder.{Given}

fewer_than : (most : Option ℕ) (few many : List Frame) → length few ≤ length many → AreTooMany most few
    → AreTooMany most many
fewer_than None few many fewer too_many = absurd too_many
fewer_than (Some most) few many fewer too_many = omega (arith, fewer, too_many)

-- too many frames stay too many
pub flight_spent_stays : FrameLaws → (witness : Witness) (flight : Flight) (made : FrameText) (header : IntervalHeader)
    (intervals more : List ℕ) → IsFlightSpent witness flight made header intervals
    → IsFlightSpent witness flight made header (intervals ++ more)
flight_spent_stays laws witness flight made header intervals more spent =
    let all = (laws.heard witness).some_yet header.system flight.profile (intervals ++ more) in
    let goes = (laws.heard witness).more header.system flight.profile intervals more spent.events all.0 spent.until
    all.1
    spent.are_events all.2 in
    let first = frames_first laws flight.limit spent.events all.0 spent.until all.1 goes in
    let own = frames_until flight.limit spent.events spent.until in
    let longer = ap (λ (fs : List Frame). length fs) first.1 in
    let fewer : length own ≤ length (frames_until flight.limit all.0 all.1) =
    omega (arith, longer, length-append own first.0) in
    record {
      events = all.0;
      until = all.1;
      are_events = all.2;
      too_many = fewer_than made.most own (frames_until flight.limit all.0 all.1) fewer spent.too_many;
    }

-- the frames that were given are those of the intervals
given_are : {S C : Type 0} (witness : Witness) (flight : C → Flight) (made : C → FrameText) (has : Given S C)
    (h : Hearer) (f : Frames) (sink : S) (choice : C) (header : IntervalHeader)
    (intervals written : List ℕ) (s : Stands witness flight made has h f sink choice header intervals written)
    → frames_until (flight choice).limit s.events h.until ≡ s.given
given_are witness flight made has h f sink choice header intervals written s =
    ap (λ (n : ℕ). frames n (words_heard s.events) h.until) (sym s.limit_is) ∙ s.wheel.1

-- if these are too many, the limit is passed
pub given_too_many : {S C : Type 0} (witness : Witness) (flight : C → Flight) (made : C → FrameText) (has : Given S C)
    (h : Hearer) (f : Frames) (sink : S) (choice : C) (header : IntervalHeader)
    (intervals written : List ℕ) (s : Stands witness flight made has h f sink choice header intervals written)
    → AreTooMany (made choice).most s.given
    → IsFlightSpent witness (flight choice) (made choice) header intervals
given_too_many witness flight made has h f sink choice header intervals written s too_many = record {
  events = s.events;
  until = h.until;
  are_events = s.are_events;
  too_many = subst (λ (fs : List Frame). AreTooMany (made choice).most fs)
      (sym (given_are witness flight made has h f sink choice header intervals written s)) too_many;
}

-- and it is not if they are within it
pub given_within : {S C : Type 0} (witness : Witness) → HeardInOrder witness → (flight : C → Flight)
    (made : C → FrameText) (has : Given S C) (h : Hearer) (f : Frames) (sink : S) (choice : C)
    (header : IntervalHeader) (intervals written : List ℕ)
    (s : Stands witness flight made has h f sink choice header intervals written)
    → (AreTooMany (made choice).most s.given → ⊥) → IsFlightSpent witness (flight choice) (made choice) header intervals
    → ⊥
given_within witness law flight made has h f sink choice header intervals written s within spent =
    let same = law.one_yet header.system (flight choice).profile intervals spent.events s.events spent.until h.until
    spent.are_events s.are_events in
    within (subst (λ (fs : List Frame). AreTooMany (made choice).most fs)
    (ap₂ (λ (es : List Event) (until : ℕ). frames_until (flight choice).limit es until) same.0 same.1
    ∙ given_are witness flight made has h f sink choice header intervals written s) spent.too_many)
