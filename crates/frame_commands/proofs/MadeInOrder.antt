-- What a command along frames prints is in order: the frames of some intervals come first, and its sink only adds to
-- what it wrote.
use Rattle.std.proofs.Common.{ℕ, List, ◌++◌, refl, sym, ◌∙◌, ap, ap₂, subst}
use Rattle.direction_reader.specs.declared.event.Event.{Event}
use Rattle.tc_job.specs.declared.flight.Flight.{Flight}
use Rattle.tc_job.specs.declared.witness.Witness.{Witness}
use Rattle.tc_io.specs.Sink.{IsFront}
use Rattle.tc_command.specs.FirstLemmas.{front_of_more}
use Rattle.interval_engine.specs.KeptCommand.{PrintsInOrder}
use Rattle.frame_commands.specs.KeptFrames.{AddsInOrder}
use Rattle.frame_commands.specs.OfFrames.{FrameText, along_frames_with, frames_of, frames_until}
use Rattle.frame_commands.proofs.FewerFrames.{flight_spent_stays}
use Rattle.frame_commands.proofs.FramesFirst.{FrameLaws, frames_first}

pub frames_in_order : FrameLaws → (witness : Witness) (flight : Flight) (made : FrameText) → AddsInOrder made
    → PrintsInOrder (along_frames_with witness flight made)
frames_in_order laws witness flight made adds = record {
  part = λ header front more a b one all.
      let goes = (laws.heard witness).more header.system flight.profile front more one.events all.events one.until
      all.until one.are_events all.are_events in
      let frames = frames_first laws flight.limit one.events all.events one.until all.until goes in
      let text = adds.added header (frames_until flight.limit one.events one.until) frames.0 in
      (text.0, all.are ∙ ap (made.text header) frames.1 ∙ text.1 ∙ ap (λ l. l ++ text.0) (sym one.are));
  whole = λ header front more a b one all.
      let goes = (laws.heard witness).all header.system flight.profile front more one.events all.events one.until
      one.are_events all.are_events in
      let frames = frames_first laws flight.limit one.events all.events one.until _ goes in
      let text = adds.added header (frames_until flight.limit one.events one.until) frames.0 in
      let all_frames = frames_of flight.limit (front ++ more) all.events in
      let last = made.last header (front ++ more) all_frames in
      subst (IsFront a) (sym all.are) (front_of_more a (made.text header all_frames) text.0 last
      (ap (made.text header) frames.1 ∙ text.1 ∙ ap (λ l. l ++ text.0) (sym one.are)));
  some_part = λ header intervals.
      let events = (laws.heard witness).some_yet header.system flight.profile intervals in
      (_, record { events = events.0; until = events.1; are_events = events.2; are = refl });
  some_whole = λ header intervals.
      let events = (laws.heard witness).some header.system flight.profile intervals in
      (_, record { events = events.0; are_events = events.1; are = refl });
  one_part = λ header intervals a b one all.
      let part = λ (es : List Event) (until : ℕ). made.text header (frames_until flight.limit es until) in
      let same = (laws.heard witness).one_yet header.system flight.profile intervals _ _ _ _ one.are_events
      all.are_events in
      one.are ∙ ap₂ part same.0 same.1 ∙ sym all.are;
  one_whole = λ header intervals a b one all.
      let whole = λ (es : List Event). made.text header (frames_of flight.limit intervals es)
      ++ made.last header intervals (frames_of flight.limit intervals es) in
      one.are ∙ ap whole ((laws.heard witness).one header.system flight.profile intervals _ _ one.are_events
      all.are_events) ∙ sym all.are;
  stays = λ header front more spent. flight_spent_stays laws witness flight made header front more spent;
  limit = λ header front more a b spent part all.
      let own = frames_until flight.limit in
      let same = (laws.heard witness).one_yet header.system flight.profile front part.events spent.events part.until
      spent.until part.are_events spent.are_events in
      let goes = (laws.heard witness).more header.system flight.profile front more spent.events all.events spent.until
      all.until spent.are_events all.are_events in
      let later = frames_first laws flight.limit spent.events all.events spent.until all.until goes in
      let text = made.text header in
      part.are ∙ ap₂ (λ (es : List Event) (until : ℕ). text (own es until)) same.0 same.1
      ∙ sym (adds.none_more header (own spent.events spent.until) later.0 spent.too_many)
      ∙ ap text (sym later.1) ∙ sym all.are;
}
