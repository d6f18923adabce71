-- What is sliced of a sound is the file of its distances, and the spans that are written of this file are those of its
-- events.
use Rattle.std.proofs.Common.{◌≡◌, ℕ, ◌≤◌, None, List, ◌++◌, length, drop, ap, append_assoc, subst, sym, ◌∙◌}
use Rattle.std.specs.List.{AllByRecursion}
use Rattle.biphase.specs.declared.cell.Cell.{Cell}
use Rattle.limits.specs.declared.recording.TheConstants.{MAX_INTERVALS}
use Rattle.direction_reader.specs.declared.event.Event.{Event}
use Rattle.direction_reader.specs.ListEvents.{AreEvents}
use Rattle.direction_reader.specs.Played.{Played, events_of_words}
use Rattle.flywheel.specs.declared.frame.Frame.{Frame}
use Rattle.tc_job.specs.declared.witness.Witness.{Witness}
use Rattle.tc_job.specs.declared.witness.Witness.TheVariants.{NotAsked}
use Rattle.frame_commands.specs.Heard.{AreHeard}
use Rattle.frame_commands.specs.LtcSpans.{spanned_recording, spans_counted}
use Rattle.frame_commands.specs.OfFrames.{frames_of}
use Rattle.interval_engine.specs.Along.{IsWholeOf}
use Rattle.interval_file.specs.declared.header.IntervalHeader.{IntervalHeader}
use Rattle.interval_file.specs.Grammar.{file_of, IsFile}
use Rattle.interval_file.specs.IntervalHeader.{IsTickRate}
use Rattle.interval_file.specs.Recording.{recording_of, Recording}
use Rattle.pcm_front.specs.Distance.{IsInterval}
use Rattle.tape_sound.specs.OnTime.{AreOnTime}
use Rattle.tape_spans.specs.Spans.{spans}
use Rattle.tape_spans.specs.SpanTexts.{final_lines, lines_behind, open_line}
use Rattle.tc_address.specs.declared.system.System.{System}
use Rattle.tc_job.specs.declared.flight.Flight.{Flight}
use Rattle.sound_report.specs.WordsSpans.{TellsSpans}
use Rattle.sound_report.proofs.FileOfASound.{in_range, FileLaw}

-- what the law of the open span says
abbrev pub LastLaw : Type 0
LastLaw = (tick_rate : ℕ) (system : System) (frames : List Frame)
    → final_lines tick_rate system frames ++ open_line tick_rate system frames
    ≡ lines_behind tick_rate system None (spans frames)

-- the spans of a file of distances, of which the events are words on time
pub spanned : FileLaw → LastLaw → (flight : Flight) → flight.witness ≡ NotAsked
    → (header : IntervalHeader) (delay tick : ℕ) (tape : List Cell)
    (words : List Played) (distances written text : List ℕ) → IsTickRate header.tick_rate
    → AllByRecursion IsInterval distances → length distances ≤ MAX_INTERVALS → written ≡ file_of header distances
    → ((events : List Event) → AreEvents header.system flight.profile distances events
    → AreOnTime delay events (events_of_words tick (drop 2 tape) words))
    → IsWholeOf (spanned_recording flight) (recording_of written) text
    → TellsSpans header flight delay tick tape words distances text
spanned files ends flight asked header delay tick tape words distances written text rate fit few are read whole =
    let file : IsFile written header distances =
    record { tick_rate = rate; range = in_range distances fit; are = are } in
    let own = subst (λ (r : Recording). IsWholeOf (spanned_recording flight) r text)
    (files written header distances file few).0 whole in
    let fs : List Frame = frames_of flight.limit distances own.events in
    record {
      events = own.events;
      on_time = read own.events
          (subst (λ (w : Witness). AreHeard w header.system flight.profile distances own.events) asked own.are_events);
      are = own.are
          ∙ sym (append_assoc (final_lines header.tick_rate header.system fs)
          (open_line header.tick_rate header.system fs) (spans_counted distances fs))
          ∙ ap (λ (l : List ℕ). l ++ spans_counted distances fs) (ends header.tick_rate header.system fs);
    }
