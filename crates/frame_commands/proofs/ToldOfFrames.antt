-- What is claimed of the commands along frames is lawful, and their promises are kept.
use Rattle.std.proofs.Common.{ℕ, List}
use Rattle.flywheel.specs.declared.frame.Frame.{Frame}
use Rattle.interval_file.specs.Recording.{recording_of}
use Rattle.tc_job.specs.ChaseRun.{Chasing}
use Rattle.tc_job.specs.Jam.{Jamming}
use Rattle.tc_job.specs.declared.flight.Flight.{Flight}
use Rattle.tc_command.specs.Command.{IsCommand}
use Rattle.tc_command.specs.Meaning.{Meaning}
use Rattle.tc_command.specs.Told.{IsLawful, KeepsPromise}
use Rattle.interval_engine.specs.Along.{along_intervals}
use Rattle.interval_file.specs.Growing.{RecordingsGrow}
use Rattle.interval_engine.specs.KeptCommand.{PrintsInOrder, along_is_command, never_spent}
use Rattle.frame_commands.specs.KeptFrames.{AddsInOrder}
use Rattle.frame_commands.specs.LtcChase.{lines_of_steps, told_ltc_chase}
use Rattle.frame_commands.specs.LtcFly.{lines_of_frames, told_ltc_fly}
use Rattle.frame_commands.specs.LtcJam.{file_of_frames, told_ltc_jam}
use Rattle.frame_commands.specs.LtcMtc.{messages_of_frames, told_ltc_mtc}
use Rattle.frame_commands.specs.LtcSpans.{lines_of_spans, told_ltc_spans}
use Rattle.frame_commands.specs.OfFrames.{AreTooMany, FrameText, IsFlightSpent, along_frames}
use Rattle.frame_commands.proofs.MarkedLines.{FramesLaws, shows_the_frames}
use Rattle.frame_commands.proofs.OneText.{HaveOneList, one_copy, one_flight, one_sending, one_tape, one_trace}
use Rattle.frame_commands.proofs.SentWords.{sends_the_words}
use Rattle.frame_commands.proofs.SpansOfTheTape.{SpansLaws, shows_the_spans}

-- what the laws say of every command along frames
pub record AlongLaws : Type 0 where
  pub grow : RecordingsGrow
  pub frames : (flight : Flight) (made : FrameText) → AddsInOrder made → PrintsInOrder (along_frames flight made)
  pub one_list : HaveOneList

command : AlongLaws → (flight : Flight) (made : FrameText) → AddsInOrder made
    → IsCommand (along_intervals (along_frames flight made))
command laws flight made adds = along_is_command laws.grow (along_frames flight made) (laws.frames flight made adds)

-- of frames of which there are never too many
unlimited : (flight : Flight) (made : FrameText) → ((frames : List Frame) → ¬ AreTooMany made.most frames)
    → (input : List ℕ) → ¬ Meaning.spent (along_intervals (along_frames flight made)) input
unlimited flight made few input =
    never_spent (along_frames flight made)
    (λ header intervals (spent : IsFlightSpent flight.witness flight made header intervals). few _ spent.too_many)
    (recording_of input)

pub fly_is_lawful : AlongLaws → AddsInOrder lines_of_frames → (flight : Flight) → IsLawful (told_ltc_fly flight)
fly_is_lawful laws adds flight = record {
  command = command laws flight lines_of_frames adds;
  pinned = one_flight laws.one_list flight;
  unlimited = λ none. unlimited flight lines_of_frames (λ frames many. many);
}

pub fly_is_kept : FramesLaws → (flight : Flight) → KeepsPromise (told_ltc_fly flight)
fly_is_kept marked flight = λ pulled written are input output. shows_the_frames marked flight pulled written output

pub spans_are_lawful : AlongLaws → AddsInOrder lines_of_spans → (flight : Flight) → IsLawful (told_ltc_spans flight)
spans_are_lawful laws adds flight = record {
  command = command laws flight lines_of_spans adds;
  pinned = one_tape laws.one_list flight;
  unlimited = λ none. unlimited flight lines_of_spans (λ frames many. many);
}

pub spans_are_kept : SpansLaws → (flight : Flight) → KeepsPromise (told_ltc_spans flight)
spans_are_kept shared flight = λ pulled written are input output. shows_the_spans shared flight pulled written output

pub messages_are_lawful : AlongLaws → AddsInOrder messages_of_frames → (flight : Flight)
    → IsLawful (told_ltc_mtc flight)
messages_are_lawful laws adds flight = record {
  command = command laws flight messages_of_frames adds;
  pinned = one_sending laws.one_list flight;
  unlimited = λ none. unlimited flight messages_of_frames (λ frames many. many);
}

pub messages_are_kept : FramesLaws → (flight : Flight) → KeepsPromise (told_ltc_mtc flight)
messages_are_kept marked flight = λ pulled written are input output. sends_the_words marked flight pulled written output

pub copy_is_lawful : AlongLaws → (j : Jamming) → AddsInOrder (file_of_frames j) → IsLawful (told_ltc_jam j)
copy_is_lawful laws j adds = record {
  command = command laws j.flight (file_of_frames j) adds;
  pinned = λ pulled. one_copy laws.one_list j (recording_of pulled);
  unlimited = λ none. unlimited j.flight (file_of_frames j) (λ frames many. many);
}

pub trace_is_lawful : AlongLaws → (c : Chasing) → AddsInOrder (lines_of_steps c) → IsLawful (told_ltc_chase c)
trace_is_lawful laws c adds = record {
  command = command laws c.flight (lines_of_steps c) adds;
  pinned = λ pulled. one_trace laws.one_list c (recording_of pulled);
  unlimited = λ none. absurd cc;
}
