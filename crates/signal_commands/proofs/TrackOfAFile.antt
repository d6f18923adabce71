-- A sound file that was made of blocks is read as them, so what is written of it is the file of its track, whose
-- intervals give its crossings.
use Rattle.std.proofs.Common.{◌≡◌, ℕ, ◌*◌, List, sym, ◌∙◌, ap, arith}
use Rattle.tc_job.specs.WaveSlicing.{IsWaveSlicing, SlicesWave}
use Rattle.wave_file.specs.declared.format.WaveFormat.{WaveFormat}
use Rattle.wave_file.specs.Grammar.{IsMadeOf, Sample, read_whole}
use Rattle.wave_file.specs.Grammar.{track_of as samples_in}
use Rattle.wave_file.specs.Wave.{Reading, reading_of}
use Rattle.signal_commands.specs.WavLtc.{SlicesTheTrack, along_sound_file, told_wav_ltc, track_file, track_of}
use Rattle.signal_commands.specs.WavLtc.{track_pace, track_settings}
use Rattle.signal_commands.proofs.PutMore.{is_pace}
use Rattle.signal_commands.proofs.SoundCovered.{TellAll, pace_ended, pace_passing, some_threshold}
use Rattle.tc_command.specs.Command.{IsCommand}
use Rattle.tc_command.specs.Told.{IsLawful, KeepsPromise}
use Rattle.signal_commands.specs.WavLtc.{asked_by}
use Rattle.wave_file.specs.declared.format.Asked.{Asked}

-- what is made is read whole
abbrev AreReadAsMade : Type 0
AreReadAsMade = (asked : Asked) (format : WaveFormat) (blocks : List (List Sample)) (bytes : List ℕ)
    → IsMadeOf asked format blocks bytes → reading_of asked bytes ≡ read_whole format (samples_in asked.track blocks)

slices_the_track : AreReadAsMade → TellAll → (w : SlicesWave) → IsWaveSlicing w → (bytes written : List ℕ)
    → written ≡ track_of w bytes → SlicesTheTrack w bytes written
slices_the_track law tell w is bytes written are = record {
  are = are;
  made = λ format blocks made.
      are ∙ ap (λ (r : Reading). track_file w r.format r.samples) (law (asked_by w) format blocks bytes made);
  tell = λ format blocks made.
      tell (track_pace w format) (track_settings w) (samples_in w.track blocks)
      (is_pace w.live w.system (16 * format.rate)) (omega arith) (some_threshold w.threshold is.threshold);
  ended = λ format. pace_ended w.system (16 * format.rate) w.live;
  passing = λ format. pace_passing w.system (16 * format.rate) w.live;
}

-- ---- what is claimed of a sliced track

pub track_is_lawful : ((w : SlicesWave) → IsCommand (along_sound_file w)) → (w : SlicesWave) → IsLawful (told_wav_ltc w)
track_is_lawful command w = record {
  command = command w;
  pinned = λ bytes a b p q. p.are ∙ sym q.are;
  unlimited = λ none input spent. spent;
}

pub track_is_kept : AreReadAsMade → TellAll → (w : SlicesWave) → IsWaveSlicing w → KeepsPromise (told_wav_ltc w)
track_is_kept law tell w is = λ pulled written are input output. slices_the_track law tell w is pulled written output
