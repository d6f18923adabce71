-- What `wav-ltc` writes of some bytes comes first, whatever bytes follow, so it is a command as any other.
use Rattle.std.proofs.Common.{◌≡◌, ◌⊎◌, inl, inr, ℕ, ◌*◌, ℤ, List, [], ◌++◌, Option, Some, None, refl, sym, ◌∙◌}
use Rattle.std.proofs.Common.{ap, subst, append_assoc}
use Rattle.std.proofs.lemmas.Bool.{false≢true}
use Rattle.std.proofs.lemmas.Grind.{flat_map-append}
use Rattle.pcm_front.specs.declared.pace.Pace.{Pace}
use Rattle.pcm_front.specs.Pace.{intervals_at, IsPace}
use Rattle.pcm_front.specs.Settings.{Settings}
use Rattle.interval_file.specs.declared.header.FileVersion.TheVariants.{One}
use Rattle.interval_file.specs.Grammar.{intervals_bytes}
use Rattle.interval_file.specs.IntervalHeader.{header_bytes}
use Rattle.interval_file.specs.Piece.{spelling}
use Rattle.tc_io.specs.Sink.{IsFront}
use Rattle.tc_job.specs.WaveSlicing.{SlicesWave}
use Rattle.wave_file.specs.declared.format.WaveFormat.{WaveFormat}
use Rattle.wave_file.specs.GoesOn.{GoesOn}
use Rattle.wave_file.specs.Wave.{Reading, reading_of}
use Rattle.tc_command.specs.Command.{IsCommand}
use Rattle.signal_commands.specs.KeptSliced.{AreDue, spelled}
use Rattle.signal_commands.specs.WavLtc.{along_sound_file, track_file, track_header, track_of, track_pace}
use Rattle.signal_commands.specs.WavLtc.{track_settings}
use Rattle.signal_commands.proofs.PutMore.{is_pace}
use Rattle.tc_io.specs.VerdictLemmas.{fault_stays, limit_stays}
use Rattle.tc_command.specs.declared.input_fault.InputFault.TheVariants.{Sound}
use Rattle.signal_commands.specs.WavLtc.{asked_by}
use Rattle.wave_file.specs.declared.format.Asked.{Asked}

-- ---- the file

-- the intervals of some samples come first, at each pace
abbrev pub IntervalsComeFirst : Type 0
IntervalsComeFirst = (pace : Pace) (settings : Settings) (front more : List ℤ) → IsPace pace
    → (rest : List ℕ) × (intervals_at pace settings (front ++ more) ≡ intervals_at pace settings front ++ rest)

-- so their bytes do
pub due_of : IntervalsComeFirst → (pace : Pace) (s : Settings) (front more : List ℤ) → IsPace pace → (due : List ℕ)
    × AreDue pace s front more due
due_of laws pace s front more is =
    let rest = laws pace s front more is in (
      intervals_bytes One rest.0,
      ap (intervals_bytes One) rest.1 ∙ flat_map-append (spelling One) (intervals_at pace s front) rest.0,
    )

-- and the file with them
pub file_with : (w : SlicesWave) (format : WaveFormat) (samples more : List ℤ) (due : List ℕ)
    → AreDue (track_pace w format) (track_settings w) samples more due
    → track_file w (Some format) (samples ++ more) ≡ track_file w (Some format) samples ++ due
file_with w format samples more due are =
    let header = header_bytes (track_header w format) in
    ap (λ (l : List ℕ). header ++ l) are
    ∙ sym (append_assoc header (spelled (track_pace w format) (track_settings w) samples) due)

file_first : IntervalsComeFirst → (w : SlicesWave) (r s : Reading) → GoesOn r s
    → IsFront (track_file w r.format r.samples) (track_file w s.format s.samples)
file_first laws w r s goes = by_format goes.format
  where
    by_same : (format : Option WaveFormat) → IsFront (track_file w format r.samples) (track_file w format s.samples)
    by_same None = ([], refl)
    by_same (Some format) =
        let more = goes.samples in
        let due = due_of laws (track_pace w format) (track_settings w) r.samples more.0
        (is_pace w.live w.system (16 * format.rate)) in
        (due.0, ap (track_file w (Some format)) more.1 ∙ file_with w format r.samples more.0 due.0 due.1)

    by_format : (r.format ≡ None) ⊎ (s.format ≡ r.format)
        → IsFront (track_file w r.format r.samples) (track_file w s.format s.samples)
    by_format (inl none) =
        subst (λ (f : Option WaveFormat). IsFront (track_file w f r.samples) (track_file w s.format s.samples))
        (sym none)
        (track_file w s.format s.samples, refl)
    by_format (inr same) =
        subst (λ (f : Option WaveFormat). IsFront (track_file w r.format r.samples) (track_file w f s.samples))
        (sym same) (by_same r.format)

-- ---- what bytes show

-- what bytes show stays
abbrev pub ShowsStay : Type 0
ShowsStay = (asked : Asked) (bytes more : List ℕ) → GoesOn (reading_of asked bytes) (reading_of asked (bytes ++ more))

track_first : IntervalsComeFirst → ShowsStay → (w : SlicesWave) (front more a b : List ℕ) → a ≡ track_of w front
    → b ≡ track_of w (front ++ more)
    → IsFront a b
track_first laws shows w front more a b one all =
    let first = file_first laws w (reading_of (asked_by w) front) (reading_of (asked_by w) (front ++ more))
    (shows (asked_by w) front more) in
    (first.0, all ∙ first.1 ∙ ap (λ (l : List ℕ). l ++ first.0) (sym one))

pub track_is_command : IntervalsComeFirst → ShowsStay → (w : SlicesWave) → IsCommand (along_sound_file w)
track_is_command laws shows w = record {
  first = record {
    part = λ front more a b one all. track_first laws shows w front more a b one all;
    output = λ front more a b one all. track_first laws shows w front more a b one all;
    stays = λ front more spent. spent;
    limit = λ front more a b spent one all. absurd spent;
  };
  some_part = λ bytes. (_, refl);
  some_output = λ input is. (_, refl);
  one_part = λ bytes a b one all. one ∙ sym all;
  one_output = λ input a b one all. one ∙ sym all;
  fault = λ front rest f e. let goes = shows (asked_by w) front rest in fault_stays Sound _ _ f goes.fault e;
  limit = λ front rest e. let goes = shows (asked_by w) front rest in limit_stays Sound _ _ goes.limit e;
  fault_unspent = λ front rest f e spent. spent;
  limit_unspent = λ front rest e spent. spent;
  ends = λ bytes f e. refl;
  idle = λ e all. absurd (false≢true (sym e));
  idle_part = λ e bytes a b one all. absurd (false≢true (sym e));
  idle_output = λ e bytes a b one all. absurd (false≢true (sym e));
}
