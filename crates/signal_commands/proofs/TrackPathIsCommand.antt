-- What `wav-ltc .. path` writes of some bytes comes first, whatever bytes follow, so it is a command as any other: from
-- the least rate on the sound of a file has steps.
use Rattle.std.proofs.Common.{◌≡◌, ◌⊎◌, inl, inr, ℕ, ◌≤◌, ℤ, List, [], ◌++◌, Option, Some, None, refl, sym, ◌∙◌}
use Rattle.std.proofs.Common.{ap, subst}
use Rattle.std.proofs.lemmas.Bool.{false≢true}
use Rattle.tc_command.specs.Command.{IsCommand}
use Rattle.tc_command.specs.declared.input_fault.InputFault.TheVariants.{Sound}
use Rattle.tc_io.specs.Sink.{IsFront}
use Rattle.tc_io.specs.VerdictLemmas.{fault_stays, limit_stays}
use Rattle.tc_job.specs.PathSlicing.{SlicesPath}
use Rattle.tc_job.specs.TrackPath.{least_rate_of, sound_of, SlicesTrackPath}
use Rattle.wave_file.specs.declared.format.Asked.{Asked}
use Rattle.wave_file.specs.declared.format.WaveFormat.{WaveFormat}
use Rattle.wave_file.specs.GoesOn.{GoesOn}
use Rattle.wave_file.specs.Wave.{Reading, reading_of}
use Rattle.signal_commands.specs.PcmPath.{IsPathFile, IsPathFileSoFar}
use Rattle.signal_commands.specs.WavPath.{along_track_path, asked_for_path}
use Rattle.signal_commands.specs.WavPath.{WritesPath, WritesPathSoFar}
use Rattle.signal_commands.proofs.PathIsCommand.{file_once, path_file, path_so_far, so_far_grows, whole_grows}
use Rattle.signal_commands.proofs.PathIsCommand.{whole_once}
use Rattle.signal_commands.proofs.PathIsCommand.{PathLaws}
use Rattle.signal_commands.proofs.TrackGoesOn.{ShowsStay}

-- the sound of a file that is read has steps
abbrev pub HasSteps : Type 0
HasSteps = (t : SlicesTrackPath) (rate : ℕ) → least_rate_of t.system ≤ rate → rate ≤ 6_250_000
    → (path : SlicesPath) × (sound_of t rate ≡ Some path)

abbrev pub IsJudged : Type 0
IsJudged = (asked : Asked) (bytes : List ℕ) (format : WaveFormat) → (reading_of asked bytes).format ≡ Some format
    → (asked.least_rate ≤ format.rate) × (format.rate ≤ 6_250_000)

-- ---- one text, and there is one

same_path : {A : Type 0} (o : Option A) (a b : A) → o ≡ Some a → o ≡ Some b → a ≡ b
same_path o a b p q = cc

one_so_far : PathLaws → (t : SlicesTrackPath) (format : Option WaveFormat) (samples : List ℤ) (a b : List ℕ)
    → WritesPathSoFar t format samples a → WritesPathSoFar t format samples b → a ≡ b
one_so_far laws t None samples a b one all = one ∙ sym all
one_so_far laws t (Some format) samples a b one all =
    file_once laws one.path samples a b one.file
    (subst (λ (p : SlicesPath). IsPathFileSoFar p samples b)
    (same_path (sound_of t format.rate) all.path one.path all.sound one.sound) all.file)

one_whole : PathLaws → (t : SlicesTrackPath) (format : Option WaveFormat) (samples : List ℤ) (a b : List ℕ)
    → WritesPath t format samples a → WritesPath t format samples b → a ≡ b
one_whole laws t None samples a b one all = one ∙ sym all
one_whole laws t (Some format) samples a b one all =
    whole_once laws one.path samples a b one.file
    (subst (λ (p : SlicesPath). IsPathFile p samples b)
    (same_path (sound_of t format.rate) all.path one.path all.sound one.sound) all.file)

some_so_far : PathLaws → HasSteps → IsJudged → (t : SlicesTrackPath) (bytes : List ℕ) (format : Option WaveFormat)
    (samples : List ℤ) → (reading_of (asked_for_path t) bytes).format ≡ format
    → (written : List ℕ) × WritesPathSoFar t format samples written
some_so_far laws steps judged t bytes None samples is = ([], refl)
some_so_far laws steps judged t bytes (Some format) samples is =
    let rate = judged (asked_for_path t) bytes format is in
    let path = steps t format.rate rate.0 rate.1 in
    let file = path_so_far laws path.0 samples in
    (file.0, record { path = path.0; sound = path.1; file = file.1 })

some_whole : PathLaws → HasSteps → IsJudged → (t : SlicesTrackPath) (bytes : List ℕ) (format : Option WaveFormat)
    (samples : List ℤ) → (reading_of (asked_for_path t) bytes).format ≡ format
    → (written : List ℕ) × WritesPath t format samples written
some_whole laws steps judged t bytes None samples is = ([], refl)
some_whole laws steps judged t bytes (Some format) samples is =
    let rate = judged (asked_for_path t) bytes format is in
    let path = steps t format.rate rate.0 rate.1 in
    let file = path_file laws path.0 samples in
    (file.0, record { path = path.0; sound = path.1; file = file.1 })

-- ---- what comes first

so_far_first : PathLaws → (t : SlicesTrackPath) (r s : Reading) (a b : List ℕ) → GoesOn r s
    → WritesPathSoFar t r.format r.samples a → WritesPathSoFar t s.format s.samples b → IsFront a b
so_far_first laws t r s a b goes one all = by_format goes.format
  where
    by_same : (format : Option WaveFormat) → WritesPathSoFar t format r.samples a
        → WritesPathSoFar t format s.samples b → IsFront a b
    by_same None one all = (b, ap (λ (l : List ℕ). l ++ b) (sym one))
    by_same (Some format) one all =
        so_far_grows laws one.path r.samples goes.samples.0 a b one.file
        (subst (λ (l : List ℤ). IsPathFileSoFar one.path l b) goes.samples.1
        (subst (λ (p : SlicesPath). IsPathFileSoFar p s.samples b)
        (same_path (sound_of t format.rate) all.path one.path all.sound one.sound) all.file))

    by_format : (r.format ≡ None) ⊎ (s.format ≡ r.format) → IsFront a b
    by_format (inl none) =
        let empty = subst (λ (f : Option WaveFormat). WritesPathSoFar t f r.samples a) none one in
        (b, ap (λ (l : List ℕ). l ++ b) (sym empty))
    by_format (inr same) =
        by_same r.format one (subst (λ (f : Option WaveFormat). WritesPathSoFar t f s.samples b) same all)

whole_first : PathLaws → (t : SlicesTrackPath) (r s : Reading) (a b : List ℕ) → GoesOn r s
    → WritesPathSoFar t r.format r.samples a → WritesPath t s.format s.samples b → IsFront a b
whole_first laws t r s a b goes one all = by_format goes.format
  where
    by_same : (format : Option WaveFormat) → WritesPathSoFar t format r.samples a
        → WritesPath t format s.samples b → IsFront a b
    by_same None one all = (b, ap (λ (l : List ℕ). l ++ b) (sym one))
    by_same (Some format) one all =
        whole_grows laws one.path r.samples goes.samples.0 a b one.file
        (subst (λ (l : List ℤ). IsPathFile one.path l b) goes.samples.1
        (subst (λ (p : SlicesPath). IsPathFile p s.samples b)
        (same_path (sound_of t format.rate) all.path one.path all.sound one.sound) all.file))

    by_format : (r.format ≡ None) ⊎ (s.format ≡ r.format) → IsFront a b
    by_format (inl none) =
        let empty = subst (λ (f : Option WaveFormat). WritesPathSoFar t f r.samples a) none one in
        (b, ap (λ (l : List ℕ). l ++ b) (sym empty))
    by_format (inr same) =
        by_same r.format one (subst (λ (f : Option WaveFormat). WritesPath t f s.samples b) same all)

pub track_path_is_command : PathLaws → HasSteps → IsJudged → ShowsStay → (t : SlicesTrackPath)
    → IsCommand (along_track_path t)
track_path_is_command laws steps judged shows t = record {
  first = record {
    part = λ front more a b one all.
        so_far_first laws t (reading_of (asked_for_path t) front) (reading_of (asked_for_path t) (front ++ more)) a b
        (shows (asked_for_path t) front more) one all;
    output = λ front more a b one all.
        whole_first laws t (reading_of (asked_for_path t) front) (reading_of (asked_for_path t) (front ++ more)) a b
        (shows (asked_for_path t) front more) one all;
    stays = λ front more spent. spent;
    limit = λ front more a b spent one all. absurd spent;
  };
  some_part = λ bytes.
      some_so_far laws steps judged t bytes (reading_of (asked_for_path t) bytes).format
      (reading_of (asked_for_path t) bytes).samples refl;
  some_output = λ input is.
      some_whole laws steps judged t input (reading_of (asked_for_path t) input).format
      (reading_of (asked_for_path t) input).samples refl;
  one_part = λ bytes a b one all.
      one_so_far laws t (reading_of (asked_for_path t) bytes).format (reading_of (asked_for_path t) bytes).samples a b
      one all;
  one_output = λ input a b one all.
      one_whole laws t (reading_of (asked_for_path t) input).format (reading_of (asked_for_path t) input).samples a b
      one all;
  fault = λ front rest f e. let goes = shows (asked_for_path t) front rest in fault_stays Sound _ _ f goes.fault e;
  limit = λ front rest e. let goes = shows (asked_for_path t) front rest in limit_stays Sound _ _ goes.limit e;
  fault_unspent = λ front rest f e spent. spent;
  limit_unspent = λ front rest e spent. spent;
  ends = λ bytes f e. refl;
  idle = λ e all. absurd (false≢true (sym e));
  idle_part = λ e bytes a b one all. absurd (false≢true (sym e));
  idle_output = λ e bytes a b one all. absurd (false≢true (sym e));
}
