-- What is sliced of sound gives its crossings, and is of all samples in the bytes.
use Rattle.std.proofs.Common.{◌≡◌, ℕ, ◌*◌, ◌%◌, ◌<◌, ◌≤◌, Bool, true, false, cond, ◌==◌, ℤ, List, [], ◌∷◌, length}
use Rattle.std.proofs.Common.{Some, None, refl, sym, ◌∙◌, ap, arith}
use Rattle.std.specs.List.{AllByRecursion}
use Rattle.std.proofs.lemmas.Bool.Decides.{nat_tests}
use Rattle.pcm_front.specs.declared.pace.Pace.{Pace}
use Rattle.pcm_front.specs.declared.pace.Pace.TheVariants.{Ended, Passing}
use Rattle.pcm_front.specs.declared.threshold.Threshold.{Threshold}
use Rattle.pcm_front.specs.declared.threshold.Threshold.TheVariants.{Fixed, Follow, Deep}
use Rattle.pcm_front.specs.Covered.{TellTheCrossings}
use Rattle.pcm_front.specs.Level.{least_of}
use Rattle.pcm_front.specs.Pace.{IsPace}
use Rattle.pcm_front.specs.Samples.{bytes_of, samples_of}
use Rattle.pcm_front.specs.Settings.{Settings}
use Rattle.pcm_front.specs.State.{IsThreshold}
use Rattle.tc_io.specs.Bytes.{AreBytes}
use Rattle.tc_address.specs.declared.system.System.{System}
use Rattle.tc_job.specs.Pace.{pace_of, quarter_frame}
use Rattle.tc_job.specs.Slicing.{Slices, IsSlicing}
use Rattle.tc_command.specs.declared.input_fault.InputFault.TheVariants.{HalfSample}
use Rattle.tc_command.specs.Command.{IsCommand}
use Rattle.tc_command.specs.Told.{IsLawful, KeepsPromise}
use Rattle.interval_file.specs.Grammar.{file_of}
use Rattle.signal_commands.specs.PcmLtc.{along_samples, odd_fault, pace_for, settings_for, sliced_header}
use Rattle.signal_commands.specs.PcmLtc.{sliced_intervals, told_pcm_ltc, SlicesTheSound}
use Rattle.signal_commands.proofs.PutMore.{is_pace}

-- intervals give their crossings
abbrev pub TellAll : Type 0
TellAll = (pace : Pace) (s : Settings) (samples : List ℤ) → IsPace pace → 1 ≤ s.fineness → 1 ≤ least_of s.threshold
    → TellTheCrossings pace s samples

-- bytes of whole samples are those of their samples
abbrev pub AreOfSamples : Type 0
AreOfSamples = (bytes : List ℕ) → AllByRecursion (λ byte. byte < 256) bytes → length bytes % 2 ≡ 0
    → bytes_of (samples_of bytes) ≡ bytes

-- what is read are bytes, of whole samples
pub all_bytes : (bytes : List ℕ) → AreBytes bytes → AllByRecursion (λ (byte : ℕ). byte < 256) bytes
all_bytes [] are = tt
all_bytes (byte ∷ more) are = (are.0, all_bytes more are.1)

even_by : (n : ℕ) → n < 2 → (b : Bool) → (n == 1) ≡ b → b ≡ false → n ≡ 0
even_by n below b is none = let odd : (n == 1) ≡ false = cc in grind (arith, nat_tests)

no_fault_by : (b : Bool) (n : ℕ) → cond b (Some (HalfSample n)) None ≡ None → b ≡ false
no_fault_by true n is = absurd cc
no_fault_by false n is = refl

pub even : (bytes : List ℕ) → odd_fault bytes ≡ None → length bytes % 2 ≡ 0
even bytes end =
    even_by (length bytes % 2) (omega arith) (length bytes % 2 == 1) refl
    (no_fault_by (length bytes % 2 == 1) (length bytes) end)

pub some_threshold : (t : Threshold) → IsThreshold t → 1 ≤ least_of t
some_threshold (Fixed t) is = is.0
some_threshold (Follow t) is = is.0
some_threshold (Deep t) is = is.0

pub pace_ended : (system : System) (tick_rate : ℕ) (live : Bool) → live ≡ false → pace_of live system tick_rate ≡ Ended
pace_ended system tick_rate true none = absurd cc
pace_ended system tick_rate false none = refl

pub pace_passing : (system : System) (tick_rate : ℕ) (live : Bool) → live ≡ true
    → pace_of live system tick_rate ≡ Passing (quarter_frame system tick_rate)
pace_passing system tick_rate true is = refl
pace_passing system tick_rate false is = absurd cc

pub sound_is_lawful : ((s : Slices) → IsCommand (along_samples s)) → (s : Slices) → IsLawful (told_pcm_ltc s)
sound_is_lawful commands s = record {
  command = commands s;
  pinned = λ pulled a b p q. p.are ∙ sym q.are;
  unlimited = λ none input spent. spent;
}

slices : TellAll → AreOfSamples → (s : Slices) → IsSlicing s → (bytes written : List ℕ) → AreBytes bytes
    → odd_fault bytes ≡ None → written ≡ file_of (sliced_header s) (sliced_intervals s (samples_of bytes))
    → SlicesTheSound s bytes written
slices tell back s is bytes written are end output =
    let told = tell (pace_for s) (settings_for s) (samples_of bytes) (is_pace s.live s.system (s.rate * s.fineness))
    is.least (some_threshold s.threshold is.threshold) in
    record {
      are = output;
      samples = sym (back bytes (all_bytes bytes are) (even bytes end));
      tell = told;
      ended = pace_ended s.system (s.rate * s.fineness) s.live;
      passing = pace_passing s.system (s.rate * s.fineness) s.live;
      polarity = λ over same. output
          ∙ ap (file_of (sliced_header s)) (sym (ap (sliced_intervals s) same ∙ told.polarity));
    }

pub sound_is_kept : TellAll → AreOfSamples → (s : Slices) → IsSlicing s → KeepsPromise (told_pcm_ltc s)
sound_is_kept tell back s is = λ pulled written are input output.
    slices tell back s is pulled written are input.end output
