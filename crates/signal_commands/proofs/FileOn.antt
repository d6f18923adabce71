-- What more bytes of a sound file bring: samples of its track, their format, or the end of the reading.
use Rattle.std.proofs.Common.{◌≡◌, ℕ, ◌+◌, ◌≤◌, false, ℤ, List, [], ◌∷◌, ◌++◌, Option, Some, None, length}
use Rattle.std.proofs.Common.{refl, sym, ◌∙◌, ap, subst, append-nil, arith, take}
use Rattle.tc_command.specs.declared.halt.Halt.TheVariants.{Refused, Limit}
use Rattle.tc_command.specs.declared.input_fault.InputFault.TheVariants.{Sound}
use Rattle.tc_io.specs.Verdict.{Verdict, good, refused, past_limit, verdict_as}
use Rattle.wave_file.specs.declared.decoder.Taken.TheVariants as taken
use Rattle.file_faults.specs.declared.sound.WaveFault.{WaveFault}
use Rattle.wave_file.specs.declared.format.Asked.{Asked}
use Rattle.wave_file.specs.declared.format.WaveFormat.{WaveFormat}
use Rattle.wave_file.specs.declared.stage.TheConstants.{MAX_BYTES}
use Rattle.wave_file.specs.GoesOn.{IsWithin}
use Rattle.wave_file.specs.StandsFor.{format_in_decoding, Decoding, IsTold, StandsFor, StopsAt}
use Rattle.wave_file.specs.Wave.{Reading, reading_of}
use Rattle.signal_commands.specs.declared.sound_file.SoundFile.{SoundFile}
use Rattle.signal_commands.specs.KeptFile.{file_said, file_kind, is_known, said_of_reading, HoldsFile}
use Rattle.signal_commands.specs.KeptListening.{Adds, Begins, Ends, Takes}

-- what holds of whatever bytes say
abbrev pub Reads : Type 0
Reads = (asked : Asked) (bytes : List ℕ) → IsWithin asked (reading_of asked bytes)

-- what the decoder says of more bytes
pub record Decodes (old new : Decoding) (bytes : List ℕ) (samples : List ℤ) : Type 0 where
  pub asked : new.asked ≡ old.asked
  pub within : new.place ≤ MAX_BYTES
  pub stands : (front : List ℕ) (before : List ℤ) → StandsFor old front before
      → StandsFor new (front ++ bytes) (before ++ samples)
  pub told : (all : List ℕ) (given : List ℤ) → StandsFor new all given
      → IsTold (reading_of new.asked all) (format_in_decoding new) given good

-- what it says, if it gives the format too
pub decodes_more : (old new : Decoding) (bytes : List ℕ) (samples : List ℤ) (told : Option WaveFormat)
    → new.asked ≡ old.asked
    → ((front : List ℕ) (before : List ℤ) → StandsFor old front before
    → StandsFor new (front ++ bytes) (before ++ samples))
    → new.place ≤ MAX_BYTES → told ≡ format_in_decoding new
    → ((all : List ℕ) (given : List ℤ) → StandsFor new all given → IsTold (reading_of new.asked all) told given good)
    → Decodes old new bytes samples
decodes_more old new bytes samples told asked stands within is tells = record {
  asked = asked;
  within = within;
  stands = stands;
  told = λ all given at.
      subst (λ (f : Option WaveFormat). IsTold (reading_of new.asked all) f given good) is (tells all given at);
}

pub holds_on : (s next : SoundFile) (front bytes : List ℕ) (samples : List ℤ)
    → Decodes s.decoder next.decoder bytes samples → HoldsFile s front → HoldsFile next (front ++ bytes)
holds_on s next front bytes samples decodes holds =
    let stands = decodes.stands front holds.samples holds.decoder in
    record {
      samples = holds.samples ++ samples;
      decoder = stands;
      told = decodes.told (front ++ bytes) (holds.samples ++ samples) stands;
      within = decodes.within;
    }

-- in the terms of what was asked
told_on : (s next : SoundFile) (front bytes : List ℕ) (samples : List ℤ)
    → Decodes s.decoder next.decoder bytes samples → (holds : HoldsFile s front)
    → IsTold (reading_of s.decoder.asked (front ++ bytes)) (format_in_decoding next.decoder) (holds.samples ++ samples)
    good
told_on s next front bytes samples decodes holds =
    subst (λ (a : Asked). IsTold (reading_of a (front ++ bytes)) (format_in_decoding next.decoder)
    (holds.samples ++ samples) good) decodes.asked
    (decodes.told (front ++ bytes) (holds.samples ++ samples) (decodes.stands front holds.samples holds.decoder))

-- ---- what the bytes bring

known_is : (format : Option WaveFormat) → is_known format ≡ false → format ≡ None
known_is None none = refl
known_is (Some format) none = absurd cc

no_more : (a b : List ℤ) → a ++ b ≡ [] → b ≡ []
no_more [] b e = e
no_more (x ∷ a) b e = absurd cc

-- samples
pub adds_on : Reads → (s next : SoundFile) (front bytes : List ℕ) (samples : List ℤ)
    → Decodes s.decoder next.decoder bytes samples
    → format_in_decoding next.decoder ≡ format_in_decoding s.decoder → HoldsFile s front
    → Adds s.decoder.asked.most_samples (file_said s.decoder.asked front) (file_said s.decoder.asked (front ++ bytes))
    samples
adds_on reads s next front bytes samples decodes same holds =
    let asked = s.decoder.asked in
    let before = reading_of asked front in
    let told = told_on s next front bytes samples decodes holds in
    let format = told.format_is ∙ same ∙ sym holds.told.format_is in
    let joined = told.samples_are ∙ ap (λ l. l ++ samples) (sym holds.told.samples_are) in
    record {
      format = format;
      begun = ap is_known format;
      samples = joined;
      none = λ none. no_more before.samples samples
          (sym joined ∙ (reads asked (front ++ bytes)).none (format ∙ known_is before.format none));
      few = (reads asked (front ++ bytes)).few;
    }

-- the format
pub begins_on : (s next : SoundFile) (front bytes : List ℕ) (format : WaveFormat)
    → Decodes s.decoder next.decoder bytes [] → format_in_decoding s.decoder ≡ None
    → format_in_decoding next.decoder ≡ Some format → HoldsFile s front
    → Begins (file_said s.decoder.asked front) (file_said s.decoder.asked (front ++ bytes)) format
begins_on s next front bytes format decodes before now holds =
    let told = told_on s next front bytes [] decodes holds in
    record {
      waited = ap is_known (holds.told.format_is ∙ before);
      begun = ap is_known (told.format_is ∙ now);
      format = told.format_is ∙ now;
      samples = told.samples_are ∙ append-nil holds.samples ∙ sym holds.told.samples_are;
    }

-- the end of the reading
ends_on : (s : SoundFile) (front bytes : List ℕ) (v : Verdict WaveFault) (holds : HoldsFile s front)
    → ((more : List ℕ) → IsTold (reading_of s.decoder.asked ((front ++ bytes) ++ more)) (format_in_decoding s.decoder)
    holds.samples v)
    → IsTold (reading_of s.decoder.asked (front ++ bytes)) (reading_of s.decoder.asked front).format
    (reading_of s.decoder.asked front).samples v
ends_on s front bytes v holds told =
    rw (holds.told.format_is, holds.told.samples_are)
    (subst (λ (l : List ℕ). IsTold (reading_of s.decoder.asked l) (format_in_decoding s.decoder) holds.samples v)
    (append-nil (front ++ bytes)) (told []))

pub fault_ends : (s : SoundFile) (front bytes : List ℕ) (f : WaveFault) (holds : HoldsFile s front)
    → StopsAt s.decoder (front ++ bytes) holds.samples (taken.Fault f)
    → Ends (file_said s.decoder.asked front) (file_said s.decoder.asked (front ++ bytes)) (Refused (Sound f))
fault_ends s front bytes f holds stops =
    let told = ends_on s front bytes (refused f) holds stops in
    record { format = told.format_is; samples = told.samples_are; verdict = ap (verdict_as Sound) told.verdict_is }

pub limit_ends : (s : SoundFile) (front bytes : List ℕ) (holds : HoldsFile s front)
    → StopsAt s.decoder (front ++ bytes) holds.samples taken.Limit
    → Ends (file_said s.decoder.asked front) (file_said s.decoder.asked (front ++ bytes)) Limit
limit_ends s front bytes holds stops =
    let told = ends_on s front bytes past_limit holds stops in
    record { format = told.format_is; samples = told.samples_are; verdict = ap (verdict_as Sound) told.verdict_is }

-- bytes that are too few say nothing more
pub file_waits : (s : SoundFile) (front bytes : List ℕ) (holds : HoldsFile s front)
    → StopsAt s.decoder (front ++ bytes) holds.samples taken.Few
    → file_said s.decoder.asked (front ++ bytes) ≡ file_said s.decoder.asked front
file_waits s front bytes holds now =
    let before = holds.told in
    same_said (reading_of s.decoder.asked (front ++ bytes)) (reading_of s.decoder.asked front)
    (now.format_is ∙ sym before.format_is) (now.samples_are ∙ sym before.samples_are)
    (now.verdict_is ∙ sym before.verdict_is)
  where
    same_said : (r t : Reading) → r.format ≡ t.format → r.samples ≡ t.samples → r.verdict ≡ t.verdict
        → said_of_reading r ≡ said_of_reading t
    same_said r t format samples verdict = rw (format, samples, verdict) refl

-- ---- how many bytes were taken

pub takes_on : (s next : SoundFile) (bytes : List ℕ) (count : ℕ) (samples : List ℤ)
    → Decodes s.decoder next.decoder (take count bytes) samples → 1 ≤ count → count ≤ length bytes
    → next.decoder.place ≡ s.decoder.place + count → Takes file_kind s next bytes count
takes_on s next bytes count samples decodes some within taken = record {
  some = some;
  within = within;
  asked = decodes.asked;
  left = omega (arith, decodes.within, taken, some);
  holds = λ front holds. holds_on s next front (take count bytes) samples decodes holds;
}
