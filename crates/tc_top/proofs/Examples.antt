-- A recording of the intervals 2 and 3 that was sounded at 1,000, and what reads it again: what is supposed of the
-- second command can be met.
use Rattle.std.proofs.Common.{ℕ, false, List, [], ◌∷◌, map, refl, arith}
use Rattle.pcm_front.specs.declared.threshold.Threshold.TheVariants.{Fixed, Follow}
use Rattle.pcm_front.specs.Samples.{bytes_of, samples_of}
use Rattle.pcm_front.specs.Sound.{sound}
use Rattle.tc_address.specs.declared.system.System.TheVariants.{F25}
use Rattle.tc_job.specs.Slicing.{Slices}
use Rattle.tc_job.specs.WaveSlicing.{SlicesWave}
use Rattle.wave_file.specs.declared.format.WaveFormat.{WaveFormat}
use Rattle.wave_file.specs.Format.{samples_at}
use Rattle.wave_file.specs.Grammar as wave
use Rattle.wave_file.specs.Grammar.{Wide}
use Rattle.wave_file.specs.Wave.{chunks_at}
use Rattle.signal_commands.specs.PcmLtc.{sliced}
use Rattle.signal_commands.specs.WavLtc.{track_of}
use Rattle.tc_top.specs.SoundAgain.{SlicesFileTo, SlicesTo}

-- the sound, in samples of 16 bits
sounded : List ℕ
sounded = bytes_of (sound 1_000 (2 ∷ 3 ∷ []))

-- ---- by `pcm-ltc 25 48000 500`

slicing : Slices
slicing = record { system = F25; rate = 48_000; threshold = Fixed 500; fineness = 1; smooth = 1; live = false }

the_sound_is_sliced : SlicesTo 1_000 slicing sounded (sliced slicing (samples_of sounded))
unfolding slicing sounded samples_of
the_sound_is_sliced = record {
  threshold = 500;
  alone = refl;
  ended = refl;
  fixed = refl;
  some = omega arith;
  most = omega arith;
  input = record { verdict = refl; unspent = λ spent. spent; end = refl };
  output = refl;
}

-- ---- by `wav-ltc 25 1 500`, in a file of one track

track : SlicesWave
track = record { system = F25; track = 1; threshold = Follow 500; smooth = 1; live = false }

mono : WaveFormat
mono = record { tracks = 1; rate = 48_000; block = 2; bits = 16 }

-- seven samples, which are 14 bytes, after a form, the letters and two chunks
file : List ℕ
file = wave.file_of 50 [] mono 14 (map (λ sample. Wide [] sample ∷ []) (sound 1_000 (2 ∷ 3 ∷ []))) []

the_track_is_sliced : SlicesFileTo 1_000 track mono sounded file (track_of track file)
unfolding track mono sounded file chunks_at samples_at samples_of
the_track_is_sliced = record {
  least = 500;
  alone = refl;
  ended = refl;
  follows = refl;
  some = omega arith;
  most = omega arith;
  half = omega arith;
  begins = refl;
  samples = refl;
  output = refl;
}
