-- What a container of raw samples keeps. No promise speaks of it.
use Rattle.std.specs.Prelude.{◌≡◌, ℕ, zero, suc, ◌-◌, ◌*◌, ◌≤◌, nat_lt, Bool, true, cond, ℤ, List, [], ◌∷◌, ◌++◌}
use Rattle.std.specs.Prelude.{length, take, None}
use Rattle.std.proofs.Common.{ap, arith, refl}
use Rattle.std.proofs.lemmas.Bool.{le-ltb}
use Rattle.pcm_front.specs.Samples.{sample_in, samples_of}
use Rattle.tc_io.specs.Verdict.{good, past_limit}
use Rattle.signal_commands.specs.declared.raw_samples.RawSamples.{RawSamples}
use Rattle.signal_commands.specs.declared.pcm_ltc.TheConstants.{MAX_SAMPLES}
use Rattle.signal_commands.specs.KeptListening.{Said, ContainerKind}
use Rattle.signal_commands.specs.PcmLtc.{odd_fault, samples_within}

-- it was given these bytes: whole samples
pub record HoldsRaw (s : RawSamples) (bytes : List ℕ) : Type 0 where
  pub within : s.samples ≤ MAX_SAMPLES
  pub count : length bytes ≡ 2 * s.samples

-- what samples say
abbrev pub said_of : List ℤ → Said
said_of samples = record {
  format = None;
  begun = true;
  samples = take MAX_SAMPLES samples;
  all = samples;
  verdict = cond (nat_lt MAX_SAMPLES (length samples)) past_limit good;
}

-- and so do their bytes
abbrev pub raw_said : List ℕ → Said
raw_said bytes = said_of (samples_of bytes)

abbrev pub raw_kind : ContainerKind RawSamples (Unit {0})
raw_kind = record {
  asked = λ s. record {};
  says = λ asked. raw_said;
  ends = λ asked. odd_fault;
  most = λ asked. MAX_SAMPLES;
  tells = λ asked format. ⊥;
  holds = HoldsRaw;
  short = λ s bytes. length bytes ≡ 1;
  left = λ s. MAX_SAMPLES - s.samples;
}

-- ---- whole samples

-- the samples of whole samples and of what follows
pub samples_of-append : (count : ℕ) (whole more : List ℕ) → length whole ≡ 2 * count
    → samples_of (whole ++ more) ≡ samples_of whole ++ samples_of more
unfolding samples_of
samples_of-append count [] more is = refl
samples_of-append count (low ∷ []) more is = absurd (omega (arith, is))
samples_of-append zero (low ∷ high ∷ rest) more is = absurd (omega (arith, is))
samples_of-append (suc count) (low ∷ high ∷ rest) more is =
    ap (λ l. sample_in (low ∷ high ∷ []) ∷ l) (samples_of-append count rest more (omega (arith, is)))

pub length-samples : (count : ℕ) (whole : List ℕ) → length whole ≡ 2 * count → length (samples_of whole) ≡ count
unfolding samples_of
length-samples count [] is = omega (arith, is)
length-samples count (low ∷ []) is = absurd (omega (arith, is))
length-samples zero (low ∷ high ∷ rest) is = absurd (omega (arith, is))
length-samples (suc count) (low ∷ high ∷ rest) is =
    let more = length-samples count rest (omega (arith, is)) in omega (arith, more)

-- no more than may be
pub few_samples : (s : RawSamples) (bytes : List ℕ) → HoldsRaw s bytes → length (samples_of bytes) ≤ MAX_SAMPLES
few_samples s bytes holds =
    let long = length-samples s.samples bytes holds.count in omega (arith, long, holds.within)

-- so they are good
pub raw_is_good : (s : RawSamples) (bytes : List ℕ) → HoldsRaw s bytes → samples_within MAX_SAMPLES bytes ≡ good
raw_is_good s bytes holds =
    ap (λ (b : Bool). cond b past_limit good)
    (le-ltb MAX_SAMPLES (length (samples_of bytes)) (few_samples s bytes holds))
