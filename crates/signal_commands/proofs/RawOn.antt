-- Two bytes are a sample: raw samples as they come, and past the limit nothing more of them.
use Rattle.std.proofs.Common.{◌≡◌, ℕ, suc, ◌+◌, ◌*◌, ◌%◌, ◌==◌, ◌≤◌, cond, ℤ, List, [], ◌∷◌, ◌++◌, length, take, drop}
use Rattle.std.proofs.Common.{Some, None, refl, sym, ◌∙◌, ap, ap₂, append-nil, arith, subst}
use Rattle.std.specs.Int.{w16, cast_signed}
use Rattle.std.proofs.lemmas.List.{length-append, take-append-le, take_all}
use Rattle.byteorder.specs.Endian.{little_number, IsReadBy}
use Rattle.pcm_front.specs.Samples.{samples_of}
use Rattle.tc_command.specs.declared.halt.Halt.TheVariants.{Limit}
use Rattle.tc_command.specs.declared.input_fault.InputFault.TheVariants.{HalfSample}
use Rattle.signal_commands.specs.declared.pcm_ltc.TheConstants.{MAX_SAMPLES}
use Rattle.signal_commands.specs.declared.raw_samples.RawSamples.{RawSamples}
use Rattle.signal_commands.specs.KeptRaw.{few_samples, length-samples, raw_said, said_of, samples_of-append}
use Rattle.signal_commands.specs.KeptRaw.{HoldsRaw}
use Rattle.signal_commands.specs.KeptListening.{Adds, Ends, Hears, ListenerKind}
use Rattle.signal_commands.specs.PcmLtc.{odd_fault}
use Rattle.signal_commands.proofs.SamplesWithin.{is_past, some_samples}

-- what is read two bytes by two are the samples
pub samples_read : (bytes : List ℕ) (samples : List ℤ) → length bytes ≡ 2 * length samples
    → IsReadBy (λ ys. cast_signed w16 (little_number 2 ys)) 2 bytes samples → samples ≡ samples_of bytes
unfolding samples_of
samples_read [] [] long read = refl
samples_read [] (x ∷ samples) long read = absurd (omega (arith, long))
samples_read (low ∷ []) samples long read = absurd (omega (arith, long))
samples_read (low ∷ high ∷ bytes) [] long read = absurd (omega (arith, long))
samples_read (low ∷ high ∷ bytes) (x ∷ samples) long read =
    let rest = samples_read bytes samples (omega (arith, long)) (λ d k less.
    let step : 2 * suc k ≡ suc (suc (2 * k)) = omega arith in
    read d (suc k) (omega (arith, less))
    ∙ ap (λ n. cast_signed w16 (little_number 2 (drop n (low ∷ high ∷ bytes)))) step)
    in ap₂ (λ (y : ℤ) (ys : List ℤ). y ∷ ys) (read x 0 (omega arith)) rest

-- ---- samples that come

-- those that are said are all that were given
said_all : (s : RawSamples) (bytes : List ℕ) → HoldsRaw s bytes → take MAX_SAMPLES (samples_of bytes) ≡ samples_of bytes
said_all s bytes holds = take_all MAX_SAMPLES (samples_of bytes) (few_samples s bytes holds)

-- of no bytes there are none: a listener that begins stands for them
pub raw_begins : {F W : Type 0} (heard : ListenerKind F W) (words : W) (listener : F) (header : List ℕ)
    → heard.hears listener words None [] header → Hears heard words listener (raw_said []) header
unfolding samples_of
raw_begins heard words listener header hears =
    let none : take MAX_SAMPLES (samples_of []) ≡ [] =
    take_all MAX_SAMPLES [] (omega arith) in
    record { begun = refl; hears = subst (λ (l : List ℤ). heard.hears listener words None l header) (sym none) hears }

-- these come behind those before them
behind : (s : RawSamples) (front more : List ℕ) → HoldsRaw s front
    → samples_of (front ++ more) ≡ samples_of front ++ samples_of more
behind s front more holds = samples_of-append s.samples front more holds.count

pub raw_adds : (s next : RawSamples) (front more : List ℕ) → HoldsRaw s front → HoldsRaw next (front ++ more)
    → Adds MAX_SAMPLES (raw_said front) (raw_said (front ++ more)) (samples_of more)
raw_adds s next front more holds then =
    let all = said_all next (front ++ more) then in
    record {
      format = refl;
      begun = refl;
      samples = all ∙ behind s front more holds ∙ ap (λ l. l ++ samples_of more) (sym (said_all s front holds));
      none = λ none. absurd cc;
      few = subst (λ (l : List ℤ). length l ≤ MAX_SAMPLES) (sym all) (few_samples next (front ++ more) then);
    }

-- past the limit none do
pub raw_ends : (s : RawSamples) (front bytes : List ℕ) → HoldsRaw s front → s.samples ≡ MAX_SAMPLES → 2 ≤ length bytes
    → Ends (raw_said front) (raw_said (front ++ bytes)) Limit
raw_ends s front bytes holds full some =
    let samples = samples_of front in
    let all = behind s front bytes holds in
    let long = length-samples s.samples front holds.count in
    let more = length-append samples (samples_of bytes) in
    record {
      format = refl;
      samples = ap (take MAX_SAMPLES) all
          ∙ take-append-le MAX_SAMPLES samples (samples_of bytes) (omega (arith, long, full));
      verdict = is_past MAX_SAMPLES (front ++ bytes)
          (rw all (omega (arith, long, full, more, some_samples bytes some)));
    }

-- ---- half a sample

-- it is none
pub raw_waits : (s : RawSamples) (front bytes : List ℕ) → HoldsRaw s front → length bytes ≡ 1
    → raw_said (front ++ bytes) ≡ raw_said front
unfolding samples_of
raw_waits s front bytes holds half =
    ap said_of (behind s front bytes holds ∙ ap (λ l. samples_of front ++ l) (no_sample bytes half)
    ∙ append-nil (samples_of front))
  where
    no_sample : (bytes : List ℕ) → length bytes ≡ 1 → samples_of bytes ≡ []
    no_sample [] half = refl
    no_sample (low ∷ []) half = refl
    no_sample (low ∷ high ∷ more) half = absurd (omega (arith, half))

-- at the end it is a fault
pub odd_end : (s : RawSamples) (front bytes : List ℕ) → HoldsRaw s front → length bytes ≡ 1
    → odd_fault (front ++ bytes) ≡ Some (HalfSample (2 * s.samples + 1))
odd_end s front bytes holds half =
    let count = s.samples in
    let long : length (front ++ bytes) ≡ 2 * count + 1 =
    length-append front bytes ∙ ap₂ (λ (a b : ℕ). a + b) holds.count half in
    let odd : (2 * count + 1) % 2 ≡ 1 = omega arith in
    ap (λ (n : ℕ). cond (n % 2 == 1) (Some (HalfSample n)) None) long
    ∙ ap (λ (n : ℕ). cond (n == 1) (Some (HalfSample (2 * count + 1))) None) odd

pub even_end : (s : RawSamples) (bytes : List ℕ) → HoldsRaw s bytes
    → (odd_fault bytes ≡ None) × (samples_of bytes ≡ take MAX_SAMPLES (samples_of bytes))
even_end s bytes holds =
    let count = s.samples in
    let even : (2 * count) % 2 ≡ 0 = omega arith in (
      ap (λ (n : ℕ). cond (n % 2 == 1) (Some (HalfSample n)) None) holds.count
          ∙ ap (λ (n : ℕ). cond (n == 1) (Some (HalfSample (2 * count))) None) even,
      sym (said_all s bytes holds),
    )
