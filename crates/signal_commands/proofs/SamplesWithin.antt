-- Samples past the limit stay past it, whatever bytes follow.
use Rattle.std.proofs.Common.{◌≡◌, ℕ, ◌≤◌, ◌<◌, nat_lt, List, [], ◌∷◌, ◌++◌, length, ap, refl, arith}
use Rattle.std.proofs.lemmas.Bool.{lt-ltb}
use Rattle.pcm_front.specs.Samples.{samples_of}
use Rattle.tc_command.specs.declared.input_fault.InputFault.{InputFault}
use Rattle.tc_io.specs.Verdict.{refused, past_limit}
use Rattle.signal_commands.specs.PcmLtc.{samples_within}
use Rattle.signal_commands.proofs.MidiLimit.{not_refused, past_by, verdict_by}

-- nothing is refused before the end
pub never_refused : (most : ℕ) (bytes : List ℕ) (f : InputFault) → ¬ (samples_within most bytes ≡ refused f)
never_refused most bytes f e = not_refused (nat_lt most (length (samples_of bytes))) f e

pub is_past : (most : ℕ) (bytes : List ℕ) → most < length (samples_of bytes) → samples_within most bytes ≡ past_limit
is_past most bytes more = ap verdict_by (lt-ltb most (length (samples_of bytes)) more)

-- more bytes have no fewer samples
no_fewer : (front rest : List ℕ) → length (samples_of front) ≤ length (samples_of (front ++ rest))
unfolding samples_of
no_fewer [] rest = omega arith
no_fewer (low ∷ []) rest = omega arith
no_fewer (low ∷ high ∷ more) rest = let fewer = no_fewer more rest in omega (arith, fewer)

-- what is past the limit stays so
pub past_within : (most : ℕ) (front rest : List ℕ) → samples_within most front ≡ past_limit
    → samples_within most (front ++ rest) ≡ past_limit
past_within most front rest e =
    let more = past_by most (length (samples_of front)) (nat_lt most (length (samples_of front))) refl e in
    is_past most (front ++ rest) (omega (arith, more, no_fewer front rest))

-- two bytes are a sample
pub some_samples : (bytes : List ℕ) → 2 ≤ length bytes → 1 ≤ length (samples_of bytes)
unfolding samples_of
some_samples [] some = absurd (omega (arith, some))
some_samples (low ∷ []) some = absurd (omega (arith, some))
some_samples (low ∷ high ∷ more) some = omega arith
