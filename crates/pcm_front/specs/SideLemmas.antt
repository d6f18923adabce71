-- Seen from its side, a sample lies above the threshold, for the proofs of the crates above. No promise speaks of it.
use Rattle.std.proofs.Common.{◌≡◌, ℕ, Bool, true, false, cond, ℤ, pos, neg_ℤ, ◌≤ℤ◌, int_le, Some, None, refl, arith}
use Rattle.std.proofs.lemmas.Int.{ints}
use Rattle.pcm_front.specs.declared.side.Side.{Side}
use Rattle.pcm_front.specs.declared.side.Side.TheVariants.{High, Low}
use Rattle.pcm_front.specs.Side.{side_of, upward}

side_above-by : (high low : Bool) (t : ℕ) (b : ℤ) (side : Side) → int_le (pos t) b ≡ high
    → int_le b (neg_ℤ (pos t)) ≡ low → cond high (Some High) (cond low (Some Low) None) ≡ Some side
    → pos t ≤ℤ upward side b
side_above-by true low t b High is is_low found = grind (arith, ints)
side_above-by true low t b Low is is_low found = absurd (cc)
side_above-by false true t b Low is is_low found = grind (arith, ints)
side_above-by false true t b High is is_low found = absurd (cc)
side_above-by false false t b side is is_low found = absurd (cc)

pub side_above : (t : ℕ) (b : ℤ) (side : Side) → side_of t b ≡ Some side → pos t ≤ℤ upward side b
side_above t b side found = side_above-by (int_le (pos t) b) (int_le b (neg_ℤ (pos t))) t b side refl refl found
