-- Whether bits end in the sync word is decided, for the proofs of the crates above. No promise speaks of it.
use Rattle.std.proofs.Common.{ℕ, ◌⊎◌, inl, inr}
use Rattle.std.proofs.lemmas.Bool.Decides.{eqb_tells}
use Rattle.tc_bits.specs.Register.{number_in}
use Rattle.ltc_word.specs.declared.places.TheConstants.{SYNC, SYNC_PATTERN}
use Rattle.ltc_word.specs.Reversal.{EndsInSync}

pub in_sync_or_not : (bits : ℕ) → EndsInSync bits ⊎ ¬ EndsInSync bits
in_sync_or_not bits =
    elim (eqb_tells (number_in SYNC bits) SYNC_PATTERN) [ inl same ↦ inl same.1 | inr other ↦ inr other.1 ]
