-- Which windows of cells are candidates, and which are none: two in one direction are at least 16 cells apart.
use Rattle.std.proofs.Common.{◌≡◌, ◌<◌, ℕ, ◌+◌, Bool, List, [], ◌∷◌, ◌++◌, take, drop, false, inl, inr, ap, sym, ◌∙◌}
use Rattle.std.proofs.Common.{refl}
use Rattle.std.proofs.lemmas.Bool.Decides.{eqb_tells}
use Rattle.std.proofs.lemmas.List.{take-map, drop-map}
use Rattle.biphase.specs.declared.cell.Cell.{Cell}
use Rattle.biphase.specs.Chain.{bit_of, bits}
use Rattle.ltc_word.specs.declared.places.TheConstants.{SYNC, SYNC_PATTERN}
use Rattle.ltc_word.specs.Reversal.{ends_in_sync, reversed_bits, EndsInSync}
use Rattle.ltc_word.specs.SyncLemmas.{in_sync_or_not}
use Rattle.tc_address.specs.declared.direction.Direction.TheVariants.{Forward, Backward}
use Rattle.tc_address.specs.declared.system.System.{System}
use Rattle.tc_bits.specs.Register.{number_in}
use Rattle.direction_reader.specs.declared.event.Event.{Event}
use Rattle.direction_reader.specs.Firm.{candidate_at}
use Rattle.direction_reader.specs.ListEvents.{bits_in}
use Rattle.direction_reader.specs.Windows.{number_of}
use Rattle.direction_reader.proofs.AsLists.{bits_are}
use Rattle.direction_reader.proofs.SyncInTime.{WordLaws, window_bits}
use Rattle.direction_reader.proofs.SyncsApart.{backwards_apart, forwards_apart}

-- bits that do not end in the sync word, as a test
sync_false : (bits : ℕ) → (EndsInSync bits → ⊥) → ends_in_sync bits ≡ false
sync_false bits sync = elim (eqb_tells (number_in SYNC bits) SYNC_PATTERN) [
  | inl same ↦ absurd (sync same.1)
  | inr other ↦ other.0
]

abbrev number_at : List Cell → ℕ → ℕ
number_at cells k = bits_in (take 80 (drop k cells))

-- by the bits of all cells
pub number_is : (cells : List Cell) (k : ℕ) → number_at cells k ≡ window_bits (bits cells) k
number_is cells k =
    sym (bits_are (take 80 (drop k cells))) ∙ ap number_of (sym (take-map bit_of 80 (drop k cells)))
    ∙ ap (λ (l : List Bool). number_of (take 80 l)) (sym (drop-map bit_of k cells))

abbrev pub IsForward : List Cell → ℕ → Type 0
IsForward cells k = EndsInSync (number_at cells k)

abbrev pub IsBackward : List Cell → ℕ → Type 0
IsBackward cells k = EndsInSync (reversed_bits (number_at cells k))

pub no_forward : (system : System) (tick : ℕ) (cells : List Cell) (k : ℕ) → (IsForward cells k → ⊥)
    → candidate_at system tick cells k Forward ≡ []
no_forward system tick cells k none = rw (sync_false (number_at cells k) none) refl

pub no_backward : (system : System) (tick : ℕ) (cells : List Cell) (k : ℕ) → (IsBackward cells k → ⊥)
    → candidate_at system tick cells k Backward ≡ []
no_backward system tick cells k none = rw (sync_false (reversed_bits (number_at cells k)) none) refl

-- a window with a candidate is one
pub some_backward : (system : System) (tick : ℕ) (cells : List Cell) (k : ℕ) (event : Event) (more : List Event)
    → candidate_at system tick cells k Backward ≡ event ∷ more → IsBackward cells k
some_backward system tick cells k event more is = elim (in_sync_or_not (reversed_bits (number_at cells k))) [
  | inl sync ↦ sync
  | inr none ↦ (let no = no_backward system tick cells k none in let both : [] ≡ event ∷ more = sym no
      ∙ is in absurd cc)
]

pub apart : WordLaws → (cells : List Cell) (j k : ℕ) → j < k → k < j + 16 → IsBackward cells j → IsBackward cells k → ⊥
apart laws cells j k low high one two =
    backwards_apart laws (bits cells) j k low high (rw (number_is cells j) at one) (rw (number_is cells k) at two)

pub forward_apart : (cells : List Cell) (j k : ℕ) → j < k → k < j + 16 → IsForward cells j → IsForward cells k → ⊥
forward_apart cells j k low high one two =
    forwards_apart (bits cells) j k low high (rw (number_is cells j) at one) (rw (number_is cells k) at two)

-- beside a word that is played backward there is no other backward candidate
pub alone_behind : WordLaws → (system : System) (tick : ℕ) (cells : List Cell) (j k : ℕ) → j < k → k < j + 16
    → IsBackward cells j
    → candidate_at system tick cells k Backward ≡ []
alone_behind laws system tick cells j k low high is =
    no_backward system tick cells k (λ other. apart laws cells j k low high is other)
