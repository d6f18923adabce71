-- No window over two words, or over the front of a recording, ends in a sync word.
use Rattle.std.proofs.Common.{◌≡◌, ℕ, suc, ◌+◌, ◌-◌, ◌<◌, ◌≤◌, Bool, true, false, List}
use Rattle.std.proofs.Common.{◌∷◌, ◌++◌, length}
use Rattle.std.proofs.Common.{sym, ◌∙◌, inl, inr, arith}
use Rattle.std.proofs.lemmas.Bool.{cases_lt}
use Rattle.ltc_word.specs.Reversal.{reversed_bits, EndsInSync}
use Rattle.tc_address.specs.declared.direction.Direction.{Direction}
use Rattle.tc_address.specs.declared.direction.Direction.TheVariants.{Forward, Backward}
use Rattle.direction_reader.proofs.SyncInTime.{Plays, Starts, Twelve, WordLaws, at, at_left, at_right, backward_ones}
use Rattle.direction_reader.proofs.SyncInTime.{backward_set, forward_clear, forward_ones, only_sync, sync_place}
use Rattle.direction_reader.proofs.SyncInTime.{window_bits}

-- ---- windows over two words

pub true_false : (b : Bool) → b ≡ true → b ≡ false → ⊥
true_false b t f = let e : true ≡ false = sym t ∙ f in absurd cc

pub starts_with : (direction : Direction) (v r : List Bool) → Plays direction v → Starts (v ++ r)
starts_with direction v r p a b c d =
    let front : (i : ℕ) → i < 80 → at (v ++ r) i ≡ true → at v i ≡ true = λ i lt e. sym (at_left v r i p.count lt)
    ∙ e in
    p.begins (front 0 (omega arith) a) (front 1 (omega arith) b) (front 2 (omega arith) c) (front 3 (omega arith) d)

behind : (w r : List Bool) (i j : ℕ) → length w ≡ 80 → i ≡ 80 + j → Twelve (w ++ r) i → Twelve r j
behind w r i j count place ones k lt =
    let e : i + k ≡ 80 + (j + k) = omega arith in
    sym (at_right w r (j + k) count) ∙ rw e at (ones k lt)

no_later_forward : (direction : Direction) (i : ℕ) → 0 < i → i + 66 ≡ sync_place direction → ⊥
no_later_forward Forward i some e = omega arith
no_later_forward Backward i some e = omega arith

no_second_forward : (direction : Direction) (w v r : List Bool) (i : ℕ) → length w ≡ 80 → Plays direction v → i < 80
    → 14 ≤ i
    → i - 14 ≡ sync_place direction → at (w ++ (v ++ r)) (i + 64) ≡ false → ⊥
no_second_forward Forward w v r i count p lt le e clear = omega arith
no_second_forward Backward w v r i count p lt le e clear =
    let place : i + 64 ≡ 80 + 0 = omega arith in
    let first : at (w ++ (v ++ r)) (i + 64) ≡ true =
    rw place (at_right w (v ++ r) 0 count ∙ at_left v r 0 p.count (omega arith) ∙ p.marked) in
    true_false _ first clear

pub quiet_forward : (d e : Direction) (w v r : List Bool) → Plays d w → Plays e v → Starts r → (i : ℕ) → 0 < i → i < 80
    → EndsInSync (window_bits (w ++ (v ++ r)) i) → ⊥
quiet_forward d e w v r p q starts i some lt sync =
    let list = w ++ (v ++ r) in
    let ones = forward_ones list i sync in
    elim (cases_lt i 14) [
      | inl low ↦ no_later_forward d i some (only_sync d w (v ++ r) p (starts_with e v r q) (i + 66) (omega arith) ones)
      | inr high ↦
          let later : Twelve (v ++ r) (i - 14) = behind w (v ++ r) (i + 66) (i - 14) p.count (omega arith) ones in
          no_second_forward e w v r i p.count q lt high (only_sync e v r q starts (i - 14) (omega arith) later)
          (forward_clear list i sync)
    ]

no_later_backward : (d : Direction) (w r : List Bool) (i : ℕ) → Plays d w → 0 < i → i + 2 < 80 → i + 2 ≡ sync_place d
    → at (w ++ r) (i + 0) ≡ true → ⊥
no_later_backward Forward w r i p some lt e set =
    let place : i + 0 ≡ 64 = omega arith in
    let clear : at (w ++ r) (i + 0) ≡ false = rw place (at_left w r 64 p.count (omega arith) ∙ p.marked) in
    true_false _ set clear
no_later_backward Backward w r i p some lt e set = omega arith

no_second_backward : (e : Direction) (i : ℕ) → i < 80 → i - 78 ≡ sync_place e → ⊥
no_second_backward Forward i lt e = omega arith
no_second_backward Backward i lt e = omega arith

pub quiet_backward : WordLaws → (d e : Direction) (w v r : List Bool) → Plays d w → Plays e v → Starts r → (i : ℕ)
    → 0 < i → i < 80
    → EndsInSync (reversed_bits (window_bits (w ++ (v ++ r)) i)) → ⊥
quiet_backward laws d e w v r p q starts i some lt sync =
    let list = w ++ (v ++ r) in
    let ones = backward_ones laws list i sync in
    elim (cases_lt (i + 2) 80) [
      | inl low ↦ no_later_backward d w (v ++ r) i p some low
          (only_sync d w (v ++ r) p (starts_with e v r q) (i + 2) low ones) (backward_set laws list i sync)
      | inr high ↦
          let later : Twelve (v ++ r) (i - 78) = behind w (v ++ r) (i + 2) (i - 78) p.count (omega arith) ones in
          no_second_backward e i lt (only_sync e v r q starts (i - 78) (omega arith) later)
    ]

-- ---- the two windows that begin in the bits 0 and 1

abbrev pub led : List Bool → List Bool
led list = false ∷ true ∷ list

behind_lead : (list : List Bool) (i j : ℕ) → i ≡ j + 2 → Twelve (led list) i → Twelve list j
behind_lead list i j place ones k lt =
    let e : i + k ≡ suc (suc (j + k)) = omega arith in
    rw e at (ones k lt)

no_early : (d : Direction) (i : ℕ) → i < 2 → i ≡ sync_place d → ⊥
no_early Forward i lt e = omega arith
no_early Backward i lt e = omega arith

no_early_forward : (d : Direction) (i : ℕ) → i < 2 → i + 64 ≡ sync_place d → ⊥
no_early_forward Forward i lt e = omega arith
no_early_forward Backward i lt e = omega arith

pub lead_forward : (d : Direction) (w r : List Bool) → Plays d w → Starts r → (i : ℕ) → i < 2
    → EndsInSync (window_bits (led (w ++ r)) i) → ⊥
lead_forward d w r p starts i lt sync =
    let ones : Twelve (w ++ r) (i + 64) = behind_lead (w ++ r) (i + 66) (i + 64) (omega arith)
    (forward_ones (led (w ++ r)) i sync) in
    no_early_forward d i lt (only_sync d w r p starts (i + 64) (omega arith) ones)

pub lead_backward : WordLaws → (d : Direction) (w r : List Bool) → Plays d w → Starts r → (i : ℕ) → i < 2
    → EndsInSync (reversed_bits (window_bits (led (w ++ r)) i)) → ⊥
lead_backward laws d w r p starts i lt sync =
    let ones : Twelve (w ++ r) i = behind_lead (w ++ r) (i + 2) i (omega arith)
    (backward_ones laws (led (w ++ r)) i sync) in
    no_early d i lt (only_sync d w r p starts i (omega arith) ones)

-- ---- the window of a word

-- a word is no candidate in the other direction
pub no_other_way : WordLaws → (w r : List Bool) → Plays Forward w → Starts r
    → EndsInSync (reversed_bits (window_bits (w ++ r) 0)) → ⊥
no_other_way laws w r p starts sync =
    let e = only_sync Forward w r p starts 2 (omega arith) (backward_ones laws (w ++ r) 0 sync) in omega (arith, e)

pub no_way_forward : (w r : List Bool) → Plays Backward w → Starts r → EndsInSync (window_bits (w ++ r) 0) → ⊥
no_way_forward w r p starts sync =
    let e = only_sync Backward w r p starts 66 (omega arith) (forward_ones (w ++ r) 0 sync) in omega (arith, e)
