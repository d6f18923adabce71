-- If the bits under all sync pairs are those of right ones, each pair is right.
use Rattle.std.proofs.Common.{◌≡◌, ℕ, ◌*◌, ◌/◌, ◌%◌, ◌^◌, ◌<◌, Bool, true, get_or, refl, sym, ap, ◌∙◌, lit<}
use Rattle.std.proofs.Common.{arith}
use Rattle.std.specs.Prelude.{◌==◌, ◌&&◌, bit_and}
use Rattle.std.specs.List.{list_all, range_with_len}
use Rattle.std.proofs.Math.Nat.{mod-eq_of_lt}
use Rattle.std.proofs.lemmas.Bool.{eqb-true, and_parts, true_from_ne_false}
use Rattle.std.proofs.lemmas.List.Folds.{list_all_at}
use Rattle.std.proofs.lemmas.List.FromFn.{get_or-range_with_len}
use Rattle.std.proofs.lemmas.Nat.{and_mask, and_mod, and_shr, mod_below}
use Rattle.tc_bits.specs.Register.{field, number_in}
use Rattle.vitc_line.specs.Places.{sync_pair_place}
use Rattle.vitc_line.specs.declared.places.TheConstants.{ALL_SYNC_PAIRS, UNDER_SYNC_PAIRS}

-- a field whose bits are all under a mask is the same behind it
field_under : (bits mask first : ℕ) → field mask first 2 ≡ 3 → field (bit_and bits mask) first 2 ≡ field bits first 2
field_under bits mask first whole =
    ap (λ (n : ℕ). n % 2 ^ 2) (and_shr bits mask first)
    ∙ and_mod (bits / 2 ^ first) (mask / 2 ^ first) 2
    ∙ ap (bit_and (field bits first 2)) whole
    ∙ and_mask (field bits first 2) 2
    ∙ mod-eq_of_lt (mod_below (bits / 2 ^ first) (2 ^ 2) (lit< tt))

is_under : ℕ → Bool
is_under pair = (field UNDER_SYNC_PAIRS (10 * pair) 2 == 3) && (field ALL_SYNC_PAIRS (10 * pair) 2 == 1)

are_under : list_all is_under (range_with_len 0 9) ≡ true
unfolding is_under
are_under = refl

under : (pair : ℕ) → pair < 9 → (field UNDER_SYNC_PAIRS (10 * pair) 2 ≡ 3) × (field ALL_SYNC_PAIRS (10 * pair) 2 ≡ 1)
unfolding is_under
under pair few =
    let at : get_or (range_with_len 0 9) pair 0 ≡ pair = get_or-range_with_len 0 9 pair 0 few ∙ omega arith in
    let tests = and_parts _ _ (true_from_ne_false (is_under pair) (λ fails.
    let none = list_all_at is_under (range_with_len 0 9) pair 0 few (rw at fails) in
    let all = are_under in absurd cc)) in
    (eqb-true _ 3 tests.0, eqb-true _ 1 tests.1)

pub right_pairs : (bits : ℕ) → bit_and bits UNDER_SYNC_PAIRS ≡ ALL_SYNC_PAIRS → (pair : ℕ) → pair < 9
    → number_in (sync_pair_place pair) bits ≡ 1
right_pairs bits right pair few =
    let is = under pair few in
    sym (field_under bits UNDER_SYNC_PAIRS (10 * pair) is.0) ∙ ap (λ (n : ℕ). field n (10 * pair) 2) right ∙ is.1
