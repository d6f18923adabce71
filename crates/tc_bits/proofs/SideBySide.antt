-- Of places that share out the bits of a register each one keeps its number if others are written.
use Rattle.std.proofs.Common.{◌≡◌, ℕ, zero, suc, ◌+◌, ◌-◌, ◌*◌, ◌/◌, ◌%◌, ◌^◌, ◌<◌, ◌≤◌, Bool, true, false, cond, subst}
use Rattle.std.proofs.Common.{List, [], ◌∷◌, arith, refl, sym, ap, ◌∙◌, ◌⊎◌, inl, inr}
use Rattle.std.specs.Prelude.{◌&&◌, ◌==◌, nat_le, nat_lt, count_by}
use Rattle.std.specs.List.{list_all, range_with_len}
use Rattle.std.specs.Int.{bit_at}
use Rattle.std.proofs.Math.Nat.{div-eq_of_lt, div-lt_iff_lt-mul, mod-eq_of_lt}
use Rattle.std.proofs.lemmas.Bool.{cases_lt, eqb-true, leb-true, ltb-true, le-leb, lt-ltb, and_parts}
use Rattle.std.proofs.lemmas.List.Sums.{sum_by-cons}
use Rattle.std.proofs.lemmas.Nat.{pow_pos, shr-shr, mod_below}
use Rattle.std.proofs.lemmas.Nat.Bits.{same_from_bits_below}
use Rattle.tc_bits.specs.declared.place.Place.{Place}
use Rattle.tc_bits.specs.Register.{number_in}
use Rattle.tc_bits.specs.Row.{is_in, are_within, Entry, places_of, Fit, Holds, sum_of, IsRow, SumHolds, OnlySumHolds}
use Rattle.tc_bits.proofs.AroundAField.{Replaces, put_together, parts_of, other_bits, bit_of_low}

-- ---- what a test of all numbers below a bound shows

tested : (f : ℕ → Bool) (a n : ℕ) → list_all f (range_with_len a n) ≡ true → (i : ℕ) → i < n → f (a + i) ≡ true
tested f a zero e i lt = absurd (omega arith)
tested f a (suc n) e zero lt =
    let k : a + zero ≡ a = omega arith in
    rw k (and_parts (f a) (list_all f (range_with_len (a + 1) n)) e).0
tested f a (suc n) e (suc i) lt =
    let k : a + suc i ≡ a + 1 + i = omega arith in
    rw k (tested f (a + 1) n (and_parts (f a) (list_all f (range_with_len (a + 1) n)) e).1 i (omega arith))

-- ---- places that have no bit in common

-- one of them ends before the other begins
abbrev Apart : Place → Place → Type 0
Apart p q = (p.first + p.width ≤ q.first) ⊎ (q.first + q.width ≤ p.first)

abbrev AllApart : Place → List Entry → Type 0
AllApart p [] = Unit {0}
AllApart p (e ∷ row) = Apart e.place p × AllApart p row

-- each place of a row lies within some bits, its number fits, and no other has a bit of it
abbrev Separate : ℕ → List Entry → Type 0
Separate count [] = Unit {0}
Separate count (e ∷ row) =
    (e.place.first + e.place.width ≤ count) × (e.number < 2 ^ e.place.width) × AllApart e.place row × Separate count row

bit_inside : (n : ℕ) (p : Place) (i : ℕ) → i < p.width → bit_at (number_in p n) i ≡ bit_at n (p.first + i)
bit_inside n p i lt = sym (bit_of_low (n / 2 ^ p.first) p.width i lt) ∙ ap (λ (m : ℕ). m % 2) (shr-shr n p.first i)

outside : (p q : Place) (i : ℕ) → Apart p q → i < q.width → (q.first + i < p.first) ⊎ (p.first + p.width ≤ q.first + i)
outside p q i (inl le) lt = inr (omega arith)
outside p q i (inr le) lt = inl (omega arith)

-- another place keeps its number
kept : (old new : ℕ) (p q : Place) (value : ℕ) → Replaces old new p.first p.width value → Apart p q
    → number_in q new ≡ number_in q old
kept old new p q value r apart =
    same_from_bits_below q.width (number_in q new) (number_in q old)
    (mod_below (new / 2 ^ q.first) (2 ^ q.width) (pow_pos q.width))
    (mod_below (old / 2 ^ q.first) (2 ^ q.width) (pow_pos q.width))
    (λ i lt. bit_inside new q i lt ∙ other_bits old new p.first p.width value (q.first + i) r (outside p q i apart lt)
    ∙ sym (bit_inside old q i lt))

regroup : (high w v f low old above clear : ℕ) → old ≡ (above * w + clear) * f + low → high ≡ above → clear ≡ 0
    → (high * w + v) * f + low ≡ v * f + old
regroup high w v f low old above clear parts same zeros = rw (parts, same, zeros) (grind arith)

-- to add a number where there are zeros is to write it there
added : (old : ℕ) (p : Place) (value : ℕ) → number_in p old ≡ 0 → value < 2 ^ p.width
    → Replaces old (value * 2 ^ p.first + old) p.first p.width value
added old p value clear fits =
    let same = regroup (old / 2 ^ p.first / 2 ^ p.width) (2 ^ p.width) value (2 ^ p.first) (old % 2 ^ p.first) old _
    (number_in p old)
    (parts_of old p.first p.width) (shr-shr old p.first p.width) clear in
    subst (λ (new : ℕ). Replaces old new p.first p.width value) same (put_together old p.first p.width value fits)

-- and the register stays within its bits
stays_within : (count old new : ℕ) (p : Place) (value : ℕ) → Replaces old new p.first p.width value
    → p.first + p.width ≤ count
    → old < 2 ^ count → new < 2 ^ count
stays_within count old new p value r within below =
    let end = p.first + p.width in
    let e : end + (count - end) ≡ count = omega arith in
    let above : new / 2 ^ count ≡ old / 2 ^ count =
    rw e at (sym (shr-shr new end (count - end)) ∙ ap (λ (m : ℕ). m / 2 ^ (count - end)) r.above ∙ shr-shr old end
    (count - end)) in
    let none : old / 2 ^ count ≡ 0 = div-eq_of_lt below in
    let lt : new / 2 ^ count < 1 = rw (above, none) (omega arith) in
    let h : new < 1 * 2 ^ count = (div-lt_iff_lt-mul {k = 2 ^ count} {x = new} {y = 1} (pow_pos count)).0 lt in
    omega (arith, h)

zero_in : (p : Place) → number_in p 0 ≡ 0
zero_in p = let h : 0 / 2 ^ p.first ≡ 0 = div-eq_of_lt (pow_pos p.first) in rw h (mod-eq_of_lt (pow_pos p.width))

-- a place that has no bit of a row holds nothing in its sum
zeros_apart : (count : ℕ) (p : Place) (row : List Entry) → AllApart p row → Separate count row
    → number_in p (sum_of row) ≡ 0
zeros_apart count p [] apart s = zero_in p
zeros_apart count p (e ∷ row) apart s =
    kept (sum_of row) (sum_of (e ∷ row)) e.place p e.number (added (sum_of row) e.place e.number
    (zeros_apart count e.place row s.2 s.3) s.1) apart.0
    ∙ zeros_apart count p row apart.1 s.3

turned : (p q : Place) → Apart p q → Apart q p
turned p q (inl le) = inr le
turned p q (inr le) = inl le

still_hold : (old new : ℕ) (p : Place) (value : ℕ) (row : List Entry) → Replaces old new p.first p.width value
    → AllApart p row → Holds row old → Holds row new
still_hold old new p value [] r apart holds = tt
still_hold old new p value (e ∷ row) r apart holds = (
  kept old new p e.place value r (turned e.place p apart.0) ∙ holds.0,
  still_hold old new p value row r apart.1
      holds.1,
)

sum_separate : (count : ℕ) (row : List Entry) → Separate count row → Holds row (sum_of row) × (sum_of row < 2 ^ count)
sum_separate count [] s = (tt, pow_pos count)
sum_separate count (e ∷ row) s =
    let rest = sum_separate count row s.3 in
    let r = added (sum_of row) e.place e.number (zeros_apart count e.place row s.2 s.3) s.1 in (
      (r.put, still_hold (sum_of row) (sum_of (e ∷ row)) e.place e.number row r s.2 rest.0),
      stays_within count (sum_of row) (sum_of (e ∷ row)) e.place e.number r s.0 rest.1,
    )

-- ---- places that share out the bits have none in common

is_in_of : (i : ℕ) (p : Place) → p.first ≤ i → i < p.first + p.width → is_in i p ≡ true
is_in_of i p le lt = rw (le-leb p.first i le, lt-ltb i (p.first + p.width) lt) refl

abbrev how_many : ℕ → List Entry → ℕ
how_many i row = count_by (is_in i) (places_of row)

one_more : (i : ℕ) (e : Entry) (row : List Entry) → how_many i (e ∷ row) ≡ cond (is_in i e.place) 1 0 + how_many i row
one_more i e row = sum_by-cons (λ (p : Place). cond (is_in i p) 1 0) e.place (places_of row)

not_none : (i : ℕ) (e : Entry) (row : List Entry) → is_in i e.place ≡ true → how_many i (e ∷ row) ≡ 0 → ⊥
not_none i e row is none =
    let h : how_many i (e ∷ row) ≡ 1 + how_many i row = rw is at (one_more i e row) in omega (arith, h, none)

none_behind : (i : ℕ) (e : Entry) (row : List Entry) → is_in i e.place ≡ true → how_many i (e ∷ row) ≤ 1
    → how_many i row ≡ 0
none_behind i e row is few =
    let h : how_many i (e ∷ row) ≡ 1 + how_many i row = rw is at (one_more i e row) in omega (arith, h, few)

few_behind : (i : ℕ) (e : Entry) (row : List Entry) → how_many i (e ∷ row) ≤ 1 → how_many i row ≤ 1
few_behind i e row few = let h = one_more i e row in omega (arith, h, few)

apart_from : (p : Place) (e : Entry) (row : List Entry) → 1 ≤ p.width → 1 ≤ e.place.width
    → ((i : ℕ) → is_in i p ≡ true → how_many i (e ∷ row) ≡ 0) → Apart e.place p
apart_from p e row some some_too none =
    by_order (cases_lt p.first (e.place.first + e.place.width)) (cases_lt e.place.first (p.first + p.width))
  where
    by_first : p.first < e.place.first + e.place.width → e.place.first < p.first + p.width
        → (p.first < e.place.first) ⊎ (e.place.first ≤ p.first) → ⊥
    by_first before after (inl lt) =
        let i = e.place.first in
        not_none i e row (is_in_of i e.place (omega arith) (omega arith)) (none i (is_in_of i p (omega arith) after))
    by_first before after (inr le) =
        let i = p.first in
        not_none i e row (is_in_of i e.place le before) (none i (is_in_of i p (omega arith) (omega arith)))

    by_order : (p.first < e.place.first + e.place.width) ⊎ (e.place.first + e.place.width ≤ p.first)
        → (e.place.first < p.first + p.width) ⊎ (p.first + p.width ≤ e.place.first) → Apart e.place p
    by_order (inr le) either = inl le
    by_order (inl before) (inr le) = inr le
    by_order (inl before) (inl after) = absurd (by_first before after (cases_lt p.first e.place.first))

-- what the test of a place says
inside : (count : ℕ) (e : Entry) (row : List Entry) → are_within count (places_of (e ∷ row)) ≡ true
    → (1 ≤ e.place.width) × (e.place.first + e.place.width ≤ count) × (are_within count (places_of row) ≡ true)
inside count e row within =
    let a = and_parts (nat_le 1 e.place.width && nat_le (e.place.first + e.place.width) count)
    (are_within count (places_of row)) within in
    let b = and_parts (nat_le 1 e.place.width) (nat_le (e.place.first + e.place.width) count) a.0 in
    (leb-true 1 e.place.width b.0, leb-true (e.place.first + e.place.width) count b.1, a.1)

all_apart : (count : ℕ) (p : Place) (row : List Entry) → 1 ≤ p.width → are_within count (places_of row) ≡ true
    → ((i : ℕ) → is_in i p ≡ true → how_many i row ≡ 0) → AllApart p row
all_apart count p [] some within none = tt
all_apart count p (e ∷ row) some within none =
    let w = inside count e row within in (
      apart_from p e row some w.0 none,
      all_apart count p row some w.2 (λ i is. let h = one_more i e row in let z = none i is in omega (arith, h, z)),
    )

separate : (count : ℕ) (row : List Entry) → ((i : ℕ) → i < count → how_many i row ≤ 1)
    → are_within count (places_of row) ≡ true → Fit row
    → Separate count row
separate count [] few within fit = tt
separate count (e ∷ row) few within fit =
    let w = inside count e row within in
    let below : (i : ℕ) → is_in i e.place ≡ true → i < count = λ i is.
    let h = ltb-true i (e.place.first + e.place.width) (and_parts (nat_le e.place.first i)
    (nat_lt i (e.place.first + e.place.width)) is).1 in
    omega (arith, h, w.1) in (
      w.1,
      fit.0,
      all_apart count e.place row w.0 w.2 (λ i is. none_behind i e row is (few i (below i is))),
      separate count row (λ i lt. few_behind i e row (few i lt)) w.2 fit.1,
    )

one_place : (count : ℕ) (row : List Entry) → IsRow count row → (i : ℕ) → i < count → how_many i row ≡ 1
one_place count row is i lt =
    let k : 0 + i ≡ i = omega arith in
    eqb-true (how_many i row) 1 (rw k at (tested (λ bit. how_many bit row == 1) 0 count is.shared i lt))

pub sum_holds : SumHolds
sum_holds count row is =
    sum_separate count row (separate count row (λ i lt. let h = one_place count row is i lt in omega (arith, h))
    is.within is.fit)

-- two registers that hold the same row have the same bit in each of its places
same_bit : (row : List Entry) (a b i : ℕ) → Holds row a → Holds row b → how_many i row ≡ 1 → bit_at a i ≡ bit_at b i
same_bit [] a b i x y one = absurd cc
same_bit (e ∷ row) a b i x y one = by_place (is_in i e.place) refl (same_bit row a b i x.1 y.1)
  where
    by_place : (told : Bool) → is_in i e.place ≡ told → (how_many i row ≡ 1 → bit_at a i ≡ bit_at b i)
        → bit_at a i ≡ bit_at b i
    by_place true is rest =
        let p = e.place in
        let parts = and_parts (nat_le p.first i) (nat_lt i (p.first + p.width)) is in
        let from = leb-true p.first i parts.0 in
        let to = ltb-true i (p.first + p.width) parts.1 in
        let k : p.first + (i - p.first) ≡ i = omega arith in
        let lt : i - p.first < p.width = omega arith in
        rw k at (sym (bit_inside a p (i - p.first) lt) ∙ ap (λ (n : ℕ). bit_at n (i - p.first)) (x.0 ∙ sym y.0) ∙
        bit_inside b p (i - p.first) lt)
    by_place false is rest =
        let h : how_many i (e ∷ row) ≡ 0 + how_many i row = rw is at (one_more i e row) in
        rest (omega (arith, h, one))

pub only_sum_holds : OnlySumHolds
only_sum_holds count row bits is below holds =
    let sum = sum_holds count row is in
    same_from_bits_below count bits (sum_of row) below sum.1
    (λ i lt. same_bit row bits (sum_of row) i holds sum.0 (one_place count row is i lt))
