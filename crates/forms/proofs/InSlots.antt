-- What was read by some slots has a value in each slot that is needed, and it fits the slot.
use Rattle.std.proofs.Common.{◌≡◌, ◌<◌, ◌≤◌, ◌^◌, ◌++◌, ℕ, zero, suc, Bool, true, false, not, ◌&&◌, nat_eq, ap}
use Rattle.std.proofs.Common.{List, [], ◌∷◌, length, take, Some, None, refl, arith, rules, inl, inr}
use Rattle.std.proofs.lemmas.Bool.Decides.{nat_tests}
use Rattle.std.specs.Prelude.{slice_get, IsSome}
use Rattle.std.specs.declared.option.Option.{Option}
use Rattle.std.proofs.lemmas.Bool.{and_parts}
use Rattle.std.proofs.lemmas.List.{append-nil, append_assoc}
use Rattle.std.proofs.lemmas.Option.{slice_get_cases}
use Rattle.tc_address.specs.Label.{IsLabel}
use Rattle.tc_address.specs.declared.count.Count.{Count}
use Rattle.forms.specs.Choice.{IsSaidIn}
use Rattle.forms.specs.Form.{SlotRow, takes}
use Rattle.forms.specs.Held.{label_at, label_in, label_of, number_of, number_or, or_midnight, seed_at, seed_of}
use Rattle.forms.specs.Reading.{AreFitAfter, AreRead}
use Rattle.forms.specs.Slot.{Fits, FitsIn, IsLabelOf, IsNumberIn, IsSaidBy, IsSeed, may_be_left_out}
use Rattle.forms.specs.declared.slot.Need.{Need}
use Rattle.forms.specs.declared.slot.Need.TheVariants.{Needed, Optional, OrLive}
use Rattle.forms.specs.declared.slot.Slot.{Slot}
use Rattle.forms.specs.declared.slot.Slot.TheVariants as kinds
use Rattle.forms.specs.declared.value.Said.{Said}
use Rattle.forms.specs.declared.value.Value.{Value}
use Rattle.forms.specs.declared.value.Value.TheVariants as values

-- none of the slots up to this one may be left out
abbrev pub are_needed : List SlotRow → ℕ → Bool
are_needed [] k = false
are_needed (slot ∷ slots) zero = not (may_be_left_out slot.0)
are_needed (slot ∷ slots) (suc k) = not (may_be_left_out slot.0) && are_needed slots k

takes_behind : (slot : SlotRow) (slots : List SlotRow) (n : ℕ) → takes (slot ∷ slots) (suc n) ≡ takes slots n
takes_behind slot slots n =
    let same : nat_eq (suc n) (length (slot ∷ slots)) ≡ nat_eq n (length slots) = grind (arith, nat_tests) in
    ap (λ is. elim (slice_get slots n) [ None ↦ is | Some row ↦ may_be_left_out row.0 ]) same

-- so more words than that are there
are_more : (slots : List SlotRow) (n k : ℕ) → takes slots n ≡ true → are_needed slots k ≡ true → k < n
are_more [] n k some needed = absurd cc
are_more (slot ∷ slots) zero zero some needed = let never : false ≡ true = rw some at needed in absurd cc
are_more (slot ∷ slots) zero (suc k) some needed =
    let never : false ≡ true = rw some at (and_parts (not (may_be_left_out slot.0)) _ needed).0 in absurd cc
are_more (slot ∷ slots) (suc n) zero some needed = omega arith
are_more (slot ∷ slots) (suc n) (suc k) some needed =
    let all = (and_parts (not (may_be_left_out slot.0)) _ needed).1 in
    let less = are_more slots n k (rw (← takes_behind slot slots n) some) all in
    omega (arith, less)

-- a value that is there fits its slot, after those before it
fits_at : (slots : List SlotRow) (before all : List Value) (k : ℕ) (slot : SlotRow) (value : Value)
    → AreFitAfter before slots all → slice_get slots k ≡ Some slot → slice_get all k ≡ Some value
    → FitsIn slot.0 slot.1 (before ++ take k all) value
unfolding AreFitAfter
fits_at slots before [] k slot value fit at there = absurd (search (there, rules))
fits_at [] before (v ∷ all) k slot value fit at there = absurd fit
fits_at (s ∷ slots) before (v ∷ all) zero slot value fit at there =
    let same_slot : s ≡ slot = grind (arith, at) in
    let same : v ≡ value = grind (arith, there) in
    rw (append-nil before, ← same_slot, ← same) fit.0
fits_at (s ∷ slots) before (v ∷ all) (suc k) slot value fit at there =
    rw (← append_assoc before (v ∷ []) (take k all))
    (fits_at slots (before ++ v ∷ []) all k slot value fit.1 at there)

-- and a slot that is needed has one
pub needed_value : (slots : List SlotRow) (all : List Value) (k : ℕ) (slot : Slot) → AreRead slots all
    → are_needed slots k ≡ true → slice_get slots k ≡ Some (Needed, slot)
    → (v : Value) × (slice_get all k ≡ Some v) × Fits slot (take k all) v
needed_value slots all k slot read needed at = elim (slice_get_cases all k).1 [
  | inl (v, within, there, same) ↦ (v, there, fits_at slots [] all k (Needed, slot) v read.0 at there)
  | inr (past, none) ↦ let more = are_more slots (length all) k read.1 needed in absurd (omega (arith, more, past))
]

-- ---- numbers

-- a number that is there is in its range
number_is : (other least most : ℕ) (o : Option Value) (v : Value) → o ≡ Some v → IsNumberIn least most v
    → (least ≤ number_of other o) × (number_of other o ≤ most)
number_is other least most o (values.Number n) same is = rw same is
number_is other least most o (values.Seed n) same is = absurd is
number_is other least most o (values.Label label) same is = absurd is
number_is other least most o (values.Page page) same is = absurd is
number_is other least most o (values.Columns first last) same is = absurd is
number_is other least most o (values.Said said) same is = absurd is

pub number_needed : (slots : List SlotRow) (all : List Value) (k least most : ℕ) (slot : Slot) → AreRead slots all
    → are_needed slots k ≡ true → slice_get slots k ≡ Some (Needed, slot)
    → ((v : Value) → Fits slot (take k all) v → IsNumberIn least most v)
    → (least ≤ number_or all k 0) × (number_or all k 0 ≤ most)
number_needed slots all k least most slot read needed at is =
    let (v, there, fits) = needed_value slots all k slot read needed at in
    number_is 0 least most (slice_get all k) v there (is v fits)

pub ranged : (slots : List SlotRow) (all : List Value) (k least most : ℕ) → AreRead slots all
    → are_needed slots k ≡ true → slice_get slots k ≡ Some (Needed, kinds.Number least most)
    → (least ≤ number_or all k 0) × (number_or all k 0 ≤ most)
ranged slots all k least most read needed at =
    number_needed slots all k least most (kinds.Number least most) read needed at (λ v fits. fits)

-- and what stands for a word that is left out
number_in : (other least most k : ℕ) (need : Need) (slot : Slot) (all : List Value) (v : Value)
    → slice_get all k ≡ Some v → FitsIn need slot (take k all) v → ((v : Value) → Fits slot (take k all) v
    → IsNumberIn least most v) → least ≤ other → other ≤ most
    → (least ≤ number_or all k other) × (number_or all k other ≤ most)
number_in other least most k Needed slot all v there fits is low high =
    number_is other least most (slice_get all k) v there (is v fits)
number_in other least most k Optional slot all v there fits is low high =
    number_is other least most (slice_get all k) v there (is v fits)
number_in other least most k OrLive slot all v there (inl live) is low high = rw (there, live) (low, high)
number_in other least most k OrLive slot all v there (inr fits) is low high =
    number_is other least most (slice_get all k) v there (is v fits)

pub number_given : (slots : List SlotRow) (all : List Value) (k least most other : ℕ) (need : Need) (slot : Slot)
    → AreRead slots all → slice_get slots k ≡ Some (need, slot)
    → ((v : Value) → Fits slot (take k all) v → IsNumberIn least most v) → least ≤ other → other ≤ most
    → (least ≤ number_or all k other) × (number_or all k other ≤ most)
number_given slots all k least most other need slot read at is low high = elim (slice_get_cases all k).1 [
  | inl (v, within, there, same) ↦
      number_in other least most k need slot all v there (fits_at slots [] all k (need, slot) v read.0 at there) is low
      high
  | inr (past, none) ↦ rw none (low, high)
]

pub ranged_or : (slots : List SlotRow) (all : List Value) (k least most other : ℕ) (need : Need) → AreRead slots all
    → slice_get slots k ≡ Some (need, kinds.Number least most) → least ≤ other → other ≤ most
    → (least ≤ number_or all k other) × (number_or all k other ≤ most)
ranged_or slots all k least most other need read at low high =
    number_given slots all k least most other need (kinds.Number least most) read at (λ v fits. fits) low high

-- a seed is one of 64 bits
seed_is : (o : Option Value) (v : Value) → o ≡ Some v → IsSeed v → seed_of o < 2 ^ 64
seed_is o (values.Seed n) same is = rw same is
seed_is o (values.Number n) same is = absurd is
seed_is o (values.Label label) same is = absurd is
seed_is o (values.Page page) same is = absurd is
seed_is o (values.Columns first last) same is = absurd is
seed_is o (values.Said said) same is = absurd is

pub seed_needed : (slots : List SlotRow) (all : List Value) (k : ℕ) → AreRead slots all → are_needed slots k ≡ true
    → slice_get slots k ≡ Some (Needed, kinds.Seed) → seed_at all k < 2 ^ 64
seed_needed slots all k read needed at =
    let (v, there, fits) = needed_value slots all k kinds.Seed read needed at in
    seed_is (slice_get all k) v there fits

-- with more in its place, a number that is left out is more
pub not_less : (all : List Value) (k other : ℕ) → number_or all k 0 ≤ number_or all k other
not_less all k other = go (slice_get all k)
  where
    go : (o : Option Value) → number_of 0 o ≤ number_of other o
    go (Some (values.Number n)) = omega arith
    go _ = omega arith

-- ---- labels

-- a label that is there is one of the count
label_is : (count : Count) (o : Option Value) (v : Value) → o ≡ Some v → IsLabelOf count v
    → IsSome (label_of o) × IsLabel (or_midnight (label_of o)) × ((or_midnight (label_of o)).count ≡ count)
label_is count o (values.Label label) same is = rw same (search rules, is.0, is.1)
label_is count o (values.Number n) same is = absurd is
label_is count o (values.Seed n) same is = absurd is
label_is count o (values.Page page) same is = absurd is
label_is count o (values.Columns first last) same is = absurd is
label_is count o (values.Said said) same is = absurd is

pub label_needed : (slots : List SlotRow) (all : List Value) (k : ℕ) (count : Count) (slot : Slot)
    → AreRead slots all → are_needed slots k ≡ true → slice_get slots k ≡ Some (Needed, slot)
    → ((v : Value) → Fits slot (take k all) v → IsLabelOf count v)
    → IsSome (label_in all k) × IsLabel (label_at all k) × ((label_at all k).count ≡ count)
label_needed slots all k count slot read needed at is =
    let (v, there, fits) = needed_value slots all k slot read needed at in
    label_is count (slice_get all k) v there (is v fits)

-- ---- words of a choice

said_is : (choice : ℕ) (o : Option Value) (v : Value) → o ≡ Some v → IsSaidBy choice v
    → (said : Said) × (o ≡ Some (values.Said said)) × IsSaidIn choice said
said_is choice o (values.Said said) same is = (said, same, is)
said_is choice o (values.Number n) same is = absurd is
said_is choice o (values.Seed n) same is = absurd is
said_is choice o (values.Page page) same is = absurd is
said_is choice o (values.Columns first last) same is = absurd is
said_is choice o (values.Label label) same is = absurd is

pub said_needed : (slots : List SlotRow) (all : List Value) (k choice : ℕ) → AreRead slots all
    → are_needed slots k ≡ true → slice_get slots k ≡ Some (Needed, kinds.OneOf choice)
    → (said : Said) × (slice_get all k ≡ Some (values.Said said)) × IsSaidIn choice said
said_needed slots all k choice read needed at =
    let (v, there, fits) = needed_value slots all k (kinds.OneOf choice) read needed at in
    said_is choice (slice_get all k) v there fits

-- ---- what is seen of the values before a place

pub seen_before : (all : List Value) (n k : ℕ) → k < n → slice_get (take n all) k ≡ slice_get all k
seen_before [] zero k within = refl
seen_before [] (suc n) k within = refl
seen_before (v ∷ all) zero k within = absurd (omega (arith, within))
seen_before (v ∷ all) (suc n) zero within = refl
seen_before (v ∷ all) (suc n) (suc k) within = seen_before all n k (omega (arith, within))
