-- The sizes in the ring are those of the latest sounds, and their sum is kept with each that comes.
use Rattle.std.proofs.Common.{◌≡◌, ℕ, zero, suc, ◌+◌, ◌-◌, ◌%◌, ◌^◌, ◌<◌, ◌≤◌, min, List, [], ◌∷◌, length}
use Rattle.std.proofs.Common.{get_or, replicate, take, refl, ap, sym, ◌∙◌, arith}
use Rattle.std.specs.List.{sum, All}
use Rattle.std.specs.Prelude.{set}
use Rattle.std.proofs.lemmas.List.{get_or-replicate, get_or-set_same, get_or-set_other, length-set, length-take}
use Rattle.std.proofs.lemmas.List.Sums.{get_or-le-sum_by, sum_by-cons, sum_by-le, sum_by-set}
use Rattle.std.proofs.lemmas.List.Elements.{All-replicate, All-set}
use Rattle.path_front.specs.KeptSizes.{size_ago, AreSizes, SizesState, SizesStandFor}
use Rattle.path_front.specs.Sizes.{latest_sizes}

-- a number more of a list, or none
pub sum-take : (n : ℕ) (xs : List ℕ) → sum (take (suc n) xs) ≡ sum (take n xs) + get_or xs n 0
sum-take zero [] = refl
sum-take (suc n) [] = refl
sum-take zero (x ∷ xs) = sum_by-cons (λ x. x) x [] ∙ omega arith
sum-take (suc n) (x ∷ xs) =
    sum_by-cons (λ x. x) x (take (suc n) xs) ∙ ap (λ s. x + s) (sum-take n xs)
    ∙ let e = sum_by-cons (λ x. x) x (take n xs) in omega (arith, e)

abbrev pub place_of : SizesState → ℕ
place_of state = (state.count + 1) % 512

-- one size more
abbrev pub pushed : SizesState → ℕ → SizesState
pushed state size = record {
  ring = set state.ring (place_of state) size;
  count = state.count + 1;
  total = state.total + size - get_or state.ring (place_of state) 0;
}

-- the oldest goes when the next one comes
oldest : (state : SizesState) → size_ago state 511 ≡ get_or state.ring (place_of state) 0
oldest state = ap (λ p. get_or state.ring p 0) (omega arith)

kept-by : (state : SizesState) (size : ℕ) (sizes : List ℕ) (ago : ℕ) → length state.ring ≡ 512
    → ((ago : ℕ) → ago < 512 → size_ago state ago ≡ get_or sizes ago 0) → ago < 512
    → size_ago (pushed state size) ago ≡ get_or (size ∷ sizes) ago 0
kept-by state size sizes zero long kept near =
    let same : (state.count + 1 + 512 - 0) % 512 ≡ place_of state = omega arith in
    ap (λ n. get_or (set state.ring (place_of state) size) n 0) same
    ∙ get_or-set_same state.ring (place_of state) size 0 (omega arith)
kept-by state size sizes (suc ago) long kept near =
    let same : (state.count + 1 + 512 - suc ago) % 512 ≡ (state.count + 512 - ago) % 512 = omega arith in
    let other : (state.count + 512 - ago) % 512 ≡ place_of state → ⊥ = λ e. omega arith in
    ap (λ n. get_or (set state.ring (place_of state) size) n 0) same
    ∙ get_or-set_other state.ring (place_of state) ((state.count + 512 - ago) % 512) size 0 other
    ∙ kept ago (omega arith)

-- what stands for the sizes goes on with the next
pub sizes_next : (state : SizesState) (size : ℕ) (sizes : List ℕ) → AreSizes state → SizesStandFor state sizes
    → SizesStandFor (pushed state size) (size ∷ sizes)
sizes_next state size sizes are stand =
    let goes : get_or state.ring (place_of state) 0 ≡ get_or sizes 511 0 =
    sym (oldest state) ∙ stand.kept 511 (omega arith) in
    let more = sum-take 511 sizes in
    let next = sum_by-cons (λ x. x) size (take 511 sizes) in
    record {
      count = omega (arith, stand.count);
      kept = λ ago near. kept-by state size sizes ago are.long stand.kept near;
      total = omega (arith, stand.total, goes, more, next);
    }

-- ---- bounds

-- the oldest is within the sum, and each sum within its bound
pub sum_of_pushed : (state : SizesState) (size : ℕ) → AreSizes state
    → (pushed state size).total ≡ sum (pushed state size).ring
sum_of_pushed state size are =
    let e = sum_by-set (λ x. x) state.ring (place_of state) size 0 (omega (arith, are.long)) in
    let f = get_or-le-sum_by (λ x. x) state.ring (place_of state) 0 (omega (arith, are.long)) in
    omega (arith, e, f, are.total_is)

pub still_sizes : (state : SizesState) (size : ℕ) → AreSizes state → size ≤ 2 ^ 15 → state.count < 2 ^ 40
    → AreSizes (pushed state size)
still_sizes state size are small room =
    let ring = set state.ring (place_of state) size in
    let long : length ring ≡ 512 = length-set state.ring (place_of state) size ∙ are.long in
    let all : All (λ size. size ≤ 2 ^ 15) ring =
    All-set (λ size. size ≤ 2 ^ 15) state.ring (place_of state) size small are.size in
    let most = sum_by-le (λ x. x) (2 ^ 15) ring all in
    let total = sum_of_pushed state size are in
    record {
      long = long;
      size = all;
      total_is = total;
      few = omega (arith, total, most, long, are.few, small);
      count = omega (arith, room);
    }

-- before the first sound
abbrev pub no_sizes : SizesState
no_sizes = record { ring = replicate 512 0; count = 0; total = 0 }

pub are_none : AreSizes no_sizes
are_none = record {
  long = refl;
  size = All-replicate (λ size. size ≤ 2 ^ 15) 512 0 (omega arith);
  total_is = refl;
  few = omega arith;
  count = omega arith;
}

pub stand_for_none : SizesStandFor no_sizes []
stand_for_none = record {
  count = refl;
  kept = λ ago near. get_or-replicate 512 ((0 + 512 - ago) % 512) 0 0 (omega arith);
  total = refl;
}

-- how many the mean is of
pub many-latest : (sizes : List ℕ) → length (latest_sizes sizes) ≡ min (length sizes) 512
many-latest sizes = length-take 512 sizes ∙ omega arith
