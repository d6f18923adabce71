-- The sums so far stay if samples follow, and one sample more brings the sum of the latest ones.
use Rattle.std.proofs.Common.{◌≡◌, ℕ, zero, suc, ◌+◌, ◌-◌, ◌<◌, ℤ, pos, List, [], ◌∷◌, ◌++◌, length, map, replicate}
use Rattle.std.proofs.Common.{take, drop}
use Rattle.std.proofs.Common.{refl, ap, ap₂, sym, ◌∙◌, zero-add, append-nil, append_assoc, add-one, arith}
use Rattle.std.specs.List.{range_with_len}
use Rattle.std.proofs.lemmas.Int.{ints}
use Rattle.std.proofs.lemmas.List.{take-append-le, take_all, length_push, map-append}
use Rattle.std.proofs.Math.Seq.{drop-append_seam}
use Rattle.pcm_front.specs.Distance.{distances_by, distances_since}
use Rattle.pcm_front.specs.Settings.{Settings}
use Rattle.pcm_front.specs.Sums.{latest, sum_at, sums, total}
use Rattle.pcm_front.proofs.DistancesStay.{distances-stay}
use Rattle.pcm_front.proofs.OneMore.{range_with_len-more}

map_same : (f g : ℕ → ℤ) (a n : ℕ) → ((i : ℕ) → i < a + n → f i ≡ g i)
    → map f (range_with_len a n) ≡ map g (range_with_len a n)
map_same f g a zero same = refl
map_same f g a (suc n) same = ap₂ (λ x more. x ∷ more) (same a (omega arith))
    (map_same f g (a + 1) n (λ i l. same i (omega arith)))

-- some samples, behind the zeros before the first
abbrev pub padded : ℕ → List ℤ → List ℤ
padded n xs = replicate n (pos 0) ++ xs

-- the sum of the latest of some samples
abbrev pub sum_of : ℕ → List ℤ → ℤ
sum_of n xs = total (latest n (padded n xs))

sum_at-front : (n : ℕ) (xs ys : List ℤ) (i : ℕ) → i < length xs → sum_at n (xs ++ ys) i ≡ sum_at n xs i
sum_at-front n xs ys i h = ap (sum_of n) (take-append-le (i + 1) xs ys (omega arith))

-- one sample more brings one sum more
pub sums-more : (n : ℕ) (xs : List ℤ) (s : ℤ) → sums n (xs ++ s ∷ []) ≡ sums n xs ++ sum_of n (xs ++ s ∷ []) ∷ []
sums-more n xs s =
    let k : ℕ = length xs in
    let long : length (xs ++ s ∷ []) ≡ suc k = length_push xs s ∙ add-one k in
    let f : ℕ → ℤ = sum_at n (xs ++ s ∷ []) in
    ap (λ len. map f (range_with_len 0 len)) long
    ∙ ap (map f) (range_with_len-more 0 k ∙ ap (λ j. range_with_len 0 k ++ j ∷ []) (zero-add k))
    ∙ map-append f (range_with_len 0 k) (k ∷ [])
    ∙ ap₂ ◌++◌ (map_same f (sum_at n xs) 0 k (λ i l. sum_at-front n xs (s ∷ []) i (omega arith)))
    (ap (λ front. sum_of n front ∷ []) (take_all (k + 1) (xs ++ s ∷ []) (omega (arith, long))))

pub sums-stay : (n : ℕ) (xs more : List ℤ) → (rest : List ℤ) × (sums n (xs ++ more) ≡ sums n xs ++ rest)
sums-stay n xs [] = ([], ap (sums n) (append-nil xs) ∙ sym (append-nil (sums n xs)))
sums-stay n xs (s ∷ more) =
    let front : List ℤ = xs ++ s ∷ [] in
    let later = sums-stay n front more in (
      sum_of n front ∷ later.0,
      ap (sums n) (sym (append_assoc xs (s ∷ []) more))
          ∙ later.1
          ∙ ap (λ zs. zs ++ later.0) (sums-more n xs s)
          ∙ append_assoc (sums n xs) (sum_of n front ∷ []) later.0,
    )

-- so the distances of some samples come first
pub sliced-stay : (s : Settings) (xs more : List ℤ) → (rest : List ℕ)
    × (distances_by s (xs ++ more) ≡ distances_by s xs ++ rest)
sliced-stay s xs more =
    let later = sums-stay s.smooth xs more in
    let ds = distances-stay s.start s.fineness s.threshold (sums s.smooth xs) later.0 in
    (ds.0, ap (distances_since s.start s.fineness s.threshold) later.1 ∙ ds.1)

-- ---- sums of one sample

take-one-more : (front xs : List ℤ) (x : ℤ) → take (length front + 1) (front ++ x ∷ xs) ≡ front ++ x ∷ []
take-one-more [] xs x = refl
take-one-more (y ∷ front) xs x =
    let one : length (y ∷ front) + 1 ≡ suc (length front + 1) = omega arith in
    ap (λ n. take n (y ∷ (front ++ x ∷ xs))) one ∙ ap (λ more. y ∷ more) (take-one-more front xs x)

last-one : (front : List ℤ) (x : ℤ) → drop (length (front ++ x ∷ []) - 1) (front ++ x ∷ []) ≡ x ∷ []
last-one front x =
    let place : length (front ++ x ∷ []) - 1 ≡ length front = omega (arith, length_push front x) in
    ap (λ n. drop n (front ++ x ∷ [])) place ∙ drop-append_seam front (x ∷ [])

pub alone : (x : ℤ) → total (x ∷ []) ≡ x
unfolding total
alone x = grind (arith, ints)

-- a sum of one is the sample in its place
one-at : (front xs : List ℤ) (x : ℤ) → sum_at 1 (front ++ x ∷ xs) (length front) ≡ x
one-at front xs x =
    ap (sum_of 1) (take-one-more front xs x) ∙ ap total (last-one (pos 0 ∷ front) x) ∙ alone x

ones-from : (front xs : List ℤ) → map (sum_at 1 (front ++ xs)) (range_with_len (length front) (length xs)) ≡ xs
ones-from front [] = refl
ones-from front (x ∷ xs) =
    let next : (front ++ x ∷ []) ++ xs ≡ front ++ x ∷ xs = append_assoc front (x ∷ []) xs in
    ap₂ (λ y more. y ∷ more) (one-at front xs x)
    (ap₂ (λ zs n. map (sum_at 1 zs) (range_with_len n (length xs))) (sym next) (sym (length_push front x))
    ∙ ones-from (front ++ x ∷ []) xs)

pub sums-one : (xs : List ℤ) → sums 1 xs ≡ xs
sums-one xs = ones-from [] xs
