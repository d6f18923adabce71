-- The latest samples but one, with the sample that comes: their sum is the sum there, and without the oldest they are
-- the latest again.
use Rattle.std.proofs.Common.{◌≡◌, ℕ, zero, suc, ◌+◌, ◌-◌, ◌*◌, ◌≤◌, ℤ, pos, ◌+ℤ◌, List, [], ◌∷◌, ◌++◌, length}
use Rattle.std.proofs.Common.{replicate, drop, unsigned_abs}
use Rattle.std.proofs.Common.{refl, ap, ap₂, sym, ◌∙◌, append_assoc, arith}
use Rattle.std.specs.List.{AllByRecursion}
use Rattle.std.proofs.lemmas.Int.{ints}
use Rattle.std.proofs.Math.IntN.{+ℤ_assoc}
use Rattle.std.proofs.lemmas.List.{length_push, length-append, length-drop, length-replicate, drop-append-le, drop-drop}
use Rattle.pcm_front.specs.Level.{HasSixteenBits}
use Rattle.pcm_front.specs.State.{window_after, IsWindow, WindowState}
use Rattle.pcm_front.specs.Sums.{latest, total}
use Rattle.pcm_front.proofs.SumsStay.{padded, sum_of}

latest-push : (n : ℕ) (xs : List ℤ) (s : ℤ) → n ≤ length xs → latest n xs ++ s ∷ [] ≡ latest (n + 1) (xs ++ s ∷ [])
latest-push n xs s within =
    let place : length (xs ++ s ∷ []) - (n + 1) ≡ length xs - n = omega (arith, length_push xs s) in
    sym (ap (λ k. drop k (xs ++ s ∷ [])) place ∙ drop-append-le (length xs - n) xs (s ∷ []) (omega arith))

latest-next : (n : ℕ) (xs : List ℤ) (s : ℤ) → n ≤ length xs → drop 1 (latest n xs ++ s ∷ []) ≡ latest n (xs ++ s ∷ [])
latest-next n xs s within =
    let place : (length xs - n) + 1 ≡ length (xs ++ s ∷ []) - n = omega (arith, length_push xs s) in
    ap (drop 1) (sym (drop-append-le (length xs - n) xs (s ∷ []) (omega arith)))
    ∙ drop-drop 1 (length xs - n) (xs ++ s ∷ [])
    ∙ ap (λ k. drop k (xs ++ s ∷ [])) place

enough : (n : ℕ) (xs : List ℤ) → n - 1 ≤ length (padded n xs)
enough n xs = omega (arith, length-append (replicate n (pos 0)) xs, length-replicate n (pos 0))

behind : (n : ℕ) (xs : List ℤ) (s : ℤ) → padded n xs ++ s ∷ [] ≡ padded n (xs ++ s ∷ [])
behind n xs s = append_assoc (replicate n (pos 0)) xs (s ∷ [])

-- what is kept after one sample more
pub kept-more : (n : ℕ) (kept xs : List ℤ) (s : ℤ) → kept ≡ latest (n - 1) (padded n xs)
    → drop 1 (kept ++ s ∷ []) ≡ latest (n - 1) (padded n (xs ++ s ∷ []))
kept-more n kept xs s is =
    ap (λ l. drop 1 (l ++ s ∷ [])) is ∙ latest-next (n - 1) (padded n xs) s (enough n xs)
    ∙ ap (latest (n - 1)) (behind n xs s)

-- and the sum there
pub sum-now : (n : ℕ) (kept xs : List ℤ) (s : ℤ) → 1 ≤ n → kept ≡ latest (n - 1) (padded n xs)
    → total (kept ++ s ∷ []) ≡ sum_of n (xs ++ s ∷ [])
sum-now n kept xs s some is =
    let all : (n - 1) + 1 ≡ n = omega arith in
    ap (λ l. total (l ++ s ∷ [])) is ∙ ap total (latest-push (n - 1) (padded n xs) s (enough n xs))
    ∙ ap₂ (λ k l. total (latest k l)) all (behind n xs s)

-- ---- how great a sum can be

pub total-push : (xs : List ℤ) (s : ℤ) → total (xs ++ s ∷ []) ≡ total xs +ℤ s
unfolding total
total-push [] s = grind (arith, ints)
total-push (x ∷ xs) s = ap (λ t. x +ℤ t) (total-push xs s) ∙ sym (+ℤ_assoc x (total xs) s)

total-within : (xs : List ℤ) → AllByRecursion HasSixteenBits xs → unsigned_abs (total xs) ≤ 32_768 * length xs
unfolding total
total-within [] bits = omega arith
total-within (x ∷ xs) bits = let more = total-within xs bits.1 in let one = bits.0 in grind (arith, ints)

pub zeros-fit : (n : ℕ) → AllByRecursion HasSixteenBits (replicate n (pos 0))
zeros-fit zero = tt
zeros-fit (suc n) = (omega arith, zeros-fit n)

pub zeros-sum : (n : ℕ) → total (replicate n (pos 0)) ≡ pos 0
unfolding total
zeros-sum zero = refl
zeros-sum (suc n) = let more = zeros-sum n in grind (arith, ints)

push-fits : (xs : List ℤ) (s : ℤ) → AllByRecursion HasSixteenBits xs → HasSixteenBits s
    → AllByRecursion HasSixteenBits (xs ++ s ∷ [])
push-fits [] s bits one = (one, tt)
push-fits (x ∷ xs) s bits one = (bits.0, push-fits xs s bits.1 one)

rest-fits : (xs : List ℤ) → AllByRecursion HasSixteenBits xs → AllByRecursion HasSixteenBits (drop 1 xs)
rest-fits [] bits = tt
rest-fits (x ∷ xs) bits = bits.1

next-fits : (xs : List ℤ) (s : ℤ) → AllByRecursion HasSixteenBits xs → HasSixteenBits s
    → AllByRecursion HasSixteenBits (drop 1 (xs ++ s ∷ []))
next-fits xs s bits one = rest-fits (xs ++ s ∷ []) (push-fits xs s bits one)

-- ---- what a window keeps is in its range

pub window-stays : (window : WindowState) (s : ℤ) → IsWindow window → HasSixteenBits s
    → IsWindow (window_after window s)
window-stays window s is bits = record {
  least = is.least;
  most = is.most;
  long = omega (arith, length-drop 1 (window.kept ++ s ∷ []), length_push window.kept s, is.long);
  bits = next-fits window.kept s is.bits bits;
}

-- and so is its sum
pub window-within : (window : WindowState) (sum : ℤ) → IsWindow window → sum ≡ total window.kept
    → unsigned_abs sum ≤ 32_768 * 15
window-within window sum is sum_is =
    let within = total-within window.kept is.bits in
    let same : unsigned_abs sum ≡ unsigned_abs (total window.kept) = ap unsigned_abs sum_is in
    omega (arith, within, same, is.long, is.most)
