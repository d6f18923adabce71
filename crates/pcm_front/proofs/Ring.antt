-- A ring keeps the latest samples: a sample that is written over the oldest one comes behind the others.
use Rattle.std.proofs.Common.{◌≡◌, ℕ, zero, suc, ◌+◌, ◌-◌, ◌*◌, ◌<◌, ◌≤◌, ◌==◌, Bool, true, false, cond, ℤ, pos, ◌+ℤ◌}
use Rattle.std.proofs.Common.{◌-ℤ◌, List, [], ◌∷◌, ◌++◌, length}
use Rattle.std.proofs.Common.{replicate, take, drop, get_or, unsigned_abs, refl, ap, ap₂, subst, sym, ◌∙◌, append-nil}
use Rattle.std.proofs.Common.{append_assoc, arith}
use Rattle.std.specs.Prelude.{set}
use Rattle.std.specs.List.{AllByRecursion}
use Rattle.std.proofs.lemmas.Bool.Decides.{nat_tests}
use Rattle.std.proofs.lemmas.List.{drop-set-lt, get_or-take, length-replicate, length-take, take_more_set}
use Rattle.std.proofs.Math.IntN.{+ℤ_assoc, +ℤ_comm, +ℤ-neg_ℤ_cancel}
use Rattle.std.proofs.Math.Seq.{drop-cons, take-set-lt}
use Rattle.std.proofs.Math.ListN.{drop_of_length-le}
use Rattle.pcm_front.specs.Level.{HasSixteenBits}
use Rattle.pcm_front.specs.State.{ring_of, window_of, IsRing, IsWindow}
use Rattle.pcm_front.specs.Sums.{total}
use Rattle.pcm_front.proofs.Windows.{total-push, window-stays, window-within, zeros-fit, zeros-sum}

-- the place after this one, in a ring of `smooth - 1` places
abbrev pub place_after : ℕ → ℕ → ℕ
place_after smooth oldest = cond (oldest + 2 == smooth) 0 (oldest + 1)

-- what is kept but for the oldest
abbrev rest_of : ℕ → List ℤ → ℕ → List ℤ
rest_of smooth ring oldest = drop (oldest + 1) (take (smooth - 1) ring) ++ take oldest ring

-- the oldest, and the rest
oldest_first : (smooth : ℕ) (ring : List ℤ) (oldest : ℕ) → oldest + 1 < smooth → smooth ≤ length ring + 1
    → ring_of smooth ring oldest ≡ get_or ring oldest (pos 0) ∷ rest_of smooth ring oldest
oldest_first smooth ring oldest within long =
    let in_part : oldest < length (take (smooth - 1) ring) = omega (arith, length-take (smooth - 1) ring) in
    let next : suc oldest ≡ oldest + 1 = omega arith in
    ap (λ l. l ++ take oldest ring)
    (drop-cons (take (smooth - 1) ring) oldest (pos 0) in_part
    ∙ ap₂ (λ x n. x ∷ drop n (take (smooth - 1) ring)) (get_or-take (smooth - 1) ring oldest (pos 0) (omega arith))
    next)

-- the rest, and the sample behind it
written-by : (last : Bool) (smooth : ℕ) (ring : List ℤ) (oldest : ℕ) (s : ℤ) → (oldest + 2 == smooth) ≡ last
    → oldest + 1 < smooth
    → smooth ≤ length ring + 1
    → ring_of smooth (set ring oldest s) (cond last 0 (oldest + 1)) ≡ rest_of smooth ring oldest ++ s ∷ []
written-by true smooth ring oldest s is within long =
    let all : oldest + 2 ≡ smooth = grind (arith, nat_tests) in
    let size : smooth - 1 ≡ oldest + 1 = omega arith in
    let none : drop (oldest + 1) (take (smooth - 1) ring) ≡ [] =
    drop_of_length-le (take (smooth - 1) ring) {i = oldest + 1} (omega (arith, length-take (smooth - 1) ring)) in
    append-nil (take (smooth - 1) (set ring oldest s))
    ∙ ap (λ n. take n (set ring oldest s)) size
    ∙ take_more_set ring oldest s (omega arith)
    ∙ ap (λ l. (l ++ take oldest ring) ++ s ∷ []) (sym none)
written-by false smooth ring oldest s is within long =
    ap₂ ◌++◌ (ap (drop (oldest + 1)) (take-set-lt (smooth - 1) ring oldest s (omega arith))
    ∙ drop-set-lt (oldest + 1) (take (smooth - 1) ring) oldest s (omega arith))
    (take_more_set ring oldest s (omega arith))
    ∙ sym (append_assoc (drop (oldest + 1) (take (smooth - 1) ring)) (take oldest ring) (s ∷ []))

-- so what is kept is what was kept, with the sample and without the oldest
pub written : (smooth : ℕ) (ring : List ℤ) (oldest : ℕ) (s : ℤ) → oldest + 1 < smooth → smooth ≤ length ring + 1
    → ring_of smooth (set ring oldest s) (place_after smooth oldest) ≡ drop 1 (ring_of smooth ring oldest ++ s ∷ [])
written smooth ring oldest s within long =
    written-by (oldest + 2 == smooth) smooth ring oldest s refl within long
    ∙ ap (λ l. drop 1 (l ++ s ∷ [])) (sym (oldest_first smooth ring oldest within long))

total-first : (x : ℤ) (xs : List ℤ) → total (x ∷ xs) ≡ x +ℤ total xs
unfolding total
total-first x xs = refl

moved : (x rest sum s : ℤ) → sum ≡ x +ℤ rest → (sum +ℤ s) -ℤ x ≡ rest +ℤ s
moved x rest sum s all =
    ap (λ t. (t +ℤ s) -ℤ x) all ∙ ap (λ t. t -ℤ x) (+ℤ_assoc x rest s ∙ +ℤ_comm x (rest +ℤ s))
    ∙ +ℤ-neg_ℤ_cancel (rest +ℤ s) x

sum-moves : (kept rest : List ℤ) (x sum s now : ℤ) → kept ≡ x ∷ rest → sum ≡ total kept → now ≡ (sum +ℤ s) -ℤ x
    → now ≡ total (rest ++ s ∷ [])
sum-moves kept rest x sum s now first is moves =
    let all : sum ≡ x +ℤ total rest = is ∙ ap total first ∙ total-first x rest in
    let new = total-push rest s in
    moves ∙ moved x (total rest) sum s all ∙ sym new

place-by : (last : Bool) (smooth oldest : ℕ) → (oldest + 2 == smooth) ≡ last → oldest + 1 < smooth
    → cond last 0 (oldest + 1) + 2 ≤ smooth
place-by true smooth oldest is within = omega arith
place-by false smooth oldest is within = let not_last : ¬ (oldest + 2 ≡ smooth) = grind (arith, nat_tests) in
    omega arith

-- and it is a ring again
pub pushed : (smooth : ℕ) (ring : List ℤ) (oldest next : ℕ) (sum now s : ℤ) → IsRing smooth ring oldest sum → 2 ≤ smooth
    → length ring ≡ 15
    → HasSixteenBits s → next ≡ place_after smooth oldest → now ≡ (sum +ℤ s) -ℤ get_or ring oldest (pos 0)
    → IsRing smooth (set ring oldest s) next now
pushed smooth ring oldest next sum now s is two long bits next_is now_is =
    let w = is.window in
    let place = is.place two in
    let enough : smooth ≤ length ring + 1 = omega (arith, w.most) in
    let kept = ring_of smooth ring oldest in
    let same : ring_of smooth (set ring oldest s) next ≡ drop 1 (kept ++ s ∷ []) =
    ap (ring_of smooth (set ring oldest s)) next_is ∙ written smooth ring oldest s (omega arith) enough in
    let first = oldest_first smooth ring oldest (omega arith) enough in
    record {
      window = subst (λ l. IsWindow (record { smooth = smooth; kept = l })) (sym same)
          (window-stays (window_of smooth ring oldest) s w bits);
      sum_is = sum-moves kept (rest_of smooth ring oldest) (get_or ring oldest (pos 0)) sum s now first is.sum_is now_is
          ∙ ap (λ l. total (drop 1 (l ++ s ∷ []))) (sym first) ∙ ap total (sym same);
      alone = λ one. absurd (omega arith);
      place = λ more. let within = place-by (oldest + 2 == smooth) smooth oldest refl (omega arith) in
          omega (arith, next_is, within);
    }

front : (k n : ℕ) → k ≤ n → take k (replicate n (pos 0)) ≡ replicate k (pos 0)
front zero n within = refl
front (suc k) zero within = absurd (omega arith)
front (suc k) (suc n) within = ap (λ l. pos 0 ∷ l) (front k n (omega arith))

-- before the first sample
pub fresh_ring : (smooth n : ℕ) → 1 ≤ smooth → smooth ≤ n + 1 → ring_of smooth (replicate n (pos 0)) 0 ≡ replicate
    (smooth - 1) (pos 0)
fresh_ring smooth n some most = append-nil (take (smooth - 1) (replicate n (pos 0)))
    ∙ front (smooth - 1) n (omega arith)

pub fresh_is : (smooth n : ℕ) → 1 ≤ smooth → smooth ≤ 16 → smooth ≤ n + 1
    → IsRing smooth (replicate n (pos 0)) 0 (pos 0)
fresh_is smooth n some most enough =
    let same = fresh_ring smooth n some enough in
    record {
      window = record {
        least = some;
        most = most;
        long = ap (λ l. length l + 1) same ∙ omega (arith, length-replicate (smooth - 1) (pos 0));
        bits = subst (AllByRecursion HasSixteenBits) (sym same) (zeros-fit (smooth - 1));
      };
      sum_is = sym (ap total same ∙ zeros-sum (smooth - 1));
      alone = λ one. refl;
      place = λ more. omega arith;
    }

-- ---- how great sums are

-- the sum of what is kept
pub kept-within : (smooth : ℕ) (ring : List ℤ) (oldest : ℕ) (sum : ℤ) → IsRing smooth ring oldest sum
    → unsigned_abs sum ≤ 32_768 * 15
kept-within smooth ring oldest sum is = window-within (window_of smooth ring oldest) sum is.window is.sum_is
