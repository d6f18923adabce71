-- The sound in the ring is that of the latest steps, and sums over parts of it are those of the sound.
use Rattle.std.proofs.Common.{◌≡◌, ℕ, zero, suc, ◌+◌, ◌-◌, ◌*◌, ◌%◌, ◌^◌, ◌<◌, ◌≤◌, ℤ, pos, ◌+ℤ◌, List, [], ◌∷◌}
use Rattle.std.proofs.Common.{◌++◌}
use Rattle.std.proofs.Common.{get_or, replicate, take, drop, refl, ap, sym, subst, ◌∙◌, arith}
use Rattle.std.specs.Prelude.{unsigned_abs}
use Rattle.std.proofs.lemmas.Int.{ints}
use Rattle.std.proofs.lemmas.List.{get_or-drop, get_or-replicate}
use Rattle.std.proofs.lemmas.Nat.{mul-le}
use Rattle.std.proofs.lemmas.List.Elements.{All-replicate}
use Rattle.std.proofs.lemmas.List.Sums.{sum_by-cons}
use Rattle.path_front.proofs.GroupNext.{size_of_sum}
use Rattle.path_front.specs.Grid.{total}
use Rattle.path_front.specs.declared.latest.PartSums.{PartSums}
use Rattle.path_front.specs.Latest.{part, sound_ago, squares_of, sum_of, AreLatest, AreSums, LatestState}
use Rattle.path_front.specs.Latest.{LatestStandFor}

abbrev square : ℤ → ℕ
square sound = unsigned_abs sound * unsigned_abs sound

-- one step more of a part
total-take : (n : ℕ) (xs : List ℤ) → total (take (suc n) xs) ≡ total (take n xs) +ℤ get_or xs n (pos 0)
unfolding total
total-take zero [] = refl
total-take (suc n) [] = refl
total-take zero (x ∷ xs) = omega (arith, ints)
total-take (suc n) (x ∷ xs) = let e = total-take n xs in omega (arith, ints, e)

squares-take : (n : ℕ) (xs : List ℤ)
    → squares_of (take (suc n) xs) ≡ squares_of (take n xs) + square (get_or xs n (pos 0))
squares-take zero [] = refl
squares-take (suc n) [] = refl
squares-take zero (x ∷ xs) = sum_by-cons square x [] ∙ omega arith
squares-take (suc n) (x ∷ xs) =
    let e = sum_by-cons square x (take (suc n) xs) in let f = sum_by-cons square x (take n xs) in
    let g = squares-take n xs in omega (arith, e, f, g)

pub more_sum : (latest : LatestState) (sounds : List ℤ) (ago n : ℕ) → LatestStandFor latest sounds → ago + n < 4_096
    → sum_of (part ago (n + 1) sounds) ≡ sum_of (part ago n sounds) +ℤ sound_ago latest (ago + n)
more_sum latest sounds ago n stand near =
    let next : n + 1 ≡ suc n = omega arith in
    ap (λ k. total (take k (drop ago sounds))) next ∙ total-take n (drop ago sounds)
    ∙ ap (λ x. total (take n (drop ago sounds)) +ℤ x) (get_or-drop ago sounds n (pos 0)
    ∙ sym (stand.kept (ago + n) near))

pub more_squares : (latest : LatestState) (sounds : List ℤ) (ago n : ℕ) → LatestStandFor latest sounds → ago + n < 4_096
    → squares_of (part ago (n + 1) sounds) ≡ squares_of (part ago n sounds) + square (sound_ago latest (ago + n))
more_squares latest sounds ago n stand near =
    let next : n + 1 ≡ suc n = omega arith in
    ap (λ k. squares_of (take k (drop ago sounds))) next ∙ squares-take n (drop ago sounds)
    ∙ ap (λ x. squares_of (take n (drop ago sounds)) + square x) (get_or-drop ago sounds n (pos 0)
    ∙ sym (stand.kept (ago + n) near))

-- before the first step
abbrev pub no_sound : LatestState
no_sound = record { ring = replicate 4_096 (pos 0); count = 0 }

pub are_none : AreLatest no_sound
are_none = record {
  long = refl;
  size = All-replicate (λ sound. unsigned_abs sound ≤ 2 ^ 15) 4_096 (pos 0) (omega arith);
  count = omega arith;
}

pub stand_for_none : LatestStandFor no_sound []
stand_for_none = record {
  count = refl;
  kept = λ ago near. get_or-replicate 4_096 ((0 + 4_096 - ago) % 4_096) (pos 0) (pos 0) (omega arith);
}

pub no_steps : sum_of [] ≡ pos 0
unfolding total
no_steps = refl

pub still_within : (sum sound : ℤ) (n : ℕ) → unsigned_abs sum ≤ n * 2 ^ 15 → unsigned_abs sound ≤ 2 ^ 15
    → unsigned_abs (sum +ℤ sound) ≤ (n + 1) * 2 ^ 15
still_within sum sound n most small =
    let e = size_of_sum sum sound (n * 2 ^ 15) (2 ^ 15) most small in omega (arith, e)

pub square_within : (size : ℕ) → size ≤ 2 ^ 15 → size * size ≤ 2 ^ 30
square_within size small = mul-le size size (2 ^ 15) (2 ^ 15) small small

pub total-append : (xs ys : List ℤ) → sum_of (xs ++ ys) ≡ sum_of xs +ℤ sum_of ys
unfolding total
total-append [] ys = omega (arith, ints)
total-append (x ∷ xs) ys = let e = total-append xs ys in omega (arith, ints, e)

-- a part that is the same has the same sums
pub same_part : (latest : LatestState) (sums : PartSums) (shorter_ago longer_ago n m : ℕ) → n ≡ m
    → (n ≡ m → shorter_ago ≡ longer_ago) → AreSums latest shorter_ago n sums → AreSums latest longer_ago m sums
same_part latest sums shorter_ago longer_ago n m same even are =
    subst (λ k. AreSums latest longer_ago k sums) same (subst (λ a. AreSums latest a n sums) (even same) are)
