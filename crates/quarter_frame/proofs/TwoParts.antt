-- A room of 18 bytes, filled in two parts, holds these two.
use Rattle.std.proofs.Common.{◌≡◌, ℕ, List, [], ◌++◌, length, take, drop, refl, subst, append-nil, length-drop, arith}
use Rattle.std.proofs.Math.ListN.{drop_of_length-le}
use Rattle.std.proofs.Math.Seq.{take-append_seam, drop-append_seam}

pub two_parts : (front back room : List ℕ) → length front ≡ 10 → length back ≡ 8 → length room ≡ 18 →
    take 10 (front ++ drop 10 room) ++ (back ++ drop 8 (drop 10 (front ++ drop 10 room))) ≡ front ++ back
two_parts front back room f b r =
    let first : take 10 (front ++ drop 10 room) ≡ front = subst (λ n. take n (front ++ drop 10 room) ≡ front) f
    (take-append_seam front (drop 10 room)) in
    let past : drop 10 (front ++ drop 10 room) ≡ drop 10 room =
    subst (λ n. drop n (front ++ drop 10 room) ≡ drop 10 room) f (drop-append_seam front (drop 10 room)) in
    let none : drop 8 (drop 10 room) ≡ [] =
    drop_of_length-le (drop 10 room) {i = 8} (omega (arith, length-drop 10 room)) in
    rw (first, past, none, append-nil back) refl
