-- Eight quarter frames in two numbers. One more moves the others up, and the oldest out.
use Rattle.std.proofs.Common.{◌≡◌, ◌⊎◌, inl, inr, false, ◌&&◌, ◌||◌, ◌==◌, ◌<◌, ◌≤◌, ℕ, ◌+◌, ◌*◌, ◌/◌, ◌%◌, List, []}
use Rattle.std.proofs.Common.{◌∷◌, ◌++◌, None, length}
use Rattle.std.proofs.Common.{slice_index, refl, ◌∙◌, ap₂, arith}
use Rattle.mtc_reader.specs.Events.{latest_eight, piece_of, window_event}
use Rattle.mtc_reader.specs.StandsFor.{four_in, have_ends}
use Rattle.mtc_reader.proofs.LatestEight.{backward_at, forward_at, neither, shifted}

half_moved : (n q byte : ℕ) → q < 65536 → q % 256 ≡ byte → four_in (n * 65536 % 18446744073709551616 + q)
    ≡ (n / 4294967296 % 256) ∷ (n / 65536 % 256) ∷ (n % 256) ∷ byte ∷ []
half_moved n q byte small is =
    let m = n * 65536 % 18446744073709551616 + q in
    let a : m / 281474976710656 % 256 ≡ n / 4294967296 % 256 = omega (arith, small) in
    let b : m / 4294967296 % 256 ≡ n / 65536 % 256 = omega (arith, small) in
    let c : m / 65536 % 256 ≡ n % 256 = omega (arith, small) in
    let d : m % 256 ≡ byte = omega (arith, small, is) in
    rw (a, b, c, d) refl

-- one quarter frame more
pub one_more : (first last q : ℕ) (row : List ℕ) → last < 18446744073709551616 → q < 256 → 8 ≤ length row
    → four_in first ++ four_in last ≡ latest_eight row
    → four_in (first * 65536 % 18446744073709551616 + last / 281474976710656)
    ++ four_in (last * 65536 % 18446744073709551616 + q) ≡ latest_eight (row ++ q ∷ [])
one_more first last q row fits small long is =
    ap₂ (λ (x y : List ℕ). x ++ y) (half_moved first (last / 281474976710656) _ (omega (arith, fits)) refl)
    (half_moved last q q (omega (arith, small)) (omega (arith, small)))
    ∙ shifted (four_in first ++ four_in last) row q long is

ends_of : (a b : ℕ) → ((a == 0) && (b == 7) || (a == 7) && (b == 0)) ≡ false → ((a ≡ 0) × (b ≡ 7)) ⊎ ((a ≡ 7) × (b ≡ 0))
    → ⊥
ends_of a b no_end (inl e) = let is = rw (e.0, e.1) at no_end in cc
ends_of a b no_end (inr e) = let is = rw (e.0, e.1) at no_end in cc

-- the first and the last do not have the pieces of a window's ends
pub no_ends : (xs : List ℕ) (place : ℕ) → have_ends xs ≡ false → window_event xs place ≡ None
no_ends xs place is =
    let a = piece_of (slice_index xs 0) in
    let b = piece_of (slice_index xs 7) in
    neither xs place (λ all. ends_of a b is (inl (forward_at xs all)))
    (λ all. ends_of a b is (inr (backward_at xs all)))
