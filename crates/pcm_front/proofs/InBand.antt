-- A sample nearer to zero than the threshold leads to no side, and one that is above the negative threshold to no low
-- side.
use Rattle.std.specs.Int.{w16}
use Rattle.std.specs.Int.Bits.{bit_or}
use Rattle.std.specs.List.{AllByRecursion}
use Rattle.std.specs.Simd.Lanes.{mask_l, top, zip2}
use Rattle.std.proofs.Common.{FitsSigned, to_z, of_z, to_z-of_z, ◌≡◌, ℕ, ◌%◌, ◌^◌, ◌≤◌, ℤ, pos, ◌+ℤ◌, ◌-ℤ◌, ◌≤ℤ◌}
use Rattle.std.proofs.Common.{int_le, Bool, true, false, not, ◌&&◌, ◌||◌, cond}
use Rattle.std.proofs.Common.{List, [], ◌∷◌, map, length, replicate, Option, Some, None, refl, ap, ap₂, ◌∙◌, subst}
use Rattle.std.proofs.Common.{arith}
use Rattle.std.specs.Prelude.{int_lt}
use Rattle.std.proofs.lemmas.Int.{ints}
use Rattle.std.proofs.lemmas.List.{length-map}
use Rattle.std.proofs.lemmas.Simd.{mask_l-mod}
use Rattle.pcm_front.specs.declared.side.Side.{Side}
use Rattle.pcm_front.specs.declared.side.Side.TheVariants.{High, Low}
use Rattle.pcm_front.specs.Side.{side_of, stays}

high : (t : ℕ) (inside most : ℤ) → 1 ≤ t → (inside +ℤ pos 1) ≤ℤ pos t → (s : ℤ)
    → (int_le (pos 0 -ℤ inside) s && int_le s most) ≡ true
    → stays (Some High) (side_of t s) ≡ true
high t inside most some below s is = grind (arith, ints)

low : (t : ℕ) (inside least : ℤ) → 1 ≤ t → (inside +ℤ pos 1) ≤ℤ pos t → (s : ℤ)
    → (int_le least s && int_le s inside) ≡ true
    → stays (Some Low) (side_of t s) ≡ true
low t inside least some below s is = grind (arith, ints)

none : (t : ℕ) (inside : ℤ) → 1 ≤ t → (inside +ℤ pos 1) ≤ℤ pos t → (s : ℤ)
    → (int_le (pos 0 -ℤ inside) s && int_le s inside) ≡ true
    → stays None (side_of t s) ≡ true
none t inside some below s is = grind (arith, ints)

pub stays_high : (side : Side) (t : ℕ) (inside most : ℤ) → side ≡ High → 1 ≤ t → (inside +ℤ pos 1) ≤ℤ pos t
    → (s : ℤ) → (int_le (pos 0 -ℤ inside) s && int_le s most) ≡ true → stays (Some side) (side_of t s) ≡ true
stays_high side t inside most is some below s in_band = rw is (high t inside most some below s in_band)

pub stays_low : (side : Side) (t : ℕ) (inside least : ℤ) → side ≡ Low → 1 ≤ t → (inside +ℤ pos 1) ≤ℤ pos t
    → (s : ℤ) → (int_le least s && int_le s inside) ≡ true → stays (Some side) (side_of t s) ≡ true
stays_low side t inside least is some below s in_band = rw is (low t inside least some below s in_band)

pub stays_none : (o : Option Side) (t : ℕ) (inside : ℤ) → o ≡ None → 1 ≤ t → (inside +ℤ pos 1) ≤ℤ pos t
    → (s : ℤ) → (int_le (pos 0 -ℤ inside) s && int_le s inside) ≡ true → stays o (side_of t s) ≡ true
stays_none o t inside is some below s in_band = rw is (none t inside some below s in_band)

-- ---- a bit for each sample that lies outside a band, as vectors compute it

-- a lane of all ones if one number is below another
abbrev below : ℕ → ℕ → ℕ
below a b = cond (int_lt (to_z w16 a) (to_z w16 b)) 65535 0

either : (a b : Bool) → top 15 (bit_or (cond a 65535 0) (cond b 65535 0)) ≡ (a || b)
either true true = refl
either true false = refl
either false true = refl
either false false = refl

apart : (least most x : ℤ) → (int_lt x least || int_lt most x) ≡ not (int_le least x && int_le x most)
apart least most x = grind (arith, ints)

one_bit : (least most x : ℤ) → FitsSigned w16 least → FitsSigned w16 most → FitsSigned w16 x
    → top 15 (bit_or (below (of_z w16 x) (of_z w16 least)) (below (of_z w16 most) (of_z w16 x)))
    ≡ not (int_le least x && int_le x most)
one_bit least most x fits_least fits_most fits =
    rw (to_z-of_z fits, to_z-of_z fits_least, to_z-of_z fits_most) (either (int_lt x least) (int_lt most x)
    ∙ apart least most x)

bits_are : (least most : ℤ) (lanes : List ℤ) → FitsSigned w16 least → FitsSigned w16 most
    → AllByRecursion (FitsSigned w16) lanes
    → map (top 15) (zip2 bit_or (zip2 below (map (of_z w16) lanes) (replicate (length lanes) (of_z w16 least)))
    (zip2 below (replicate (length lanes) (of_z w16 most)) (map (of_z w16) lanes)))
    ≡ map (λ sample. not (int_le least sample && int_le sample most)) lanes
bits_are least most [] fits_least fits_most fits = refl
bits_are least most (x ∷ xs) fits_least fits_most fits =
    ap₂ (λ b bs. b ∷ bs) (one_bit least most x fits_least fits_most fits.0)
    (bits_are least most xs fits_least fits_most fits.1)

pub bits_outside : (least most : ℤ) (lanes : List ℤ) (n : ℕ) → length lanes ≡ n → n ≤ 64 → FitsSigned w16 least
    → FitsSigned w16 most
    → AllByRecursion (FitsSigned w16) lanes
    → mask_l (map (top 15) (zip2 bit_or (zip2 below (map (of_z w16) lanes) (replicate n (of_z w16 least)))
    (zip2 below (replicate n (of_z w16 most)) (map (of_z w16) lanes)))) % 2 ^ 64
    ≡ mask_l (map (λ sample. not (int_le least sample && int_le sample most)) lanes)
bits_outside least most lanes n long few fits_least fits_most fits =
    subst (λ k. mask_l (map (top 15) (zip2 bit_or (zip2 below (map (of_z w16) lanes) (replicate k (of_z w16 least)))
    (zip2 below (replicate k (of_z w16 most)) (map (of_z w16) lanes)))) % 2 ^ 64
    ≡ mask_l (map (λ sample. not (int_le least sample && int_le sample most)) lanes)) long
    (ap (λ bits. mask_l bits % 2 ^ 64) (bits_are least most lanes fits_least fits_most fits)
    ∙ mask_l-mod (map (λ sample. not (int_le least sample && int_le sample most)) lanes) 64
    (omega (arith, long, few, length-map lanes (λ sample. not (int_le least sample && int_le sample most)))))
