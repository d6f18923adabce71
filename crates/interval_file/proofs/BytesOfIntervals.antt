-- The bytes of an interval in range are those that a recorder writes for it.
use Rattle.std.proofs.Common.{◌≡◌, ◌⊎◌, inl, inr, ℕ, ◌<◌, ◌≤◌, List, [], ◌∷◌, length}
use Rattle.std.proofs.Common.{take, refl}
use Rattle.std.proofs.Common.{sym, ◌∙◌, ap, ap₂, arith, Bool, true, false}
use Rattle.std.specs.Prelude.{◌==◌, if◌then◌else◌}
use Rattle.std.proofs.lemmas.Bool.{cases_lt, eqb-true, le-ltb, lt-ltb}
use Rattle.byteorder.specs.Endian.{big_number}
use Rattle.limits.specs.declared.recording.TheConstants.{MAX_INTERVAL}
use Rattle.interval_file.specs.declared.header.FileVersion.{FileVersion}
use Rattle.interval_file.specs.declared.header.FileVersion.TheVariants.{One, Two}
use Rattle.tc_io.specs.Bytes.{AreBytes}
use Rattle.interval_file.specs.Grammar.{InRange}
use Rattle.interval_file.specs.Piece.{least_in, ticks_in, piece_width, spelling}
use Rattle.interval_file.proofs.FrontOfBytes.{four_bytes, two_bytes}

-- ---- the intervals

-- the bytes of an interval in range are those that a recorder writes for it
spelled_one : (rest : List ℕ) → 4 ≤ length rest → AreBytes rest → take 4 rest ≡ spelling One (ticks_in One rest)
spelled_one [] long are = absurd (omega (arith, long))
spelled_one (a ∷ []) long are = absurd (omega (arith, long))
spelled_one (a ∷ b ∷ []) long are = absurd (omega (arith, long))
spelled_one (a ∷ b ∷ c ∷ []) long are = absurd (omega (arith, long))
spelled_one (a ∷ b ∷ c ∷ e ∷ more) long are = sym (four_bytes a b c e are.0 are.1.0 are.1.1.0 are.1.1.1.0)

abbrev pub IsSpelled : FileVersion → List ℕ → Type 0
IsSpelled version rest = take (piece_width version rest) rest ≡ spelling version (ticks_in version rest)

spelled_short : (a b : ℕ) (more : List ℕ) → a < 256 → b < 256 → (big_number 2 (a ∷ b ∷ more) == 0) ≡ false
    → IsSpelled Two (a ∷ b ∷ more)
spelled_short a b more la lb short =
    let low : big_number 2 (a ∷ b ∷ more) < 65536 = omega arith in
    rw (short, lt-ltb (big_number 2 (a ∷ b ∷ more)) 65536 low) (sym (two_bytes a b la lb))

spelled_long : (a b c e f g : ℕ) (more : List ℕ) → AreBytes (a ∷ b ∷ c ∷ e ∷ f ∷ g ∷ more)
    → (big_number 2 (a ∷ b ∷ c ∷ e ∷ f ∷ g ∷ more) == 0) ≡ true → 65536 ≤ big_number 4 (c ∷ e ∷ f ∷ g ∷ more)
    → IsSpelled Two (a ∷ b ∷ c ∷ e ∷ f ∷ g ∷ more)
spelled_long a b c e f g more are zeros least_long =
    let none : big_number 2 (a ∷ b ∷ c ∷ e ∷ f ∷ g ∷ more) ≡ 0 =
    eqb-true (big_number 2 (a ∷ b ∷ c ∷ e ∷ f ∷ g ∷ more)) 0 zeros in
    let first : a ≡ 0 = omega (arith, none) in
    let second : b ≡ 0 = omega (arith, none) in
    let four = four_bytes c e f g are.1.1.0 are.1.1.1.0 are.1.1.1.1.0 are.1.1.1.1.1.0 in
    rw (zeros, le-ltb (big_number 4 (c ∷ e ∷ f ∷ g ∷ more)) 65536 least_long)
    (ap₂ (λ (x y : ℕ). x ∷ y ∷ c ∷ e ∷ f ∷ g ∷ []) first second ∙ ap (λ (l : List ℕ). 0 ∷ 0 ∷ l) (sym four))

spelled_two : (rest : List ℕ) (zero_first : Bool) → (big_number 2 rest == 0) ≡ zero_first
    → (if zero_first then 6 else 2) ≤ length rest
    → AreBytes rest → (if zero_first then 65536 else 1) ≤ ticks_in Two rest → IsSpelled Two rest
spelled_two [] true e long are range = absurd (omega (arith, long))
spelled_two (a ∷ []) true e long are range = absurd (omega (arith, long))
spelled_two (a ∷ b ∷ []) true e long are range = absurd (omega (arith, long))
spelled_two (a ∷ b ∷ c ∷ []) true e long are range = absurd (omega (arith, long))
spelled_two (a ∷ b ∷ c ∷ e ∷ []) true zeros long are range = absurd (omega (arith, long))
spelled_two (a ∷ b ∷ c ∷ e ∷ f ∷ []) true zeros long are range = absurd (omega (arith, long))
spelled_two (a ∷ b ∷ c ∷ e ∷ f ∷ g ∷ more) true zeros long are range =
    spelled_long a b c e f g more are zeros (rw zeros at range)
spelled_two [] false e long are range = absurd (omega (arith, long))
spelled_two (a ∷ []) false e long are range = absurd (omega (arith, long))
spelled_two (a ∷ b ∷ more) false short long are range = spelled_short a b more are.0 are.1.0 short

pub is_spelled : (version : FileVersion) (rest : List ℕ) → piece_width version rest ≤ length rest → AreBytes rest
    → InRange version rest
    → IsSpelled version rest
is_spelled One rest long are range = spelled_one rest long are
is_spelled Two rest long are range = spelled_two rest (big_number 2 rest == 0) refl long are range.0

pub in_range_or_not : (version : FileVersion) (rest : List ℕ) → InRange version rest ⊎ (¬ InRange version rest)
in_range_or_not version rest = by_order (cases_lt (ticks_in version rest) (least_in version rest))
    (cases_lt MAX_INTERVAL (ticks_in version rest))
  where
    by_order : (ticks_in version rest < least_in version rest) ⊎ (least_in version rest ≤ ticks_in version rest)
        → (MAX_INTERVAL < ticks_in version rest) ⊎ (ticks_in version rest ≤ MAX_INTERVAL)
        → InRange version rest ⊎ (¬ InRange version rest)
    by_order (inl low) high = inr (λ range. let least_of_all = range.0 in omega (arith, low, least_of_all))
    by_order (inr low) (inl high) = inr (λ range. let most = range.1 in omega (arith, high, most))
    by_order (inr low) (inr high) = inl (low, high)
