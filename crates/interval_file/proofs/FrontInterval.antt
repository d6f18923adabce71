-- An interval at the front of bytes has two to six bytes, and is in range.
use Rattle.std.proofs.Common.{◌≡◌, ℕ, ◌≤◌, List, length, Ok, Err, refl, arith, Bool, true, false}
use Rattle.std.specs.Prelude.{nat_le, ◌&&◌, ◌==◌, if◌then◌else◌}
use Rattle.std.proofs.lemmas.Bool.{and_parts, false_from_ne_true, le-leb, leb-true, leb-false}
use Rattle.byteorder.specs.Endian.{big_number}
use Rattle.limits.specs.declared.recording.TheConstants.{MAX_INTERVAL}
use Rattle.interval_file.specs.declared.fault.IntervalFileFault.TheVariants as fault
use Rattle.interval_file.specs.declared.header.FileVersion.{FileVersion}
use Rattle.interval_file.specs.declared.header.FileVersion.TheVariants.{One, Two}
use Rattle.interval_file.specs.declared.piece.Next.TheVariants.{Short}
use Rattle.interval_file.specs.Grammar.{InRange}
use Rattle.interval_file.specs.Next.{IsNext, next_of, next_with}
use Rattle.interval_file.specs.Piece.{interval_in, least_in, ticks_in, piece_width}

-- an interval has two bytes at least, and six at most
pub widths : (version : FileVersion) (bytes : List ℕ) → (2 ≤ piece_width version bytes)
    × (piece_width version bytes ≤ 6)
widths One bytes = (omega arith, omega arith)
widths Two bytes = by_zero (big_number 2 bytes == 0)
  where
    by_zero : (zero : Bool) → (2 ≤ (if zero then 6 else 2)) × ((if zero then 6 else 2) ≤ 6)
    by_zero true = (omega arith, omega arith)
    by_zero false = (omega arith, omega arith)

-- and one tick at least
pub least : (version : FileVersion) (bytes : List ℕ) → 1 ≤ least_in version bytes
least One bytes = omega arith
least Two bytes = by_zero (big_number 2 bytes == 0)
  where
    by_zero : (zero : Bool) → 1 ≤ (if zero then 65536 else 1)
    by_zero true = omega arith
    by_zero false = omega arith

-- in range it is what its bytes spell, and else refused where it begins
pub in_range_is : (version : FileVersion) (place : ℕ) (rest : List ℕ) → InRange version rest
    → interval_in version place rest ≡ Ok (ticks_in version rest)
in_range_is version place rest range =
    rw (
      le-leb (least_in version rest) (ticks_in version rest) range.0,
      le-leb (ticks_in version rest) MAX_INTERVAL range.1,
    ) refl

pub wrong_interval : (version : FileVersion) (place : ℕ) (rest : List ℕ) → ¬ InRange version rest
    → interval_in version place rest ≡ Err (fault.Interval place)
wrong_interval version place rest wrong =
    let low = nat_le (least_in version rest) (ticks_in version rest) in
    let high = nat_le (ticks_in version rest) MAX_INTERVAL in
    let not_both : (low && high) ≡ false = false_from_ne_true (low && high) (λ both.
    let parts = and_parts low high both in
    wrong (
      leb-true (least_in version rest) (ticks_in version rest) parts.0,
      leb-true (ticks_in version rest) MAX_INTERVAL parts.1,
    )) in
    rw not_both refl

by_range : (version : FileVersion) (place : ℕ) (bytes : List ℕ) (inside : Bool)
    → piece_width version bytes ≤ length bytes
    → (nat_le (least_in version bytes) (ticks_in version bytes) && nat_le (ticks_in version bytes) MAX_INTERVAL)
    ≡ inside
    → IsNext version place bytes (next_with (piece_width version bytes)
    (if inside then Ok (ticks_in version bytes) else Err (fault.Interval place)))
by_range version place bytes true long e =
    let both = and_parts (nat_le (least_in version bytes) (ticks_in version bytes))
    (nat_le (ticks_in version bytes) MAX_INTERVAL) e in
    let low = leb-true (least_in version bytes) (ticks_in version bytes) both.0 in
    let some = least version bytes in
    let wide = widths version bytes in (
      omega (arith, low, some),
      leb-true (ticks_in version bytes) MAX_INTERVAL both.1,
      wide.0,
      wide.1,
      long,
    )
by_range version place bytes false long e = refl

by_length : (version : FileVersion) (place : ℕ) (bytes : List ℕ) (whole : Bool)
    → nat_le (piece_width version bytes) (length bytes) ≡ whole
    → IsNext version place bytes (if whole then next_with (piece_width version bytes)
    (interval_in version place bytes) else Short)
by_length version place bytes true e =
    let long = leb-true (piece_width version bytes) (length bytes) e in
    by_range version place bytes (nat_le (least_in version bytes) (ticks_in version bytes) && nat_le
    (ticks_in version bytes) MAX_INTERVAL) long refl
by_length version place bytes false e = leb-false (piece_width version bytes) (length bytes) e

pub is_next : (version : FileVersion) (place : ℕ) (bytes : List ℕ)
    → IsNext version place bytes (next_of version place bytes)
is_next version place bytes = by_length version place bytes (nat_le (piece_width version bytes) (length bytes)) refl
