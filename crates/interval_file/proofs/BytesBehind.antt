-- What is at the front of bytes behind a file is what they bring to it: no whole interval, an interval in its one
-- spelling, or one out of range.
use Rattle.std.proofs.Common.{◌≡◌, ◌⊎◌, inl, inr, ℕ, ◌<◌, ◌≤◌, List, [], ◌∷◌, length, take, refl}
use Rattle.std.proofs.Common.{sym, ap, subst, arith}
use Rattle.std.proofs.lemmas.Bool.{cases_lt, le-leb, lt-leb}
use Rattle.interval_file.specs.declared.fault.IntervalFileFault.TheVariants as fault
use Rattle.interval_file.specs.declared.header.FileVersion.{FileVersion}
use Rattle.interval_file.specs.declared.header.IntervalHeader.{IntervalHeader}
use Rattle.interval_file.specs.declared.piece.Next.{Next}
use Rattle.interval_file.specs.declared.piece.Next.TheVariants.{Short, Interval, Fault}
use Rattle.tc_io.specs.Bytes.{AreBytes}
use Rattle.interval_file.specs.Grammar.{InRange, IsFile}
use Rattle.interval_file.specs.Next.{BringNext, next_of, next_with}
use Rattle.interval_file.specs.Piece.{ticks_in, piece_width}
use Rattle.interval_file.proofs.BytesOfIntervals.{in_range_or_not, is_spelled}
use Rattle.interval_file.proofs.FileMore.{file_more}
use Rattle.interval_file.proofs.FrontInterval.{in_range_is, least, wrong_interval}

pub they_bring : (front bytes : List ℕ) (header : IntervalHeader) (intervals : List ℕ) → AreBytes bytes
    → IsFile front header intervals
    → BringNext front header intervals bytes (next_of header.version (length front) bytes)
they_bring front bytes header intervals are is =
    by_width (cases_lt (length bytes) (piece_width version bytes)) (in_range_or_not version bytes)
  where
    version : FileVersion
    version = header.version

    brings : (next : Next) → next_of version (length front) bytes ≡ next → BringNext front header intervals bytes next
        → BringNext front header intervals bytes (next_of version (length front) bytes)
    brings next e so = subst (λ (n : Next). BringNext front header intervals bytes n) (sym e) so

    none_or_part : (l : List ℕ) → length l < piece_width version l → BringNext front header intervals l Short
    none_or_part [] short = inl refl
    none_or_part (x ∷ more) short = inr (record {
      front = front;
      rest = x ∷ more;
      are = refl;
      file = is;
      fails =
          (refl, omega arith, short);
    })

    by_width : (length bytes < piece_width version bytes) ⊎ (piece_width version bytes ≤ length bytes)
        → InRange version bytes ⊎ (¬ InRange version bytes)
        → BringNext front header intervals bytes (next_of version (length front) bytes)
    by_width (inl short) range =
        brings Short (rw (lt-leb (piece_width version bytes) (length bytes) short) refl) (none_or_part bytes short)
    by_width (inr whole) (inr wrong) =
        let width = piece_width version bytes in
        brings (Fault (fault.Interval (length front)))
        (rw (le-leb width (length bytes) whole) (ap (next_with width)
        (wrong_interval version (length front) bytes wrong)))
        (record { front = front; rest = bytes; are = refl; file = is; fails = (refl, whole, wrong) })
    by_width (inr whole) (inl range) =
        let x = ticks_in version bytes in
        let width = piece_width version bytes in
        let some = least version bytes in
        let low = range.0 in
        let is_next = ap (next_with width) (in_range_is version (length front) bytes range) in
        brings (Interval x width) (rw (le-leb width (length bytes) whole) is_next) (
          whole,
          file_more front (take width bytes) header intervals x is (is_spelled version bytes whole are range)
              (omega (arith, some, low)) range.1,
        )
