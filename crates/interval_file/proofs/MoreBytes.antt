-- Bytes say the same header and intervals, and more of them, when more bytes come; and an interval out of range stays.
use Rattle.std.proofs.Common.{◌≡◌, ◌⊎◌, inl, inr, ℕ, zero, suc, ◌+◌, ◌≤◌, List, [], ◌∷◌, ◌++◌, length, drop, Some, None}
use Rattle.std.proofs.Common.{refl, sym, ◌∙◌, ap, arith, append_assoc, append-nil, length-append, ◌<◌, Bool, true, false}
use Rattle.std.specs.Prelude.{⊤, ◌==◌, if◌then◌else◌}
use Rattle.std.specs.declared.option.Option.{Option}
use Rattle.std.proofs.lemmas.Bool.{cases_lt}
use Rattle.std.proofs.lemmas.List.{drop-append-le, length-drop}
use Rattle.byteorder.specs.Endian.{big_number}
use Rattle.interval_file.specs.declared.fault.IntervalFileFault.TheVariants as fault
use Rattle.interval_file.specs.declared.header.FileVersion.{FileVersion}
use Rattle.interval_file.specs.declared.header.FileVersion.TheVariants.{One, Two}
use Rattle.interval_file.specs.declared.header.IntervalHeader.{IntervalHeader}
use Rattle.interval_file.specs.Contents.{contents_behind}
use Rattle.interval_file.specs.Grammar.{Contents, InRange, faulty, file, no_header}
use Rattle.interval_file.specs.Piece.{least_in, piece_width, ticks_in}
use Rattle.interval_file.proofs.ContentsBehind.{at_end, cut_behind, one_behind, wrong_behind}
use Rattle.interval_file.proofs.FrontInterval.{widths}
use Rattle.interval_file.proofs.BytesOfIntervals.{in_range_or_not}

-- ---- a whole interval is the same, whatever comes behind it

pub record IsSame (version : FileVersion) (bytes more : List ℕ) : Type 0 where
  pub width : piece_width version (bytes ++ more) ≡ piece_width version bytes
  pub ticks : ticks_in version (bytes ++ more) ≡ ticks_in version bytes
  pub least : least_in version (bytes ++ more) ≡ least_in version bytes

pub four_same : (bytes more : List ℕ) → 4 ≤ length bytes → big_number 4 (bytes ++ more) ≡ big_number 4 bytes
four_same [] more long = absurd (omega (arith, long))
four_same (a ∷ []) more long = absurd (omega (arith, long))
four_same (a ∷ b ∷ []) more long = absurd (omega (arith, long))
four_same (a ∷ b ∷ c ∷ []) more long = absurd (omega (arith, long))
four_same (a ∷ b ∷ c ∷ d ∷ bytes) more long = refl

in_two : (a b : ℕ) (bytes more : List ℕ) (zeros : Bool) → (if zeros then 6 else 2) ≤ length (a ∷ b ∷ bytes)
    → (if zeros then big_number 4 (bytes ++ more) else big_number 2 (a ∷ b ∷ bytes))
    ≡ (if zeros then big_number 4 bytes else big_number 2 (a ∷ b ∷ bytes))
in_two a b bytes more true long = four_same bytes more (omega (arith, long))
in_two a b bytes more false long = refl

pub whole_is_same : (version : FileVersion) (bytes more : List ℕ) → piece_width version bytes ≤ length bytes
    → IsSame version bytes more
whole_is_same One bytes more whole = record { width = refl; ticks = four_same bytes more whole; least = refl }
whole_is_same Two [] more whole = let two = (widths Two []).0 in absurd (omega (arith, whole, two))
whole_is_same Two (a ∷ []) more whole = let two = (widths Two (a ∷ [])).0 in absurd (omega (arith, whole, two))
whole_is_same Two (a ∷ b ∷ bytes) more whole =
    record {
      width = refl;
      ticks = in_two a b bytes more (big_number 2 (a ∷ b ∷ bytes) == 0) whole;
      least = refl;
    }

-- ---- a text that begins with a header and intervals

abbrev pub header_in : Contents → Option IntervalHeader
header_in (file header intervals) = Some header
header_in (no_header first) = None
header_in (faulty header intervals first) = Some header

abbrev pub intervals_in : Contents → List ℕ
intervals_in (file header intervals) = intervals
intervals_in (no_header first) = []
intervals_in (faulty header intervals first) = intervals

pub record BeginsWith (header : IntervalHeader) (intervals : List ℕ) (now : Contents) : Type 0 where
  pub same : header_in now ≡ Some header
  pub more : List ℕ
  pub are : intervals_in now ≡ intervals ++ more

-- with one of them fewer
one_fewer : (header : IntervalHeader) (intervals : List ℕ) (x : ℕ) (now : Contents)
    → BeginsWith header (intervals ++ x ∷ []) now → BeginsWith header intervals now
one_fewer header intervals x now is = record {
  same = is.same;
  more = x ∷ is.more;
  are = is.are ∙ append_assoc intervals (x ∷ []) is.more;
}

pub begins_with : (n : ℕ) (header : IntervalHeader) (intervals : List ℕ) (place : ℕ) (bytes : List ℕ)
    → length bytes ≤ n → BeginsWith header intervals (contents_behind n header intervals place bytes)
begins_with n header intervals place [] few =
    rw (at_end n header intervals place) record { same = refl; more = []; are = sym (append-nil intervals) }
begins_with zero header intervals place (x ∷ l) few = absurd (omega (arith, few))
begins_with (suc n) header intervals place (x ∷ l) few =
    by_width (cases_lt (length bytes) width) (in_range_or_not header.version bytes) (begins_with n header)
  where
    bytes : List ℕ
    bytes = x ∷ l

    width : ℕ
    width = piece_width header.version bytes

    by_width : (length bytes < width) ⊎ (width ≤ length bytes) → InRange header.version bytes
        ⊎ (¬ InRange header.version bytes)
        → ((intervals : List ℕ) (place : ℕ) (bytes : List ℕ) → length bytes ≤ n
        → BeginsWith header intervals (contents_behind n header intervals place bytes))
        → BeginsWith header intervals (contents_behind (suc n) header intervals place bytes)
    by_width (inl short) range next =
        rw (cut_behind (suc n) header intervals place bytes (omega arith) short few)
        record { same = refl; more = []; are = sym (append-nil intervals) }
    by_width (inr whole) (inr wrong) next =
        rw (wrong_behind (suc n) header intervals place bytes whole wrong few)
        record { same = refl; more = []; are = sym (append-nil intervals) }
    by_width (inr whole) (inl range) next =
        let left = length-drop width bytes in
        let two = (widths header.version bytes).0 in
        let less : length (drop width bytes) ≤ n = omega (arith, few, two, left) in
        let ticks = ticks_in header.version bytes in
        rw (one_behind (suc n) n header intervals place bytes whole range few less)
        (one_fewer header intervals ticks _
        (next (intervals ++ ticks ∷ []) (place + width) (drop width bytes) less))

-- ---- and with more bytes

-- a fault of an interval stays, and else what was said comes first
abbrev pub GoesOn : Contents → Contents → Type 0
GoesOn (file header intervals) now = BeginsWith header intervals now
GoesOn (faulty header intervals (fault.Truncated place)) now = BeginsWith header intervals now
GoesOn (faulty header intervals first) now = now ≡ faulty header intervals first
GoesOn (no_header first) now = ⊤

pub goes_on : (n m : ℕ) (header : IntervalHeader) (intervals : List ℕ) (place : ℕ) (front more : List ℕ)
    → length front ≤ n → length (front ++ more) ≤ m
    → GoesOn (contents_behind n header intervals place front) (contents_behind m header intervals place (front ++ more))
goes_on n m header intervals place [] more few also =
    rw (at_end n header intervals place) (begins_with m header intervals place more also)
goes_on zero m header intervals place (x ∷ l) more few also = absurd (omega (arith, few))
goes_on (suc n) zero header intervals place (x ∷ l) more few also = absurd (omega (arith, also))
goes_on (suc n) (suc m) header intervals place (x ∷ l) more few also =
    by_width (cases_lt (length front) width) (in_range_or_not header.version front) (goes_on n m header)
  where
    front : List ℕ
    front = x ∷ l

    width : ℕ
    width = piece_width header.version front

    by_width : (length front < width) ⊎ (width ≤ length front) → InRange header.version front
        ⊎ (¬ InRange header.version front)
        → ((intervals : List ℕ) (place : ℕ) (front more : List ℕ) → length front ≤ n → length (front ++ more) ≤ m
        → GoesOn (contents_behind n header intervals place front)
        (contents_behind m header intervals place (front ++ more)))
        → GoesOn (contents_behind (suc n) header intervals place front)
        (contents_behind (suc m) header intervals place (front ++ more))
    by_width (inl short) range next =
        rw (cut_behind (suc n) header intervals place front (omega arith) short few)
        (begins_with (suc m) header intervals place (front ++ more) also)
    by_width (inr whole) (inr wrong) next =
        let same = whole_is_same header.version front more whole in
        let long = length-append front more in
        rw (wrong_behind (suc n) header intervals place front whole wrong few)
        (wrong_behind (suc m) header intervals place (front ++ more) (rw same.width (omega (arith, whole, long)))
        (rw (same.ticks, same.least) wrong) also)
    by_width (inr whole) (inl range) next =
        let same = whole_is_same header.version front more whole in
        let long = length-append front more in
        let left = length-drop width front in
        let two = (widths header.version front).0 in
        let ticks = ticks_in header.version front in
        let less : length (drop width front) ≤ n = omega (arith, few, two, left) in
        let parts : drop (piece_width header.version (front ++ more)) (front ++ more) ≡ drop width front ++ more =
        ap (λ (k : ℕ). drop k (front ++ more)) same.width ∙ drop-append-le width front more whole in
        let joined = length-append (drop width front) more in
        let also_less : length (drop width front ++ more) ≤ m = omega (arith, also, two, left, long, joined) in
        let before = one_behind (suc n) n header intervals place front whole range few less in
        let now = one_behind (suc m) m header intervals place (front ++ more) (rw same.width (omega (arith, whole, long)))
        (rw (same.ticks, same.least) range) also (rw parts also_less)
        ∙ rw (same.ticks, parts, same.width) refl in
        rw (before, now) (next (intervals ++ ticks ∷ []) (place + width) (drop width front) more less also_less)
