-- The bytes of intervals are read as the intervals, whatever comes behind them.
use Rattle.std.proofs.Common.{◌≡◌, ℕ, suc, ◌+◌, ◌<◌, ◌≤◌, List, [], ◌∷◌, ◌++◌, length, drop, Ok, refl, sym, ◌∙◌, ap, ap₂}
use Rattle.std.proofs.Common.{subst, arith, true, false, append_assoc, append-nil, length-append, Bool}
use Rattle.std.specs.Prelude.{nat_lt, if◌then◌else◌}
use Rattle.std.proofs.lemmas.Bool.{le-leb, leb-true, leb-false, ne_eqb}
use Rattle.std.proofs.lemmas.List.{drop_at}
use Rattle.byteorder.specs.Endian.{big_bytes}
use Rattle.byteorder.specs.Numbers.{big_number-reads_back}
use Rattle.limits.specs.declared.recording.TheConstants.{MAX_INTERVAL}
use Rattle.interval_file.specs.declared.header.FileVersion.{FileVersion}
use Rattle.interval_file.specs.declared.header.FileVersion.TheVariants.{One, Two}
use Rattle.interval_file.specs.declared.header.IntervalHeader.{IntervalHeader}
use Rattle.interval_file.specs.declared.piece.Next.TheVariants.{Interval}
use Rattle.interval_file.specs.Contents.{contents_behind}
use Rattle.interval_file.specs.Grammar.{AreIntervals, InRange, intervals_bytes}
use Rattle.interval_file.specs.Next.{next_of, next_with}
use Rattle.interval_file.specs.Piece.{piece_width, spelling, ticks_in}
use Rattle.interval_file.proofs.ContentsBehind.{enough, one_behind}
use Rattle.interval_file.proofs.FrontInterval.{in_range_is}

-- the interval that comes first, of this many bytes
pub record IsFirst (version : FileVersion) (bytes : List ℕ) (x count : ℕ) : Type 0 where
  pub width : piece_width version bytes ≡ count
  pub range : InRange version bytes
  pub ticks : ticks_in version bytes ≡ x

in_two : (x : ℕ) (more : List ℕ) (short : Bool) → nat_lt x 65536 ≡ short → 1 ≤ x → x ≤ MAX_INTERVAL
    → IsFirst Two ((if short then big_bytes 2 x else 0 ∷ 0 ∷ big_bytes 4 x) ++ more) x
    (length (if short then big_bytes 2 x else 0 ∷ 0 ∷ big_bytes 4 x))
in_two x more true e least most =
    let low : x < 65536 = leb-true (suc x) 65536 e in
    let same = big_number-reads_back 2 x more (omega (arith, low)) in
    let some = ne_eqb x 0 (λ none. omega (arith, least, none)) in
    record { width = rw (same, some) refl; range = rw (same, some) (least, most); ticks = rw (same, some) refl }
in_two x more false e least most =
    let high : 65536 < suc x = leb-false (suc x) 65536 e in
    let same = big_number-reads_back 4 x more (omega (arith, most)) in
    record { width = refl; range = rw same (omega (arith, high), most); ticks = same }

pub is_first : (version : FileVersion) (x : ℕ) (more : List ℕ) → 1 ≤ x → x ≤ MAX_INTERVAL
    → IsFirst version (spelling version x ++ more) x (length (spelling version x))
is_first One x more least most =
    let same = big_number-reads_back 4 x more (omega (arith, most)) in
    record { width = refl; range = rw same (least, most); ticks = same }
is_first Two x more least most = in_two x more (nat_lt x 65536) refl least most

-- what is written is the next interval that is read
pub next_back : (version : FileVersion) (x : ℕ) → 1 ≤ x → x ≤ MAX_INTERVAL → (place : ℕ) (rest : List ℕ)
    → next_of version place (spelling version x ++ rest) ≡ Interval x (length (spelling version x))
next_back version x least most place rest =
    let is = is_first version x rest least most in
    let width = length (spelling version x) in
    let long = length-append (spelling version x) rest in
    rw (is.width, le-leb width (length (spelling version x ++ rest)) (omega (arith, long)))
    (ap (next_with width) (in_range_is version place (spelling version x ++ rest) is.range
    ∙ ap (λ (n : ℕ). Ok n) is.ticks))

-- an interval, and what comes behind it
one_spelled : (n : ℕ) (header : IntervalHeader) (before : List ℕ) (place x : ℕ) (rest : List ℕ) → 1 ≤ x
    → x ≤ MAX_INTERVAL → length (spelling header.version x ++ rest) ≤ n
    → contents_behind n header before place (spelling header.version x ++ rest)
    ≡ contents_behind (length rest) header (before ++ x ∷ []) (place + length (spelling header.version x)) rest
one_spelled n header before place x rest least most few =
    let version = header.version in
    let bytes = spelling version x ++ rest in
    let width = length (spelling version x) in
    let is = is_first version x rest least most in
    let long = length-append (spelling version x) rest in
    let behind : drop (piece_width version bytes) bytes ≡ rest =
    ap (λ (k : ℕ). drop k bytes) is.width ∙ drop_at (spelling version x) rest width refl in
    one_behind n (length rest) header before place bytes (rw is.width (omega (arith, long))) is.range few
    (rw behind (omega arith))
    ∙ rw (is.ticks, behind, is.width) refl

pub spelled_on : (xs : List ℕ) (n : ℕ) (header : IntervalHeader) (before : List ℕ) (place : ℕ) (rest : List ℕ)
    → AreIntervals xs → length (intervals_bytes header.version xs ++ rest) ≤ n
    → contents_behind n header before place (intervals_bytes header.version xs ++ rest)
    ≡ contents_behind (length rest) header (before ++ xs) (place + length (intervals_bytes header.version xs)) rest
spelled_on [] n header before place rest are few =
    let none : place ≡ place + 0 = omega arith in
    enough n (length rest) header before place rest few (omega arith)
    ∙ ap₂ (λ (l : List ℕ) (k : ℕ). contents_behind (length rest) header l k rest) (sym (append-nil before)) none
spelled_on (x ∷ xs) n header before place rest are few =
    let version = header.version in
    let first = spelling version x in
    let more = intervals_bytes version xs in
    let parts : (first ++ more) ++ rest ≡ first ++ (more ++ rest) = append_assoc first more rest in
    let count : place + length first + length more ≡ place + length (first ++ more) =
    omega (arith, length-append first more) in
    ap (λ (l : List ℕ). contents_behind n header before place l) parts
    ∙ one_spelled n header before place x (more ++ rest) are.0 are.1
    (subst (λ (l : List ℕ). length l ≤ n) parts few)
    ∙ spelled_on xs (length (more ++ rest)) header (before ++ x ∷ []) (place + length first) rest are.2 (omega arith)
    ∙ ap₂ (λ (l : List ℕ) (k : ℕ). contents_behind (length rest) header l k rest) (append_assoc before (x ∷ []) xs)
    count
