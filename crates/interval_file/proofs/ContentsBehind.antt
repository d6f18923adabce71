-- What comes behind a header and intervals, one interval at a time: bytes that end inside one, one out of range, or
-- one in range and what comes behind it.
use Rattle.std.proofs.Common.{◌≡◌, ◌⊎◌, inl, inr, ℕ, zero, suc, ◌+◌, ◌<◌, ◌≤◌, List, [], ◌∷◌, ◌++◌, length, take, drop}
use Rattle.std.proofs.Common.{Ok, Err, refl, sym, ◌∙◌}
use Rattle.std.proofs.Common.{ap, subst, arith, false, append_assoc, append-nil, length-append}
use Rattle.std.specs.Prelude.{◌==◌}
use Rattle.std.specs.declared.result.Result.{Result}
use Rattle.std.proofs.lemmas.Bool.{cases_lt, le-ltb, lt-ltb, ne_eqb}
use Rattle.std.proofs.lemmas.List.{length-drop, length-take-le, take-append-drop}
use Rattle.interval_file.specs.declared.fault.IntervalFileFault.{IntervalFileFault}
use Rattle.interval_file.specs.declared.fault.IntervalFileFault.TheVariants as fault
use Rattle.interval_file.specs.declared.header.IntervalHeader.{IntervalHeader}
use Rattle.interval_file.specs.Contents.{contents_behind}
use Rattle.tc_io.specs.Bytes.{AreBytes}
use Rattle.interval_file.specs.Grammar.{Contents, InRange, IsFile, Says, faulty, file}
use Rattle.interval_file.specs.Piece.{interval_in, ticks_in, piece_width}
use Rattle.interval_file.proofs.FileMore.{file_more}
use Rattle.interval_file.proofs.FrontInterval.{in_range_is, least, widths, wrong_interval}
use Rattle.interval_file.proofs.BytesOfIntervals.{in_range_or_not, is_spelled}
use Rattle.tc_io.specs.ByteLemmas.{bytes_behind}

-- ---- the steps

-- what an interval that is whole brings
abbrev brought : ℕ → IntervalHeader → List ℕ → ℕ → List ℕ → Result ℕ IntervalFileFault → Contents
brought more header intervals place bytes result = elim result [
  | Ok x ↦
      contents_behind more header (intervals ++ x ∷ []) (place + piece_width header.version bytes)
      (drop (piece_width header.version bytes) bytes)
  | Err first ↦ faulty header intervals first
]

some_bytes : (x : ℕ) (l : List ℕ) → (length (x ∷ l) == 0) ≡ false
some_bytes x l = ne_eqb (length (x ∷ l)) 0 (λ e. omega (arith, e))

cut_short : (more : ℕ) (header : IntervalHeader) (intervals : List ℕ) (place x : ℕ) (l : List ℕ)
    → length (x ∷ l) < piece_width header.version (x ∷ l)
    → contents_behind (suc more) header intervals place (x ∷ l)
    ≡ faulty header intervals (fault.Truncated (place + length (x ∷ l)))
cut_short more header intervals place x l short =
    rw (some_bytes x l, lt-ltb (length (x ∷ l)) (piece_width header.version (x ∷ l)) short) refl

whole_one : (more : ℕ) (header : IntervalHeader) (intervals : List ℕ) (place x : ℕ) (l : List ℕ)
    → piece_width header.version (x ∷ l) ≤ length (x ∷ l)
    → contents_behind (suc more) header intervals place (x ∷ l)
    ≡ brought more header intervals place (x ∷ l) (interval_in header.version place (x ∷ l))
whole_one more header intervals place x l whole =
    rw (some_bytes x l, le-ltb (length (x ∷ l)) (piece_width header.version (x ∷ l)) whole) refl

wrong_one : (more : ℕ) (header : IntervalHeader) (intervals : List ℕ) (place x : ℕ) (l : List ℕ)
    → piece_width header.version (x ∷ l) ≤ length (x ∷ l)
    → ¬ InRange header.version (x ∷ l) → contents_behind (suc more) header intervals place (x ∷ l)
    ≡ faulty header intervals (fault.Interval place)
wrong_one more header intervals place x l whole wrong =
    whole_one more header intervals place x l whole
    ∙ ap (brought more header intervals place (x ∷ l)) (wrong_interval header.version place (x ∷ l) wrong)

one_on : (more : ℕ) (header : IntervalHeader) (intervals : List ℕ) (place x : ℕ) (l : List ℕ)
    → piece_width header.version (x ∷ l) ≤ length (x ∷ l)
    → InRange header.version (x ∷ l)
    → contents_behind (suc more) header intervals place (x ∷ l)
    ≡ contents_behind more header (intervals ++ ticks_in header.version (x ∷ l) ∷ [])
    (place + piece_width header.version (x ∷ l))
    (drop (piece_width header.version (x ∷ l)) (x ∷ l))
one_on more header intervals place x l whole range =
    whole_one more header intervals place x l whole
    ∙ ap (brought more header intervals place (x ∷ l)) (in_range_is header.version place (x ∷ l) range)

-- ---- the number that is counted down does not matter

pub at_end : (n : ℕ) (header : IntervalHeader) (intervals : List ℕ) (place : ℕ)
    → contents_behind n header intervals place [] ≡ file header intervals
at_end zero header intervals place = refl
at_end (suc n) header intervals place = refl

pub enough : (n m : ℕ) (header : IntervalHeader) (intervals : List ℕ) (place : ℕ) (bytes : List ℕ)
    → length bytes ≤ n → length bytes ≤ m
    → contents_behind n header intervals place bytes ≡ contents_behind m header intervals place bytes
enough n m header intervals place [] few also =
    at_end n header intervals place ∙ sym (at_end m header intervals place)
enough zero m header intervals place (x ∷ l) few also = absurd (omega (arith, few))
enough (suc n) zero header intervals place (x ∷ l) few also = absurd (omega (arith, also))
enough (suc n) (suc m) header intervals place (x ∷ l) few also =
    by_width (cases_lt (length bytes) width) (in_range_or_not header.version bytes) (enough n m header)
  where
    bytes : List ℕ
    bytes = x ∷ l

    width : ℕ
    width = piece_width header.version bytes

    by_width : (length bytes < width) ⊎ (width ≤ length bytes) → InRange header.version bytes
        ⊎ (¬ InRange header.version bytes)
        → ((intervals : List ℕ) (place : ℕ) (bytes : List ℕ) → length bytes ≤ n → length bytes ≤ m
        → contents_behind n header intervals place bytes ≡ contents_behind m header intervals place bytes)
        → contents_behind (suc n) header intervals place bytes ≡ contents_behind (suc m) header intervals place bytes
    by_width (inl short) range next =
        cut_short n header intervals place x l short ∙ sym (cut_short m header intervals place x l short)
    by_width (inr whole) (inr wrong) next =
        wrong_one n header intervals place x l whole wrong ∙ sym (wrong_one m header intervals place x l whole wrong)
    by_width (inr whole) (inl range) next =
        let left = length-drop width bytes in
        let two = (widths header.version bytes).0 in
        let longer = intervals ++ ticks_in header.version bytes ∷ [] in
        one_on n header intervals place x l whole range
        ∙ next longer (place + width) (drop width bytes) (omega (arith, few, two, left))
        (omega (arith, also, two, left))
        ∙ sym (one_on m header intervals place x l whole range)

-- ---- each step, of any bytes

-- they end inside an interval
pub cut_behind : (n : ℕ) (header : IntervalHeader) (intervals : List ℕ) (place : ℕ) (bytes : List ℕ) → 0 < length bytes
    → length bytes < piece_width header.version bytes → length bytes ≤ n
    → contents_behind n header intervals place bytes
    ≡ faulty header intervals (fault.Truncated (place + length bytes))
cut_behind n header intervals place [] some short few = absurd (omega (arith, some))
cut_behind zero header intervals place (x ∷ l) some short few = absurd (omega (arith, few))
cut_behind (suc n) header intervals place (x ∷ l) some short few = cut_short n header intervals place x l short

-- the interval is out of range
pub wrong_behind : (n : ℕ) (header : IntervalHeader) (intervals : List ℕ) (place : ℕ) (bytes : List ℕ)
    → piece_width header.version bytes ≤ length bytes → ¬ InRange header.version bytes → length bytes ≤ n
    → contents_behind n header intervals place bytes ≡ faulty header intervals (fault.Interval place)
wrong_behind n header intervals place [] whole wrong few =
    let two = (widths header.version []).0 in absurd (omega (arith, whole, two))
wrong_behind zero header intervals place (x ∷ l) whole wrong few = absurd (omega (arith, few))
wrong_behind (suc n) header intervals place (x ∷ l) whole wrong few =
    wrong_one n header intervals place x l whole wrong

-- it is in range, and what is behind it is read
pub one_behind : (n m : ℕ) (header : IntervalHeader) (intervals : List ℕ) (place : ℕ) (bytes : List ℕ)
    → piece_width header.version bytes ≤ length bytes → InRange header.version bytes → length bytes ≤ n
    → length (drop (piece_width header.version bytes) bytes) ≤ m
    → contents_behind n header intervals place bytes
    ≡ contents_behind m header (intervals ++ ticks_in header.version bytes ∷ [])
    (place + piece_width header.version bytes) (drop (piece_width header.version bytes) bytes)
one_behind n m header intervals place [] whole range few also =
    let two = (widths header.version []).0 in absurd (omega (arith, whole, two))
one_behind zero m header intervals place (x ∷ l) whole range few also = absurd (omega (arith, few))
one_behind (suc n) m header intervals place (x ∷ l) whole range few also =
    let width = piece_width header.version (x ∷ l) in
    let left = length-drop width (x ∷ l) in
    let two = (widths header.version (x ∷ l)).0 in
    one_on n header intervals place x l whole range
    ∙ enough n m header (intervals ++ ticks_in header.version (x ∷ l) ∷ []) (place + width) (drop width (x ∷ l))
    (omega (arith, few, two, left)) also

-- ---- the bytes say it

pub said_behind : (more : ℕ) (front bytes : List ℕ) (header : IntervalHeader) (intervals : List ℕ) (place : ℕ)
    → length front ≡ place
    → IsFile front header intervals → AreBytes bytes → length bytes ≤ more
    → Says (contents_behind more header intervals place bytes) (front ++ bytes)
said_behind zero front [] header intervals place here is are few =
    subst (λ (l : List ℕ). IsFile l header intervals) (sym (append-nil front)) is
said_behind zero front (x ∷ l) header intervals place here is are few = absurd (omega (arith, few))
said_behind (suc more) front [] header intervals place here is are few =
    subst (λ (l : List ℕ). IsFile l header intervals) (sym (append-nil front)) is
said_behind (suc more) front (x ∷ l) header intervals place here is are few =
    by_width (cases_lt (length bytes) width) (in_range_or_not header.version bytes) (said_behind more)
  where
    bytes : List ℕ
    bytes = x ∷ l

    width : ℕ
    width = piece_width header.version bytes

    so : (contents : Contents) → contents_behind (suc more) header intervals place bytes ≡ contents
        → Says contents (front ++ bytes)
        → Says (contents_behind (suc more) header intervals place bytes) (front ++ bytes)
    so contents e says = subst (λ (c : Contents). Says c (front ++ bytes)) (sym e) says

    by_width : (length bytes < width) ⊎ (width ≤ length bytes) → InRange header.version bytes
        ⊎ (¬ InRange header.version bytes)
        → ((front bytes : List ℕ) (header : IntervalHeader) (intervals : List ℕ) (place : ℕ) → length front ≡ place
        → IsFile front header intervals → AreBytes bytes → length bytes ≤ more
        → Says (contents_behind more header intervals place bytes) (front ++ bytes))
        → Says (contents_behind (suc more) header intervals place bytes) (front ++ bytes)
    by_width (inl short) range next =
        so (faulty header intervals (fault.Truncated (place + length bytes)))
        (cut_short more header intervals place x l short) (record {
          front = front;
          rest = bytes;
          are = refl;
          file = is;
          fails = (ap (λ (n : ℕ). n + length bytes) (sym here), omega arith, short);
        })
    by_width (inr whole) (inr wrong) next =
        so (faulty header intervals (fault.Interval place)) (wrong_one more header intervals place x l whole wrong)
        (record { front = front; rest = bytes; are = refl; file = is; fails = (sym here, whole, wrong) })
    by_width (inr whole) (inl range) next =
        let number = ticks_in header.version bytes in
        let left = length-drop width bytes in
        let two = (widths header.version bytes).0 in
        let some = least header.version bytes in
        let low = range.0 in
        let longer = intervals ++ number ∷ [] in
        let one = file_more front (take width bytes) header intervals number is
        (is_spelled header.version bytes whole are range)
        (omega (arith, some, low)) range.1 in
        let taken = length-take-le width bytes whole in
        let now : length (front ++ take width bytes) ≡ place + width =
        length-append front (take width bytes) ∙ omega (arith, here, taken) in
        let rest = next (front ++ take width bytes) (drop width bytes) header longer (place + width) now one
        (bytes_behind width bytes are)
        (omega (arith, few, two, left)) in
        let all = append_assoc front (take width bytes) (drop width bytes)
        ∙ ap (λ (l : List ℕ). front ++ l) (take-append-drop width bytes) in
        so (contents_behind more header longer (place + width) (drop width bytes))
        (one_on more header intervals place x l whole range)
        (subst (Says (contents_behind more header longer (place + width) (drop width bytes))) all rest)
