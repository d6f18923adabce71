-- Bytes with a fault of the header are read as that fault, and it stays whatever comes; a header is read as itself.
use Rattle.std.proofs.Common.{◌≡◌, ℕ, zero, suc, ◌+◌, ◌<◌, ◌≤◌, List, [], ◌∷◌, length, take, drop}
use Rattle.std.proofs.Common.{get_or, slice_index, Some, None, refl, sym, ◌∙◌, ap, subst, arith, true, false}
use Rattle.std.specs.Prelude.{◌&&◌, nat_le, if◌then◌else◌}
use Rattle.std.specs.declared.option.Option.{Option}
use Rattle.std.specs.Option.{option_or}
use Rattle.std.proofs.lemmas.Bool.{and_parts, false_from_ne_true, le-leb, le-ltb, leb-true, lt-ltb, ne_eqb}
use Rattle.std.proofs.lemmas.List.{drop_more, get_or-take, length-take, length-take-le, take-take}
use Rattle.byteorder.specs.Endian.{big_number}
use Rattle.limits.specs.declared.recording.TheConstants.{MAX_TICK_RATE}
use Rattle.tc_address.specs.declared.system.System.{System}
use Rattle.tc_address.specs.declared.system.System.TheVariants.{F24, F25, F30}
use Rattle.interval_file.specs.declared.fault.IntervalFileFault.{IntervalFileFault}
use Rattle.interval_file.specs.declared.fault.IntervalFileFault.TheVariants as fault
use Rattle.interval_file.specs.declared.header.FileVersion.{FileVersion}
use Rattle.interval_file.specs.declared.header.FileVersion.TheVariants.{One, Two}
use Rattle.interval_file.specs.declared.header.IntervalHeader.{IntervalHeader}
use Rattle.interval_file.specs.Contents.{contents_behind, contents_of, first_wrong, header_of, header_with}
use Rattle.interval_file.specs.Grammar.{IsFirstWrong, fault_at, IsHeaderFault, MayStand, may_stand, no_header}
use Rattle.interval_file.specs.IntervalHeader.{IsTickRate}
use Rattle.interval_file.proofs.FrontOfBytes.{Begins, head_is, head_of, header_read}
use Rattle.interval_file.proofs.PlaceFault.{fault_is, place_fault}

-- ---- the first eight bytes

-- a byte, and those behind it
first_wrong_is : (place byte : ℕ) (more : List ℕ) → first_wrong place (byte ∷ more)
    ≡ (if may_stand place byte then first_wrong (place + 1) more else Some (place_fault place))
first_wrong_is place byte more =
    ap (λ (o : Option IntervalFileFault). option_or o (first_wrong (place + 1) more)) (fault_is place byte)
    ∙ by_test (may_stand place byte)
  where
    by_test : (may : _) → option_or (if may then None else Some (place_fault place)) (first_wrong (place + 1) more)
        ≡ (if may then first_wrong (place + 1) more else Some (place_fault place))
    by_test true = refl
    by_test false = refl

-- where it may stand, the fault is one of those behind it
pub next_stands : (list : List ℕ) (place : ℕ) → place < length list
    → fault_at place (get_or list place 0) ≡ None
    → first_wrong place (drop place list) ≡ first_wrong (place + 1) (drop (place + 1) list)
next_stands list place there may =
    ap (first_wrong place) (drop_more list place 0 there)
    ∙ ap (λ (o : Option IntervalFileFault). option_or o (first_wrong (place + 1) (drop (place + 1) list))) may

all_stand : (list : List ℕ) (place : ℕ) → MayStand place list → first_wrong place list ≡ None
all_stand [] place may = refl
all_stand (byte ∷ more) place may =
    first_wrong_is place byte more ∙ rw may.0 (all_stand more (place + 1) may.1)

one_is_wrong : (list : List ℕ) (place k : ℕ) → k < length list → may_stand (place + k) (slice_index list k) ≡ false
    → MayStand place (take k list) → first_wrong place list ≡ Some (place_fault (place + k))
one_is_wrong [] place k there wrong before = absurd (omega (arith, there))
one_is_wrong (byte ∷ more) place zero there wrong before =
    let here : place + 0 ≡ place = omega arith in
    let not_here = subst (λ (n : ℕ). may_stand n byte ≡ false) here wrong in
    first_wrong_is place byte more ∙ rw not_here refl ∙ ap (λ (n : ℕ). Some (place_fault n)) (sym here)
one_is_wrong (byte ∷ more) place (suc k) there wrong before =
    let next : place + suc k ≡ place + 1 + k = omega arith in
    let behind = subst (λ (n : ℕ). may_stand n (slice_index more k) ≡ false) next wrong in
    first_wrong_is place byte more
    ∙ rw before.0 (one_is_wrong more (place + 1) k (omega (arith, there)) behind before.1)
    ∙ ap (λ (n : ℕ). Some (place_fault n)) (sym next)

wrong_read : (bytes : List ℕ) (place : ℕ) → place < 8 → IsFirstWrong place bytes
    → contents_of bytes ≡ no_header (place_fault place)
wrong_read bytes place low is =
    let there = is.there in
    let long = length-take 8 bytes in
    let byte = get_or-take 8 bytes place 0 low in
    let here : 0 + place ≡ place = omega arith in
    let wrong : may_stand (0 + place) (slice_index (take 8 bytes) place) ≡ false =
    rw (here, byte) is.wrong in
    let before = subst (λ (l : List ℕ). MayStand 0 l) (sym (take-take place 8 bytes (omega (arith, low)))) is.before in
    let first = one_is_wrong (take 8 bytes) 0 place (omega (arith, low, there, long)) wrong before in
    rw (first, here) refl

-- ---- any fault of the header

rate_read : (bytes : List ℕ) → 12 ≤ length bytes → ¬ IsTickRate (big_number 4 (drop 8 bytes))
    → MayStand 0 (take 8 bytes) → contents_of bytes ≡ no_header (fault.TickRate 8)
rate_read bytes long wrong may =
    let rate = big_number 4 (drop 8 bytes) in
    let head = head_is (take 8 bytes) (length-take-le 8 bytes (omega (arith, long))) may in
    let not_both : (nat_le 1 rate && nat_le rate MAX_TICK_RATE) ≡ false =
    false_from_ne_true _ (λ both.
    let parts = and_parts (nat_le 1 rate) (nat_le rate MAX_TICK_RATE) both in
    wrong (leb-true 1 rate parts.0, leb-true rate MAX_TICK_RATE parts.1)) in
    let none : header_with (Some head.0) (Some head.1) rate ≡ None = rw not_both refl in
    rw (
      all_stand (take 8 bytes) 0 may,
      le-ltb (length bytes) 12 long,
      header_read bytes head.0 head.1 head.2 ∙ none,
    ) refl

pub header_fault_read : (bytes : List ℕ) (first : IntervalFileFault) → IsHeaderFault first bytes
    → contents_of bytes ≡ no_header first
header_fault_read bytes (fault.Magic place) is =
    wrong_read bytes place (let low = is.0 in omega (arith, low)) is.1
    ∙ ap (λ (f : IntervalFileFault). no_header f) (rw (lt-ltb place 4 is.0) refl)
header_fault_read bytes (fault.Version place) is =
    wrong_read bytes place (let at = is.0 in omega (arith, at)) is.1
    ∙ ap (λ (f : IntervalFileFault). no_header f) (rw is.0 refl)
header_fault_read bytes (fault.System place) is =
    wrong_read bytes place (let at = is.0 in omega (arith, at)) is.1
    ∙ ap (λ (f : IntervalFileFault). no_header f) (rw is.0 refl)
header_fault_read bytes (fault.Reserved place) is =
    let late = is.0 in
    wrong_read bytes place is.1 is.2
    ∙ ap (λ (f : IntervalFileFault). no_header f) (rw (
      le-ltb place 4 (omega (arith, late)),
      ne_eqb place 4 (λ e. omega (arith, late, e)),
      ne_eqb place 5 (λ e. omega (arith, late, e)),
    ) refl)
header_fault_read bytes (fault.TickRate place) is =
    rate_read bytes is.1.whole is.1.wrong is.1.before
    ∙ ap (λ (n : ℕ). no_header (fault.TickRate n)) (sym is.0)
header_fault_read bytes (fault.Interval place) is = absurd is
header_fault_read bytes (fault.Truncated place) is =
    rw (all_stand (take 8 bytes) 0 is.1.before, lt-ltb (length bytes) 12 is.1.short) refl
    ∙ ap (λ (n : ℕ). no_header (fault.Truncated n)) (sym is.0)

-- ---- a header

head_stands : (version : FileVersion) (system : System) → first_wrong 0 (head_of version system) ≡ None
head_stands One F24 = refl
head_stands One F25 = refl
head_stands One F30 = refl
head_stands Two F24 = refl
head_stands Two F25 = refl
head_stands Two F30 = refl

pub begins_read : (bytes : List ℕ) (header : IntervalHeader) → Begins header bytes
    → contents_of bytes ≡ contents_behind (length bytes) header [] 12 (drop 12 bytes)
begins_read bytes header is =
    let rate = big_number 4 (drop 8 bytes) in
    let low : 1 ≤ rate = rw is.rate is.range.0 in
    let high : rate ≤ MAX_TICK_RATE = rw is.rate is.range.1 in
    let some : header_of bytes ≡ Some header =
    header_read bytes header.version header.system is.head
    ∙ rw (le-leb 1 rate low, le-leb rate MAX_TICK_RATE high) (ap (λ (n : ℕ). Some (record header { tick_rate = n }))
    is.rate) in
    rw (
      ap (λ (l : List ℕ). first_wrong 0 l) is.head ∙ head_stands header.version header.system,
      le-ltb (length bytes) 12 is.long,
      some,
    ) refl
