-- What is read from the front of bytes: the fault of their first eight or of the tick rate, or a header, and what
-- comes behind it. And the bytes of an interval in range are those that a recorder writes for it.
use Rattle.std.proofs.Common.{◌≡◌, ◌⊎◌, inl, inr, ℕ, ◌+◌, ◌/◌, ◌%◌, ◌<◌, ◌≤◌, List, [], ◌∷◌, ◌++◌, length}
use Rattle.std.proofs.Common.{take, drop, slice_index, Some, None, refl}
use Rattle.std.proofs.Common.{sym, ◌∙◌, ap, ap₂, subst, arith, Bool, true, false}
use Rattle.std.specs.Prelude.{◌==◌, ◌&&◌, is_some, nat_le}
use Rattle.std.specs.declared.option.Option.{Option}
use Rattle.std.specs.Option.{is_none}
use Rattle.std.proofs.lemmas.Bool.{cases_eq, cases_lt, eqb-true, false≢true, le-leb, le-ltb, lt-leb, lt-ltb}
use Rattle.std.proofs.lemmas.Bool.{ne_eqb}
use Rattle.std.proofs.lemmas.List.{drop-drop, get_or-take, length-drop, length-take-le, take-append-drop}
use Rattle.tc_io.specs.ByteLemmas.{bytes_behind}
use Rattle.byteorder.specs.Endian.{big_bytes, big_number}
use Rattle.tc_address.specs.declared.system.System.{System}
use Rattle.tc_address.specs.declared.system.System.TheVariants.{F24, F25, F30}
use Rattle.tc_address.specs.Count.{rate_of}
use Rattle.interval_file.specs.declared.fault.IntervalFileFault.{IntervalFileFault}
use Rattle.interval_file.specs.declared.fault.IntervalFileFault.TheVariants as fault
use Rattle.interval_file.specs.declared.header.FileVersion.{FileVersion}
use Rattle.interval_file.specs.declared.header.FileVersion.TheVariants.{One, Two}
use Rattle.interval_file.specs.declared.header.IntervalHeader.{IntervalHeader}
use Rattle.interval_file.specs.declared.header.TheConstants.{MAGIC}
use Rattle.limits.specs.declared.recording.TheConstants.{MAX_TICK_RATE}
use Rattle.interval_file.specs.Contents.{contents_behind, contents_of, first_wrong, header_of, header_with}
use Rattle.tc_io.specs.Bytes.{AreBytes}
use Rattle.interval_file.specs.Grammar.{Contents, IsHeaderFault, MayStand}
use Rattle.interval_file.specs.Grammar.{fault_unless, no_header}
use Rattle.interval_file.specs.IntervalHeader.{IsTickRate, header_bytes, system_at, version_at, version_byte}
use Rattle.interval_file.proofs.FirstEight.{HeadOrFault, head_or_fault}

-- ---- the header

-- four bytes, and two, are the bytes of their number
pub four_bytes : (a b c e : ℕ) → a < 256 → b < 256 → c < 256 → e < 256
    → big_bytes 4 (big_number 4 (a ∷ b ∷ c ∷ e ∷ [])) ≡ a ∷ b ∷ c ∷ e ∷ []
four_bytes a b c e la lb lc le =
    let n = big_number 4 (a ∷ b ∷ c ∷ e ∷ []) in
    let first : n / 16777216 % 256 ≡ a = omega arith in
    let second : n / 65536 % 256 ≡ b = omega arith in
    let third : n / 256 % 256 ≡ c = omega arith in
    let fourth : n % 256 ≡ e = omega arith in
    rw (first, second, third, fourth) refl

pub two_bytes : (a b : ℕ) → a < 256 → b < 256 → big_bytes 2 (big_number 2 (a ∷ b ∷ [])) ≡ a ∷ b ∷ []
two_bytes a b la lb =
    let n = big_number 2 (a ∷ b ∷ []) in
    let first : n / 256 % 256 ≡ a = omega arith in
    let second : n % 256 ≡ b = omega arith in
    rw (first, second) refl

version_says : (byte : ℕ) → is_some (version_at byte) ≡ true → (version : FileVersion) × (byte ≡ version_byte version)
version_says byte says = by_row (cases_eq byte 1) (cases_eq byte 2)
  where
    by_row : (byte ≡ 1) ⊎ (byte ≡ 1 → ⊥) → (byte ≡ 2) ⊎ (byte ≡ 2 → ⊥)
        → (version : FileVersion) × (byte ≡ version_byte version)
    by_row (inl one) two = (One, one)
    by_row (inr not_one) (inl two) = (Two, two)
    by_row (inr not_one) (inr not_two) =
        let none : is_some (version_at byte) ≡ false = rw (ne_eqb byte 1 not_one, ne_eqb byte 2 not_two) refl in
        absurd (false≢true (sym none ∙ says))

system_says : (byte : ℕ) → is_some (system_at byte) ≡ true → (system : System) × (byte ≡ rate_of system)
system_says byte says = by_row (cases_eq byte 24) (cases_eq byte 25) (cases_eq byte 30)
  where
    by_row : (byte ≡ 24) ⊎ (byte ≡ 24 → ⊥) → (byte ≡ 25) ⊎ (byte ≡ 25 → ⊥) → (byte ≡ 30) ⊎ (byte ≡ 30 → ⊥)
        → (system : System) × (byte ≡ rate_of system)
    by_row (inl film) tv video = (F24, film)
    by_row (inr not_film) (inl tv) video = (F25, tv)
    by_row (inr not_film) (inr not_tv) (inl video) = (F30, video)
    by_row (inr not_film) (inr not_tv) (inr not_video) =
        let none : is_some (system_at byte) ≡ false = rw
        (ne_eqb byte 24 not_film, ne_eqb byte 25 not_tv, ne_eqb byte 30 not_video) refl in
        absurd (false≢true (sym none ∙ says))

-- eight bytes that may come
abbrev pub head_of : FileVersion → System → List ℕ
head_of version system = MAGIC ++ version_byte version ∷ rate_of system ∷ 0 ∷ 0 ∷ []

held : (holds : Bool) (first : IntervalFileFault) → is_none (fault_unless holds first) ≡ true → holds ≡ true
held true first e = refl
held false first e = absurd cc

pub head_is : (l : List ℕ) → length l ≡ 8 → MayStand 0 l → (version : FileVersion) × (system : System)
    × (l ≡ head_of version system)
head_is [] long may = absurd (omega (arith, long))
head_is (a ∷ []) long may = absurd (omega (arith, long))
head_is (a ∷ b ∷ []) long may = absurd (omega (arith, long))
head_is (a ∷ b ∷ c ∷ []) long may = absurd (omega (arith, long))
head_is (a ∷ b ∷ c ∷ e ∷ []) long may = absurd (omega (arith, long))
head_is (a ∷ b ∷ c ∷ e ∷ v ∷ []) long may = absurd (omega (arith, long))
head_is (a ∷ b ∷ c ∷ e ∷ v ∷ s ∷ []) long may = absurd (omega (arith, long))
head_is (a ∷ b ∷ c ∷ e ∷ v ∷ s ∷ y ∷ []) long may = absurd (omega (arith, long))
head_is (a ∷ b ∷ c ∷ e ∷ v ∷ s ∷ y ∷ z ∷ w ∷ more) long may = absurd (omega (arith, long))
head_is (a ∷ b ∷ c ∷ e ∷ v ∷ s ∷ y ∷ z ∷ []) long may =
    let version = version_says v (held (is_some (version_at v)) (fault.Version 4) may.1.1.1.1.0) in
    let system = system_says s (held (is_some (system_at s)) (fault.System 5) may.1.1.1.1.1.0) in
    let l : a ≡ 0x4c = eqb-true a 0x4c (held (a == 0x4c) (fault.Magic 0) may.0) in
    let t : b ≡ 0x54 = eqb-true b 0x54 (held (b == 0x54) (fault.Magic 1) may.1.0) in
    let k : c ≡ 0x43 = eqb-true c 0x43 (held (c == 0x43) (fault.Magic 2) may.1.1.0) in
    let i : e ≡ 0x49 = eqb-true e 0x49 (held (e == 0x49) (fault.Magic 3) may.1.1.1.0) in
    let first : y ≡ 0 = eqb-true y 0 (held (y == 0) (fault.Reserved 6) may.1.1.1.1.1.1.0) in
    let second : z ≡ 0 = eqb-true z 0 (held (z == 0) (fault.Reserved 7) may.1.1.1.1.1.1.1.0) in
    let same_version = version.1 in
    let same_system = system.1 in
    (version.0, system.0, (cc))

-- the tick rate is four bytes
rate_is : (rest : List ℕ) → 4 ≤ length rest → AreBytes rest → rest ≡ big_bytes 4 (big_number 4 rest) ++ drop 4 rest
rate_is [] long are = absurd (omega (arith, long))
rate_is (a ∷ []) long are = absurd (omega (arith, long))
rate_is (a ∷ b ∷ []) long are = absurd (omega (arith, long))
rate_is (a ∷ b ∷ c ∷ []) long are = absurd (omega (arith, long))
rate_is (a ∷ b ∷ c ∷ e ∷ more) long are =
    ap (λ (l : List ℕ). l ++ more) (sym (four_bytes a b c e are.0 are.1.0 are.1.1.0 are.1.1.1.0))

version_back : (version : FileVersion) → version_at (version_byte version) ≡ Some version
version_back One = refl
version_back Two = refl

system_back : (system : System) → system_at (rate_of system) ≡ Some system
system_back F24 = refl
system_back F25 = refl
system_back F30 = refl

-- bytes that begin with a header
pub record Begins (header : IntervalHeader) (bytes : List ℕ) : Type 0 where
  pub long : 12 ≤ length bytes
  pub head : take 8 bytes ≡ head_of header.version header.system
  pub rate : big_number 4 (drop 8 bytes) ≡ header.tick_rate
  pub range : IsTickRate header.tick_rate

pub header_is : (bytes : List ℕ) (header : IntervalHeader) → AreBytes bytes → Begins header bytes
    → bytes ≡ header_bytes header ++ drop 12 bytes
header_is bytes header are begins =
    let long = begins.long in
    let behind = length-drop 8 bytes in
    let rate = rate_is (drop 8 bytes) (omega (arith, long, behind)) (bytes_behind 8 bytes are)
    ∙ ap (λ (n : ℕ). big_bytes 4 n ++ drop 4 (drop 8 bytes)) begins.rate in
    let four = drop-drop 4 8 bytes in
    sym (take-append-drop 8 bytes)
    ∙ ap₂ (λ (l r : List ℕ). l ++ r) begins.head (rate ∙ ap (λ (l : List ℕ). big_bytes 4 header.tick_rate ++ l) four)

-- the header that is read from them
pub header_read : (bytes : List ℕ) (version : FileVersion) (system : System) → take 8 bytes ≡ head_of version system
    → header_of bytes ≡ header_with (Some version) (Some system) (big_number 4 (drop 8 bytes))
header_read bytes version system head =
    let fifth : version_at (slice_index bytes 4) ≡ Some version =
    ap version_at (sym (get_or-take 8 bytes 4 0 (omega arith)) ∙ ap (λ (l : List ℕ). slice_index l 4) head)
    ∙ version_back version in
    let sixth : system_at (slice_index bytes 5) ≡ Some system =
    ap system_at (sym (get_or-take 8 bytes 5 0 (omega arith)) ∙ ap (λ (l : List ℕ). slice_index l 5) head)
    ∙ system_back system in
    ap₂ (λ (v : Option FileVersion) (s : Option System). header_with v s (big_number 4 (drop 8 bytes))) fifth sixth

-- ---- what is read from the front

pub out_of_range : (rate : ℕ) → (nat_le 1 rate && nat_le rate MAX_TICK_RATE) ≡ false → ¬ IsTickRate rate
out_of_range rate wrong range =
    let both : (nat_le 1 rate && nat_le rate MAX_TICK_RATE) ≡ true =
    rw (le-leb 1 rate range.0, le-leb rate MAX_TICK_RATE range.1) refl in
    false≢true (sym wrong ∙ both)

pub rate_or_not : (rate : ℕ) → IsTickRate rate ⊎ ((nat_le 1 rate && nat_le rate MAX_TICK_RATE) ≡ false)
rate_or_not rate = by_order (cases_lt rate 1) (cases_lt MAX_TICK_RATE rate)
  where
    by_order : (rate < 1) ⊎ (1 ≤ rate) → (MAX_TICK_RATE < rate) ⊎ (rate ≤ MAX_TICK_RATE)
        → IsTickRate rate ⊎ ((nat_le 1 rate && nat_le rate MAX_TICK_RATE) ≡ false)
    by_order (inl low) high = inr (rw (lt-leb 1 rate low) refl)
    by_order (inr low) (inl high) = inr (rw (le-leb 1 rate low, lt-leb rate MAX_TICK_RATE high) refl)
    by_order (inr low) (inr high) = inl (low, high)

-- a fault and no header, or a header and what comes behind it
abbrev pub IsReadAs : List ℕ → Type 0
IsReadAs bytes = ((first : IntervalFileFault) × (contents_of bytes ≡ no_header first) × IsHeaderFault first bytes)
    ⊎ ((header : IntervalHeader) × (contents_of bytes ≡ contents_behind (length bytes) header [] 12 (drop 12 bytes))
    × Begins header bytes)

pub read_front : (bytes : List ℕ) → IsReadAs bytes
read_front bytes = by_head (head_or_fault bytes) (cases_lt (length bytes) 12)
  where
    rate : ℕ
    rate = big_number 4 (drop 8 bytes)

    with_header : Option IntervalHeader → Contents
    with_header header = elim header [
      | None ↦ no_header (fault.TickRate 8)
      | Some header ↦ contents_behind (length bytes) header [] 12 (drop 12 bytes)
    ]

    by_rate : MayStand 0 (take 8 bytes) → 12 ≤ length bytes
        → (version : FileVersion) × (system : System) × (take 8 bytes ≡ head_of version system)
        → contents_of bytes ≡ with_header (header_of bytes)
        → IsTickRate rate ⊎ ((nat_le 1 rate && nat_le rate MAX_TICK_RATE) ≡ false) → IsReadAs bytes
    by_rate may long head read (inr wrong) =
        let none : header_with (Some head.0) (Some head.1) rate ≡ None = rw wrong refl in
        inl (
          fault.TickRate 8,
          read ∙ ap with_header (header_read bytes head.0 head.1 head.2 ∙ none),
          (refl, record { whole = long; wrong = out_of_range rate wrong; before = may }),
        )
    by_rate may long head read (inl range) =
        let header : IntervalHeader = record { version = head.0; system = head.1; tick_rate = rate } in
        let some : header_with (Some head.0) (Some head.1) rate ≡ Some header =
        rw (le-leb 1 rate range.0, le-leb rate MAX_TICK_RATE range.1) refl in
        inr (
          header,
          read ∙ ap with_header (header_read bytes head.0 head.1 head.2 ∙ some),
          record { long = long; head = head.2; rate = refl; range = range },
        )

    by_head : HeadOrFault bytes → (length bytes < 12) ⊎ (12 ≤ length bytes) → IsReadAs bytes
    by_head (inr found) long = inl (found.0, rw found.2 refl, found.1)
    by_head (inl may) (inl short) =
        inl (
          fault.Truncated (length bytes),
          rw (may.1, lt-ltb (length bytes) 12 short) refl,
          (refl, record { short = short; before = may.0 }),
        )
    by_head (inl may) (inr long) =
        by_rate may.0 long (head_is (take 8 bytes) (length-take-le 8 bytes (omega (arith, long))) may.0)
        (rw (may.1, le-ltb (length bytes) 12 long) refl) (rate_or_not rate)

-- the bytes begin with a header that is read from them
pub header_begun : (bytes : List ℕ) (header : IntervalHeader) → 12 ≤ length bytes
    → first_wrong 0 (take 8 bytes) ≡ None → header_of bytes ≡ Some header → Begins header bytes
header_begun bytes header long may is = by_head (head_or_fault bytes)
  where
    rate : ℕ
    rate = big_number 4 (drop 8 bytes)

    by_rate : (version : FileVersion) (system : System) → take 8 bytes ≡ head_of version system
        → IsTickRate rate ⊎ ((nat_le 1 rate && nat_le rate MAX_TICK_RATE) ≡ false) → Begins header bytes
    by_rate version system head (inr wrong) =
        let none : header_with (Some version) (Some system) rate ≡ None = rw wrong refl in
        let read = header_read bytes version system head in
        absurd (cc)
    by_rate version system head (inl range) =
        let header_read_is : header_with (Some version) (Some system) rate
        ≡ Some (record { version = version; system = system; tick_rate = rate }) =
        rw (le-leb 1 rate range.0, le-leb rate MAX_TICK_RATE range.1) refl in
        let read = header_read bytes version system head in
        let same : (record { version = version; system = system; tick_rate = rate }) ≡ header = (cc) in
        subst (λ (h : IntervalHeader). Begins h bytes) same
        record { long = long; head = head; rate = refl; range = range }

    by_head : HeadOrFault bytes → Begins header bytes
    by_head (inr found) = let wrong = found.2 in absurd (cc)
    by_head (inl stands) =
        let head = head_is (take 8 bytes) (length-take-le 8 bytes (omega (arith, long))) stands.0 in
        by_rate head.0 head.1 head.2 (rate_or_not rate)
