-- A header is read from its own twelve bytes, whatever follows them, and a fault of its bytes stays.
use Rattle.std.proofs.Common.{◌≡◌, ℕ, zero, suc, ◌+◌, ◌<◌, ◌≤◌, Bool, true, false, List, [], ◌∷◌, ◌++◌, Some, None}
use Rattle.std.proofs.Common.{length, take, drop, slice_index}
use Rattle.std.proofs.Common.{refl, ap, ◌∙◌, arith}
use Rattle.std.specs.Prelude.{◌==◌, nat_le, if◌then◌else◌}
use Rattle.std.specs.declared.option.Option.{Option}
use Rattle.std.proofs.lemmas.Bool.{and_parts, leb-true}
use Rattle.std.proofs.lemmas.List.{length-drop}
use Rattle.byteorder.specs.Endian.{big_number}
use Rattle.tc_address.specs.declared.system.System.{System}
use Rattle.tc_address.specs.declared.system.System.TheVariants.{F24, F25, F30}
use Rattle.tc_address.specs.Count.{rate_of}
use Rattle.file_faults.specs.declared.lines.LineFileFault.{LineFileFault}
use Rattle.file_faults.specs.declared.lines.LineFileFault.TheVariants as fault
use Rattle.vitc_line.specs.Places.{HasLines}
use Rattle.line_file.specs.declared.header.LineHeader.{LineHeader}
use Rattle.line_file.specs.declared.header.TheConstants.{HEAD_LENGTH}
use Rattle.vitc_reader.specs.declared.line_length.TheConstants.{MIN_LINE_LENGTH, MAX_LINE_LENGTH}
use Rattle.line_file.specs.LineFile.{Front, whole, short, bad, is_wrong, head_fault, head_at, header_with, length_at}
use Rattle.line_file.specs.LineFile.{header_at}
use Rattle.line_file.specs.KeptPieces.{is_line_length, behind_head}
use Rattle.line_file.specs.LineHeader.{IsHeader, system_at}
use Rattle.line_file.proofs.OwnBytes.{own_more}

-- ---- the head

byte_whole : (count place byte : ℕ) (more : List ℕ) (u : Unit {0}) (b : Bool)
    → (if b then bad (head_fault place) else head_at count (place + 1) more) ≡ whole u
    → (head_at count (place + 1) more ≡ whole u → count ≤ length more) → suc count ≤ length (byte ∷ more)
byte_whole count place byte more u true e later = absurd cc
byte_whole count place byte more u false e later = let least = later e in omega (arith, least)

pub whole_head : (count place : ℕ) (bytes : List ℕ) (u : Unit {0}) → head_at count place bytes ≡ whole u
    → count ≤ length bytes
whole_head zero place bytes u e = omega arith
whole_head (suc count) place [] u e = absurd cc
whole_head (suc count) place (byte ∷ more) u e = byte_whole count place byte more u (is_wrong place byte) e
    (whole_head count (place + 1) more u)

byte_short : (count place byte : ℕ) (more : List ℕ) (b : Bool)
    → (if b then bad (head_fault place) else head_at count (place + 1) more) ≡ short
    → (head_at count (place + 1) more ≡ short → length more < count) → length (byte ∷ more) < suc count
byte_short count place byte more true e later = absurd cc
byte_short count place byte more false e later = let less = later e in omega (arith, less)

short_head : (count place : ℕ) (bytes : List ℕ) → head_at count place bytes ≡ short → length bytes < count
short_head zero place bytes e = absurd cc
short_head (suc count) place [] e = omega arith
short_head (suc count) place (byte ∷ more) e = byte_short count place byte more (is_wrong place byte) e
    (short_head count (place + 1) more)

byte_stays : (count place byte : ℕ) (rest more : List ℕ) (f : LineFileFault) (b : Bool) → is_wrong place byte ≡ b
    → (if b then bad (head_fault place) else head_at count (place + 1) rest) ≡ bad f
    → (head_at count (place + 1) rest ≡ bad f → head_at count (place + 1) (rest ++ more) ≡ bad f)
    → head_at (suc count) place (byte ∷ (rest ++ more)) ≡ bad f
byte_stays count place byte rest more f true is e later = rw is e
byte_stays count place byte rest more f false is e later = rw is (later e)

head_stays : (count place : ℕ) (bytes more : List ℕ) (f : LineFileFault) → head_at count place bytes ≡ bad f
    → head_at count place (bytes ++ more) ≡ bad f
head_stays zero place bytes more f e = absurd cc
head_stays (suc count) place [] more f e = absurd cc
head_stays (suc count) place (byte ∷ rest) more f e =
    byte_stays count place byte rest more f (is_wrong place byte) refl e (head_stays count (place + 1) rest more f)

-- ---- the line length

pub whole_length : (system : Option System) (bytes : List ℕ) (header : LineHeader)
    → length_at system bytes ≡ whole header → 4 ≤ length bytes
whole_length system (a ∷ b ∷ c ∷ d ∷ more) header e = omega arith
whole_length system [] header e = absurd cc
whole_length system (a ∷ []) header e = absurd cc
whole_length system (a ∷ b ∷ []) header e = absurd cc
whole_length system (a ∷ b ∷ c ∷ []) header e = absurd cc

bad_length : (system : Option System) (bytes : List ℕ) (f : LineFileFault) → length_at system bytes ≡ bad f
    → 4 ≤ length bytes
bad_length system (a ∷ b ∷ c ∷ d ∷ more) f e = omega arith
bad_length system [] f e = absurd cc
bad_length system (a ∷ []) f e = absurd cc
bad_length system (a ∷ b ∷ []) f e = absurd cc
bad_length system (a ∷ b ∷ c ∷ []) f e = absurd cc

never_short : (system : Option System) (n : ℕ) → header_with system n ≡ short → ⊥
never_short None n e = absurd cc
never_short (Some system) n e = by_range (is_line_length n) e
  where
    by_range : (b : Bool) → if◌then◌else◌ {A = Front LineHeader} b (whole (record { system = system; length = n }))
        (bad (fault.LineLength HEAD_LENGTH)) ≡ short → ⊥
    by_range true e = absurd cc
    by_range false e = absurd cc

short_length : (system : Option System) (bytes : List ℕ) → length_at system bytes ≡ short → length bytes < 4
short_length system (a ∷ b ∷ c ∷ d ∷ more) e = absurd (never_short system (big_number 4 (a ∷ b ∷ c ∷ d ∷ more)) e)
short_length system [] e = omega arith
short_length system (a ∷ []) e = omega arith
short_length system (a ∷ b ∷ []) e = omega arith
short_length system (a ∷ b ∷ c ∷ []) e = omega arith

-- ---- a header

-- what the first twelve bytes say
head_twelve : (bytes more : List ℕ) → 12 ≤ length bytes → head_at HEAD_LENGTH 0 (take 12 bytes ++ more) ≡ head_at
    HEAD_LENGTH 0 bytes
head_twelve (a ∷ b ∷ c ∷ d ∷ e ∷ f ∷ g ∷ h ∷ i ∷ j ∷ k ∷ l ∷ rest) more least = refl
head_twelve _ more least = absurd (omega (arith, least))

length_twelve : (bytes more : List ℕ) → 12 ≤ length bytes
    → length_at (system_at (slice_index (take 12 bytes ++ more) 5)) (drop HEAD_LENGTH (take 12 bytes ++ more))
    ≡ length_at (system_at (slice_index bytes 5)) (drop HEAD_LENGTH bytes)
length_twelve (a ∷ b ∷ c ∷ d ∷ e ∷ f ∷ g ∷ h ∷ i ∷ j ∷ k ∷ l ∷ rest) more least = refl
length_twelve _ more least = absurd (omega (arith, least))

behind_twelve : (bytes more : List ℕ) (v : Front (Unit {0})) → 12 ≤ length bytes
    → behind_head v (take 12 bytes ++ more) ≡ behind_head v bytes
behind_twelve bytes more (whole u) least = length_twelve bytes more least
behind_twelve bytes more short least = refl
behind_twelve bytes more (bad f) least = refl

same_twelve : (bytes more : List ℕ) → 12 ≤ length bytes → header_at (take 12 bytes ++ more) ≡ header_at bytes
same_twelve bytes more least =
    ap (λ (v : Front (Unit {0})). behind_head v (take 12 bytes ++ more)) (head_twelve bytes more least)
    ∙ behind_twelve bytes more (head_at HEAD_LENGTH 0 bytes) least

by_head_whole : (bytes : List ℕ) (header : LineHeader) (v : Front (Unit {0})) → head_at HEAD_LENGTH 0 bytes ≡ v
    → behind_head v bytes ≡ whole header
    → 12 ≤ length bytes
by_head_whole bytes header (whole u) is e =
    let first = whole_head HEAD_LENGTH 0 bytes u is in
    let later = whole_length (system_at (slice_index bytes 5)) (drop HEAD_LENGTH bytes) header e in
    let left = length-drop HEAD_LENGTH bytes in
    omega (arith, first, later, left)
by_head_whole bytes header short is e = absurd cc
by_head_whole bytes header (bad f) is e = absurd cc

pub whole_header : (bytes : List ℕ) (header : LineHeader) → header_at bytes ≡ whole header → 12 ≤ length bytes
whole_header bytes header e = by_head_whole bytes header (head_at HEAD_LENGTH 0 bytes) refl e

pub own_header : (bytes more : List ℕ) (header : LineHeader) → header_at bytes ≡ whole header
    → header_at (take 12 bytes ++ more) ≡ whole header
own_header bytes more header e = same_twelve bytes more (whole_header bytes header e) ∙ e

pub header_more : (bytes more : List ℕ) (header : LineHeader) → header_at bytes ≡ whole header
    → header_at (bytes ++ more) ≡ whole header
header_more bytes more header e = ap header_at (own_more bytes more 12)
    ∙ own_header bytes (drop 12 bytes ++ more) header e

by_head_bad : (bytes more : List ℕ) (f : LineFileFault) (v : Front (Unit {0})) → head_at HEAD_LENGTH 0 bytes ≡ v
    → behind_head v bytes ≡ bad f
    → header_at bytes ≡ bad f → header_at (bytes ++ more) ≡ bad f
by_head_bad bytes more f (whole u) is e all =
    let first = whole_head HEAD_LENGTH 0 bytes u is in
    let later = bad_length (system_at (slice_index bytes 5)) (drop HEAD_LENGTH bytes) f e in
    let left = length-drop HEAD_LENGTH bytes in
    ap header_at (own_more bytes more 12)
    ∙ same_twelve bytes (drop 12 bytes ++ more) (omega (arith, first, later, left)) ∙ all
by_head_bad bytes more f short is e all = absurd cc
by_head_bad bytes more f (bad g) is e all = ap (λ (v : Front (Unit {0})). behind_head v (bytes ++ more))
    (head_stays HEAD_LENGTH 0 bytes more g is) ∙ e

pub header_stays : (bytes more : List ℕ) (f : LineFileFault) → header_at bytes ≡ bad f
    → header_at (bytes ++ more) ≡ bad f
header_stays bytes more f e = by_head_bad bytes more f (head_at HEAD_LENGTH 0 bytes) refl e e

by_head_short : (bytes : List ℕ) (v : Front (Unit {0})) → head_at HEAD_LENGTH 0 bytes ≡ v → behind_head v bytes ≡ short
    → length bytes < 12
by_head_short bytes (whole u) is e =
    let later = short_length (system_at (slice_index bytes 5)) (drop HEAD_LENGTH bytes) e in
    let left = length-drop HEAD_LENGTH bytes in
    omega (arith, later, left)
by_head_short bytes short is e = let less = short_head HEAD_LENGTH 0 bytes is in omega (arith, less)
by_head_short bytes (bad f) is e = absurd cc

pub short_header : (bytes : List ℕ) → header_at bytes ≡ short → length bytes < 12
short_header bytes e = by_head_short bytes (head_at HEAD_LENGTH 0 bytes) refl e

-- ---- its values

system_has_lines : (byte : ℕ) (system : System) → system_at byte ≡ Some system → HasLines system
system_has_lines byte F24 e = by_byte (byte == rate_of F25) (byte == rate_of F30) e
  where
    by_byte : (b c : Bool) → (if b then Some F25 else if c then Some F30 else None) ≡ Some F24 → ⊥
    by_byte true c e = absurd cc
    by_byte false true e = absurd cc
    by_byte false false e = absurd cc
system_has_lines byte F25 e = tt
system_has_lines byte F30 e = tt

abbrev header_of : LineHeader → Front LineHeader → LineHeader
header_of other (whole header) = header
header_of other short = other
header_of other (bad f) = other

in_range : (byte n : ℕ) (o : Option System) (header : LineHeader) → system_at byte ≡ o → header_with o n ≡ whole header
    → IsHeader header
in_range byte n None header is e = absurd cc
in_range byte n (Some system) header is e = by_length (is_line_length n) refl e
  where
    by_length : (b : Bool) → is_line_length n ≡ b
        → if◌then◌else◌ {A = Front LineHeader} b (whole (record { system = system; length = n }))
        (bad (fault.LineLength HEAD_LENGTH)) ≡ whole header → IsHeader header
    by_length true within e =
        let parts = and_parts (nat_le MIN_LINE_LENGTH n) (nat_le n MAX_LINE_LENGTH) within in
        let least = leb-true MIN_LINE_LENGTH n parts.0 in
        let most = leb-true n MAX_LINE_LENGTH parts.1 in
        let same : record { system = system; length = n } ≡ header = ap (header_of header) e in
        rw (← same) (system_has_lines byte system is, (omega (arith, least), omega (arith, most)))
    by_length false within e = absurd cc

length_valid : (byte : ℕ) (bytes : List ℕ) (header : LineHeader) → length_at (system_at byte) bytes ≡ whole header
    → IsHeader header
length_valid byte (a ∷ b ∷ c ∷ d ∷ more) header e = in_range byte (big_number 4 (a ∷ b ∷ c ∷ d ∷ more)) (system_at byte)
    header refl e
length_valid byte [] header e = absurd cc
length_valid byte (a ∷ []) header e = absurd cc
length_valid byte (a ∷ b ∷ []) header e = absurd cc
length_valid byte (a ∷ b ∷ c ∷ []) header e = absurd cc

by_head_valid : (bytes : List ℕ) (header : LineHeader) (v : Front (Unit {0})) → behind_head v bytes ≡ whole header
    → IsHeader header
by_head_valid bytes header (whole u) e = length_valid (slice_index bytes 5) (drop HEAD_LENGTH bytes) header e
by_head_valid bytes header short e = absurd cc
by_head_valid bytes header (bad f) e = absurd cc

-- a header that was read is that of lines
pub header_valid : (bytes : List ℕ) (header : LineHeader) → header_at bytes ≡ whole header → IsHeader header
header_valid bytes header e = by_head_valid bytes header (head_at HEAD_LENGTH 0 bytes) e
