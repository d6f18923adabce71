-- Bytes that are read whole are the file of their header and their fields: each piece that was read is spelled so, and
-- the rest comes behind it.
use Rattle.std.proofs.Common.{◌≡◌, ◌⊎◌, inl, inr, ℕ, zero, suc, ◌+◌, ◌*◌, ◌/◌, ◌%◌, ◌<◌, ◌≤◌, Bool, true, false, List}
use Rattle.std.proofs.Common.{[]}
use Rattle.std.proofs.Common.{◌∷◌, ◌++◌, Some, None, length, drop, refl, sym, ap, ap₂, subst, ◌∙◌, arith, append_assoc}
use Rattle.std.specs.Prelude.{◌==◌, not, nat_le, if◌then◌else◌}
use Rattle.std.specs.List.{flat_map}
use Rattle.std.specs.declared.option.Option.{Option}
use Rattle.std.proofs.lemmas.Bool.{and_parts, cases_eq, eq-eqb, eqb-true, false≢true, leb-true, not-false, ne_eqb}
use Rattle.std.proofs.lemmas.Bool.{true≢false}
use Rattle.std.proofs.lemmas.List.{drop-drop}
use Rattle.tc_io.specs.ByteLemmas.{bytes_behind}
use Rattle.byteorder.specs.Endian.{big_bytes, big_number}
use Rattle.tc_address.specs.declared.system.System.{System}
use Rattle.tc_address.specs.declared.system.System.TheVariants.{F25, F30}
use Rattle.tc_address.specs.Count.{rate_of}
use Rattle.file_faults.specs.declared.lines.LineFileFault.{LineFileFault}
use Rattle.file_faults.specs.declared.lines.LineFileFault.TheVariants as fault
use Rattle.tc_io.specs.Bytes.{AreBytes}
use Rattle.tc_io.specs.Verdict.{good}
use Rattle.vitc_reader.specs.Runs.{MayBeLine}
use Rattle.line_file.specs.declared.decoder.TheConstants.{MAX_FIELDS}
use Rattle.line_file.specs.declared.field.TheConstants.{MAX_LINES, MAX_RUNS}
use Rattle.line_file.specs.declared.header.LineHeader.{LineHeader}
use Rattle.line_file.specs.declared.header.TheConstants.{HEADER_LENGTH, HEAD_LENGTH}
use Rattle.line_file.specs.Grammar.{AreFields, AreLines, AreRuns, field_bytes, file_of, line_bytes}
use Rattle.line_file.specs.LineFile.{Fields, Front, bad, behind_header, end_fault_of, field_at, field_then}
use Rattle.line_file.specs.KeptPieces.{behind_head}
use Rattle.line_file.specs.LineFile.{fields_at, head_at, head_fault, header_at, header_with}
use Rattle.line_file.specs.KeptPieces.{field_width}
use Rattle.line_file.specs.KeptPieces.{is_line_length}
use Rattle.line_file.specs.LineFile.{is_wrong, line_at, line_width, lines_at}
use Rattle.line_file.specs.KeptPieces.{is_run_count, line_then}
use Rattle.line_file.specs.LineFile.{lines_width, reading_of, runs_at, short, whole}
use Rattle.line_file.specs.KeptPieces.{with_first}
use Rattle.line_file.specs.LineHeader.{IsHeader, header_bytes, system_at}
use Rattle.line_file.proofs.HeaderBytes.{header_valid, whole_header}
use Rattle.line_file.proofs.OwnBytes.{first_whole, items, two_more}

-- ---- bytes

two_bytes : (a b : ℕ) (more : List ℕ) → a < 256 → b < 256 → big_bytes 2 (big_number 2 (a ∷ b ∷ more)) ≡ a ∷ b ∷ []
two_bytes a b more la lb =
    let n = big_number 2 (a ∷ b ∷ more) in
    let first : n / 256 % 256 ≡ a = omega arith in
    let second : n % 256 ≡ b = omega arith in
    rw (first, second) refl

four_bytes : (a b c e : ℕ) (more : List ℕ) → a < 256 → b < 256 → c < 256 → e < 256
    → big_bytes 4 (big_number 4 (a ∷ b ∷ c ∷ e ∷ more)) ≡ a ∷ b ∷ c ∷ e ∷ []
four_bytes a b c e more la lb lc le =
    let n = big_number 4 (a ∷ b ∷ c ∷ e ∷ more) in
    let first : n / 16777216 % 256 ≡ a = omega arith in
    let second : n / 65536 % 256 ≡ b = omega arith in
    let third : n / 256 % 256 ≡ c = omega arith in
    let fourth : n % 256 ≡ e = omega arith in
    rw (first, second, third, fourth) refl

-- ---- runs

record ReadRuns (count : ℕ) (bytes runs : List ℕ) : Type 0 where
  number : length runs ≡ count
  are : AreRuns runs
  first : bytes ≡ flat_map (big_bytes 2) runs ++ drop (2 * length runs) bytes

not_zero : (n : ℕ) → (n == 0) ≡ false → 1 ≤ n
not_zero n e = by_case (cases_eq n 0)
  where
    by_case : (n ≡ 0) ⊎ (n ≡ 0 → ⊥) → 1 ≤ n
    by_case (inl none) = absurd (true≢false (sym (eq-eqb n 0 none) ∙ e))
    by_case (inr some) = omega (arith, some)

a_run : (count place high low : ℕ) (more runs : List ℕ) (b : Bool) → AreBytes (high ∷ low ∷ more)
    → (big_number 2 (high ∷ low ∷ more) == 0) ≡ b
    → (if b then bad (fault.Run place)
    else with_first (big_number 2 (high ∷ low ∷ more)) (runs_at count (place + 2) more)) ≡ whole runs
    → ((rs : List ℕ) → runs_at count (place + 2) more ≡ whole rs → ReadRuns count more rs)
    → ReadRuns (suc count) (high ∷ low ∷ more) runs
a_run count place high low more runs true are is e later = absurd cc
a_run count place high low more runs false are is e later =
    let x = big_number 2 (high ∷ low ∷ more) in
    let f = first_whole x (runs_at count (place + 2) more) runs e in
    let o = later f.0 f.1 in
    let number = o.number in
    let high_byte = are.0 in
    let low_byte = are.1.0 in
    let rest = flat_map (big_bytes 2) f.0 ++ drop (2 * length f.0) more in
    let spelled = sym (two_bytes high low more high_byte low_byte) in
    subst (ReadRuns (suc count) (high ∷ low ∷ more)) (sym f.2) (record {
      number = omega (arith, number);
      are = (not_zero x is, omega (arith, high_byte, low_byte), o.are);
      first = ap (λ (l : List ℕ). high ∷ low ∷ l) o.first ∙ ap (λ (l : List ℕ). l ++ rest) spelled
          ∙ sym (append_assoc (big_bytes 2 x) (flat_map (big_bytes 2) f.0) (drop (2 * length f.0) more))
          ∙ ap (λ (n : ℕ). flat_map (big_bytes 2) (x ∷ f.0) ++ drop n (high ∷ low ∷ more)) (sym (two_more x f.0));
    })

runs_from : (count place : ℕ) (bytes runs : List ℕ) → AreBytes bytes → runs_at count place bytes ≡ whole runs
    → ReadRuns count bytes runs
runs_from zero place bytes runs are e =
    subst (ReadRuns zero bytes) (ap items e) (record { number = refl; are = tt; first = refl })
runs_from (suc count) place [] runs are e = absurd cc
runs_from (suc count) place (high ∷ []) runs are e = absurd cc
runs_from (suc count) place (high ∷ low ∷ more) runs are e =
    a_run count place high low more runs (big_number 2 (high ∷ low ∷ more) == 0) are refl e
    (λ rs is. runs_from count (place + 2) more rs are.1.1 is)

-- ---- a line

record ReadLine (bytes runs : List ℕ) : Type 0 where
  line : MayBeLine runs
  are : AreRuns runs
  first : bytes ≡ line_bytes runs ++ drop (line_width runs) bytes

a_line : (place count : ℕ) (more runs : List ℕ) (b : Bool) → AreBytes (count ∷ more) → is_run_count count ≡ b
    → (if b then runs_at count (place + 1) more else bad (fault.RunCount place)) ≡ whole runs
    → ReadLine (count ∷ more) runs
a_line place count more runs false are is e = absurd cc
a_line place count more runs true are is e =
    let parts = and_parts (count % 2 == 1) (nat_le count MAX_RUNS) is in
    let odd = eqb-true (count % 2) 1 parts.0 in
    let few = leb-true count MAX_RUNS parts.1 in
    let r = runs_from count (place + 1) more runs are.1 e in
    let number = r.number in
    let width : suc (2 * length runs) ≡ line_width runs = omega arith in
    record {
      line = (ap (λ (n : ℕ). n % 2) number ∙ odd, omega (arith, number, few));
      are = r.are;
      first = ap₂ (λ (n : ℕ) (l : List ℕ). n ∷ l) (sym number) r.first
          ∙ ap (λ (n : ℕ). line_bytes runs ++ drop n (count ∷ more)) width;
    }

line_from : (place : ℕ) (bytes runs : List ℕ) → AreBytes bytes → line_at place bytes ≡ whole runs → ReadLine bytes runs
line_from place [] runs are e = absurd cc
line_from place (count ∷ more) runs are e = a_line place count more runs (is_run_count count) are refl e

-- ---- lines

record ReadLines (count : ℕ) (bytes : List ℕ) (lines : List (List ℕ)) : Type 0 where
  number : length lines ≡ count
  are : AreLines lines
  first : bytes ≡ flat_map line_bytes lines ++ drop (lines_width lines) bytes

-- a thing first, and others behind it
both : (bytes one others : List ℕ) (w v : ℕ) → bytes ≡ one ++ drop w bytes
    → drop w bytes ≡ others ++ drop v (drop w bytes)
    → bytes ≡ (one ++ others) ++ drop (w + v) bytes
both bytes one others w v first second =
    first ∙ ap (λ (l : List ℕ). one ++ l) second ∙ sym (append_assoc one others (drop v (drop w bytes)))
    ∙ ap (λ (l : List ℕ). (one ++ others) ++ l) (drop-drop v w bytes)

some_lines : (count place : ℕ) (bytes : List ℕ) (lines : List (List ℕ)) (v : Front (List ℕ)) → AreBytes bytes
    → line_at place bytes ≡ v
    → line_then v (λ runs. lines_at count (place + line_width runs) (drop (line_width runs) bytes)) ≡ whole lines
    → ((w : ℕ) (ls : List (List ℕ)) → lines_at count (place + w) (drop w bytes) ≡ whole ls
    → ReadLines count (drop w bytes) ls)
    → ReadLines (suc count) bytes lines
some_lines count place bytes lines short are is e later = absurd cc
some_lines count place bytes lines (bad f) are is e later = absurd cc
some_lines count place bytes lines (whole runs) are is e later =
    let w = line_width runs in
    let l = line_from place bytes runs are is in
    let f = first_whole runs (lines_at count (place + w) (drop w bytes)) lines e in
    let o = later w f.0 f.1 in
    let number = o.number in
    subst (ReadLines (suc count) bytes) (sym f.2) (record {
      number = omega (arith, number);
      are = (l.line, l.are, o.are);
      first = both bytes (line_bytes runs) (flat_map line_bytes f.0) w (lines_width f.0) l.first o.first;
    })

lines_from : (count place : ℕ) (bytes : List ℕ) (lines : List (List ℕ)) → AreBytes bytes
    → lines_at count place bytes ≡ whole lines → ReadLines count bytes lines
lines_from zero place bytes lines are e =
    subst (ReadLines zero bytes) (ap items e) (record { number = refl; are = tt; first = refl })
lines_from (suc count) place bytes lines are e =
    some_lines count place bytes lines (line_at place bytes) are refl e
    (λ w ls is. lines_from count (place + w) (drop w bytes) ls (bytes_behind w bytes are) is)

-- ---- a field

record ReadField (bytes : List ℕ) (lines : List (List ℕ)) : Type 0 where
  few : length lines ≤ MAX_LINES
  are : AreLines lines
  first : bytes ≡ field_bytes lines ++ drop (field_width lines) bytes

a_field : (place count : ℕ) (more : List ℕ) (lines : List (List ℕ)) (b : Bool) → AreBytes (count ∷ more)
    → nat_le count MAX_LINES ≡ b
    → (if b then lines_at count (place + 1) more else bad (fault.LineCount place)) ≡ whole lines
    → ReadField (count ∷ more) lines
a_field place count more lines false are is e = absurd cc
a_field place count more lines true are is e =
    let few = leb-true count MAX_LINES is in
    let l = lines_from count (place + 1) more lines are.1 e in
    let number = l.number in
    let width : suc (lines_width lines) ≡ field_width lines = omega arith in
    record {
      few = omega (arith, number, few);
      are = l.are;
      first = ap₂ (λ (n : ℕ) (l : List ℕ). n ∷ l) (sym number) l.first
          ∙ ap (λ (n : ℕ). field_bytes lines ++ drop n (count ∷ more)) width;
    }

field_from : (place : ℕ) (bytes : List ℕ) (lines : List (List ℕ)) → AreBytes bytes → field_at place bytes ≡ whole lines
    → ReadField bytes lines
field_from place [] lines are e = absurd cc
field_from place (count ∷ more) lines are e = a_field place count more lines (nat_le count MAX_LINES) are refl e

-- ---- fields

-- if they are good and whole, they are those that are spelled
abbrev AreSpelled : ℕ → List ℕ → Fields → Type 0
AreSpelled left bytes f = f.verdict ≡ good → f.is_whole ≡ true
    → (bytes ≡ flat_map field_bytes f.fields) × AreFields f.fields × (length f.fields ≤ left)

some_fields : (left place byte : ℕ) (more : List ℕ) (v : Front (List (List ℕ))) → AreBytes (byte ∷ more)
    → field_at place (byte ∷ more) ≡ v
    → ((w : ℕ) → AreSpelled left (drop w (byte ∷ more)) (fields_at left (place + w) (drop w (byte ∷ more))))
    → AreSpelled (suc left) (byte ∷ more)
    (field_then v (λ lines. fields_at left (place + field_width lines) (drop (field_width lines) (byte ∷ more))))
some_fields left place byte more short are is later = λ verdict all. absurd (false≢true all)
some_fields left place byte more (bad f) are is later = λ verdict all. absurd (false≢true all)
some_fields left place byte more (whole lines) are is later = λ verdict all.
    let w = field_width lines in
    let l = field_from place (byte ∷ more) lines are is in
    let o = later w verdict all in
    let few = o.2 in (
      l.first ∙ ap (λ (rest : List ℕ). field_bytes lines ++ rest) o.0,
      (l.few, l.are, o.1),
      omega (arith, few),
    )

fields_from : (left place : ℕ) (bytes : List ℕ) → AreBytes bytes → AreSpelled left bytes (fields_at left place bytes)
unfolding fields_at
fields_from zero place [] are = λ verdict all. (refl, tt, omega arith)
fields_from (suc left) place [] are = λ verdict all. (refl, tt, omega arith)
fields_from zero place (byte ∷ more) are = λ verdict all. absurd (false≢true all)
fields_from (suc left) place (byte ∷ more) are =
    some_fields left place byte more (field_at place (byte ∷ more)) are refl
    (λ w. fields_from left (place + w) (drop w (byte ∷ more)) (bytes_behind w (byte ∷ more) are))

-- ---- the header

-- a byte of the head is the one that belongs to its place
right_byte : (count place byte : ℕ) (more : List ℕ) (u : Unit {0}) → head_at (suc count) place (byte ∷ more) ≡ whole u
    → (is_wrong place byte ≡ false) × (head_at count (place + 1) more ≡ whole u)
right_byte count place byte more u e = by_test (is_wrong place byte) refl e
  where
    by_test : (b : Bool) → is_wrong place byte ≡ b
        → (if b then bad (head_fault place) else head_at count (place + 1) more) ≡ whole u
        → (is_wrong place byte ≡ false) × (head_at count (place + 1) more ≡ whole u)
    by_test true is e = absurd cc
    by_test false is e = (is, e)

abbrev rate_in : Option System → ℕ
rate_in None = 0
rate_in (Some system) = rate_of system

rate_said : (byte : ℕ) (system : System) → system_at byte ≡ Some system → byte ≡ rate_of system
rate_said byte system e = by_row (cases_eq byte 25) (cases_eq byte 30)
  where
    by_row : (byte ≡ 25) ⊎ (byte ≡ 25 → ⊥) → (byte ≡ 30) ⊎ (byte ≡ 30 → ⊥) → byte ≡ rate_of system
    by_row (inl tv) video =
        let is : system_at byte ≡ Some F25 = rw (eq-eqb byte 25 tv) refl in
        tv ∙ ap rate_in (sym is ∙ e)
    by_row (inr not_tv) (inl video) =
        let is : system_at byte ≡ Some F30 = rw (ne_eqb byte 25 not_tv, eq-eqb byte 30 video) refl in
        video ∙ ap rate_in (sym is ∙ e)
    by_row (inr not_tv) (inr not_video) =
        let none : system_at byte ≡ None = rw (ne_eqb byte 25 not_tv, ne_eqb byte 30 not_video) refl in
        let both : None ≡ Some system = sym none ∙ e in
        absurd cc

abbrev header_or : LineHeader → Front LineHeader → LineHeader
header_or other (whole header) = header
header_or other short = other
header_or other (bad f) = other

-- what a header was read from
abbrev HeaderFrom : Option System → ℕ → LineHeader → Type 0
HeaderFrom system n header = (system ≡ Some header.system) × (n ≡ header.length)

header_said : (system : Option System) (n : ℕ) (header : LineHeader) → header_with system n ≡ whole header
    → HeaderFrom system n header
header_said None n header e = absurd cc
header_said (Some system) n header e = by_length (is_line_length n) e
  where
    by_length : (b : Bool)
        → if◌then◌else◌ {A = Front LineHeader} b (whole (record { system = system; length = n }))
        (bad (fault.LineLength HEAD_LENGTH))
        ≡ whole header → HeaderFrom (Some system) n header
    by_length true e =
        let same : record { system = system; length = n } ≡ header = ap (header_or header) e in
        (ap (λ (h : LineHeader). Some h.system) same, ap (λ (h : LineHeader). h.length) same)
    by_length false e = absurd cc

-- the byte that belongs to a place of the head
right : (byte wanted : ℕ) → not (byte == wanted) ≡ false → byte ≡ wanted
right byte wanted e = eqb-true byte wanted (not-false (byte == wanted) e)

header_from : (bytes : List ℕ) (header : LineHeader) (v : Front (Unit {0})) → AreBytes bytes → 12 ≤ length bytes
    → head_at HEAD_LENGTH 0 bytes ≡ v → behind_head v bytes ≡ whole header
    → bytes ≡ header_bytes header ++ drop 12 bytes
header_from (a ∷ b ∷ c ∷ d ∷ v ∷ s ∷ y ∷ z ∷ i ∷ j ∷ k ∷ l ∷ rest) header (whole u) are least is e =
    let one = right_byte 7 0 a (b ∷ c ∷ d ∷ v ∷ s ∷ y ∷ z ∷ i ∷ j ∷ k ∷ l ∷ rest) u is in
    let two = right_byte 6 1 b (c ∷ d ∷ v ∷ s ∷ y ∷ z ∷ i ∷ j ∷ k ∷ l ∷ rest) u one.1 in
    let three = right_byte 5 2 c (d ∷ v ∷ s ∷ y ∷ z ∷ i ∷ j ∷ k ∷ l ∷ rest) u two.1 in
    let four = right_byte 4 3 d (v ∷ s ∷ y ∷ z ∷ i ∷ j ∷ k ∷ l ∷ rest) u three.1 in
    let five = right_byte 3 4 v (s ∷ y ∷ z ∷ i ∷ j ∷ k ∷ l ∷ rest) u four.1 in
    let six = right_byte 2 5 s (y ∷ z ∷ i ∷ j ∷ k ∷ l ∷ rest) u five.1 in
    let seven = right_byte 1 6 y (z ∷ i ∷ j ∷ k ∷ l ∷ rest) u six.1 in
    let eight = right_byte 0 7 z (i ∷ j ∷ k ∷ l ∷ rest) u seven.1 in
    let n = big_number 4 (i ∷ j ∷ k ∷ l ∷ rest) in
    let says = header_said (system_at s) n header e in
    let first : a ≡ 0x56 = right a 0x56 one.0 in
    let second : b ≡ 0x49 = right b 0x49 two.0 in
    let third : c ≡ 0x54 = right c 0x54 three.0 in
    let fourth : d ≡ 0x4c = right d 0x4c four.0 in
    let version : v ≡ 1 = right v 1 five.0 in
    let system : s ≡ rate_of header.system = rate_said s header.system says.0 in
    let none : y ≡ 0 = right y 0 seven.0 in
    let no_more : z ≡ 0 = right z 0 eight.0 in
    let bytes = are.1.1.1.1.1.1.1.1 in
    let rate = sym (four_bytes i j k l rest bytes.0 bytes.1.0 bytes.1.1.0 bytes.1.1.1.0) ∙ ap (big_bytes 4) says.1 in
    let head : a ∷ b ∷ c ∷ d ∷ v ∷ s ∷ y ∷ z ∷ []
    ≡ 0x56 ∷ 0x49 ∷ 0x54 ∷ 0x4c ∷ 1 ∷ rate_of header.system ∷ 0 ∷ 0 ∷ [] = cc in
    ap₂ (λ (one other : List ℕ). one ++ (other ++ rest)) head rate
header_from (a ∷ b ∷ c ∷ d ∷ v ∷ s ∷ y ∷ z ∷ i ∷ j ∷ k ∷ l ∷ rest) header short are least is e = absurd cc
header_from (a ∷ b ∷ c ∷ d ∷ v ∷ s ∷ y ∷ z ∷ i ∷ j ∷ k ∷ l ∷ rest) header (bad f) are least is e = absurd cc
header_from _ header v are least is e = absurd (omega (arith, least))

-- ---- the file

abbrev IsAFile : List ℕ → Type 0
IsAFile bytes = (header : LineHeader) × (fields : List (List (List ℕ))) × IsHeader header × AreFields fields
    × (length fields ≤ MAX_FIELDS) × (bytes ≡ file_of header fields)

by_header : (bytes : List ℕ) (v : Front LineHeader) → AreBytes bytes → header_at bytes ≡ v
    → (behind_header v bytes).verdict ≡ good → (behind_header v bytes).is_whole ≡ true → IsAFile bytes
by_header bytes short are is verdict all = absurd (false≢true all)
by_header bytes (bad f) are is verdict all = absurd (false≢true all)
by_header bytes (whole header) are is verdict all =
    let f = fields_at MAX_FIELDS HEADER_LENGTH (drop 12 bytes) in
    let o = fields_from MAX_FIELDS HEADER_LENGTH (drop 12 bytes) (bytes_behind 12 bytes are) verdict all in
    let begins = header_from bytes header (head_at HEAD_LENGTH 0 bytes) are (whole_header bytes header is) refl is in (
      header,
      f.fields,
      header_valid bytes header is,
      o.1,
      o.2,
      begins ∙ ap (λ (l : List ℕ). header_bytes header ++ l) o.0,
    )

may_end : (b : Bool) (f : LineFileFault) → (if b then None else Some f) ≡ None → b ≡ true
may_end true f e = refl
may_end false f e = absurd cc

pub read_whole : (bytes : List ℕ) → AreBytes bytes → (reading_of bytes).verdict ≡ good → end_fault_of bytes ≡ None
    → IsAFile bytes
read_whole bytes are verdict ends =
    by_header bytes (header_at bytes) are refl verdict
    (may_end (reading_of bytes).is_whole (fault.Truncated (length bytes)) ends)
