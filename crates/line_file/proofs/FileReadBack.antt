-- A file that was written is read as its header and its fields: each piece is in its range, so the reading goes on
-- behind it.
use Rattle.std.proofs.Common.{true, false, ◌≡◌, ℕ, zero, suc, ◌+◌, ◌*◌, ◌%◌, ◌<◌, ◌≤◌, List, [], ◌∷◌, ◌++◌, Some}
use Rattle.std.proofs.Common.{length, drop, refl, ap, ◌∙◌, arith}
use Rattle.std.proofs.Common.{append_assoc}
use Rattle.std.specs.Prelude.{◌==◌}
use Rattle.std.specs.List.{flat_map}
use Rattle.std.proofs.lemmas.Bool.{and_from, eq-eqb, le-leb, ne_eqb}
use Rattle.std.proofs.lemmas.List.{drop_at, length-append}
use Rattle.byteorder.specs.Endian.{big_bytes, big_number}
use Rattle.byteorder.specs.Numbers.{big_number-reads_back}
use Rattle.tc_io.specs.Verdict.{good}
use Rattle.vitc_reader.specs.Runs.{IsLineLength, MayBeLine}
use Rattle.line_file.specs.declared.decoder.TheConstants.{MAX_FIELDS}
use Rattle.line_file.specs.declared.field.TheConstants.{MAX_LINES, MAX_RUNS}
use Rattle.line_file.specs.declared.header.LineHeader.{LineHeader}
use Rattle.line_file.specs.declared.header.TheConstants.{HEADER_LENGTH}
use Rattle.vitc_reader.specs.declared.line_length.TheConstants.{MIN_LINE_LENGTH, MAX_LINE_LENGTH}
use Rattle.line_file.specs.Grammar.{line_bytes, field_bytes, file_of, AreRuns, AreLines, AreFields}
use Rattle.line_file.specs.LineFile.{Front, whole, runs_at, line_at, line_width, lines_at, lines_width, field_at}
use Rattle.line_file.specs.KeptPieces.{with_first, is_run_count}
use Rattle.line_file.specs.LineFile.{Fields, fields_at, behind_header, header_at, header_with, reading_of}
use Rattle.line_file.specs.KeptPieces.{field_width, with_field, with_fields}
use Rattle.line_file.specs.LineHeader.{IsHeader, header_bytes}
use Rattle.tc_address.specs.declared.system.System.{System}
use Rattle.tc_address.specs.declared.system.System.TheVariants.{F24, F25, F30}
use Rattle.vitc_line.specs.Places.{HasLines}
use Rattle.line_file.proofs.HeaderBytes.{header_more}
use Rattle.line_file.proofs.FieldByField.{fields_by}
use Rattle.line_file.proofs.OwnBytes.{after_line}

-- ---- runs

runs_by : (count place run : ℕ) (later : List ℕ) → 1 ≤ run → run < 65536
    → runs_at (suc count) place (big_bytes 2 run ++ later) ≡ with_first run (runs_at count (place + 2) later)
runs_by count place run later least most =
    let read : big_number 2 (big_bytes 2 run ++ later) ≡ run = big_number-reads_back 2 run later (omega (arith, most))
    in
    let some : (run == 0) ≡ false = ne_eqb run 0 (λ e. omega (arith, e, least)) in
    rw (read, some) refl

runs_read : (place : ℕ) (runs more : List ℕ) → AreRuns runs
    → runs_at (length runs) place (flat_map (big_bytes 2) runs ++ more) ≡ whole runs
runs_read place [] more are = refl
runs_read place (run ∷ runs) more are =
    let one : length (run ∷ runs) ≡ suc (length runs) = omega arith in
    let later = flat_map (big_bytes 2) runs ++ more in
    let split : flat_map (big_bytes 2) (run ∷ runs) ++ more ≡ big_bytes 2 run ++ later =
    append_assoc (big_bytes 2 run) (flat_map (big_bytes 2) runs) more in
    ap (λ (n : ℕ). runs_at n place (flat_map (big_bytes 2) (run ∷ runs) ++ more)) one
    ∙ ap (runs_at (suc (length runs)) place) split
    ∙ runs_by (length runs) place run later are.0 are.1 ∙ ap (with_first run) (runs_read (place + 2) runs more are.2)

runs_bytes : (runs : List ℕ) → length (flat_map (big_bytes 2) runs) ≡ 2 * length runs
runs_bytes [] = refl
runs_bytes (run ∷ runs) = let h = runs_bytes runs in omega (arith, h)

-- ---- a line

line_read : (place : ℕ) (runs more : List ℕ) → MayBeLine runs → AreRuns runs → line_at place (line_bytes runs ++ more)
    ≡ whole runs
line_read place runs more line are =
    let counted : is_run_count (length runs) ≡ true = and_from _ _ (eq-eqb (length runs % 2) 1 line.0)
    (le-leb (length runs) MAX_RUNS line.1) in
    rw (counted, runs_read (place + 1) runs more are) refl

line_length : (runs : List ℕ) → length (line_bytes runs) ≡ line_width runs
line_length runs = let h = runs_bytes runs in omega (arith, h)

-- ---- lines

lines_by : (left place : ℕ) (bytes runs : List ℕ) → line_at place bytes ≡ whole runs → lines_at (suc left) place bytes
    ≡ with_first runs (after_line left place bytes runs)
lines_by left place bytes runs e = rw e refl

lines_read : (place : ℕ) (lines : List (List ℕ)) (more : List ℕ) → AreLines lines
    → lines_at (length lines) place (flat_map line_bytes lines ++ more)
    ≡ whole lines
lines_read place [] more are = refl
lines_read place (runs ∷ lines) more are =
    let one : length (runs ∷ lines) ≡ suc (length lines) = omega arith in
    let later = flat_map line_bytes lines ++ more in
    let split : flat_map line_bytes (runs ∷ lines) ++ more ≡ line_bytes runs ++ later =
    append_assoc (line_bytes runs) (flat_map line_bytes lines) more in
    let step = lines_by (length lines) place (line_bytes runs ++ later) runs (line_read place runs later are.0 are.1) in
    let gone : drop (line_width runs) (line_bytes runs ++ later) ≡ later =
    drop_at (line_bytes runs) later (line_width runs) (line_length runs) in
    let rest = lines_read (place + line_width runs) lines more are.2 in
    ap (λ (n : ℕ). lines_at n place (flat_map line_bytes (runs ∷ lines) ++ more)) one
    ∙ ap (lines_at (suc (length lines)) place) split ∙ step
    ∙ ap (λ (l : List ℕ). with_first runs (lines_at (length lines) (place + line_width runs) l)) gone
    ∙ ap (with_first runs) rest

lines_length : (lines : List (List ℕ)) → length (flat_map line_bytes lines) ≡ lines_width lines
lines_length [] = refl
lines_length (runs ∷ lines) =
    let h = lines_length lines in
    let here = line_length runs in
    let all = length-append (line_bytes runs) (flat_map line_bytes lines) in
    all ∙ omega (arith, h, here)

-- ---- fields

field_read : (place : ℕ) (lines : List (List ℕ)) (more : List ℕ) → length lines ≤ MAX_LINES → AreLines lines
    → field_at place (field_bytes lines ++ more) ≡ whole lines
field_read place lines more few are = rw (le-leb (length lines) MAX_LINES few, lines_read (place + 1) lines more are)
    refl

field_length : (lines : List (List ℕ)) → length (field_bytes lines) ≡ field_width lines
field_length lines = let h = lines_length lines in omega (arith, h)

abbrev whole_fields : List (List (List ℕ)) → Fields
whole_fields fields = record { fields = fields; verdict = good; is_whole = true }

fields_read : (left place : ℕ) (fields : List (List (List ℕ))) → AreFields fields → length fields ≤ left
    → fields_at left place (flat_map field_bytes fields) ≡ whole_fields fields
unfolding fields_at
fields_read zero place [] are few = refl
fields_read (suc left) place [] are few = refl
fields_read zero place (lines ∷ fields) are few = absurd (omega (arith, few))
fields_read (suc left) place (lines ∷ fields) are few =
    let later = flat_map field_bytes fields in
    let step = fields_by left place (field_bytes lines ++ later) (whole lines) (omega arith)
    (field_read place lines later are.0 are.1) in
    let gone : drop (field_width lines) (field_bytes lines ++ later) ≡ later =
    drop_at (field_bytes lines) later (field_width lines) (field_length lines) in
    let rest = fields_read left (place + field_width lines) fields are.2 (omega (arith, few)) in
    step ∙ ap (λ (l : List ℕ). with_field lines (fields_at left (place + field_width lines) l)) gone
    ∙ ap (with_field lines) rest

-- ---- the header

in_range : (system : System) (n length : ℕ) → n ≡ length → IsLineLength length → header_with (Some system) n
    ≡ whole (record { system = system; length = length })
in_range system n length same range =
    rw (same, le-leb MIN_LINE_LENGTH length range.0, le-leb length MAX_LINE_LENGTH range.1) refl

four_bytes : (n : ℕ) → IsLineLength n → big_number 4 (big_bytes 4 n) ≡ n
four_bytes n range = let most = range.1 in big_number-reads_back 4 n [] (omega (arith, most))

by_system : (system : System) (n : ℕ) → HasLines system → IsLineLength n
    → header_at (header_bytes (record { system = system; length = n })) ≡ whole (record { system = system; length = n })
by_system F24 n lines range = absurd lines
by_system F25 n lines range = in_range F25 _ n (four_bytes n range) range
by_system F30 n lines range = in_range F30 _ n (four_bytes n range) range

header_read : (header : LineHeader) (more : List ℕ) → IsHeader header → header_at (header_bytes header ++ more)
    ≡ whole header
header_read header more valid = header_more (header_bytes header) more header
    (by_system header.system header.length valid.0 valid.1)

pub file_read : (header : LineHeader) (fields : List (List (List ℕ))) → IsHeader header → AreFields fields
    → length fields ≤ MAX_FIELDS
    → reading_of (file_of header fields) ≡ record {
      header = Some header;
      fields = fields;
      verdict = good;
      is_whole =
          true;
    }
file_read header fields valid are few =
    let later = flat_map field_bytes fields in
    let size : length (header_bytes header) ≡ HEADER_LENGTH = refl in
    let gone : drop HEADER_LENGTH (header_bytes header ++ later) ≡ later =
    drop_at (header_bytes header) later HEADER_LENGTH size in
    ap (λ (v : Front LineHeader). behind_header v (header_bytes header ++ later)) (header_read header later valid)
    ∙ ap (λ (l : List ℕ). with_fields header [] (fields_at MAX_FIELDS HEADER_LENGTH l)) gone
    ∙ ap (with_fields header []) (fields_read MAX_FIELDS HEADER_LENGTH fields are few)
