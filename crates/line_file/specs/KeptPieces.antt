-- The parts of the definitions of a line file by which the code and the lemmas go. No promise speaks of them.
use Rattle.std.specs.Prelude.{ℕ, ◌+◌, ◌%◌, Bool, false, ◌&&◌, ◌==◌, nat_le}
use Rattle.std.specs.Prelude.{List, [], ◌∷◌}
use Rattle.std.specs.Prelude.{◌++◌, drop, slice_index, Some, None}
use Rattle.file_faults.specs.declared.lines.LineFileFault.{LineFileFault}
use Rattle.tc_io.specs.Verdict.{Verdict}
use Rattle.line_file.specs.declared.field.TheConstants.{MAX_RUNS}
use Rattle.line_file.specs.declared.header.LineHeader.{LineHeader}
use Rattle.line_file.specs.declared.header.TheConstants.{HEAD_LENGTH}
use Rattle.vitc_reader.specs.declared.line_length.TheConstants.{MIN_LINE_LENGTH, MAX_LINE_LENGTH}
use Rattle.line_file.specs.LineHeader.{system_at}
use Rattle.line_file.specs.LineFile.{Fields, Front, Reading, and_then, length_at, lines_width, whole}

-- the first thing, where the others are whole too
abbrev pub with_first : {A : Type 0} → A → Front (List A) → Front (List A)
with_first first rest = and_then rest (λ others. whole (first ∷ others))

-- a length that a line may have
abbrev pub is_line_length : ℕ → Bool
is_line_length n = nat_le MIN_LINE_LENGTH n && nat_le n MAX_LINE_LENGTH

-- the header behind the bytes of the head: its system, and the length of a line
abbrev pub behind_head : Front (Unit {0}) → List ℕ → Front LineHeader
behind_head head bytes = and_then head (λ _. length_at (system_at (slice_index bytes 5)) (drop HEAD_LENGTH bytes))

-- an odd number of runs, and not too many
abbrev pub is_run_count : ℕ → Bool
is_run_count count = (count % 2 == 1) && nat_le count MAX_RUNS

-- a line, and what follows it
abbrev pub line_then : Front (List ℕ) → (List ℕ → Front (List (List ℕ))) → Front (List (List ℕ))
line_then line next = and_then line (λ runs. with_first runs (next runs))

-- how many bytes a field has
abbrev pub field_width : List (List ℕ) → ℕ
field_width lines = 1 + lines_width lines

-- no whole field
abbrev pub no_field : Verdict LineFileFault → Bool → Fields
no_field verdict is_whole = record { fields = []; verdict = verdict; is_whole = is_whole }

-- a field, and those that follow it
abbrev pub with_field : List (List ℕ) → Fields → Fields
with_field lines f = record f { fields = lines ∷ f.fields }

-- bytes that have no whole header
abbrev pub no_header : Verdict LineFileFault → Reading
no_header verdict = record { header = None; fields = []; verdict = verdict; is_whole = false }

-- a header, some fields, and those that follow them
abbrev pub with_fields : LineHeader → List (List (List ℕ)) → Fields → Reading
with_fields header before f =
    record { header = Some header; fields = before ++ f.fields; verdict = f.verdict; is_whole = f.is_whole }
