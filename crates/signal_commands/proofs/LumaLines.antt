-- The bytes of a line are its number of runs and its runs; those of a field its number of lines and its lines.
use Rattle.std.proofs.Common.{◌≡◌, ℕ, ◌≤◌, List, [], ◌∷◌, ◌++◌, length, take, sym, ap, ◌∙◌, append_assoc}
use Rattle.std.specs.List.{flat_map}
use Rattle.std.proofs.lemmas.List.{length-map, take_all}
use Rattle.std.proofs.lemmas.List.Folds.{flat_map-map}
use Rattle.byteorder.specs.Endian.{big_bytes}
use Rattle.line_file.specs.Grammar.{field_bytes, line_bytes}
use Rattle.vitc_reader.specs.Written.{runs_in}
use Rattle.signal_commands.specs.declared.luma_lines.TheConstants.{LINE_LENGTH}
use Rattle.signal_commands.specs.LumaVitc.{written_lines}

pub line_of_runs : (items pushed old : List ℕ) (number : ℕ) (runs : List ℕ)
    → items ≡ pushed ++ flat_map (big_bytes 2) runs → pushed ≡ old ++ number ∷ [] → number ≡ length runs
    → items ≡ old ++ line_bytes runs
line_of_runs items pushed old number runs are push long =
    let bytes = flat_map (big_bytes 2) runs in
    are ∙ ap (λ (l : List ℕ). l ++ bytes) push ∙ append_assoc old (number ∷ []) bytes
    ∙ ap (λ (n : ℕ). old ++ (n ∷ bytes)) long

pub all_lines : (lines : List ℕ) (index : ℕ) → length lines ≤ index
    → length lines ∷ flat_map (λ bits. line_bytes (runs_in LINE_LENGTH bits)) (take index lines)
    ≡ field_bytes (written_lines lines)
all_lines lines index all =
    let bytes : ℕ → List ℕ = λ bits. line_bytes (runs_in LINE_LENGTH bits) in
    let whole = ap (flat_map bytes) (take_all index lines all) in
    let runs = sym (flat_map-map line_bytes (runs_in LINE_LENGTH) lines) in
    ap (λ (l : List ℕ). length lines ∷ l) (whole ∙ runs)
    ∙ ap (λ (n : ℕ). n ∷ flat_map line_bytes (written_lines lines)) (sym (length-map lines (runs_in LINE_LENGTH)))
