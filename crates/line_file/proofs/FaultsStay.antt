-- A piece that fails its test fails it whatever follows, and all that comes before it is whole.
use Rattle.std.proofs.Common.{◌≡◌, ℕ, zero, suc, ◌+◌, Bool, true, false, List, [], ◌∷◌, ◌++◌, drop, refl}
use Rattle.std.specs.Prelude.{◌==◌, nat_le, if◌then◌else◌}
use Rattle.std.proofs.lemmas.List.{drop-append-le}
use Rattle.byteorder.specs.Endian.{big_number}
use Rattle.file_faults.specs.declared.lines.LineFileFault.{LineFileFault}
use Rattle.file_faults.specs.declared.lines.LineFileFault.TheVariants as fault
use Rattle.line_file.specs.declared.field.TheConstants.{MAX_LINES}
use Rattle.line_file.specs.LineFile.{Front, whole, short, bad, runs_at, line_at, line_width, lines_at, field_at}
use Rattle.line_file.specs.KeptPieces.{with_first, is_run_count, line_then}
use Rattle.line_file.proofs.OwnBytes.{after_line, own_line, line_more}

first_bad : {A : Type 0} (x : A) (front : Front (List A)) (f : LineFileFault) → with_first x front ≡ bad f
    → front ≡ bad f
first_bad x (whole ys) f e = absurd cc
first_bad x short f e = absurd cc
first_bad x (bad g) f e = e

-- ---- runs

run_by : (count place high low : ℕ) (rest more : List ℕ) (f : LineFileFault) (b : Bool)
    → (big_number 2 (high ∷ low ∷ rest) == 0) ≡ b
    → (if b then bad (fault.Run place) else with_first (big_number 2 (high ∷ low ∷ rest))
    (runs_at count (place + 2) rest)) ≡ bad f
    → (runs_at count (place + 2) rest ≡ bad f → runs_at count (place + 2) (rest ++ more) ≡ bad f)
    → runs_at (suc count) place (high ∷ low ∷ (rest ++ more)) ≡ bad f
run_by count place high low rest more f true is e later = rw is e
run_by count place high low rest more f false is e later =
    let x = big_number 2 (high ∷ low ∷ rest) in
    rw (is, later (first_bad x (runs_at count (place + 2) rest) f e)) refl

runs_stay : (count place : ℕ) (bytes more : List ℕ) (f : LineFileFault) → runs_at count place bytes ≡ bad f
    → runs_at count place (bytes ++ more) ≡ bad f
runs_stay zero place bytes more f e = absurd cc
runs_stay (suc count) place [] more f e = absurd cc
runs_stay (suc count) place (high ∷ []) more f e = absurd cc
runs_stay (suc count) place (high ∷ low ∷ rest) more f e =
    run_by count place high low rest more f (big_number 2 (high ∷ low ∷ rest) == 0) refl e
    (runs_stay count (place + 2) rest more f)

-- ---- a line

line_by : (place count : ℕ) (rest more : List ℕ) (f : LineFileFault) (b : Bool) → is_run_count count ≡ b
    → (if b then runs_at count (place + 1) rest else bad (fault.RunCount place)) ≡ bad f
    → line_at place (count ∷ (rest ++ more)) ≡ bad f
line_by place count rest more f true is e = rw is (runs_stay count (place + 1) rest more f e)
line_by place count rest more f false is e = rw is e

line_stays : (place : ℕ) (bytes more : List ℕ) (f : LineFileFault) → line_at place bytes ≡ bad f
    → line_at place (bytes ++ more) ≡ bad f
line_stays place [] more f e = absurd cc
line_stays place (count ∷ rest) more f e = line_by place count rest more f (is_run_count count) refl e

-- ---- lines

lines_by : (count place : ℕ) (bytes more : List ℕ) (f : LineFileFault) (v : Front (List ℕ)) → line_at place bytes ≡ v
    → line_then v (after_line count place bytes) ≡ bad f
    → ((w : ℕ) → lines_at count (place + w) (drop w bytes) ≡ bad f → lines_at count (place + w) (drop w bytes ++ more)
    ≡ bad f)
    → lines_at (suc count) place (bytes ++ more) ≡ bad f
lines_by count place bytes more f (whole runs) is e later =
    let w = line_width runs in
    let within = (own_line place bytes runs is).within in
    let rest = later w (first_bad runs (after_line count place bytes runs) f e) in
    rw (line_more place bytes more runs is, drop-append-le w bytes more within, rest) refl
lines_by count place bytes more f short is e later = absurd cc
lines_by count place bytes more f (bad g) is e later = rw (line_stays place bytes more g is) e

lines_stay : (count place : ℕ) (bytes more : List ℕ) (f : LineFileFault) → lines_at count place bytes ≡ bad f
    → lines_at count place (bytes ++ more) ≡ bad f
lines_stay zero place bytes more f e = absurd cc
lines_stay (suc count) place bytes more f e =
    lines_by count place bytes more f (line_at place bytes) refl e
    (λ w. lines_stay count (place + w) (drop w bytes) more f)

-- ---- a field

field_by : (place count : ℕ) (rest more : List ℕ) (f : LineFileFault) (b : Bool) → nat_le count MAX_LINES ≡ b
    → (if b then lines_at count (place + 1) rest else bad (fault.LineCount place)) ≡ bad f
    → field_at place (count ∷ (rest ++ more)) ≡ bad f
field_by place count rest more f true is e = rw is (lines_stay count (place + 1) rest more f e)
field_by place count rest more f false is e = rw is e

pub field_stays : (place : ℕ) (bytes more : List ℕ) (f : LineFileFault) → field_at place bytes ≡ bad f
    → field_at place (bytes ++ more) ≡ bad f
field_stays place [] more f e = absurd cc
field_stays place (count ∷ rest) more f e = field_by place count rest more f (nat_le count MAX_LINES) refl e
