-- The runs of a line as they are in its bytes.
use Rattle.std.proofs.Common.{◌≡◌, ℕ, zero, suc, ◌+◌, ◌*◌, ◌%◌, ◌≤◌, Bool, true, false, List, [], ◌∷◌, ◌++◌, length}
use Rattle.std.proofs.Common.{take, drop, get_or, refl, sym}
use Rattle.std.proofs.Common.{ap, ◌∙◌, arith}
use Rattle.std.specs.Prelude.{◌==◌, nat_le, if◌then◌else◌}
use Rattle.std.proofs.lemmas.Bool.{and_parts, eqb-true, leb-true, ne_eqb}
use Rattle.std.proofs.lemmas.List.{get_or-drop}
use Rattle.byteorder.specs.Endian.{big_number}
use Rattle.file_faults.specs.declared.lines.LineFileFault.TheVariants as fault
use Rattle.vitc_reader.specs.Runs.{MayBeLine, runs_of_bytes}
use Rattle.line_file.specs.declared.field.TheConstants.{MAX_RUNS}
use Rattle.line_file.specs.Grammar.{AreRuns}
use Rattle.line_file.specs.LineFile.{line_at, whole, bad, runs_at}
use Rattle.line_file.specs.KeptPieces.{is_run_count}
use Rattle.line_file.proofs.OwnBytes.{own_runs}

one_more : (n : ℕ) → 2 * suc n ≡ suc (suc (2 * n))
one_more n = omega arith

of_two : (high low : ℕ) (rest : List ℕ) → big_number 2 (high ∷ low ∷ rest) ≡ high * 256 + low
of_two high low rest = omega arith

-- there are as many runs as pairs of bytes
pub count_of : (count : ℕ) (bytes : List ℕ) → 2 * count ≤ length bytes → length (runs_of_bytes (take (2 * count) bytes))
    ≡ count
count_of zero bytes le = refl
count_of (suc count) [] le = absurd (omega (arith, le))
count_of (suc count) (high ∷ []) le = absurd (omega (arith, le))
count_of (suc count) (high ∷ low ∷ rest) le = let h = count_of count rest (omega (arith, le)) in
    rw (one_more count, h) (omega arith)

-- one run more
pub more_run : (n : ℕ) (bytes : List ℕ) → 2 * (n + 1) ≤ length bytes
    → runs_of_bytes (take (2 * (n + 1)) bytes) ≡ runs_of_bytes (take (2 * n) bytes) ++ big_number 2 (drop (2 * n) bytes)
    ∷ []
more_run n [] le = absurd (omega (arith, le))
more_run n (high ∷ []) le = absurd (omega (arith, le))
more_run zero (high ∷ low ∷ rest) le = ap (λ (x : ℕ). x ∷ []) (sym (of_two high low rest))
more_run (suc n) (high ∷ low ∷ rest) le =
    let e : 2 * (suc n + 1) ≡ suc (suc (2 * (n + 1))) = omega arith in
    rw (e, one_more n) (ap (λ (xs : List ℕ). (high * 256 + low) ∷ xs) (more_run n rest (omega (arith, le))))

-- runs of a tick or more are read as they are
pub whole_runs : (count place : ℕ) (bytes : List ℕ) → 2 * count ≤ length bytes
    → AreRuns (runs_of_bytes (take (2 * count) bytes))
    → runs_at count place bytes ≡ whole (runs_of_bytes (take (2 * count) bytes))
whole_runs zero place bytes le all = refl
whole_runs (suc count) place [] le all = absurd (omega (arith, le))
whole_runs (suc count) place (high ∷ []) le all = absurd (omega (arith, le))
whole_runs (suc count) place (high ∷ low ∷ rest) le all =
    let each = rw (one_more count) at all in
    let some = each.0 in
    let more = whole_runs count (place + 2) rest (omega (arith, le)) each.2 in
    let not_zero = ne_eqb (high * 256 + low) 0 (λ e. omega (arith, some, e)) in
    rw (one_more count, of_two high low rest, not_zero, more) refl

-- an odd number of runs, and not too many, may be a line
pub may_be : (count : ℕ) (bytes : List ℕ) → is_run_count count ≡ true → 2 * count ≤ length bytes
    → MayBeLine (runs_of_bytes (take (2 * count) bytes))
may_be count bytes good le =
    let parts = and_parts (count % 2 == 1) (nat_le count MAX_RUNS) good in
    rw (count_of count bytes le) (eqb-true (count % 2) 1 parts.0, leb-true count MAX_RUNS parts.1)

-- the first byte of a whole line is the number of its runs
first_byte : (place : ℕ) (bytes runs : List ℕ) → line_at place bytes ≡ whole runs → length runs ≡ get_or bytes 0 0
first_byte place [] runs e = absurd cc
first_byte place (count ∷ more) runs e = by_test (is_run_count count) e
  where
    by_test : (b : Bool) → (if b then runs_at count (place + 1) more else bad (fault.RunCount place)) ≡ whole runs
        → length runs ≡ count
    by_test true h = (own_runs count (place + 1) more runs h).number
    by_test false h = absurd cc

pub line_count : (place width : ℕ) (bytes runs : List ℕ) → line_at place (drop width bytes) ≡ whole runs
    → length runs ≡ get_or bytes width 0
line_count place width bytes runs e =
    let at : width + 0 ≡ width = omega arith in
    first_byte place (drop width bytes) runs e ∙ get_or-drop width bytes 0 0 ∙ ap (λ (n : ℕ). get_or bytes n 0) at
