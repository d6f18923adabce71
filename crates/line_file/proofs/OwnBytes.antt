-- A line and a field are read from their own bytes, whatever follows them; and the first bytes of one are fewer than
-- the most that it may have.
use Rattle.std.proofs.Common.{◌≡◌, ℕ, zero, suc, ◌+◌, ◌*◌, ◌%◌, ◌<◌, ◌≤◌, Bool, true, false, List, [], ◌∷◌, ◌++◌}
use Rattle.std.proofs.Common.{length, take, drop, refl, sym, ap}
use Rattle.std.proofs.Common.{◌∙◌, arith, append_assoc}
use Rattle.std.specs.Prelude.{◌==◌, nat_le, if◌then◌else◌}
use Rattle.std.proofs.lemmas.Bool.{and_parts, eqb-true, leb-true}
use Rattle.std.proofs.lemmas.List.{take-append-drop, length-take-le, length-drop, drop_at, drop-take, take-take}
use Rattle.byteorder.specs.Endian.{big_number}
use Rattle.file_faults.specs.declared.lines.LineFileFault.TheVariants as fault
use Rattle.vitc_reader.specs.Runs.{MayBeLine}
use Rattle.line_file.specs.declared.field.TheConstants.{MAX_LINES, MAX_RUNS}
use Rattle.line_file.specs.LineFile.{Front, whole, short, bad, runs_at, line_at, line_width, lines_at}
use Rattle.line_file.specs.KeptPieces.{with_first, is_run_count, line_then}
use Rattle.line_file.specs.LineFile.{lines_width, field_at}
use Rattle.line_file.specs.KeptPieces.{field_width}

-- the things that were read, or none
abbrev pub items : {A : Type 0} → Front (List A) → List A
items (whole xs) = xs
items short = []
items (bad f) = []

-- a whole list with a first thing comes of a whole list
pub first_whole : {A : Type 0} (x : A) (f : Front (List A)) (xs : List A) → with_first x f ≡ whole xs → (ys : List A)
    × (f ≡ whole ys) × (xs ≡ x ∷ ys)
first_whole x (whole ys) xs e = (ys, refl, sym (ap items e))
first_whole x short xs e = absurd cc
first_whole x (bad f) xs e = absurd cc

pub first_short : {A : Type 0} (x : A) (f : Front (List A)) → with_first x f ≡ short → f ≡ short
first_short x (whole ys) e = absurd cc
first_short x short e = refl
first_short x (bad f) e = absurd cc

-- the first bytes of some, and those behind them
pub take_both : (w k : ℕ) (bytes : List ℕ) → w ≤ length bytes → take (w + k) bytes ≡ take w bytes
    ++ take k (drop w bytes)
take_both w k bytes within =
    let cut = take-append-drop w (take (w + k) bytes) in
    rw (← take-take w (w + k) bytes (omega arith), ← drop-take w k bytes) (sym cut)

-- ---- runs

pub record OwnRuns (count place : ℕ) (bytes runs : List ℕ) : Type 0 where
  pub number : length runs ≡ count
  pub within : 2 * length runs ≤ length bytes
  pub own : (more : List ℕ) → runs_at count place (take (2 * length runs) bytes ++ more) ≡ whole runs

pub two_more : (x : ℕ) (runs : List ℕ) → 2 * length (x ∷ runs) ≡ suc (suc (2 * length runs))
two_more x runs = omega arith

own_run : (count place high low : ℕ) (rest runs : List ℕ) (b : Bool) → (big_number 2 (high ∷ low ∷ rest) == 0) ≡ b
    → (if b then bad (fault.Run place) else with_first (big_number 2 (high ∷ low ∷ rest))
    (runs_at count (place + 2) rest)) ≡ whole runs
    → ((rs : List ℕ) → runs_at count (place + 2) rest ≡ whole rs → OwnRuns count (place + 2) rest rs)
    → OwnRuns (suc count) place (high ∷ low ∷ rest) runs
own_run count place high low rest runs true is e later = absurd cc
own_run count place high low rest runs false is e later =
    let x = big_number 2 (high ∷ low ∷ rest) in
    let f = first_whole x (runs_at count (place + 2) rest) runs e in
    let o = later f.0 f.1 in
    let number = o.number in
    let within = o.within in
    rw f.2 (record {
      number = omega (arith, number);
      within = omega (arith, within);
      own = λ more. rw (two_more x f.0, is, o.own more) refl;
    })

pub own_runs : (count place : ℕ) (bytes runs : List ℕ) → runs_at count place bytes ≡ whole runs
    → OwnRuns count place bytes runs
own_runs zero place bytes runs e = let none : runs ≡ [] = sym (ap items e) in
    rw none (record { number = refl; within = omega arith; own = λ more. refl })
own_runs (suc count) place [] runs e = absurd cc
own_runs (suc count) place (high ∷ []) runs e = absurd cc
own_runs (suc count) place (high ∷ low ∷ rest) runs e =
    own_run count place high low rest runs (big_number 2 (high ∷ low ∷ rest) == 0) refl e
    (own_runs count (place + 2) rest)

short_run : (count place high low : ℕ) (rest : List ℕ) (b : Bool)
    → (if b then bad (fault.Run place) else with_first (big_number 2 (high ∷ low ∷ rest))
    (runs_at count (place + 2) rest)) ≡ short
    → runs_at count (place + 2) rest ≡ short
short_run count place high low rest true e = absurd cc
short_run count place high low rest false e = first_short (big_number 2 (high ∷ low ∷ rest))
    (runs_at count (place + 2) rest) e

-- runs of which some are not there
short_runs : (count place : ℕ) (bytes : List ℕ) → runs_at count place bytes ≡ short → length bytes < 2 * count
short_runs zero place bytes e = absurd cc
short_runs (suc count) place [] e = omega arith
short_runs (suc count) place (high ∷ []) e = omega arith
short_runs (suc count) place (high ∷ low ∷ rest) e =
    let less = short_runs count (place + 2) rest
    (short_run count place high low rest (big_number 2 (high ∷ low ∷ rest) == 0) e) in
    omega (arith, less)

-- ---- a line

pub record OwnLine (place : ℕ) (bytes runs : List ℕ) : Type 0 where
  pub line : MayBeLine runs
  pub within : line_width runs ≤ length bytes
  pub own : (more : List ℕ) → line_at place (take (line_width runs) bytes ++ more) ≡ whole runs

one_more : (n : ℕ) → 1 + n ≡ suc n
one_more n = omega arith

line_by : (place count : ℕ) (rest runs : List ℕ) (b : Bool) → is_run_count count ≡ b
    → (if b then runs_at count (place + 1) rest else bad (fault.RunCount place)) ≡ whole runs
    → OwnLine place (count ∷ rest) runs
line_by place count rest runs true is e =
    let o = own_runs count (place + 1) rest runs e in
    let parts = and_parts (count % 2 == 1) (nat_le count MAX_RUNS) is in
    let odd = eqb-true (count % 2) 1 parts.0 in
    let few = leb-true count MAX_RUNS parts.1 in
    let number = o.number in
    let within = o.within in
    record {
      line = (rw number odd, omega (arith, number, few));
      within = omega (arith, within);
      own = λ more. rw (one_more (2 * length runs), is, o.own more) refl;
    }
line_by place count rest runs false is e = absurd cc

pub own_line : (place : ℕ) (bytes runs : List ℕ) → line_at place bytes ≡ whole runs → OwnLine place bytes runs
own_line place [] runs e = absurd cc
own_line place (count ∷ rest) runs e = line_by place count rest runs (is_run_count count) refl e

short_by : (place count : ℕ) (rest : List ℕ) (b : Bool) → is_run_count count ≡ b
    → (if b then runs_at count (place + 1) rest else bad (fault.RunCount place)) ≡ short → length (count ∷ rest) < 179
short_by place count rest true is e =
    let less = short_runs count (place + 1) rest e in
    let few = leb-true count MAX_RUNS (and_parts (count % 2 == 1) (nat_le count MAX_RUNS) is).1 in
    omega (arith, less, few)
short_by place count rest false is e = absurd cc

-- the first bytes of a line
short_line : (place : ℕ) (bytes : List ℕ) → line_at place bytes ≡ short → length bytes < 179
short_line place [] e = omega arith
short_line place (count ∷ rest) e = short_by place count rest (is_run_count count) refl e

-- ---- lines

pub record OwnLines (count place : ℕ) (bytes : List ℕ) (lines : List (List ℕ)) : Type 0 where
  pub within : lines_width lines ≤ length bytes
  pub most : lines_width lines ≤ 179 * count
  pub own : (more : List ℕ) → lines_at count place (take (lines_width lines) bytes ++ more) ≡ whole lines

-- what follows a line
abbrev pub after_line : ℕ → ℕ → List ℕ → List ℕ → Front (List (List ℕ))
after_line count place bytes runs = lines_at count (place + line_width runs) (drop (line_width runs) bytes)

-- what comes behind the bytes of a line
behind_line : (bytes more runs : List ℕ) → line_width runs ≤ length bytes
    → drop (line_width runs) (take (line_width runs) bytes ++ more) ≡ more
behind_line bytes more runs within = drop_at (take (line_width runs) bytes) more (line_width runs)
    (length-take-le (line_width runs) bytes within)

lines_by : (count place : ℕ) (bytes : List ℕ) (lines : List (List ℕ)) (v : Front (List ℕ)) → line_at place bytes ≡ v
    → line_then v (after_line count place bytes) ≡ whole lines
    → ((w : ℕ) (ls : List (List ℕ)) → lines_at count (place + w) (drop w bytes) ≡ whole ls
    → OwnLines count (place + w) (drop w bytes) ls)
    → OwnLines (suc count) place bytes lines
lines_by count place bytes lines (whole runs) is e later =
    let w = line_width runs in
    let f = first_whole runs (after_line count place bytes runs) lines e in
    let o = own_line place bytes runs is in
    let r = later w f.0 f.1 in
    let k = lines_width f.0 in
    let left = length-drop w bytes in
    let here = o.within in
    let rest = r.within in
    let most = r.most in
    let few = o.line.1 in
    rw f.2 (record {
      within = omega (arith, left, here, rest);
      most = omega (arith, most, few);
      own = λ more.
          let joined : take (w + k) bytes ++ more ≡ take w bytes ++ (take k (drop w bytes) ++ more) =
          ap (λ (l : List ℕ). l ++ more) (take_both w k bytes here)
          ∙ append_assoc (take w bytes) (take k (drop w bytes)) more in
          rw (
            joined,
            o.own (take k (drop w bytes) ++ more),
            behind_line bytes (take k (drop w bytes) ++ more) runs
                here,
            r.own more,
          ) refl;
    })
lines_by count place bytes lines short is e later = absurd cc
lines_by count place bytes lines (bad f) is e later = absurd cc

pub own_lines : (count place : ℕ) (bytes : List ℕ) (lines : List (List ℕ)) → lines_at count place bytes ≡ whole lines
    → OwnLines count place bytes lines
own_lines zero place bytes lines e = let none : lines ≡ [] = sym (ap items e) in rw none
    (record { within = omega arith; most = omega arith; own = λ more. refl })
own_lines (suc count) place bytes lines e =
    lines_by count place bytes lines (line_at place bytes) refl e
    (λ w ls. own_lines count (place + w) (drop w bytes) ls)

short_lines_by : (count place : ℕ) (bytes : List ℕ) (v : Front (List ℕ)) → line_at place bytes ≡ v
    → line_then v (after_line count place bytes) ≡ short
    → ((w : ℕ) → lines_at count (place + w) (drop w bytes) ≡ short → length (drop w bytes) < 179 * count)
    → length bytes < 179 * suc count
short_lines_by count place bytes (whole runs) is e later =
    let less = later (line_width runs) (first_short runs (after_line count place bytes runs) e) in
    let o = own_line place bytes runs is in
    let few = o.line.1 in
    let left = length-drop (line_width runs) bytes in
    omega (arith, less, few, left)
short_lines_by count place bytes short is e later = let less = short_line place bytes is in omega (arith, less)
short_lines_by count place bytes (bad f) is e later = absurd cc

short_lines : (count place : ℕ) (bytes : List ℕ) → lines_at count place bytes ≡ short → length bytes < 179 * count
short_lines zero place bytes e = absurd cc
short_lines (suc count) place bytes e = short_lines_by count place bytes (line_at place bytes) refl e
    (λ w. short_lines count (place + w) (drop w bytes))

-- ---- a field

pub record OwnField (place : ℕ) (bytes : List ℕ) (lines : List (List ℕ)) : Type 0 where
  pub within : field_width lines ≤ length bytes
  pub most : field_width lines ≤ 3581
  pub own : (more : List ℕ) → field_at place (take (field_width lines) bytes ++ more) ≡ whole lines

field_by : (place count : ℕ) (rest : List ℕ) (lines : List (List ℕ)) (b : Bool) → nat_le count MAX_LINES ≡ b
    → (if b then lines_at count (place + 1) rest else bad (fault.LineCount place)) ≡ whole lines
    → OwnField place (count ∷ rest) lines
field_by place count rest lines true is e =
    let o = own_lines count (place + 1) rest lines e in
    let few = leb-true count MAX_LINES is in
    let within = o.within in
    let most = o.most in
    record {
      within = omega (arith, within);
      most = omega (arith, most, few);
      own = λ more. rw (one_more (lines_width lines), is, o.own more) refl;
    }
field_by place count rest lines false is e = absurd cc

pub own_field : (place : ℕ) (bytes : List ℕ) (lines : List (List ℕ)) → field_at place bytes ≡ whole lines
    → OwnField place bytes lines
own_field place [] lines e = absurd cc
own_field place (count ∷ rest) lines e = field_by place count rest lines (nat_le count MAX_LINES) refl e

short_field_by : (place count : ℕ) (rest : List ℕ) (b : Bool) → nat_le count MAX_LINES ≡ b
    → (if b then lines_at count (place + 1) rest else bad (fault.LineCount place)) ≡ short
    → length (count ∷ rest) < 3581
short_field_by place count rest true is e =
    let less = short_lines count (place + 1) rest e in
    let few = leb-true count MAX_LINES is in
    omega (arith, less, few)
short_field_by place count rest false is e = absurd cc

-- the first bytes of a field
pub short_field : (place : ℕ) (bytes : List ℕ) → field_at place bytes ≡ short → length bytes < 3581
short_field place [] e = omega arith
short_field place (count ∷ rest) e = short_field_by place count rest (nat_le count MAX_LINES) refl e

-- ---- with more behind them

-- what is whole stays so
pub own_more : (bytes more : List ℕ) (w : ℕ) → bytes ++ more ≡ take w bytes ++ (drop w bytes ++ more)
own_more bytes more w = ap (λ (l : List ℕ). l ++ more) (sym (take-append-drop w bytes))
    ∙ append_assoc (take w bytes) (drop w bytes) more

pub line_more : (place : ℕ) (bytes more runs : List ℕ) → line_at place bytes ≡ whole runs
    → line_at place (bytes ++ more) ≡ whole runs
line_more place bytes more runs e =
    ap (line_at place) (own_more bytes more (line_width runs))
    ∙ (own_line place bytes runs e).own (drop (line_width runs) bytes ++ more)

pub field_more : (place : ℕ) (bytes more : List ℕ) (lines : List (List ℕ)) → field_at place bytes ≡ whole lines
    → field_at place (bytes ++ more) ≡ whole lines
field_more place bytes more lines e =
    ap (field_at place) (own_more bytes more (field_width lines))
    ∙ (own_field place bytes lines e).own (drop (field_width lines) bytes ++ more)
