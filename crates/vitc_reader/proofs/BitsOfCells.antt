-- A run behind the others adds its bits above theirs.
use Rattle.std.proofs.Common.{◌≡◌, ℕ, ◌+◌, ◌*◌, ◌%◌, ◌^◌, ◌<◌, Bool, true, false, not, List, [], ◌∷◌, ◌++◌, length}
use Rattle.std.proofs.Common.{refl, arith}
use Rattle.std.proofs.lemmas.Nat.{pow-add, pow_pos, mul-add-lt}
use Rattle.vitc_reader.specs.Runs.{total, bits_of_run, bits_of}

-- the level after some runs
abbrev pub level_after : Bool → List ℕ → Bool
level_after level [] = level
level_after level (k ∷ cells) = level_after (not level) cells

pub level_after-last : (level : Bool) (cells : List ℕ) (k : ℕ)
    → level_after level (cells ++ k ∷ []) ≡ not (level_after level cells)
level_after-last level [] k = refl
level_after-last level (j ∷ cells) k = level_after-last (not level) cells k

run_and_rest : (r j rest more s : ℕ) → r + 2 ^ j * (rest + more * 2 ^ s) ≡ r + 2 ^ j * rest + more * 2 ^ (j + s)
run_and_rest r j rest more s = let e = pow-add 2 j s in rw e (grind arith)

pub bits_of-last : (level : Bool) (cells : List ℕ) (k : ℕ)
    → bits_of level (cells ++ k ∷ []) ≡ bits_of level cells + bits_of_run (level_after level cells) k * 2 ^ total cells
bits_of-last level [] k = omega arith
bits_of-last level (j ∷ cells) k =
    let rest = bits_of-last (not level) cells k in
    let e = run_and_rest (bits_of_run level j) j (bits_of (not level) cells)
    (bits_of_run (level_after (not level) cells) k) (total cells) in
    rw rest e

bits_of_run_below : (level : Bool) (k : ℕ) → bits_of_run level k < 2 ^ k
bits_of_run_below true k = let h = pow_pos k in omega (arith, h)
bits_of_run_below false k = pow_pos k

pub bits_of_below : (level : Bool) (cells : List ℕ) → bits_of level cells < 2 ^ total cells
bits_of_below level [] = omega arith
bits_of_below level (k ∷ cells) =
    let rest = bits_of_below (not level) cells in
    let here = bits_of_run_below level k in
    let h = mul-add-lt (bits_of (not level) cells) (2 ^ k) (bits_of_run level k) (2 ^ total cells) rest here in
    let e = pow-add 2 k (total cells) in
    let swap : bits_of (not level) cells * 2 ^ k + bits_of_run level k ≡ bits_of_run level k + 2 ^ k * bits_of
    (not level) cells = grind arith in
    rw (← swap, e) h

digit : Bool → ℕ
digit true = 1
digit false = 0

next_parity : (level : Bool) (n : ℕ) (after : Bool) → (digit (not level) + n) % 2 ≡ digit after
    → (digit level + (n + 1)) % 2 ≡ digit after
unfolding digit
next_parity true n after e = omega (arith, e)
next_parity false n after e = omega (arith, e)

parity_of_runs : (level : Bool) (cells : List ℕ) → (digit level + length cells) % 2 ≡ digit (level_after level cells)
unfolding digit
parity_of_runs true [] = refl
parity_of_runs false [] = refl
parity_of_runs level (k ∷ cells) =
    let h = next_parity level (length cells) (level_after (not level) cells) (parity_of_runs (not level) cells) in
    let e : length (k ∷ cells) ≡ length cells + 1 = omega arith in
    rw e h

-- after an odd number of runs the level is low
pub odd_runs : (cells : List ℕ) → level_after true cells ≡ false → length cells % 2 ≡ 1
unfolding digit
odd_runs cells low = let h = parity_of_runs true cells in let h' : (1 + length cells) % 2 ≡ digit false = rw low at h in
    omega (arith, h')
