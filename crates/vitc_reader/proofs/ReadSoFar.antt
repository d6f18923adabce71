-- The runs so far have one list of cells, and the bits so far are its bits. So the first run that can't be
-- taken is where no list goes on.
use Rattle.std.proofs.Common.{◌≡◌, ℕ, suc, ◌+◌, ◌*◌, ◌^◌, ◌<◌, ◌≤◌, Bool, true, not, List, [], ◌∷◌, ◌++◌, length, take}
use Rattle.std.proofs.Common.{drop, get_or}
use Rattle.std.proofs.Common.{refl, sym, ap, ◌∙◌, arith}
use Rattle.std.proofs.Math.Nat.{pow-le-pow_right}
use Rattle.std.proofs.lemmas.List.{take_more, take_all, length-take-le}
use Rattle.vitc_reader.specs.declared.fault.RunFault.TheVariants.{Run, TooLong}
use Rattle.vitc_reader.specs.Runs.{total, bits_of_run, bits_of, IsCells, AreCells, StandFor, AreGoodUpTo, IsRunFault}
use Rattle.vitc_reader.proofs.BitsOfCells.{level_after, level_after-last, bits_of-last, bits_of_below}
use Rattle.vitc_reader.proofs.WholeCells.{one_list, one_number, AreCells-last, Cut, cut, total-append, at_place}

-- the first i runs have these cells, and these bits
pub record ReadSoFar (n : ℕ) (runs : List ℕ) (i bits cells : ℕ) (is_high : Bool) : Type 0 where
  pub list : List ℕ
  pub read : AreCells n (take i runs) list
  pub all : total list ≡ cells
  pub few : cells ≤ 90
  pub value : bits ≡ bits_of true list
  pub level : is_high ≡ level_after true list

pub read_more : (n : ℕ) (runs : List ℕ) (i bits cells more : ℕ) (is_high : Bool) → ReadSoFar n runs i bits cells is_high
    → i < length runs
    → IsCells n (get_or runs i 0) more → cells + more ≤ 90
    → ReadSoFar n runs (i + 1) (bits + bits_of_run is_high more * 2 ^ cells) (cells + more) (not is_high)
read_more n runs i bits cells more is_high s lt here few =
    let read = AreCells-last n (take i runs) s.list (get_or runs i 0) more s.read here in
    let value = bits_of-last true s.list more in
    let all = total-append s.list (more ∷ []) in
    let sum = s.all in
    record {
      list = s.list ++ more ∷ [];
      read = rw (take_more runs i 0 lt) read;
      all = omega (arith, all, sum);
      few = few;
      value = rw (value, ← s.value, ← s.level, s.all) refl;
      level = rw (s.level, level_after-last true s.list more) refl;
    }

-- bits so far are below the cells so far
pub bits_below : (n : ℕ) (runs : List ℕ) (i bits cells : ℕ) (is_high : Bool) → ReadSoFar n runs i bits cells is_high
    → bits < 2 ^ cells
bits_below n runs i bits cells is_high s = rw (s.value, ← s.all) (bits_of_below true s.list)

pub below_ninety : (bits cells : ℕ) → bits < 2 ^ cells → cells ≤ 90 → bits < 2 ^ 90
below_ninety bits cells below few = omega (arith, pow-le-pow_right {n = 2} (omega arith) few)

-- all runs are read
pub stands : (n : ℕ) (runs : List ℕ) (i bits cells : ℕ) (is_high : Bool) → ReadSoFar n runs i bits cells is_high
    → length runs ≤ i → StandFor n runs bits
stands n runs i bits cells is_high s end =
    let read : AreCells n runs s.list = rw (take_all i runs end) at s.read in
    (s.list, read, rw (← s.all) at s.few, s.value)

-- and they stand for no other bits
pub only : (n : ℕ) (runs : List ℕ) (a b : ℕ) → 1 ≤ n → StandFor n runs a → StandFor n runs b → a ≡ b
only n runs a b some p q = p.3 ∙ ap (bits_of true) (one_list n runs p.0 q.0 some p.1 q.1) ∙ sym q.3

pub good : (n : ℕ) (runs : List ℕ) (i bits cells : ℕ) (is_high : Bool) → ReadSoFar n runs i bits cells is_high
    → i < length runs → AreGoodUpTo n runs i
good n runs i bits cells is_high s lt = record {
  before = take i runs;
  run = get_or runs i 0;
  after = drop (suc i) runs;
  cells = s.list;
  split = at_place runs i 0 lt;
  place = length-take-le i runs (omega (arith, lt));
  read = s.read;
  fit = rw (← s.all) at s.few;
}

-- runs that stand for some bits have cells at this place too
cut_there : (n : ℕ) (runs : List ℕ) (i bits : ℕ) → i < length runs → (p : StandFor n runs bits)
    → Cut n (take i runs) (get_or runs i 0) (drop (suc i) runs) p.0
cut_there n runs i bits lt p = cut n (take i runs) (get_or runs i 0) (drop (suc i) runs) p.0
    (rw (at_place runs i 0 lt) at p.1)

pub no_cells : (n : ℕ) (runs : List ℕ) (i bits : ℕ) → i < length runs → ((k : ℕ) → IsCells n (get_or runs i 0) k → ⊥)
    → StandFor n runs bits → ⊥
no_cells n runs i bits lt none p = let c = cut_there n runs i bits lt p in none c.here c.here_read

over_ninety : (front_total here back_total all cells more : ℕ) → front_total ≡ cells → here ≡ more
    → all ≡ front_total + (here + back_total)
    → all ≤ 90 → 90 < cells + more → ⊥
over_ninety front_total here back_total all cells more a b e few over = omega arith

pub too_many : (n : ℕ) (runs : List ℕ) (i bits cells more other : ℕ) (is_high : Bool) → 1 ≤ n
    → ReadSoFar n runs i bits cells is_high → i < length runs
    → IsCells n (get_or runs i 0) more → 90 < cells + more → StandFor n runs other → ⊥
too_many n runs i bits cells more other is_high some s lt here over p =
    let c = cut_there n runs i other lt p in
    let front : c.front ≡ s.list = one_list n (take i runs) c.front s.list some c.front_read s.read in
    let same : c.here ≡ more = one_number n (get_or runs i 0) c.here more some c.here_read here in
    over_ninety (total c.front) c.here (total c.back) (total p.0) cells more (ap total front ∙ s.all) same
    (ap total c.split ∙ total-append c.front (c.here ∷ c.back)) p.2 over

pub run_fault : (n : ℕ) (runs : List ℕ) (i bits cells : ℕ) (is_high : Bool) → ReadSoFar n runs i bits cells is_high
    → i < length runs
    → ((k : ℕ) → IsCells n (get_or runs i 0) k → ⊥) → IsRunFault n runs (Run i)
unfolding good
run_fault n runs i bits cells is_high s lt none = (good n runs i bits cells is_high s lt, none)

pub too_long : (n : ℕ) (runs : List ℕ) (i bits cells more : ℕ) (is_high : Bool) → ReadSoFar n runs i bits cells is_high
    → i < length runs
    → IsCells n (get_or runs i 0) more → 90 < cells + more → IsRunFault n runs (TooLong i)
unfolding good
too_long n runs i bits cells more is_high s lt here over =
    (good n runs i bits cells is_high s lt, more, here, rw s.all over)
