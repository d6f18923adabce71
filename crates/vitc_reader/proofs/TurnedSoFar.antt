-- The bits so far, with the last run taken to be high: behind an even number of runs each of them is turned.
use Rattle.std.proofs.Common.{◌≡◌, ℕ, ◌+◌, ◌-◌, ◌*◌, ◌%◌, ◌^◌, ◌<◌, ◌≤◌, Bool, true, false, not, List, length, get_or}
use Rattle.std.proofs.Common.{refl, sym, ap, ◌∙◌, subst}
use Rattle.std.proofs.Common.{arith, Result, Ok, Err, IfOk}
use Rattle.std.specs.Result.{is_ok}
use Rattle.std.specs.Prelude.{bit_xor}
use Rattle.std.proofs.Math.Nat.{pow-le-pow_right}
use Rattle.std.proofs.lemmas.Nat.{pow-add, pow_pos}
use Rattle.vitc_reader.specs.declared.fault.RunFault.{RunFault}
use Rattle.vitc_reader.specs.declared.fault.RunFault.TheVariants.{Run, TooLong}
use Rattle.vitc_reader.specs.declared.reading.Turned.{Turned}
use Rattle.vitc_reader.specs.KeptLine.{IsTurnedBy, IsRefusedAt}
use Rattle.vitc_reader.specs.Runs.{bits_of_run, IsCells, IsRunFault, StandFor}
use Rattle.vitc_reader.proofs.XorOfOnes.{xor_ones}
use Rattle.vitc_reader.proofs.ReadSoFar.{ReadSoFar, bits_below, no_cells, read_more, run_fault, stands, too_long}
use Rattle.vitc_reader.proofs.ReadSoFar.{too_many}

abbrev pub turned : Bool → ℕ → ℕ → ℕ
turned true cells value = 2 ^ cells - 1 - value
turned false cells value = value

-- the next run is high behind an even number of them
abbrev pub IsNext : Bool → ℕ → Type 0
IsNext true i = i % 2 ≡ 0
IsNext false i = i % 2 ≡ 1

pub record TurnedSoFar (n : ℕ) (runs : List ℕ) (i bits cells : ℕ) : Type 0 where
  pub value : ℕ
  pub is_high : Bool
  pub so_far : ReadSoFar n runs i value cells is_high
  pub next : IsNext is_high i
  pub within : i ≤ length runs
  pub turned : bits ≡ turned is_high cells value

is_next : (level : Bool) (i : ℕ) → IsNext level i → IsNext (not level) (i + 1)
is_next true i e = omega (arith, e)
is_next false i e = omega (arith, e)

turned_round : (a b : ℕ) → a * b ≡ b * a
turned_round a b = grind arith

ones_moved : (cells more : ℕ) → (2 ^ more - 1) * 2 ^ cells + 2 ^ cells ≡ 2 ^ (cells + more)
ones_moved cells more =
    let p = pow-add 2 cells more in
    let some = pow_pos more in
    let whole : 2 ^ more - 1 + 1 ≡ 2 ^ more = omega (arith, some) in
    let e : (2 ^ more - 1) * 2 ^ cells + 2 ^ cells ≡ (2 ^ more - 1 + 1) * 2 ^ cells = grind arith in
    e ∙ ap (λ (x : ℕ). x * 2 ^ cells) whole ∙ turned_round (2 ^ more) (2 ^ cells) ∙ sym p

turn : (level : Bool) (cells more value bits : ℕ) → value < 2 ^ cells → bits ≡ turned level cells value
    → 2 ^ (cells + more) - 1 - bits ≡ turned (not level) (cells + more) (value + bits_of_run level more * 2 ^ cells)
turn true cells more value bits below e = let ones = ones_moved cells more in omega (arith, below, e, ones)
turn false cells more value bits below e = omega (arith, e)

pub turn_more : (n : ℕ) (runs : List ℕ) (i bits cells more : ℕ) → TurnedSoFar n runs i bits cells → i < length runs
    → IsCells n (get_or runs i 0) more → cells + more ≤ 90 → TurnedSoFar n runs (i + 1) (2 ^ (cells + more) - 1 - bits)
    (cells + more)
turn_more n runs i bits cells more t lt here few = record {
  value = t.value + bits_of_run t.is_high more * 2 ^ cells;
  is_high = not t.is_high;
  so_far = read_more n runs i t.value cells more t.is_high t.so_far lt here few;
  next = is_next t.is_high i t.next;
  within = omega (arith, lt);
  turned = turn t.is_high cells more t.value bits (bits_below n runs i t.value cells t.is_high t.so_far) t.turned;
}

-- bits so far are below the cells so far
turned_below : (level : Bool) (cells value : ℕ) → value < 2 ^ cells → turned level cells value < 2 ^ cells
turned_below true cells value below = omega (arith, below)
turned_below false cells value below = below

pub below : (n : ℕ) (runs : List ℕ) (i bits cells : ℕ) → TurnedSoFar n runs i bits cells → bits < 2 ^ cells
below n runs i bits cells t =
    subst (λ b. b < 2 ^ cells) (sym t.turned)
    (turned_below t.is_high cells t.value (bits_below n runs i t.value cells t.is_high t.so_far))

-- behind an odd number of runs none is turned
not_turned : (level : Bool) (i cells value : ℕ) → IsNext level i → i % 2 ≡ 1 → turned level cells value ≡ value
not_turned true i cells value next odd = absurd (omega (arith, next, odd))
not_turned false i cells value next odd = refl

pub turned_stands : (n : ℕ) (runs : List ℕ) (i bits cells : ℕ) → TurnedSoFar n runs i bits cells → length runs ≤ i
    → length runs % 2 ≡ 1 → StandFor n runs bits
turned_stands n runs i bits cells t end odd =
    let within = t.within in
    let last : i ≡ length runs = omega (arith, end, within) in
    let same : bits ≡ t.value = t.turned ∙ not_turned t.is_high i cells t.value t.next (rw last odd) in
    subst (λ b. StandFor n runs b) (sym same) (stands n runs i t.value cells t.is_high t.so_far end)

-- ---- ones

pub within_ones : (bits cells more : ℕ) → bits < 2 ^ cells → bits ≤ 2 ^ (cells + more) - 1
within_ones bits cells more small =
    let far : 2 ^ cells ≤ 2 ^ (cells + more) = pow-le-pow_right {n = 2} (omega arith) {i = cells} {j = cells + more}
    (omega arith) in
    omega (arith, small, far)

-- ---- one run more, as the code takes it or refuses it

pub turned_by : (n : ℕ) (runs : List ℕ) (i run : ℕ) (line next : Turned) → TurnedSoFar n runs i line.bits line.cells
    → i < length runs → run ≡ get_or runs i 0
    → IsTurnedBy n line run next → TurnedSoFar n runs (i + 1) next.bits next.cells
turned_by n runs i run line next t lt is by =
    let few : line.cells + by.0 ≤ 90 = rw by.2 at by.3 in
    rw (by.4, by.2) (turn_more n runs i line.bits line.cells by.0 t lt (rw is at by.1) few)

pub refused_at : (n : ℕ) (runs : List ℕ) (i run : ℕ) (line : Turned) (fault : RunFault)
    → TurnedSoFar n runs i line.bits line.cells → i < length runs
    → run ≡ get_or runs i 0 → IsRefusedAt n line run i fault → IsRunFault n runs fault
refused_at n runs i run line (Run j) t lt is no_run =
    rw no_run.0 (run_fault n runs i t.value line.cells t.is_high t.so_far lt (rw is at no_run.1))
refused_at n runs i run line (TooLong j) t lt is too_far =
    rw too_far.0 (too_long n runs i t.value line.cells too_far.1 t.is_high t.so_far lt (rw is at too_far.2) too_far.3)

pub not_read : (n : ℕ) (runs : List ℕ) (i run : ℕ) (line : Turned) (fault : RunFault) (bits : ℕ) → 1 ≤ n
    → TurnedSoFar n runs i line.bits line.cells
    → i < length runs → run ≡ get_or runs i 0 → IsRefusedAt n line run i fault → StandFor n runs bits → ⊥
not_read n runs i run line (Run j) bits some t lt is no_run stand = no_cells n runs i bits lt (rw is at no_run.1) stand
not_read n runs i run line (TooLong j) bits some t lt is too_far stand =
    too_many n runs i t.value line.cells too_far.1 bits t.is_high some t.so_far lt (rw is at too_far.2) too_far.3 stand

-- what is said of a success that a test decides
pub told_success : {P : ℕ → Type 0} (result : Result ℕ RunFault) (is_read : Bool) → is_read ≡ is_ok result
    → IfOk result P → is_read ≡ true
    → (bits : ℕ) × P bits
told_success (Ok bits) is_read is says yes_it_is = (bits, says)
told_success (Err fault) is_read is says yes_it_is = absurd cc

pub turned_bits : (bits cells more ones : ℕ) → bits < 2 ^ cells → ones ≡ 2 ^ (cells + more) - 1
    → bit_xor bits ones ≡ 2 ^ (cells + more) - 1 - bits
turned_bits bits cells more ones small is =
    let some = pow_pos (cells + more) in
    let within = within_ones bits cells more small in
    rw is (xor_ones (cells + more) bits (omega (arith, some, within)))
