-- The lowest bits of one level are a run and the rest is less, so the runs of bits are all of them, and stand for the
-- bits.
use Rattle.std.proofs.Common.{◌≡◌, ℕ, zero, suc, ◌+◌, ◌-◌, ◌*◌, ◌/◌, ◌%◌, ◌^◌, ◌<◌, ◌≤◌, Bool, true, false, not, List}
use Rattle.std.proofs.Common.{[], ◌∷◌, length, refl, sym}
use Rattle.std.proofs.Common.{arith, inl, inr}
use Rattle.std.specs.Prelude.{◌↔◌, ◌==◌, if◌then◌else◌}
use Rattle.std.proofs.Math.Nat.{pow-le-pow_right}
use Rattle.std.proofs.lemmas.Bool.{cases_lt, eqb-true, eqb-false}
use Rattle.std.proofs.lemmas.Nat.{pow-add, shr_split, mul-le}
use Rattle.vitc_reader.specs.Runs.{MayBeLine, StandFor, HaveCells, bits_of, bits_of_run, runs_from, total}
use Rattle.vitc_reader.specs.Written.{run_length, cells_in, runs_in}
use Rattle.vitc_reader.proofs.BitsOfCells.{level_after, odd_runs}
use Rattle.vitc_reader.proofs.LevelOfARun.{ones_level, zeros_level, not_odd}
use Rattle.vitc_reader.proofs.WrittenSoFar.{runs_are_cells, few_runs, turned, ended}

-- a run at the bottom of bits, and the level of what is above it
pub record Run (level : Bool) (bits k : ℕ) : Type 0 where
  pub least : 1 ≤ k
  pub run : bits % 2 ^ k ≡ bits_of_run level k
  pub some : 2 ^ (k - 1) ≤ bits
  pub change : (bits / 2 ^ k % 2 ≡ 1) ↔ (level ≡ false)

run_at : (level : Bool) (bits : ℕ) → bits < 2 ^ 90 → 1 ≤ bits → ((bits % 2 ≡ 1) ↔ (level ≡ true))
    → Run level bits (run_length level bits)
run_at true bits width some parity =
    let h = ones_level bits width (parity.1 refl) in
    let z = h.1 in
    record {
      least = h.0.least;
      run = h.0.run;
      some = h.0.some;
      change =
          (λ one. absurd (omega (arith, one, z)), λ e. absurd cc);
    }
run_at false bits width some parity =
    let h = zeros_level bits width some (not_odd bits (λ odd. let e : false ≡ true = parity.0 odd in absurd cc)) in
    record { least = h.0.least; run = h.0.run; some = h.0.some; change = (λ one. refl, λ e. h.1) }

-- what the runs of bits are
pub record RunsOf (level : Bool) (bits most : ℕ) (cells : List ℕ) : Type 0 where
  pub have : HaveCells cells
  pub value : bits_of level cells ≡ bits
  pub few : total cells ≤ most
  pub low : level_after level cells ≡ false

no_bits : (level : Bool) (bits most : ℕ) → bits ≡ 0 → (bits ≡ 0 → level ≡ false) → RunsOf level bits most []
no_bits level bits most none low = record { have = tt; value = sym none; few = omega arith; low = low none }

-- the run is within the bits that are left
within : (bits m k : ℕ) → bits < 2 ^ m → 1 ≤ k → 2 ^ (k - 1) ≤ bits → k ≤ m
within bits m k width least some =
    elim (cases_lt m k) [
      | inl lt ↦ let h = pow-le-pow_right {n = 2} (omega arith) {i = m} {j = k - 1} (omega (arith, lt)) in
          absurd (omega (arith, h, width, some))
      | inr le ↦ le
    ]

-- and what is above it is less
above_less : (bits m k : ℕ) → bits < 2 ^ m → k ≤ m → bits / 2 ^ k < 2 ^ (m - k)
above_less bits m k width le =
    elim (cases_lt (bits / 2 ^ k) (2 ^ (m - k))) [
      | inl lt ↦ lt
      | inr more ↦
          let e = pow-add 2 (m - k) k in
          let f : m - k + k ≡ m = omega (arith, le) in
          let whole : 2 ^ m ≡ 2 ^ (m - k) * 2 ^ k = rw f at e in
          let far : 2 ^ (m - k) * 2 ^ k ≤ bits / 2 ^ k * 2 ^ k = mul-le (2 ^ (m - k)) (2 ^ k) (bits / 2 ^ k) (2 ^ k)
          more (omega arith) in
          let split = shr_split bits (k) in
          absurd (omega (arith, whole, far, split, width))
    ]

joined : (low high k bits run tail : ℕ) → high * 2 ^ k + low ≡ bits → low ≡ run → tail ≡ high
    → run + 2 ^ k * tail ≡ bits
joined low high k bits run tail split same is = rw (is, ← same, ← split) (grind arith)

by_bits : (fuel m : ℕ) (level : Bool) (bits : ℕ) (none : Bool) → (bits == 0) ≡ none → bits < 2 ^ m → m ≤ suc fuel
    → m ≤ 90
    → (1 ≤ bits → ((bits % 2 ≡ 1) ↔ (level ≡ true))) → (bits ≡ 0 → level ≡ false)
    → ((l : Bool) (n b : ℕ) → b < 2 ^ n → n ≤ fuel → n ≤ 90 → (1 ≤ b → ((b % 2 ≡ 1) ↔ (l ≡ true))) → (b ≡ 0 → l ≡ false)
    → RunsOf l b n (cells_in fuel l b))
    → RunsOf level bits m
    (if none then [] else run_length level bits ∷ cells_in fuel (not level) (bits / 2 ^ run_length level bits))
by_bits fuel m level bits true is width enough few parity low later = no_bits level bits m (eqb-true bits 0 is) low
by_bits fuel m level bits false is width enough few parity low later =
    let not_none = eqb-false bits 0 is in
    let some : 1 ≤ bits = elim (cases_lt bits 1) [ inl lt ↦ absurd (not_none (omega (arith, lt))) | inr le ↦ le ] in
    let k = run_length level bits in
    let wide = pow-le-pow_right {n = 2} (omega arith) {i = m} {j = 90} few in
    let r = run_at level bits (omega (arith, width, wide)) some (parity some) in
    let least = r.least in
    let le = within bits m k width least r.some in
    let rest = bits / 2 ^ k in
    let t = later (not level) (m - k) rest (above_less bits m k width le) (omega (arith, enough, least))
    (omega (arith, few))
    (λ _. turned rest level r.change) (ended rest level r.change) in
    let tail = t.few in
    record {
      have = (least, t.have);
      value = joined (bits % 2 ^ k) rest k bits (bits_of_run level k)
          (bits_of (not level) (cells_in fuel (not level) rest)) (shr_split bits k) r.run t.value;
      few = omega (arith, tail, le);
      low = t.low;
    }

runs_of_bits : (fuel m : ℕ) (level : Bool) (bits : ℕ) → bits < 2 ^ m → m ≤ fuel → m ≤ 90
    → (1 ≤ bits → ((bits % 2 ≡ 1) ↔ (level ≡ true)))
    → (bits ≡ 0 → level ≡ false)
    → RunsOf level bits m (cells_in fuel level bits)
unfolding cells_in
runs_of_bits zero m level bits width enough few parity low =
    let e : m ≡ 0 = omega (arith, enough) in
    let width' : bits < 2 ^ 0 = rw e at width in
    no_bits level bits m (omega (arith, width')) low
runs_of_bits (suc fuel) m level bits width enough few parity low =
    by_bits fuel m level bits (bits == 0) refl width enough few parity low (λ l n b. runs_of_bits fuel n l b)

all_runs : (bits : ℕ) → bits < 2 ^ 90 → bits % 2 ≡ 1 → RunsOf true bits 90 (cells_in 90 true bits)
all_runs bits width odd = runs_of_bits 90 90 true bits width (omega arith) (omega arith) (λ _. (λ e. refl, λ e. odd))
    (λ none. absurd (omega (arith, odd, none)))

runs_number : (n at : ℕ) (cells : List ℕ) → length (runs_from n at cells) ≡ length cells
runs_number n at [] = refl
runs_number n at (k ∷ cells) = let h = runs_number n (at + k) cells in omega (arith, h)

pub may_be_line : (n bits : ℕ) → bits < 2 ^ 90 → bits % 2 ≡ 1 → MayBeLine (runs_in n bits)
may_be_line n bits width odd =
    let r = all_runs bits width odd in
    let cells = cells_in 90 true bits in
    let number = runs_number n 0 cells in
    let odd_number = odd_runs cells r.low in
    let few = few_runs cells r.have in
    let within = r.few in
    (rw number odd_number, omega (arith, number, odd_number, few, within))

pub stand : (n bits : ℕ) → 460 ≤ n → bits < 2 ^ 90 → bits % 2 ≡ 1 → StandFor n (runs_in n bits) bits
stand n bits least width odd =
    let r = all_runs bits width odd in
    (cells_in 90 true bits, runs_are_cells n 0 (cells_in 90 true bits) least r.have, r.few, sym r.value)
