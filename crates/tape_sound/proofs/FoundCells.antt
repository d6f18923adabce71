-- The distances of the moments at which a tape is heard are the intervals of its cells, as they are found: these keep
-- the tolerance, and have the bits of the tape.
use Rattle.std.proofs.Common.{◌≡◌, ℕ, ◌+◌, ◌-◌, ◌*◌, ◌≤◌, List, [], ◌∷◌, refl, ap, sym, arith}
use Rattle.biphase.specs.declared.cell.Cell.{Cell}
use Rattle.biphase.specs.declared.cell.Cell.TheVariants.{Zero, One}
use Rattle.biphase.specs.declared.profile.Profile.{Profile}
use Rattle.biphase.specs.Chain.{flat, IsChain}
use Rattle.pcm_front.specs.Distance.{gaps, gaps_after}
use Rattle.tape_sound.specs.Heard.{transitions, transitions_after, AreFoundCells, LastTwoDelays}
use Rattle.tape_sound.specs.Late.{drift_from, AreFoundAs, IsSteady, Outlasts}
use Rattle.tape_sound.specs.Margin.{ComeWithin}
use Rattle.tape_sound.proofs.FoundIsAChain.{found_is_a_chain}
use Rattle.tape_sound.proofs.LastsLong.{half_drift, lasts, steady_rest}

-- cells that are found, with the first transition `first` ticks late, and at a moment
record Found (delay first moment : ℕ) (tape : List Cell) (moments : List ℕ) : Type 0 where
  cells : List Cell
  are : AreFoundAs delay first tape cells
  same : flat cells ≡ gaps_after moment moments

-- the next transition, at the tick t + c, is found at a later moment
record FoundNext (delay tick first moment c next : ℕ) : Type 0 where
  late : next - (tick + c) ≤ delay
  same : c + (next - (tick + c)) ≡ first + (next - moment)
  there : next ≡ (tick + c) + (next - (tick + c))

found_next : (delay tick first moment c next : ℕ) → first ≤ delay → moment ≡ tick + first → 2 * delay ≤ c
    → tick + c ≤ next → next ≤ (tick + c) + delay → FoundNext delay tick first moment c next
found_next delay tick first moment c next early here long low high =
    record { late = omega arith; same = omega arith; there = omega arith }

found_cells : (delay tick first moment : ℕ) (tape : List Cell) (moments : List ℕ) → first ≤ delay
    → moment ≡ tick + first → LastTwoDelays delay tape
    → ComeWithin delay (transitions_after tick (flat tape)) moments → Found delay first moment tape moments
found_cells delay tick first moment [] [] early here long within = record { cells = []; are = tt; same = refl }
found_cells delay tick first moment [] (next ∷ moments) early here long within = absurd within
found_cells delay tick first moment (Zero c ∷ tape) [] early here long within = absurd within
found_cells delay tick first moment (One a b ∷ tape) [] early here long within = absurd within
found_cells delay tick first moment (One a b ∷ tape) (next ∷ []) early here long within = absurd within.2
found_cells delay tick first moment (Zero c ∷ tape) (next ∷ moments) early here long within =
    let is = found_next delay tick first moment c next early here long.0 within.0 within.1 in
    let rest = found_cells delay (tick + c) (next - (tick + c)) next tape moments is.late is.there long.1 within.2 in
    record {
      cells = Zero (next - moment) ∷ rest.cells;
      are = (next - (tick + c), is.late, is.same, rest.are);
      same = ap (λ (l : List ℕ). (next - moment) ∷ l) rest.same;
    }
found_cells delay tick first moment (One a b ∷ tape) (middle ∷ next ∷ moments) early here long within =
    let one = found_next delay tick first moment a middle early here long.0 within.0 within.1 in
    let two = found_next delay (tick + a) (middle - (tick + a)) middle b next one.late one.there long.1.0 within.2.0
    within.2.1 in
    let rest = found_cells delay ((tick + a) + b) (next - ((tick + a) + b)) next tape moments two.late two.there
    long.1.1 within.2.2 in
    record {
      cells = One (middle - moment) (next - middle) ∷ rest.cells;
      are = (next - ((tick + a) + b), two.late, (middle - (tick + a), one.late, one.same, two.same), rest.are);
      same = ap (λ (l : List ℕ). (middle - moment) ∷ (next - middle) ∷ l) rest.same;
    }

-- ---- each interval of a steady tape lasts two delays or more

halves_long : (profile : Profile) (delay before a b : ℕ) → Outlasts profile delay (drift_from before (One a b)) (a + b)
    → (2 * delay ≤ a) × (2 * delay ≤ b)
halves_long profile delay before a b long =
    let drift = half_drift before a b in
    let ten = lasts profile delay (drift_from before (One a b)) (a + b) long in
    (omega (arith, ten, drift.1), omega (arith, ten, drift.0))

last_two_delays : (profile : Profile) (delay : ℕ) (tape : List Cell) → IsSteady profile delay tape
    → LastTwoDelays delay tape
last_two_delays profile delay [] steady = tt
last_two_delays profile delay (Zero c ∷ tape) steady =
    let ten = lasts profile delay (drift_from c (Zero c)) c steady.0 in
    (omega (arith, ten), last_two_delays profile delay tape (steady_rest profile delay c tape steady.1))
last_two_delays profile delay (One a b ∷ tape) steady =
    let long = halves_long profile delay (a + b) a b steady.0 in
    (long.0, (long.1, last_two_delays profile delay tape (steady_rest profile delay (a + b) tape steady.1)))

-- ---- all moments of a tape

-- all of a tape that is heard: the distances are the intervals of its cells, as they are found
pub record HeardWhole (profile : Profile) (delay start : ℕ) (tape : List Cell) (moments : List ℕ) : Type 0 where
  pub late : ℕ
  pub more : List ℕ
  pub begin : moments ≡ (start + late) ∷ more
  pub small : late ≤ delay
  pub cells : List Cell
  pub are : AreFoundAs delay late tape cells
  pub chain : IsChain profile cells
  pub same : flat cells ≡ gaps moments

pub heard_whole : (profile : Profile) (delay start : ℕ) (tape : List Cell) (moments : List ℕ)
    → IsSteady profile delay tape → ComeWithin delay (transitions start tape) moments
    → HeardWhole profile delay start tape moments
heard_whole profile delay start tape [] steady within = absurd within
heard_whole profile delay start tape (moment ∷ moments) steady within =
    let small : moment - start ≤ delay = omega (arith, within.1) in
    let here : moment ≡ start + (moment - start) = omega (arith, within.0) in
    let found = found_cells delay start (moment - start) moment tape moments small here
    (last_two_delays profile delay tape steady) within.2 in
    record {
      late = moment - start;
      more = moments;
      begin = ap (λ (m : ℕ). m ∷ moments) here;
      small = small;
      cells = found.cells;
      are = found.are;
      chain = found_is_a_chain profile delay (moment - start) tape found.cells small steady found.are;
      same = found.same;
    }

-- the same of any tape whose intervals last two delays or more
pub found_whole : (delay start : ℕ) (tape : List Cell) (moments : List ℕ) → LastTwoDelays delay tape
    → ComeWithin delay (transitions start tape) moments → AreFoundCells delay tape (gaps moments)
found_whole delay start tape [] long within = absurd within
found_whole delay start tape (moment ∷ moments) long within =
    let small : moment - start ≤ delay = omega (arith, within.1) in
    let here : moment ≡ start + (moment - start) = omega (arith, within.0) in
    let found = found_cells delay start (moment - start) moment tape moments small here long within.2 in
    record {
      first = moment - start;
      small = small;
      cells = found.cells;
      are = found.are;
      same = sym found.same;
    }
