-- A run of even ones of a tape is one of its cells as they are found, if it has room for the delay: each interval is
-- wrong by a delay at most.
use Rattle.std.proofs.Common.{◌≡◌, ℕ, ◌+◌, ◌-◌, ◌*◌, ◌≤◌, List, [], ◌∷◌, ◌++◌, length, refl, ap, subst, ◌∙◌, arith}
use Rattle.std.specs.List.{AllByRecursion}
use Rattle.biphase.specs.declared.cell.Cell.{Cell}
use Rattle.biphase.specs.declared.cell.Cell.TheVariants.{Zero, One}
use Rattle.cell_tracker.specs.EvenRun.{AreEvenOnes, IsEvenHalf, IsEvenRun, IsEvenZero}
use Rattle.tape_sound.specs.EvenTape.{AreEvenOnesFor, IsEvenRunFor}
use Rattle.tape_sound.specs.Late.{AreFoundAs}
use Rattle.tape_sound.proofs.FitsAFile.{found_many}

-- ---- the parts of a tape, as they are found

record Split (delay first : ℕ) (front back cells : List Cell) : Type 0 where
  one : List Cell
  two : List Cell
  late : ℕ
  small : late ≤ delay
  are : cells ≡ one ++ two
  long : length one ≡ length front
  found_front : AreFoundAs delay first front one
  found_back : AreFoundAs delay late back two

split_found : (delay first : ℕ) (front back cells : List Cell) → first ≤ delay
    → AreFoundAs delay first (front ++ back) cells → Split delay first front back cells
split_found delay first [] back cells early found = record {
  one = [];
  two = cells;
  late = first;
  small = early;
  are = refl;
  long = refl;
  found_front = tt;
  found_back = found;
}
split_found delay first (cell ∷ front) back [] early found = absurd found
split_found delay first (cell ∷ front) back (x ∷ cells) early found =
    let more = split_found delay found.0 front back cells found.1 found.3 in
    let long = more.long in
    record {
      one = x ∷ more.one;
      two = more.two;
      late = more.late;
      small = more.small;
      are = ap (λ (l : List Cell). x ∷ l) more.are;
      long = omega (arith, long);
      found_front = (found.0, found.1, found.2, more.found_front);
      found_back = more.found_back;
    }

-- a zero of the tape is found as a zero
record ZeroFirst (delay first c : ℕ) (tape cells : List Cell) : Type 0 where
  x : ℕ
  more : List Cell
  late : ℕ
  small : late ≤ delay
  are : cells ≡ Zero x ∷ more
  lasts : c + late ≡ first + x
  found : AreFoundAs delay late tape more

zero_first : (delay first c : ℕ) (tape cells : List Cell) → AreFoundAs delay first (Zero c ∷ tape) cells
    → ZeroFirst delay first c tape cells
zero_first delay first c tape [] found = absurd found
zero_first delay first c tape (One x y ∷ cells) found = absurd found.2
zero_first delay first c tape (Zero x ∷ cells) found = record {
  x = x;
  more = cells;
  late = found.0;
  small = found.1;
  are = refl;
  lasts = found.2;
  found = found.3;
}

-- ---- each interval

half_found : (delay even first last a x : ℕ) → first ≤ delay → last ≤ delay → a + last ≡ first + x
    → IsEvenHalf even (a - delay) → IsEvenHalf even (a + delay) → IsEvenHalf even x
half_found delay even first last a x early late is short long =
    (omega (arith, early, late, is, short.0), omega (arith, early, late, is, long.1))

whole_found : (delay even first last c x : ℕ) → first ≤ delay → last ≤ delay → c + last ≡ first + x
    → IsEvenZero even (c - delay) → IsEvenZero even (c + delay) → IsEvenZero even x
whole_found delay even first last c x early late is short long =
    (omega (arith, early, late, is, short.0), omega (arith, early, late, is, long.1))

ones_found : (delay first even : ℕ) (ones cells : List Cell) → first ≤ delay → AreFoundAs delay first ones cells
    → AreEvenOnesFor delay even ones → AreEvenOnes even cells
ones_found delay first even [] [] early found are = tt
ones_found delay first even [] (x ∷ cells) early found are = absurd found
ones_found delay first even (Zero c ∷ ones) cells early found are = absurd are
ones_found delay first even (One a b ∷ ones) [] early found are = absurd found
ones_found delay first even (One a b ∷ ones) (Zero x ∷ cells) early found are = absurd found.2
ones_found delay first even (One a b ∷ ones) (One x y ∷ cells) early found are =
    let middle = found.2 in (
      half_found delay even first middle.0 a x early middle.1 middle.2 are.0 are.1,
      half_found delay even middle.0 found.0 b y middle.1 found.1 middle.3 are.2 are.3,
      ones_found delay found.0 even ones cells found.1 found.3 are.4,
    )

-- ---- the run

pub even_found : (delay first : ℕ) (tape cells : List Cell) (intervals : List ℕ) (cut end : ℕ) → first ≤ delay
    → AreFoundAs delay first tape cells → IsEvenRunFor delay intervals tape cut end → IsEvenRun intervals cells cut end
even_found delay first tape cells intervals cut end early found run =
    let rest : List Cell = run.ones ++ Zero run.whole ∷ run.after in
    let found_too : AreFoundAs delay first (run.before ++ (Zero run.first ∷ rest)) cells =
    subst (λ (t : List Cell). AreFoundAs delay first t cells) run.are found in
    let front = split_found delay first run.before (Zero run.first ∷ rest) cells early found_too in
    let zero = zero_first delay front.late run.first rest front.two front.found_back in
    let ones = split_found delay zero.late run.ones (Zero run.whole ∷ run.after) zero.more zero.small zero.found in
    let last = zero_first delay ones.late run.whole run.after ones.two ones.found_back in
    let before_long = found_many delay first run.before front.one front.found_front in
    let ones_long = found_many delay zero.late run.ones ones.one ones.found_front in
    let many = run.many in
    let long = ones.long in
    let within = run.within in
    let place = run.place in
    record {
      before = front.one;
      first = zero.x;
      ones = ones.one;
      whole = last.x;
      after = last.more;
      are = front.are
          ∙ ap (λ (l : List Cell). front.one ++ l)
          (zero.are ∙ ap (λ (l : List Cell). Zero zero.x ∷ l)
          (ones.are ∙ ap (λ (l : List Cell). ones.one ++ l) last.are));
      many = omega (arith, many, long);
      within = omega (arith, within, before_long);
      place = omega (arith, place, before_long, ones_long);
      inside = run.inside;
      even = run.even;
      some = run.some;
      even_ones = ones_found delay zero.late run.even run.ones ones.one zero.small ones.found_front run.even_ones;
      even_whole = whole_found delay run.even ones.late last.late run.whole last.x ones.small last.small last.lasts
          run.even_whole.0 run.even_whole.1;
    }

-- ---- ones without drift

-- a half, a delay shorter and a delay longer
exact_half : (half delay a : ℕ) → 16 * delay ≤ half → a ≡ half
    → IsEvenHalf (2 * half) (a - delay) × IsEvenHalf (2 * half) (a + delay)
exact_half half delay a room is =
    ((omega (arith, room, is), omega (arith, room, is)), (omega (arith, room, is), omega (arith, room, is)))

pub even_ones : (half delay : ℕ) (ones : List Cell) → 16 * delay ≤ half
    → AllByRecursion (λ (cell : Cell). cell ≡ One half half) ones → AreEvenOnesFor delay (2 * half) ones
even_ones half delay [] room are = tt
even_ones half delay (Zero x ∷ ones) room are = let same = are.0 in absurd cc
even_ones half delay (One a b ∷ ones) room are =
    let same = are.0 in
    let first : a ≡ half = cc in
    let second : b ≡ half = cc in
    let one = exact_half half delay a room first in
    let two = exact_half half delay b room second in
    (one.0, one.1, two.0, two.1, even_ones half delay ones room are.1)
