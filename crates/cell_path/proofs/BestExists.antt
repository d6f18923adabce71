-- Each sound has best paths: each is tried as the numbers are, length by length and way by way, behind fewer steps.
use Rattle.std.proofs.Common.{◌≡◌, ℕ, zero, suc, ◌+◌, ◌*◌, ◌<◌, ◌≤◌, ℤ, ◌+ℤ◌, ◌-ℤ◌, ◌≤ℤ◌, ◌<ℤ◌, ◌⊎◌, inl, inr, pos}
use Rattle.std.proofs.Common.{◌-◌, List, [], ◌∷◌, length, refl, subst, arith}
use Rattle.std.proofs.lemmas.Int.{ints}
use Rattle.cell_path.specs.declared.cell.Bit.{Bit}
use Rattle.cell_path.specs.declared.cell.Bit.TheVariants.{Zero, One}
use Rattle.cell_path.specs.declared.cell.Cell.{Cell}
use Rattle.cell_path.specs.declared.cell.Sign.{Sign}
use Rattle.cell_path.specs.declared.cell.Sign.TheVariants.{Plus, Minus}
use Rattle.cell_path.specs.declared.cell.Step.{Step}
use Rattle.cell_path.specs.declared.cell.Way.{Way}
use Rattle.cell_path.specs.declared.cell.Way.TheVariants.{Same, Shorter, Longer, Jump}
use Rattle.cell_path.specs.declared.lengths.TheConstants.{LENGTHS, JUMP}
use Rattle.cell_path.specs.Best.{rank_of_way, IsBestOfAll}
use Rattle.cell_path.specs.Four.{low}
use Rattle.cell_path.specs.Lengths.{length_in}
use Rattle.cell_path.specs.Number.{score_before, IsBeginning, IsBestEnd, IsEnd}
use Rattle.cell_path.specs.Path.{level_at, signed, sign_before, sound_in}
use Rattle.cell_path.specs.Trying.{end_number, IsBestBefore, IsBestBelow, IsBestOfWay}
use Rattle.cell_path.proofs.BestBeginning.{all_tried, jump_best, longer_best, none_longer, none_shorter, same_best}
use Rattle.cell_path.proofs.BestBeginning.{shorter_best, way_comes, way_fails, way_stays}
use Rattle.cell_path.proofs.BestEnd.{one_ends, zero_ends}
use Rattle.cell_path.proofs.BestOfAll.{best_comes, best_of_all, best_stays, first_is_best}
use Rattle.cell_path.proofs.EndOfSteps.{older}
use Rattle.cell_path.proofs.LengthsOfCells.{length_bounds}
use Rattle.cell_path.proofs.NextStep.{empty_beginning}

-- there is a best path that ends so
record SomeEnd (steps : List Step) (place : ℕ) (sign : Sign) : Type 0 where
  number : ℤ
  bit : Bit
  is : IsEnd LENGTHS steps place sign number bit

-- of those in the first `most` ends
record SomeBelow (steps : List Step) (most : ℕ) : Type 0 where
  place : ℕ
  sign : Sign
  number : ℤ
  is : IsBestBelow LENGTHS steps most place sign number

-- of all
record SomeBest (steps : List Step) : Type 0 where
  place : ℕ
  sign : Sign
  number : ℤ
  is : IsBestEnd LENGTHS steps place sign number

-- there is a best beginning `ago` steps ago
record SomeBeginning (steps : List Step) (ago place : ℕ) (sign : Sign) : Type 0 where
  number : ℤ
  way : Way
  is : IsBeginning LENGTHS steps ago place sign number way

-- of the first `most` ways
record SomeWay (steps : List Step) (most place : ℕ) (sign : Sign) : Type 0 where
  number : ℤ
  way : Way
  is : IsBestBefore LENGTHS steps most place sign number way

abbrev HaveEnds : List Step → Type 0
HaveEnds steps = (place : ℕ) (sign : Sign) → place < 45 → SomeEnd steps place sign

abbrev Begin : List Step → Type 0
Begin steps = (ago place : ℕ) (sign : Sign) → place < 45 → SomeBeginning steps ago place sign

pub below_or_above : (a b : ℤ) → (b ≤ℤ a) ⊎ (a <ℤ b)
below_or_above a b = grind (arith, ints)

-- ---- the best of all ends

more_end : (steps : List Step) (place : ℕ) (sign : Sign) → SomeEnd steps place sign
    → SomeBelow steps (end_number place sign) → SomeBelow steps (end_number place sign + 1)
more_end steps place sign end best = elim (below_or_above best.number end.number) [
  | inl below ↦ record {
    place = best.place;
    sign = best.sign;
    number = best.number;
    is = best_stays LENGTHS steps best.place best.sign best.number place sign end.number end.bit best.is end.is below;
  }
  | inr above ↦ record {
    place = place;
    sign = sign;
    number = end.number;
    is = best_comes LENGTHS steps best.place best.sign best.number place sign end.number end.bit best.is end.is above;
  }
]

counted : (steps : List Step) (m n : ℕ) → m ≡ n → SomeBelow steps m → SomeBelow steps n
counted steps m n same best = subst (SomeBelow steps) same best

-- the ends of `more` lengths and one more
so_many : (steps : List Step) → HaveEnds steps → (more : ℕ) → more < 45 → SomeBelow steps (2 * suc more)
so_many steps ends zero within =
    let plus = ends 0 Plus within in
    let first : SomeBelow steps 1 = record {
      place = 0;
      sign = Plus;
      number = plus.number;
      is = first_is_best LENGTHS steps plus.number plus.bit plus.is;
    } in
    counted steps (end_number 0 Minus + 1) (2 * suc zero) (omega arith) (more_end steps 0 Minus (ends 0 Minus within)
    (counted steps 1 (end_number 0 Minus) (omega arith) first))
so_many steps ends (suc more) within =
    let before = so_many steps ends more (omega arith) in
    let plus = more_end steps (suc more) Plus (ends (suc more) Plus within)
    (counted steps (2 * suc more) (end_number (suc more) Plus) (omega arith) before) in
    let minus = more_end steps (suc more) Minus (ends (suc more) Minus within)
    (counted steps (end_number (suc more) Plus + 1) (end_number (suc more) Minus) (omega arith) plus) in
    counted steps (end_number (suc more) Minus + 1) (2 * suc (suc more)) (omega arith) minus

best_of_ends : (steps : List Step) → 0 < length steps → HaveEnds steps → SomeBest steps
best_of_ends steps some ends =
    let best = counted steps (2 * suc 44) (2 * length LENGTHS) refl (so_many steps ends 44 (omega arith)) in
    record {
      place = best.place;
      sign = best.sign;
      number = best.number;
      is = best_of_all LENGTHS steps best.place best.sign best.number some best.is;
    }

-- ---- the best beginning

more_way : (steps : List Step) (place : ℕ) (sign : Sign) (more : Way) (new : ℤ)
    → SomeWay steps (rank_of_way more) place sign
    → IsBestOfWay LENGTHS steps place sign more new → SomeWay steps (rank_of_way more + 1) place sign
more_way steps place sign more new best comes = elim (below_or_above best.number new) [
  | inl below ↦ record {
    number = best.number;
    way = best.way;
    is = way_stays LENGTHS steps place sign best.number best.way more new best.is comes below;
  }
  | inr above ↦ record {
    number = new;
    way = more;
    is = way_comes LENGTHS steps place sign best.number best.way more new best.is comes above;
  }
]

with_shorter : (steps : List Step) (place : ℕ) (sign : Sign) → 0 < length steps → place < 45 → HaveEnds steps
    → SomeWay steps 1 place sign → SomeWay steps 2 place sign
with_shorter steps zero sign some within ends best = record {
  number = best.number;
  way = best.way;
  is = way_fails LENGTHS steps 0 sign best.number best.way Shorter best.is (none_shorter LENGTHS steps sign some);
}
with_shorter steps (suc from) sign some within ends best =
    let end = ends from sign (omega arith) in
    more_way steps (suc from) sign Shorter
    (end.number -ℤ pos ((length_in LENGTHS (suc from) - length_in LENGTHS from) * level_at steps)) best
    (shorter_best LENGTHS steps (suc from) from sign end.number end.bit (omega arith) some end.is)

with_longer : (steps : List Step) (place : ℕ) (sign : Sign) → 0 < length steps → place < 45 → HaveEnds steps
    → SomeWay steps 2 place sign → SomeWay steps 3 place sign
with_longer steps place sign some within ends best =
    let cases : (place + 1 < 45) ⊎ (place + 1 ≡ 45) = grind arith in
    elim cases [
      | inl more ↦ let end = ends (place + 1) sign more in
          more_way steps place sign Longer
          (end.number -ℤ pos ((length_in LENGTHS (place + 1) - length_in LENGTHS place) * level_at steps)) best
          (longer_best LENGTHS steps place (place + 1) sign end.number end.bit refl some end.is)
      | inr last ↦ record {
        number = best.number;
        way = best.way;
        is = way_fails LENGTHS steps place sign best.number best.way Longer best.is
            (none_longer LENGTHS steps place sign some last);
      }
    ]

here : (steps : List Step) (place : ℕ) (sign : Sign) → 0 < length steps → place < 45 → HaveEnds steps → SomeBest steps
    → SomeBeginning steps 0 place sign
here steps place sign some within ends best =
    let same = ends place sign within in
    let first : SomeWay steps 1 place sign = record {
      number = same.number;
      way = Same;
      is = same_best LENGTHS steps place sign same.number same.bit some same.is;
    } in
    let third = with_longer steps place sign some within ends (with_shorter steps place sign some within ends first) in
    let all = more_way steps place sign Jump (best.number -ℤ pos (JUMP * length_in LENGTHS place * level_at steps))
    third
    (jump_best LENGTHS steps place best.place sign best.sign best.number some best.is) in
    record {
      number = all.number;
      way = all.way;
      is = all_tried LENGTHS steps place sign all.number all.way all.is;
    }

-- ---- one step more

older_beginning : (step : Step) (steps : List Step) (ago place : ℕ) (sign : Sign) → SomeBeginning steps ago place sign
    → SomeBeginning (step ∷ steps) (suc ago) place sign
older_beginning step steps ago place sign was =
    let next : ago + 1 ≡ suc ago = omega arith in
    record {
      number = was.number;
      way = was.way;
      is = subst (λ n. IsBeginning LENGTHS (step ∷ steps) n place sign was.number was.way) next
          (older LENGTHS step steps ago place sign was.number was.way was.is);
    }

-- where a cell that ends with the step began
began : (step : Step) (steps : List Step) (n place : ℕ) (sign : Sign) → 4 ≤ n → place < 45 → Begin steps
    → SomeBeginning (step ∷ steps) n place sign
began step steps zero place sign long within begin = absurd (omega arith)
began step steps (suc n) place sign long within begin =
    older_beginning step steps n place sign (begin n place sign within)

next_ends : (step : Step) (steps : List Step) → Begin steps → HaveEnds (step ∷ steps)
next_ends step steps begin = λ place sign within.
    let now = step ∷ steps in
    let n = length_in LENGTHS place in
    let long = (length_bounds place within).0 in
    let zero = began step steps n place (sign_before Zero sign) long within begin in
    let one = began step steps n place (sign_before One sign) long within begin in
    let low = signed sign (sound_in Zero n now) +ℤ zero.number in
    let high = signed sign (sound_in One n now) +ℤ one.number in
    elim (below_or_above low high) [
      | inl below ↦ record {
        number = low;
        bit = Zero;
        is = zero_ends LENGTHS now place sign zero.number one.number zero.way one.way zero.is one.is (omega arith)
            within below;
      }
      | inr above ↦ record {
        number = high;
        bit = One;
        is = one_ends LENGTHS now place sign zero.number one.number zero.way one.way zero.is one.is (omega arith)
            within above;
      }
    ]

next_begin : (step : Step) (steps : List Step) → Begin steps → Begin (step ∷ steps)
next_begin step steps begin zero place sign within =
    let ends = next_ends step steps begin in
    here (step ∷ steps) place sign (omega arith) within ends (best_of_ends (step ∷ steps) (omega arith) ends)
next_begin step steps begin (suc ago) place sign within =
    older_beginning step steps ago place sign (begin ago place sign within)

nothing_begun : Begin []
nothing_begun ago place sign within =
    let is = empty_beginning ago place sign (low (score_before LENGTHS [] ago place Jump [])) refl in
    record { number = is.number; way = is.way; is = is.is }

all_begin : (steps : List Step) → Begin steps
all_begin [] = nothing_begun
all_begin (step ∷ steps) = next_begin step steps (all_begin steps)

pub best_exists : (step : Step) (steps : List Step) → (path : List Cell) × IsBestOfAll LENGTHS (step ∷ steps) path
best_exists step steps =
    let best = best_of_ends (step ∷ steps) (omega arith) (next_ends step steps (all_begin steps)) in
    (best.is.path, best.is.is_best)
