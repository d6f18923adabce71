-- The gate judges a cell by its eight neighbours on either side.
use Rattle.std.proofs.Common.{◌≡◌, ℕ, zero, suc, ◌≤◌, ◌<◌, Bool, true, false, ◌||◌, List, [], ◌∷◌, ◌++◌, length}
use Rattle.std.proofs.Common.{take, drop, Option, Some, None, refl, ap, ap₂, subst, sym, ◌∙◌, arith}
use Rattle.std.specs.Prelude.{get_or, slice_get}
use Rattle.std.specs.List.{All}
use Rattle.std.proofs.lemmas.List.Elements.{All-cons, All-head, All-tail, All-take}
use Rattle.std.proofs.lemmas.List.{append-nil, length-drop, length-take, take_all, take-append-le}
use Rattle.std.proofs.lemmas.Option.{none-some}
use Rattle.path_front.specs.declared.gate.Ear.{Ear}
use Rattle.path_front.specs.declared.levels.Range.{Range}
use Rattle.path_front.specs.declared.measured.Measured.{Measured}
use Rattle.path_front.specs.Bend.{bends}
use Rattle.path_front.specs.Fit.{is_misfit, usual}
use Rattle.path_front.specs.Gate.{refuses_between, AreGated, GateState, GateStandsFor, Judges}
use Rattle.path_front.specs.Levels.{is_faint, range_by}
use Rattle.path_front.specs.Measured.{IsMeasured}

either : Option Measured → Measured → Measured
either None other = other
either (Some cell) other = cell

same_first : (a b : Measured) → Some a ≡ Some b → a ≡ b
unfolding either
same_first a b is = ap (λ o. either o a) is

-- ---- a cell is refused

-- by the range that was computed
pub refused_is : (ear : Ear) (previous : Measured) (before : List Measured) (cell : Measured) (behind : List Measured)
    (range : Range) (answer : Bool) → slice_get before 0 ≡ Some previous → range ≡ range_by before behind
    → answer ≡ is_faint ear.least range.least previous cell || is_misfit range.most (usual range.most before behind) cell
    || bends ear.grain before cell behind
    → answer ≡ refuses_between ear before cell behind
refused_is ear previous [] cell behind range answer first range_is answer_is = absurd (none-some previous first)
refused_is ear previous (p ∷ before) cell behind range answer first range_is answer_is =
    let same : previous ≡ p = sym (same_first p previous first) in
    answer_is ∙ ap₂ (λ q (r : Range). is_faint ear.least r.least q cell
    || is_misfit r.most (usual r.most (p ∷ before) behind) cell || bends ear.grain (p ∷ before) cell behind) same range_is

pub take_fewer : (n : ℕ) (cells : List Measured) → take n (take (suc n) cells) ≡ take n cells
take_fewer zero [] = refl
take_fewer zero (cell ∷ cells) = refl
take_fewer (suc n) [] = refl
take_fewer (suc n) (cell ∷ cells) = ap (λ l. cell ∷ l) (take_fewer n cells)

-- a window that moves by one
pub take_more : (n : ℕ) (cell : Measured) (cells : List Measured)
    → cell ∷ take n (take (suc n) cells) ≡ take (suc n) (cell ∷ cells)
take_more n cell cells = ap (λ l. cell ∷ l) (take_fewer n cells)

-- ---- the next cell

-- the next cell is judged
pub judges : (state : GateState) (cell : Measured) (behind : List Measured) (refused : Bool)
    (judged more : List Measured) → state.ahead ≡ cell ∷ behind
    → take 8 (behind ++ more) ≡ behind → GateStandsFor state judged
    → refused ≡ refuses_between state.ear state.before cell behind
    → Judges state.ear state.ahead (record {
      ear = state.ear;
      before = cell ∷ take 7 state.before;
      ahead = behind;
    }) judged more (record { cell = cell; breaks = cell.jumps || refused })
judges state cell behind refused judged more front near stand refused_is = record {
  front = front;
  breaks_is = ap (λ r. cell.jumps || r)
      (refused_is ∙ ap₂ (λ b a. refuses_between state.ear b cell a) stand (sym near));
  stands = ap (λ b. cell ∷ take 7 b) stand ∙ take_more 7 cell judged;
}

-- ---- what is kept

-- the first of some cells, and the rest
pub first_and_rest : (cells : List Measured) (cell : Measured) → 0 < length cells → cell ≡ get_or cells 0 cell
    → cells ≡ cell ∷ drop 1 cells
first_and_rest [] cell some is = absurd (omega arith)
first_and_rest (c ∷ cells) cell some is = ap (λ x. x ∷ cells) (sym is)

pub still_gated : (state : GateState) (cell : Measured) (behind : List Measured)
    → AreGated state → state.ahead ≡ cell ∷ behind
    → AreGated (record { ear = state.ear; before = cell ∷ take 7 state.before; ahead = behind })
still_gated state cell behind are front =
    let all : All IsMeasured (cell ∷ behind) = subst (All IsMeasured) front are.ahead in
    let many = ap length front in
    record {
      ear = are.ear;
      before = All-cons IsMeasured cell (take 7 state.before) (All-head IsMeasured cell behind all)
          (All-take IsMeasured 7 state.before are.before);
      ahead = All-tail IsMeasured cell behind all;
      few_before = let e = length-take 7 state.before in omega (arith, e);
      few_ahead = omega (arith, many, are.few_ahead);
    }

pub or_first : (a b c : Bool) → a ≡ true → c ≡ true → c ≡ a || b
or_first a b c holds is = is ∙ sym (ap (λ x. x || b) holds)

pub or_second : (a b c : Bool) → a ≡ false → c ≡ b → c ≡ a || b
or_second a b c fails is = is ∙ sym (ap (λ x. x || b) fails)

-- ---- one cell more

-- nine cells ahead have eight behind the first
pub eight_behind : (ahead more : List Measured) → length ahead ≡ 9 → take 8 (drop 1 ahead ++ more) ≡ drop 1 ahead
eight_behind ahead more nine =
    let long = length-drop 1 ahead in
    take-append-le 8 (drop 1 ahead) more (omega (arith, long)) ∙ take_all 8 (drop 1 ahead) (omega (arith, long))

-- and fewer have all that come
pub none_behind : (ahead : List Measured) → length ahead ≤ 8 → take 8 (drop 1 ahead ++ []) ≡ drop 1 ahead
none_behind ahead few =
    let long = length-drop 1 ahead in
    ap (take 8) (append-nil (drop 1 ahead)) ∙ take_all 8 (drop 1 ahead) (omega (arith, long, few))
