-- The best of all paths is the first of the best that end in each length and sign, tried one after another.
use Rattle.std.proofs.Common.{◌≡◌, ℕ, ◌+◌, ◌-◌, ◌*◌, ◌<◌, ◌≤◌, ℤ, ◌<ℤ◌, ◌≤ℤ◌, ◌⊎◌, inl, inr, List, [], ◌∷◌, length}
use Rattle.std.proofs.Common.{refl, ap}
use Rattle.std.proofs.Common.{subst, ◌∙◌, arith}
use Rattle.std.proofs.lemmas.Int.{ints}
use Rattle.std.proofs.lemmas.List.{length-drop}
use Rattle.cell_path.specs.declared.cell.Bit.{Bit}
use Rattle.cell_path.specs.declared.cell.Bit.TheVariants.{Zero, One}
use Rattle.cell_path.specs.declared.cell.Cell.{Cell}
use Rattle.cell_path.specs.declared.cell.Sign.{Sign}
use Rattle.cell_path.specs.declared.cell.Sign.TheVariants.{Plus, Minus}
use Rattle.cell_path.specs.declared.cell.Step.{Step}
use Rattle.cell_path.specs.declared.cell.Way.{Way}
use Rattle.cell_path.specs.declared.cell.Way.TheVariants.{Same, Shorter, Longer, Jump}
use Rattle.cell_path.specs.Best.{rank, rank_of_bit, rank_of_sign, rank_of_way, EndsIn, Wins}
use Rattle.cell_path.specs.Number.{IsBestEnd, IsEnd}
use Rattle.cell_path.specs.Path.{score, IsPath}
use Rattle.cell_path.specs.Trying.{end_number, EndsBelow, IsBestBelow}
use Rattle.cell_path.specs.declared.ends.Ends.{Ends}
use Rattle.cell_path.specs.declared.four.Four.{Four}
use Rattle.cell_path.specs.declared.lengths.TheConstants.{LENGTHS}
use Rattle.cell_path.specs.Four.{at_step, low, AreNear}
use Rattle.cell_path.specs.Scores.{AreSteps}
use Rattle.cell_path.specs.StandsFor.{end_at, steps_at, AreEnds, IsBestAt}
use Rattle.cell_path.proofs.BestEnd.{bit_at, has_bit_at}
use Rattle.cell_path.proofs.NearScores.{near_ends}
use Rattle.cell_path.proofs.LowScores.{steps_before}
use Rattle.cell_path.proofs.Order.{wins-along, wins_by-rank}

pub sign_is_low : (sign : Sign) → rank_of_sign sign < 2
sign_is_low Plus = omega arith
sign_is_low Minus = omega arith

pub bit_is_low : (bit : Bit) → rank_of_bit bit < 2
bit_is_low Zero = omega arith
bit_is_low One = omega arith

way_is_low : (way : Way) → rank_of_way way < 4
way_is_low Same = omega arith
way_is_low Shorter = omega arith
way_is_low Longer = omega arith
way_is_low Jump = omega arith

pub same_rank : (a b : Sign) → rank_of_sign a ≡ rank_of_sign b → a ≡ b
same_rank Plus Plus is = refl
same_rank Plus Minus is = absurd (omega arith)
same_rank Minus Plus is = absurd (omega arith)
same_rank Minus Minus is = refl

-- a path that ends in a number is one that ends in that length and sign
ends_in_number : (place : ℕ) (sign : Sign) (path : List Cell) → EndsBelow (end_number place sign + 1) path
    → EndsBelow (end_number place sign) path ⊎ EndsIn place sign path
ends_in_number place sign [] below = absurd below
ends_in_number place sign (cell ∷ before) below =
    let a = sign_is_low sign in
    let b = sign_is_low cell.sign in
    let cases : (end_number cell.place cell.sign < end_number place sign)
    ⊎ (end_number cell.place cell.sign ≡ end_number place sign) = grind arith in
    elim cases [
      | inl less ↦ inl less
      | inr same ↦ let p : cell.place ≡ place = omega arith in
          let r : rank_of_sign cell.sign ≡ rank_of_sign sign = omega arith in
          inr (p, same_rank cell.sign sign r)
    ]

-- of paths that end in different numbers the lower comes first
lower_wins : (place : ℕ) (sign : Sign) (path : List Cell) (s : ℤ) (other_place : ℕ) (other_sign : Sign)
    (other : List Cell) (t : ℤ)
    → EndsIn place sign path → EndsIn other_place other_sign other
    → end_number place sign < end_number other_place other_sign → t ≤ℤ s
    → Wins s path t other
lower_wins place sign [] s other_place other_sign other t ends other_ends first above = absurd ends
lower_wins place sign (cell ∷ path) s other_place other_sign [] t ends other_ends first above = absurd other_ends
lower_wins place sign (cell ∷ path) s other_place other_sign (d ∷ other) t ends other_ends first above =
    let b = bit_is_low cell.bit in let w = way_is_low cell.way in
    let r : rank_of_sign cell.sign ≡ rank_of_sign sign = ap rank_of_sign ends.1 in
    let q : rank_of_sign d.sign ≡ rank_of_sign other_sign = ap rank_of_sign other_ends.1 in
    wins_by-rank s (rank cell) path t (rank d) other above (omega (arith, ends.0, other_ends.0))

-- with one more end: what was best stays, if it is not below the new end
pub best_stays : (lengths : List ℕ) (steps : List Step) (place : ℕ) (sign : Sign) (number : ℤ) (more : ℕ)
    (end : Sign) (new : ℤ) (bit : Bit)
    → IsBestBelow lengths steps (end_number more end) place sign number → IsEnd lengths steps more end new bit
    → new ≤ℤ number
    → IsBestBelow lengths steps (end_number more end + 1) place sign number
best_stays lengths steps place sign number more end new bit best comes above =
    let s = score lengths steps best.path in
    let t = score lengths steps comes.path in
    let over : Wins s best.path t comes.path = lower_wins place sign best.path s more end comes.path t
    best.ends comes.is_best.ends best.below (omega (arith, ints, best.number_is, comes.number_is)) in
    record {
      path = best.path;
      is_path = best.is_path;
      ends = best.ends;
      below = omega (arith, best.below);
      number_is = best.number_is;
      wins = λ other is ends. elim (ends_in_number more end other ends) [
        | inl before ↦ best.wins other is before
        | inr here ↦ wins-along s best.path t comes.path (score lengths steps other) other over
            (comes.is_best.wins other is here)
      ];
    }

-- and else the new one is the best
pub best_comes : (lengths : List ℕ) (steps : List Step) (place : ℕ) (sign : Sign) (number : ℤ) (more : ℕ)
    (end : Sign) (new : ℤ) (bit : Bit)
    → IsBestBelow lengths steps (end_number more end) place sign number → IsEnd lengths steps more end new bit
    → number <ℤ new
    → IsBestBelow lengths steps (end_number more end + 1) more end new
best_comes lengths steps place sign number more end new bit best comes above =
    let s = score lengths steps best.path in
    let t = score lengths steps comes.path in
    let over : Wins t comes.path s best.path = inl (omega (arith, ints, best.number_is, comes.number_is)) in
    record {
      path = comes.path;
      is_path = comes.is_best.is_path;
      ends = comes.is_best.ends;
      below = omega arith;
      number_is = comes.number_is;
      wins = λ other is ends. elim (ends_in_number more end other ends) [
        | inl before ↦ wins-along t comes.path s best.path (score lengths steps other) other over
            (best.wins other is before)
        | inr here ↦ comes.is_best.wins other is here
      ];
    }

none_below : (path : List Cell) → EndsBelow 0 path → ⊥
none_below [] ends = ends
none_below (cell ∷ before) ends = omega arith

below_first : (path : List Cell) → EndsBelow 1 path → EndsIn 0 Plus path
below_first path ends =
    elim (ends_in_number 0 Plus path ends) [ inl none ↦ absurd (none_below path none) | inr here ↦ here ]

-- the first end alone
pub first_is_best : (lengths : List ℕ) (steps : List Step) (number : ℤ) (bit : Bit)
    → IsEnd lengths steps 0 Plus number bit
    → IsBestBelow lengths steps 1 0 Plus number
first_is_best lengths steps number bit e = record {
  path = e.path;
  is_path = e.is_best.is_path;
  ends = e.is_best.ends;
  below = omega arith;
  number_is = e.number_is;
  wins = λ other is ends. e.is_best.wins other is (below_first other ends);
}

ends_below : (lengths : List ℕ) (steps : List Step) (path : List Cell) → 0 < length steps → IsPath lengths steps path
    → EndsBelow (2 * length lengths) path
ends_below lengths steps [] some is = absurd (omega arith)
ends_below lengths steps (cell ∷ before) some is = let s = sign_is_low cell.sign in omega (arith, is.1)

-- with all ends tried it is the best of all
pub best_of_all : (lengths : List ℕ) (steps : List Step) (place : ℕ) (sign : Sign) (number : ℤ) → 0 < length steps
    → IsBestBelow lengths steps (2 * length lengths) place sign number → IsBestEnd lengths steps place sign number
best_of_all lengths steps place sign number some best = record {
  path = best.path;
  ends = best.ends;
  number_is = best.number_is;
  is_best = record {
    is_path = best.is_path;
    wins =
        λ other is. best.wins other is (ends_below lengths steps other some is);
  };
}

-- the best of the first `most` ends, at one of the latest four steps
pub record IsBestSoFar (steps : List Step) (most : ℕ) (so_far : Four) (step : ℕ) : Type 0 where
  pub place : ℕ
  pub sign : Sign
  pub number : ℤ
  pub is : IsBestBelow LENGTHS (steps_at step steps) most place sign number
  pub kept : at_step so_far.numbers step ≡ low number
  pub code : at_step so_far.codes step ≡ end_number place sign

-- whatever steps the ends stand for
pub record BestSoFar (ends : Ends) (most : ℕ) (so_far : Four) : Type 0 where
  pub best : (step : ℕ) (steps : List Step) → step < 4 → 4 ≤ length steps → AreSteps steps
      → AreEnds 45 ends steps step → IsBestSoFar steps most so_far step
  pub codes : (step : ℕ) → step < 4 → at_step so_far.codes step < most

below_or_above : (a b : ℤ) → (b ≤ℤ a) ⊎ (a <ℤ b)
below_or_above a b = grind (arith, ints)

-- a path with one end is below the next
ends_before : (most place : ℕ) (sign : Sign) (path : List Cell) → end_number place sign < most → EndsIn place sign path
    → EndsBelow most path
ends_before most place sign [] low ends = absurd ends
ends_before most place sign (cell ∷ before) low ends =
    let r : rank_of_sign cell.sign ≡ rank_of_sign sign = ap rank_of_sign ends.1 in omega (arith, ends.0, low, r)

-- the best so far is the best that ends as it does
pub below_is_end : (steps : List Step) (most place : ℕ) (sign : Sign) (number : ℤ)
    (best : IsBestBelow LENGTHS steps most place sign number)
    → IsEnd LENGTHS steps place sign number (bit_at best.path)
below_is_end steps most place sign number best = record {
  path = best.path;
  is_best = record {
    is_path = best.is_path;
    ends = best.ends;
    wins = λ other is ends. best.wins other is (ends_before most place sign other best.below ends);
  };
  number_is = best.number_is;
  bit_is = has_bit_at place sign best.path best.ends;
}

-- the better of the best so far and one more end
pub or_end : (ends : Ends) (place : ℕ) (sign : Sign) (so_far : Four) (others : List ℕ) (code : ℕ) (result : Four)
    → place < 45 → code ≡ end_number place sign → others ≡ (end_at ends place sign).numbers
    → ((step : ℕ) (x y : ℤ) → step < 4 → at_step so_far.numbers step ≡ low x → at_step others step ≡ low y
    → AreNear x y → y ≤ℤ x → (at_step result.numbers step ≡ low x)
    × (at_step result.codes step ≡ at_step so_far.codes step))
    → ((step : ℕ) (x y : ℤ) → step < 4 → at_step so_far.numbers step ≡ low x → at_step others step ≡ low y
    → AreNear x y → x <ℤ y → (at_step result.numbers step ≡ low y) × (at_step result.codes step ≡ code))
    → ((step : ℕ) → step < 4 → (at_step result.codes step ≡ at_step so_far.codes step)
    ⊎ (at_step result.codes step ≡ code))
    → BestSoFar ends (end_number place sign) so_far → BestSoFar ends (end_number place sign + 1) result
or_end ends place sign so_far others code result within code_is others_are stays comes either best = record {
  best = λ step steps step_in long are ends_are.
      let S = steps_at step steps in
      let old = best.best step steps step_in long are ends_are in
      let new = ends_are place sign within in
      let are_here = steps_before (3 - step) steps are in
      let was = below_is_end S (end_number place sign) old.place old.sign old.number old.is in
      let a = near_ends S old.place place old.sign sign old.number new.number (bit_at old.is.path) new.bit are_here was
      new.is in
      let b = near_ends S place old.place sign old.sign new.number old.number new.bit (bit_at old.is.path) are_here
      new.is was in
      let near : AreNear old.number new.number = record {
        above = omega (arith, ints, a);
        below = omega (arith, ints, b);
      } in
      let y_is : at_step others step ≡ low new.number = ap (λ l. at_step l step) others_are ∙ new.kept in
      elim (below_or_above old.number new.number) [
        | inl below ↦ let r = stays step old.number new.number step_in old.kept y_is near below in
            record {
              place = old.place;
              sign = old.sign;
              number = old.number;
              is = best_stays LENGTHS S old.place old.sign old.number place sign new.number new.bit old.is new.is below;
              kept = r.0;
              code = r.1 ∙ old.code;
            }
        | inr above ↦ let r = comes step old.number new.number step_in old.kept y_is near above in
            record {
              place = place;
              sign = sign;
              number = new.number;
              is = best_comes LENGTHS S old.place old.sign old.number place sign new.number new.bit old.is new.is above;
              kept = r.0;
              code = r.1 ∙ code_is;
            }
      ];
  codes = λ step step_in. elim (either step step_in) [
    | inl same ↦ let l = best.codes step step_in in omega (arith, same, l)
    | inr new ↦ omega (arith, new, code_is)
  ];
}

-- n ends are tried if m are, by another way to count them
pub counted : (ends : Ends) (m n : ℕ) (best : Four) → m ≡ n → BestSoFar ends m best → BestSoFar ends n best
counted ends m n best same is = subst (λ k. BestSoFar ends k best) same is

-- the first end alone
pub first_best : (ends : Ends) (best : Four) → best.numbers ≡ (end_at ends 0 Plus).numbers
    → ((step : ℕ) → at_step best.codes step ≡ 0) → BestSoFar ends 1 best
first_best ends best is none = record {
  best = λ step steps step_in long are ends_are.
      let end = ends_are 0 Plus (omega arith) in
      record {
        place = 0;
        sign = Plus;
        number = end.number;
        is = first_is_best LENGTHS (steps_at step steps) end.number end.bit end.is;
        kept = ap (λ l. at_step l step) is ∙ end.kept;
        code = none step;
      };
  codes = λ step step_in. let e = none step in omega (arith, e);
}

-- with all ends tried
pub all_ends : (ends : Ends) (best : Four) → BestSoFar ends 90 best → (step : ℕ) (steps : List Step) → step < 4
    → 4 ≤ length steps → AreSteps steps → AreEnds 45 ends steps step → IsBestAt steps best step
all_ends ends best so_far step steps step_in long are ends_are =
    let b = so_far.best step steps step_in long are ends_are in
    let e = length-drop (3 - step) steps in
    record {
      place = b.place;
      sign = b.sign;
      number = b.number;
      is = best_of_all LENGTHS (steps_at step steps) b.place b.sign b.number (omega (arith, e, long)) b.is;
      kept = b.kept;
      code = b.code;
    }
