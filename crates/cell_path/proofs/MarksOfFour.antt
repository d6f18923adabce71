-- The marks of four steps: those of a length are the ones that are found, and each step has those of all lengths.
use Rattle.std.proofs.Common.{◌≡◌, ◌≢◌, ◌⊎◌, inl, inr, ℕ, ◌+◌, ◌%◌, ◌<◌, List, [], ◌∷◌, length, get_or, refl, arith}
use Rattle.std.proofs.Common.{subst, ◌∙◌}
use Rattle.std.specs.Prelude.{set}
use Rattle.std.proofs.lemmas.List.{get_or-set_same}
use Rattle.cell_path.specs.declared.four.Four.{Four}
use Rattle.cell_path.specs.declared.mark.FourMarks.{FourMarks}
use Rattle.cell_path.specs.Four.{at_step}
use Rattle.cell_path.specs.Started.{mark_at, mark_of_step, AreSpread, HasMarks, KeepsBest}
use Rattle.cell_path.proofs.Lowest.{at_each_step}

pub all_have : (w x y z : ℕ) (plus minus plus_start minus_start : Four)
    → HasMarks w plus minus plus_start minus_start 0 → HasMarks x plus minus plus_start minus_start 1
    → HasMarks y plus minus plus_start minus_start 2 → HasMarks z plus minus plus_start minus_start 3
    → (step : ℕ) → step < 4 → HasMarks (at_step (w ∷ x ∷ y ∷ z ∷ []) step) plus minus plus_start minus_start step
all_have w x y z plus minus plus_start minus_start =
    at_each_step (λ s. HasMarks (at_step (w ∷ x ∷ y ∷ z ∷ []) s) plus minus plus_start minus_start s)

-- the mark that is put in is found
pub is_put : (marks : List ℕ) (place mark : ℕ) → length marks ≡ 45 → place < 45
    → get_or (set marks place mark) place 0 ≡ mark
is_put marks place mark long within = get_or-set_same marks place mark 0 (omega (arith, long))

pub none_spread : (lengths : List (List ℕ)) (marks : FourMarks) → AreSpread 0 lengths marks marks
none_spread lengths marks = record {
  marks = λ step place few none. absurd (omega arith);
  best = record { places = λ step. refl; signs = λ step. refl };
}

best_along : (a b c : FourMarks) → KeepsBest a b → KeepsBest b c → KeepsBest a c
best_along a b c one two = record {
  places = λ step. two.places step ∙ one.places step;
  signs = λ step. two.signs step ∙ one.signs step;
}

-- a length more
pub one_more_spread : (lengths : List (List ℕ)) (first old new : FourMarks) (n : ℕ) → AreSpread n lengths first old
    → ((step : ℕ) → step < 4 → mark_of_step new step n ≡ mark_at lengths step n % 256)
    → ((step other : ℕ) → other ≢ n → mark_of_step new step other ≡ mark_of_step old step other)
    → KeepsBest old new → AreSpread (n + 1) lengths first new
one_more_spread lengths first old new n so_far here others best = record {
  marks = λ step place few within.
      let cases : (place < n) ⊎ (n ≡ place) = grind arith in
      elim cases [
        | inl less ↦
            let apart : place ≢ n = λ e. omega arith in
            others step place apart ∙ so_far.marks step place few less
        | inr same ↦ subst (λ k. mark_of_step new step k ≡ mark_at lengths step k % 256) same (here step few)
      ];
  best = best_along first old new so_far.best best;
}
