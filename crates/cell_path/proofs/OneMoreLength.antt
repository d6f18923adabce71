-- What holds of some first lengths holds of one more, if the two that come with it have it.
use Rattle.std.proofs.Common.{◌≡◌, ◌≢◌, ℕ, ◌+◌, ◌<◌, ◌≤◌, ◌⊎◌, inl, inr, List, length, drop, refl, ap, subst, sym}
use Rattle.std.proofs.Common.{◌∙◌, arith}
use Rattle.cell_path.specs.declared.cell.Sign.{Sign}
use Rattle.cell_path.specs.declared.cell.Sign.TheVariants.{Plus, Minus}
use Rattle.cell_path.specs.declared.cell.Step.{Step}
use Rattle.cell_path.specs.declared.ends.Ends.{Ends}
use Rattle.cell_path.specs.declared.four.Four.{Four}
use Rattle.cell_path.specs.Four.{at_step}
use Rattle.cell_path.specs.Kept.{number_next, RowsState, SumsState}
use Rattle.cell_path.specs.Marks.{marked_bit, marked_way}
use Rattle.cell_path.specs.Scores.{AreSteps}
use Rattle.cell_path.specs.StandsFor.{end_at, IsEndAt, RowsStandFor, SumsStandFor}
use Rattle.cell_path.specs.Started.{mark_at, AreStartsOf, IsStarted, KeepsNumbers, StartsSoFar}

-- a fact of the first n lengths and signs, of each one more
pub one_more_length : (P : ℕ → Sign → Type 0) (n : ℕ) → ((place : ℕ) (sign : Sign) → place < n → P place sign)
    → P n Plus → P n Minus
    → (place : ℕ) (sign : Sign) → place < n + 1 → P place sign
one_more_length P n before plus minus place sign within =
    let here : (s : Sign) → P n s = λ s. elim s as (λ s. P n s) [ Plus ↦ plus | Minus ↦ minus ] in
    let cases : (place < n) ⊎ (n ≡ place) = grind arith in
    elim cases [ inl less ↦ before place sign less | inr same ↦ subst (λ k. P k sign) same (here sign) ]

-- what is known of the ends of a length and a sign
pub record AreEndsOf (sums : SumsState) (rows : RowsState) (place : ℕ) (sign : Sign) (four : Four) : Type 0 where
  pub ends : (step : ℕ) (steps : List Step) → step < 4 → 4 ≤ length steps → AreSteps steps
      → SumsStandFor sums steps → RowsStandFor rows (drop 4 steps) → IsEndAt steps place sign four step
  pub codes : (step : ℕ) → step < 4 → at_step four.codes step < 2

-- the ends so far
abbrev pub EndsSoFar : SumsState → RowsState → ℕ → Ends → Type 0
EndsSoFar sums rows most so_far = (place : ℕ) (sign : Sign) → place < most
    → AreEndsOf sums rows place sign (end_at so_far place sign)

-- a length more of ends
pub one_more_end : (sums : SumsState) (rows : RowsState) (n : ℕ) (old new : Ends) (plus minus : Four)
    → EndsSoFar sums rows n old → end_at new n Plus ≡ plus → end_at new n Minus ≡ minus
    → ((other : ℕ) (sign : Sign) → other ≢ n → end_at new other sign ≡ end_at old other sign)
    → AreEndsOf sums rows n Plus plus → AreEndsOf sums rows n Minus minus
    → EndsSoFar sums rows (n + 1) new
one_more_end sums rows n old new plus minus so_far p m others a b =
    one_more_length (λ place sign. AreEndsOf sums rows place sign (end_at new place sign)) n
    (λ place sign within. let apart : place ≢ n = λ e. omega arith in
    subst (AreEndsOf sums rows place sign) (sym (others place sign apart)) (so_far place sign within))
    (subst (AreEndsOf sums rows n Plus) (sym p) a) (subst (AreEndsOf sums rows n Minus) (sym m) b)

-- what has been started stays so, if its number and its mark do
still_started : (steps : List Step) (old new : RowsState) (old_marks new_marks : List (List ℕ)) (ends : Ends)
    (place : ℕ) (sign : Sign) (step : ℕ) → number_next new step place sign ≡ number_next old step place sign
    → mark_at new_marks step place ≡ mark_at old_marks step place
    → IsStarted steps old old_marks ends place sign step → IsStarted steps new new_marks ends place sign step
still_started steps old new old_marks new_marks ends place sign step same mark is = record {
  number = is.number;
  way = is.way;
  is = is.is;
  kept = same ∙ is.kept;
  marked = ap (λ m. marked_way m sign) mark ∙ is.marked;
  bit = ap (λ m. marked_bit m sign) mark ∙ is.bit;
}

keeps_along : (a b c : RowsState) → KeepsNumbers a b → KeepsNumbers b c → KeepsNumbers a c
keeps_along a b c one two = record {
  next = two.next ∙ one.next;
  numbers = λ ago other sign near within. two.numbers ago other sign near within ∙ one.numbers ago other sign near
      within;
}

-- a length more of starts
pub one_more_start : (first old new : RowsState) (old_marks new_marks : List (List ℕ)) (ends : Ends) (best : Four)
    (levels : List ℕ) (n : ℕ)
    → StartsSoFar first old old_marks ends best levels n
    → ((sign : Sign) (step : ℕ) (steps : List Step) → AreStartsOf ends best levels steps step
    → IsStarted steps new new_marks ends n sign step)
    → ((step other : ℕ) (sign : Sign) → other ≢ n
    → number_next new step other sign ≡ number_next old step other sign)
    → ((step other : ℕ) → other ≢ n → mark_at new_marks step other ≡ mark_at old_marks step other)
    → KeepsNumbers old new
    → StartsSoFar first new new_marks ends best levels (n + 1)
one_more_start first old new old_marks new_marks ends best levels n so_far comes others marks keeps =
    record {
      started = λ step steps are.
          one_more_length (λ place sign. IsStarted steps new new_marks ends place sign step) n
          (λ place sign within. let apart : place ≢ n = λ e. omega arith in
          still_started steps old new old_marks new_marks ends place sign step (others step place sign apart)
          (marks step place apart) (so_far.started step steps are place sign within))
          (comes Plus step steps are) (comes Minus step steps are);
      keeps = keeps_along first old new so_far.keeps keeps;
    }

-- before the first length
pub no_starts : (rows : RowsState) (marks : List (List ℕ)) (ends : Ends) (best : Four) (levels : List ℕ)
    → StartsSoFar rows rows marks ends best levels 0
no_starts rows marks ends best levels = record {
  started = λ step steps are place sign none. absurd (omega arith);
  keeps = record { next = refl; numbers = λ ago other sign near within. refl };
}
