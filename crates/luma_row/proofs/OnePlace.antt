-- Each choice has one first best, so a row has one coarse place, and from there each move leads to one place.
use Rattle.std.proofs.Common.{◌≡◌, ℕ, zero, suc, ◌+◌, ◌*◌, inl, inr, List, length, ap, ap₂, sym}
use Rattle.std.proofs.Common.{subst, ◌∙◌}
use Rattle.luma_row.specs.declared.place.Place.{Place}
use Rattle.luma_row.specs.Choice.{IsFirstBest}
use Rattle.luma_row.specs.Climb.{halved, neighbour, worth, Climbs, Moves, Refines}
use Rattle.luma_row.specs.Coarse.{best_at, sum_at, IsCoarse}
use Rattle.luma_row.specs.Earliest.{earliest}
use Rattle.luma_row.specs.Row.{IsSought, LiesAt}
use Rattle.luma_row.specs.Width.{distance, distances, grain, start, starts}
use Rattle.luma_row.proofs.OneMore.{one_first}
use Rattle.luma_row.proofs.NextEdge.{one_sharp, same_place}

one_move_leads : (row : List ℕ) (step : ℕ) (from a b : Place) → Moves row step from a → Moves row step from b → a ≡ b
one_move_leads row step from a b m n =
    let same = one_first 9 (worth row from step) m.0 n.0 m.1 n.1 in
    m.2 ∙ (ap (neighbour from step) same ∙ sym n.2)

one_climb : (row : List ℕ) (step moves : ℕ) (from a b : Place) → Climbs row step moves from a
    → Climbs row step moves from b
    → a ≡ b
one_climb row step zero from a b p q = p ∙ sym q
one_climb row step (suc moves) from a b p q =
    let same = one_climb row step moves from p.0 q.0 p.1 q.1 in
    one_move_leads row step q.0 a b (subst (λ (x : Place). Moves row step x a) same p.2) q.2

one_refined : (row : List ℕ) (first steps : ℕ) (from a b : Place) → Refines row first steps from a
    → Refines row first steps from b → a ≡ b
one_refined row first zero from a b p q = p ∙ sym q
one_refined row first (suc steps) from a b p q =
    let same = one_refined row first steps from p.0 q.0 p.1 q.1 in
    one_climb row (halved first steps) 6 q.0 a b (subst (λ (x : Place). Climbs row (halved first steps) 6 x a) same p.2)
    q.2

pub one_coarse : (row : List ℕ) (sum other : ℕ) (a b : Place) → IsCoarse row sum a → IsCoarse row other b
    → (sum ≡ other) × (a ≡ b)
one_coarse row sum other a b p q =
    let width = length row in
    let wide = one_first (distances width) (best_at row) p.wide q.wide p.of_distances q.of_distances in
    let starts_of = subst (λ (w : ℕ). IsFirstBest (starts width (distance width w)) (sum_at row (distance width w))
    p.early)
    wide p.of_starts in
    let early = one_first (starts width (distance width q.wide)) (sum_at row (distance width q.wide)) p.early q.early
    starts_of q.of_starts in
    let first = p.first ∙ (ap (start width) early ∙ sym q.first) in
    let last = p.last ∙ (ap₂ (λ (e w : ℕ). start width e + distance width w) early wide ∙ sym q.last) in
    (p.sum_is ∙ (ap (best_at row) wide ∙ sym q.sum_is), same_place a b first last)

-- a word that is sought is found in one place of a row
pub one_sought : (row : List ℕ) (a b : Place) → IsSought row a → IsSought row b → a ≡ b
one_sought row a b p q =
    let same = one_coarse row p.sum q.sum p.coarse q.coarse p.is_coarse q.is_coarse in
    let fine = subst (λ (x : Place). Refines row (2 * grain (length row)) 8 x p.deepest) (same.1) p.fine in
    let deepest = one_refined row (2 * grain (length row)) 8 q.coarse p.deepest q.deepest fine q.fine in
    p.earliest_is ∙ (ap (earliest row) deepest ∙ sym q.earliest_is)

-- a word lies in one place of a row
pub one_place : (row : List ℕ) (a b : Place) → LiesAt row a → LiesAt row b → a ≡ b
one_place row a b (inl p) (inl q) = one_sharp row a b p q
one_place row a b (inl p) (inr q) = absurd (q.0 a p)
one_place row a b (inr p) (inl q) = absurd (p.0 b q)
one_place row a b (inr p) (inr q) = one_sought row a b p.1 q.1
