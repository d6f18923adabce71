-- The earliest place with one more that is tried.
use Rattle.std.proofs.Common.{◌≡◌, ℕ, zero, suc, ◌+◌, ◌-◌, ◌*◌, ◌/◌, ◌<◌, ◌⊎◌, inl, inr, Bool, true, false, cond, List}
use Rattle.std.proofs.Common.{refl, ap₂, sym, subst, ◌∙◌, arith}
use Rattle.luma_row.specs.declared.place.Place.{Place}
use Rattle.luma_row.specs.Earliest.{all_fall, back, earliest_within, falls, IsEarliestAt, IsNowhereEarlier}
use Rattle.luma_row.specs.Place.{apart}
use Rattle.luma_row.specs.Row.{IsSought}

-- with one more
within_more : (row : List ℕ) (deepest : Place) (cells : ℕ) → earliest_within row deepest (cells + 1)
    ≡ cond (all_fall row (falls row deepest) (back deepest cells)) (back deepest cells)
    (earliest_within row deepest cells)
unfolding earliest_within
within_more row deepest cells = let e : cells + 1 ≡ suc cells = omega arith in rw e refl

-- with none
pub within_none : (row : List ℕ) (deepest : Place) → earliest_within row deepest 0 ≡ deepest
unfolding earliest_within
within_none row deepest = refl

-- all pairs fall there
pub they_fall : (row : List ℕ) (deepest other : Place) (sum cells : ℕ) → sum ≡ falls row deepest
    → other ≡ back deepest cells → all_fall row sum other ≡ true → other ≡ earliest_within row deepest (cells + 1)
they_fall row deepest other sum cells same is fall =
    let here : all_fall row (falls row deepest) (back deepest cells) ≡ true =
    subst (λ (s : ℕ). all_fall row s (back deepest cells) ≡ true) same
    (subst (λ (p : Place). all_fall row sum p ≡ true) is fall) in
    is ∙ sym (within_more row deepest cells ∙ rw here refl)

-- they do not
pub they_fall_not : (row : List ℕ) (deepest other : Place) (sum cells : ℕ) → sum ≡ falls row deepest
    → other ≡ back deepest cells → all_fall row sum other ≡ false
    → earliest_within row deepest cells ≡ earliest_within row deepest (cells + 1)
they_fall_not row deepest other sum cells same is fall =
    let here : all_fall row (falls row deepest) (back deepest cells) ≡ false =
    subst (λ (s : ℕ). all_fall row s (back deepest cells) ≡ false) same
    (subst (λ (p : Place). all_fall row sum p ≡ false) is fall) in
    sym (within_more row deepest cells ∙ rw here refl)

-- ---- what is taken

either : (b : Bool) → (b ≡ true) ⊎ (b ≡ false)
either true = inl refl
either false = inr refl

-- with fewer places: none of those that are left out is taken
pub record FallsNotFrom (row : List ℕ) (deepest : Place) (cells : ℕ) : Type 0 where
  pub none : (more : ℕ) → cells < more + 1 → more < 17 → all_fall row (falls row deepest) (back deepest more) ≡ false

one_fewer : (row : List ℕ) (deepest : Place) (cells : ℕ) → FallsNotFrom row deepest (suc cells)
    → all_fall row (falls row deepest) (back deepest cells) ≡ false → FallsNotFrom row deepest cells
one_fewer row deepest cells none isnt = record {
  none = λ more above below.
      let cases : (suc cells < more + 1) ⊎ (more ≡ cells) = grind arith in
      elim cases [
        | inl further ↦ none.none more further below
        | inr same ↦ subst (λ (n : ℕ). all_fall row (falls row deepest) (back deepest n) ≡ false) (sym same) isnt
      ];
}

taken_within : (row : List ℕ) (deepest : Place) (cells : ℕ) → cells < 18 → FallsNotFrom row deepest cells
    → ((at : ℕ) × IsEarliestAt row deepest (earliest_within row deepest cells) at)
    ⊎ IsNowhereEarlier row deepest (earliest_within row deepest cells)
unfolding earliest_within
taken_within row deepest zero few none = inr (record {
  place_is = refl;
  none = λ cells h. none.none cells (omega arith) h;
})
taken_within row deepest (suc cells) few none = elim (either (all_fall row (falls row deepest) (back deepest cells))) [
  | inl here ↦
      let is : earliest_within row deepest (suc cells) ≡ back deepest cells = rw here refl in
      inl (
        cells,
        record {
          within = omega (arith, few);
          place_is = is;
          here = here;
          none = λ more above below. none.none more (omega (arith, above)) below;
        },
      )
  | inr isnt ↦
      let is : earliest_within row deepest (suc cells) ≡ earliest_within row deepest cells = rw isnt refl in
      subst (λ (p : Place). ((at : ℕ) × IsEarliestAt row deepest p at) ⊎ IsNowhereEarlier row deepest p) (sym is)
      (taken_within row deepest cells (omega (arith, few)) (one_fewer row deepest cells none isnt))
]

pub lies_earliest : (row : List ℕ) (place : Place) (lies : IsSought row place)
    → ((cells : ℕ) × IsEarliestAt row lies.deepest place cells) ⊎ IsNowhereEarlier row lies.deepest place
lies_earliest row place lies =
    subst (λ (p : Place). ((at : ℕ) × IsEarliestAt row lies.deepest p at) ⊎ IsNowhereEarlier row lies.deepest p)
    (sym lies.earliest_is)
    (taken_within row lies.deepest 17 (omega arith)
    (record { none = λ more above below. absurd (omega (arith, above, below)) }))

pub back_eight : (place : Place) → back place 8 ≡ place
back_eight place =
    let first : place.first + apart place / 10 - 8 * apart place / 80 ≡ place.first = omega arith in
    let last : place.last + apart place / 10 - 8 * apart place / 80 ≡ place.last = omega arith in
    ap₂ (λ (f l : ℕ). record { first = f; last = l }) first last
