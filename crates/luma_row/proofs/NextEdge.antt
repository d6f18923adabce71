-- A row has one next edge behind a pixel, so from there one last edge, and one sharp place.
use Rattle.std.proofs.Common.{◌≡◌, ℕ, zero, suc, ◌+◌, ◌*◌, ◌<◌, ◌≤◌, ◌⊎◌, inl, inr, Bool, true, false, List, length}
use Rattle.std.proofs.Common.{not, ◌&&◌, ◌-◌, ap, ap₂, refl, sym, subst, ◌∙◌, arith}
use Rattle.std.specs.Prelude.{ltb}
use Rattle.std.proofs.lemmas.Bool.Decides.{nat_tests}
use Rattle.luma_row.specs.declared.place.Place.{Place}
use Rattle.luma_row.specs.Choice.{all_of}
use Rattle.luma_row.specs.Edges.{is_falling, is_in_reach, is_light, nine_cells, swings_enough}
use Rattle.luma_row.specs.Edges.{IsNextEdge, IsSharp, LeadsTo, LiesBetween}

pub same_place : (a b : Place) → a.first ≡ b.first → a.last ≡ b.last → a ≡ b
same_place a b first last = ap₂ (λ (f l : ℕ). record { first = f; last = l }) first last

not_before : (row : List ℕ) (from a b : ℕ) → IsNextEdge row from a → IsNextEdge row from b → a < b → ⊥
not_before row from a b p q less =
    let isnt = q.first a p.behind less in
    let is = p.falls in
    cc (is, isnt)

pub one_next : (row : List ℕ) (from a b : ℕ) → IsNextEdge row from a → IsNextEdge row from b → a ≡ b
one_next row from a b p q =
    let cases : (a < b) ⊎ (b ≤ a) = grind arith in
    elim cases [
      | inl less ↦ absurd (not_before row from a b p q less)
      | inr more ↦ let others : (b < a) ⊎ (a ≡ b) = grind arith in
          elim others [ inl less ↦ absurd (not_before row from b a q p less) | inr same ↦ same ]
    ]

pub one_last : (row : List ℕ) (edges pixel a b : ℕ) → LeadsTo row edges pixel a → LeadsTo row edges pixel b → a ≡ b
one_last row zero pixel a b p q = p ∙ sym q
one_last row (suc edges) pixel a b p q =
    let same = one_next row (pixel + nine_cells (length row)) p.0 q.0 p.1 q.1 in
    one_last row edges q.0 a b (subst (λ (x : ℕ). LeadsTo row edges x a) same p.2) q.2

pub one_between : (row : List ℕ) (a b : Place) → LiesBetween row a → LiesBetween row b → a ≡ b
one_between row a b p q =
    let begin = one_next row 0 p.begin q.begin p.first_edge q.first_edge in
    let leads = subst (λ (x : ℕ). LeadsTo row 8 x p.end) begin p.last_edge in
    let end = one_last row 8 q.begin p.end q.end leads q.last_edge in
    same_place a b (p.first ∙ (ap (λ (n : ℕ). 16 * n) begin ∙ sym q.first))
    (p.last ∙ (ap (λ (n : ℕ). 16 * n) end ∙ sym q.last))

pub one_sharp : (row : List ℕ) (a b : Place) → IsSharp row a → IsSharp row b → a ≡ b
one_sharp row a b p q = one_between row a b p.edges q.edges

pub none_between : (row : List ℕ) (first : ℕ) → IsNextEdge row 0 first
    → ((last : ℕ) → LeadsTo row 8 first last → ⊥) → (place : Place) → LiesBetween row place → ⊥
none_between row first here none place is =
    let same = one_next row 0 is.begin first is.first_edge here in
    none is.end (subst (λ (x : ℕ). LeadsTo row 8 x is.end) same is.last_edge)

-- no other place is sharp than the one between the edges
pub not_sharp : (row : List ℕ) (place : Place) → LiesBetween row place
    → (is_in_reach (length row) place ≡ false) ⊎ (all_of 9 (swings_enough row place) ≡ false)
    → (other : Place) → IsSharp row other → ⊥
not_sharp row place lies isnt other is =
    let same = one_between row other place is.edges lies in
    let reach = subst (λ (p : Place). is_in_reach (length row) p ≡ true) same is.reach in
    let swings = subst (λ (p : Place). all_of 9 (swings_enough row p) ≡ true) same is.swings in
    elim isnt [ inl a ↦ cc (a, reach) | inr b ↦ cc (b, swings) ]

-- from the next edge it leads on to where it leads from this one, and so it leads there with one edge more
pub leads_on : (row : List ℕ) (edges more pixel next last : ℕ) → more ≡ suc edges
    → IsNextEdge row (pixel + nine_cells (length row)) next → LeadsTo row more pixel last → LeadsTo row edges next last
leads_on row edges more pixel next last is here leads =
    let further = subst (λ (n : ℕ). LeadsTo row n pixel last) is leads in
    let same = one_next row (pixel + nine_cells (length row)) further.0 next further.1 here in
    subst (λ (x : ℕ). LeadsTo row edges x last) same further.2

pub leads_from : (row : List ℕ) (edges more pixel next last : ℕ) → more ≡ suc edges
    → IsNextEdge row (pixel + nine_cells (length row)) next → LeadsTo row edges next last → LeadsTo row more pixel last
leads_from row edges more pixel next last is here leads =
    subst (λ (n : ℕ). LeadsTo row n pixel last) (sym is) (next, here, leads)

pub leads_nowhere : (row : List ℕ) (more pixel last : ℕ) → 0 < more
    → ((next : ℕ) → IsNextEdge row (pixel + nine_cells (length row)) next → ⊥) → LeadsTo row more pixel last → ⊥
leads_nowhere row zero pixel last some none leads = absurd (omega (arith, some))
leads_nowhere row (suc edges) pixel last some none leads = none leads.0 leads.1

-- no edge is among those before it and is none itself
pub none_to : (row : List ℕ) (from pixel : ℕ)
    → ((other : ℕ) → from ≤ other → other < pixel → is_falling row other ≡ false) → is_falling row pixel ≡ false
    → (other : ℕ) → from ≤ other → other < pixel + 1 → is_falling row other ≡ false
none_to row from pixel before here other behind within =
    let cases : (other < pixel) ⊎ (other ≡ pixel) = grind arith in
    elim cases [
      | inl less ↦ before other behind less
      | inr same ↦ subst (λ (n : ℕ). is_falling row n ≡ false) (sym same) here
    ]

pub no_edge : (row : List ℕ) (from end : ℕ)
    → ((other : ℕ) → from ≤ other → other < end → is_falling row other ≡ false) → length row ≤ end
    → (pixel : ℕ) → IsNextEdge row from pixel → ⊥
no_edge row from end none all pixel is =
    let within = is.within in
    let isnt = none pixel is.behind (omega (arith, within, all)) in
    let falls = is.falls in
    cc (falls, isnt)

-- whether the pixel before is light, of which the first pixel has none
abbrev pub light_before : List ℕ → ℕ → Bool
light_before row pixel = ltb 0 pixel && is_light row (pixel - 1)

pub light_next : (row : List ℕ) (pixel : ℕ) (light : Bool) → light ≡ is_light row pixel
    → light ≡ light_before row (pixel + 1)
light_next row pixel light is =
    let e : pixel + 1 - 1 ≡ pixel = omega arith in
    let some : ltb 0 (pixel + 1) ≡ true = grind (arith, nat_tests) in
    is ∙ sym (ap₂ ◌&&◌ some (ap (is_light row) e))

no_fall : (a b : Bool) → ((a ≡ true) × (b ≡ true)) ⊎ (a ≡ false) → (a && not b) ≡ false
no_fall true true cases = refl
no_fall true false cases = elim cases [ inl both ↦ absurd (let no : false ≡ true = both.1 in cc no) | inr none ↦ absurd (cc none) ]
no_fall false b cases = refl

not_itself : (a : Bool) → (a && not a) ≡ false
not_itself true = refl
not_itself false = refl

pub not_falling : (row : List ℕ) (pixel : ℕ) (was light : Bool) → was ≡ light_before row pixel
    → light ≡ is_light row pixel → ((was ≡ true) × (light ≡ true)) ⊎ (was ≡ false) → is_falling row pixel ≡ false
not_falling row zero was light before here cases = not_itself (is_light row 0)
not_falling row (suc n) was light before here cases =
    let some : ltb 0 (suc n) ≡ true = grind (arith, nat_tests) in
    let first = before ∙ ap (λ (b : Bool). b && is_light row (suc n - 1)) some in
    sym (ap₂ (λ (a b : Bool). a && not b) first here) ∙ no_fall was light cases
