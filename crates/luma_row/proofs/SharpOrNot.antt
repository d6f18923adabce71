-- A row has a next falling edge behind a pixel or none, so it has a sharp place or none.
use Rattle.std.proofs.Common.{◌≡◌, ℕ, zero, suc, ◌+◌, ◌-◌, ◌*◌, ◌<◌, ◌≤◌, ◌⊎◌, inl, inr, Bool, true, false, List}
use Rattle.std.proofs.Common.{length, refl, subst, arith}
use Rattle.luma_row.specs.declared.place.Place.{Place}
use Rattle.luma_row.specs.Choice.{all_of}
use Rattle.luma_row.specs.Edges.{is_falling, is_in_reach, nine_cells, swings_enough}
use Rattle.luma_row.specs.Edges.{IsNextEdge, IsSharp, LeadsTo, LiesBetween}
use Rattle.luma_row.proofs.NextEdge.{no_edge, none_between, none_to, not_sharp, one_next}

either : (b : Bool) → (b ≡ true) ⊎ (b ≡ false)
either true = inl refl
either false = inr refl

abbrev NoneTo : List ℕ → ℕ → ℕ → Type 0
NoneTo row from end = (other : ℕ) → from ≤ other → other < end → is_falling row other ≡ false

-- among so many pixels behind one is a first edge, or none
among : (row : List ℕ) (from count : ℕ) → from + count ≤ length row
    → ((first : ℕ) × IsNextEdge row from first × (first < from + count)) ⊎ NoneTo row from (from + count)
among row from zero h = inr (λ other behind within. absurd (omega (arith, behind, within)))
among row from (suc count) h = elim (among row from count (omega (arith, h))) [
  | inl found ↦ let less = found.2 in inl (found.0, found.1, omega (arith, less))
  | inr none ↦
      let e : from + suc count ≡ from + count + 1 = omega arith in
      elim (either (is_falling row (from + count))) [
        | inl is ↦ inl (
          from + count,
          record { behind = omega arith; within = omega (arith, h); falls = is; first = none },
          omega arith,
        )
        | inr isnt ↦ inr (subst (NoneTo row from) (let back : from + count + 1 ≡ from + suc count = omega arith in back)
            (none_to row from (from + count) none isnt))
      ]
]

pub next_within : (row : List ℕ) (from pixel : ℕ) → from ≤ pixel → pixel < length row → is_falling row pixel ≡ true
    → (first : ℕ) × IsNextEdge row from first × (first ≤ pixel)
next_within row from pixel behind within is =
    let count = pixel - from + 1 in
    let end : from + count ≡ pixel + 1 = omega (arith, behind) in
    elim (among row from count (omega (arith, within, end))) [
      | inl found ↦ let less = found.2 in (found.0, found.1, omega (arith, less, end))
      | inr none ↦ let isnt = none pixel behind (omega (arith, end)) in absurd (cc (is, isnt))
    ]

next_or_not : (row : List ℕ) (from : ℕ)
    → ((pixel : ℕ) × IsNextEdge row from pixel) ⊎ ((pixel : ℕ) → IsNextEdge row from pixel → ⊥)
next_or_not row from =
    let cases : (from ≤ length row) ⊎ (length row < from) = grind arith in
    elim cases [
      | inl room ↦
          let end : from + (length row - from) ≡ length row = omega (arith, room) in
          elim (among row from (length row - from) (omega (arith, end))) [
            | inl found ↦ inl (found.0, found.1)
            | inr none ↦ inr (no_edge row from (length row) (subst (NoneTo row from) end none) (omega arith))
          ]
      | inr far ↦ inr (λ pixel is.
          let behind = is.behind in
          let within = is.within in
          absurd (omega (arith, behind, within, far)))
    ]

leads_or_not : (row : List ℕ) (edges pixel : ℕ)
    → ((last : ℕ) × LeadsTo row edges pixel last) ⊎ ((last : ℕ) → LeadsTo row edges pixel last → ⊥)
leads_or_not row zero pixel = inl (pixel, refl)
leads_or_not row (suc edges) pixel = elim (next_or_not row (pixel + nine_cells (length row))) [
  | inr none ↦ inr (λ last leads. none leads.0 leads.1)
  | inl next ↦ elim (leads_or_not row edges next.0) [
    | inl on ↦ inl (on.0, (next.0, next.1, on.1))
    | inr nowhere ↦ inr (λ last leads.
        let same = one_next row (pixel + nine_cells (length row)) leads.0 next.0 leads.1 next.1 in
        nowhere last (subst (λ (x : ℕ). LeadsTo row edges x last) same leads.2))
  ]
]

between_or_not : (row : List ℕ)
    → ((place : Place) × LiesBetween row place) ⊎ ((place : Place) → LiesBetween row place → ⊥)
between_or_not row = elim (next_or_not row 0) [
  | inr none ↦ inr (λ place is. none is.begin is.first_edge)
  | inl first ↦ elim (leads_or_not row 8 first.0) [
    | inr nowhere ↦ inr (none_between row first.0 first.1 nowhere)
    | inl last ↦ inl (
      record { first = 16 * first.0; last = 16 * last.0 },
      record {
        begin = first.0;
        end = last.0;
        first_edge = first.1;
        last_edge = last.1;
        first = refl;
        last = refl;
      },
    )
  ]
]

pub sharp_or_not : (row : List ℕ)
    → ((place : Place) × IsSharp row place) ⊎ ((place : Place) → IsSharp row place → ⊥)
sharp_or_not row = elim (between_or_not row) [
  | inr none ↦ inr (λ place is. none place is.edges)
  | inl place ↦ elim (either (is_in_reach (length row) place.0)) [
    | inr far ↦ inr (not_sharp row place.0 place.1 (inl far))
    | inl reach ↦ elim (either (all_of 9 (swings_enough row place.0))) [
      | inr flat ↦ inr (not_sharp row place.0 place.1 (inr flat))
      | inl swings ↦ inl (place.0, record { edges = place.1; reach = reach; swings = swings })
    ]
  ]
]
