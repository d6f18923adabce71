-- Each row carries one code or none, since each choice has a first best.
use Rattle.std.proofs.Common.{◌≡◌, ℕ, zero, suc, ◌+◌, ◌-◌, ◌*◌, ◌/◌, ◌<◌, ◌≤◌, ◌⊎◌, inl, inr, Bool, true, false, List}
use Rattle.std.proofs.Common.{[], ◌∷◌, length, take, refl, ap, ap₂, sym, subst, ◌∙◌, arith}
use Rattle.std.specs.Prelude.{Option, Some, None}
use Rattle.std.specs.List.{AllZip}
use Rattle.luma_row.specs.declared.light.TheConstants.{EVEN}
use Rattle.luma_row.specs.declared.place.Place.{Place}
use Rattle.luma_row.specs.declared.row.CodeRow.{CodeRow}
use Rattle.luma_row.specs.Cells.{cells_of, counts, swing}
use Rattle.luma_row.specs.Choice.{IsFirstBest}
use Rattle.luma_row.specs.Climb.{halved, neighbour, worth, Climbs, Moves, Refines}
use Rattle.luma_row.specs.Coarse.{best_at, sum_at, IsCoarse}
use Rattle.luma_row.specs.Earliest.{earliest as earliest_place}
use Rattle.luma_row.specs.Edges.{IsSharp}
use Rattle.luma_row.specs.Heights.{heights_of}
use Rattle.luma_row.specs.Row.{has_contrast, IsCode, LiesAt}
use Rattle.luma_row.specs.Width.{distance, earliest, end, grain, narrowest, start, widest}
use Rattle.luma_field.specs.Field.{lines_of}
use Rattle.luma_field.specs.Parts.{whole_parts}
use Rattle.luma_field.specs.Raster.{RasterSize}
use Rattle.luma_field.specs.Rows.{found_from, looked_at, Says, SaysLines}

-- ---- choices

some_best : (n : ℕ) (worth : ℕ → ℕ) → (number : ℕ) × IsFirstBest (n + 1) worth number
some_best zero worth = (
  0,
  record {
    below = omega arith;
    greatest = λ other h. let e : other ≡ 0 = omega arith in subst (λ (k : ℕ). worth k ≤ worth 0) (sym e) (omega arith);
    first = λ other h. absurd (omega arith);
  },
)
some_best (suc n) worth =
    let best = some_best n worth in
    let below = best.1.below in
    let cases : (worth best.0 < worth (suc n)) ⊎ (worth (suc n) ≤ worth best.0) = grind arith in
    let place : (other : ℕ) → other < suc n + 1 → (other < n + 1) ⊎ (other ≡ suc n) = λ other h. grind arith in
    elim cases [
      | inl more ↦ (
        suc n,
        record {
          below = omega arith;
          greatest = λ other h. elim (place other h) [
            | inl before ↦ let g = best.1.greatest other before in omega (arith, g, more)
            | inr last ↦ subst (λ (k : ℕ). worth k ≤ worth (suc n)) (sym last) (omega arith)
          ];
          first = λ other h. let g = best.1.greatest other (omega (arith, h)) in omega (arith, g, more);
        },
      )
      | inr less ↦ (
        best.0,
        record {
          below = omega (arith, below);
          greatest = λ other h. elim (place other h) [
            | inl before ↦ best.1.greatest other before
            | inr last ↦ subst (λ (k : ℕ). worth k ≤ worth best.0) (sym last) less
          ];
          first = best.1.first;
        },
      )
    ]

some_coarse : (row : List ℕ) → (sum : ℕ) × (place : Place) × IsCoarse row sum place
some_coarse row =
    let width = length row in
    let wide = some_best ((widest width - narrowest width) / (2 * grain width)) (best_at row) in
    let apart = distance width wide.0 in
    let early = some_best ((end width - 89 * apart / 80 - earliest width) / grain width) (sum_at row apart) in (
      best_at row wide.0,
      record { first = start width early.0; last = start width early.0 + apart },
      record {
        wide = wide.0;
        early = early.0;
        of_distances = wide.1;
        of_starts = early.1;
        sum_is = refl;
        first = refl;
        last = refl;
      },
    )

some_move : (row : List ℕ) (step : ℕ) (from : Place) → (to : Place) × Moves row step from to
some_move row step from =
    let best = some_best 8 (worth row from step) in (neighbour from step best.0, (best.0, best.1, refl))

some_climb : (row : List ℕ) (step moves : ℕ) (from : Place) → (to : Place) × Climbs row step moves from to
some_climb row step zero from = (from, refl)
some_climb row step (suc moves) from =
    let between = some_climb row step moves from in
    let to = some_move row step between.0 in
    (to.0, (between.0, between.1, to.1))

some_refined : (row : List ℕ) (first steps : ℕ) (from : Place) → (to : Place) × Refines row first steps from to
some_refined row first zero from = (from, refl)
some_refined row first (suc steps) from =
    let between = some_refined row first steps from in
    let to = some_climb row (halved first steps) 6 between.0 in
    (to.0, (between.0, between.1, to.1))

-- ---- a row

abbrev pub OnePlace : Type 0
OnePlace = (row : List ℕ) (a b : Place) → LiesAt row a → LiesAt row b → a ≡ b

abbrev pub SharpOrNot : Type 0
SharpOrNot = (row : List ℕ) → ((place : Place) × IsSharp row place) ⊎ ((place : Place) → ¬ IsSharp row place)

abbrev pub OneCode : Type 0
OneCode = (row : List ℕ) (a b : CodeRow) → IsCode row a → IsCode row b → a ≡ b

either : (b : Bool) → (b ≡ true) ⊎ (b ≡ false)
either true = inl refl
either false = inr refl

more_or_not : (a b : ℕ) → (a < b) ⊎ (b ≤ a)
more_or_not a b = grind arith

-- no other coarse place falls more
no_more : (row : List ℕ) (sum other : ℕ) (a b : Place) → IsCoarse row sum a → IsCoarse row other b → other ≤ sum
no_more row sum other a b first second =
    let most = first.of_distances.greatest second.wide second.of_distances.below in
    omega (arith, most, first.sum_is, second.sum_is)

says_at : OnePlace → (row : List ℕ) (place : Place) → has_contrast row ≡ true → LiesAt row place
    → (say : Option CodeRow) × Says row say
says_at one row place contrast lies = elim (either (counts place (cells_of row place))) [
  | inl it ↦ (
    Some (record {
      place = place;
      levels = record { swing = swing (cells_of row place); heights = heights_of (cells_of row place) };
    }),
    record {
      contrast = contrast;
      lies = lies;
      it_counts = it;
      swing_is = refl;
      heights_are = refl;
    },
  )
  | inr not ↦ (
    None,
    λ code is.
        let same = one row place code.place lies is.lies in
        let here : counts code.place (cells_of row code.place) ≡ false =
        subst (λ (p : Place). counts p (cells_of row p) ≡ false) same not in
        cc (here, is.it_counts),
  )
]

-- a row without a sharp place, where the word is sought
says_sought : OnePlace → (row : List ℕ) → has_contrast row ≡ true → ((place : Place) → ¬ IsSharp row place)
    → (say : Option CodeRow) × Says row say
says_sought one row contrast blunt =
    let coarse = some_coarse row in
    let fine = some_refined row (2 * grain (length row)) 8 coarse.1 in
    elim (more_or_not (9 * EVEN) coarse.0) [
      | inl more ↦ says_at one row (earliest_place row fine.0) contrast (inr (
        blunt,
        record {
          coarse = coarse.1;
          sum = coarse.0;
          is_coarse = coarse.2;
          falls = more;
          deepest = fine.0;
          fine = fine.1;
          earliest_is = refl;
        },
      ))
      | inr flat ↦ (
        None,
        λ code is. elim is.lies [
          | inl sharp ↦ blunt code.place sharp
          | inr sought ↦
              let most = no_more row coarse.0 sought.1.sum coarse.1 sought.1.coarse coarse.2 sought.1.is_coarse in
              let over = sought.1.falls in
              absurd (omega (arith, most, over, flat))
        ],
      )
    ]

pub a_row_says : SharpOrNot → OnePlace → (row : List ℕ) → (say : Option CodeRow) × Says row say
a_row_says sharp one row = elim (either (has_contrast row)) [
  | inr even ↦ (None, λ code is. cc (even, is.contrast))
  | inl contrast ↦ elim (sharp row) [
    | inl here ↦ says_at one row here.0 contrast (inl here.1)
    | inr blunt ↦ says_sought one row contrast blunt
  ]
]

one_say : OneCode → (row : List ℕ) (a b : Option CodeRow) → Says row a → Says row b → a ≡ b
one_say one row (Some a) (Some b) is says = ap (λ (code : CodeRow). Some code) (one row a b is says)
one_say one row (Some a) None is says = absurd (says a is)
one_say one row None (Some b) is says = absurd (is b says)
one_say one row None None is says = refl

-- ---- rows

rows_say : SharpOrNot → OnePlace → (rows : List (List ℕ)) → (says : List (Option CodeRow)) × AllZip Says rows says
rows_say sharp one [] = ([], tt)
rows_say sharp one (row ∷ rows) =
    let here = a_row_says sharp one row in
    let behind = rows_say sharp one rows in
    (here.0 ∷ behind.0, (here.1, behind.1))

they_say : OneCode → (rows : List (List ℕ)) (a b : List (Option CodeRow)) → AllZip Says rows a → AllZip Says rows b
    → a ≡ b
they_say one [] [] [] are says = refl
they_say one [] [] (y ∷ ys) are says = absurd says
they_say one [] (x ∷ xs) ys are says = absurd are
they_say one (row ∷ rows) [] ys are says = absurd are
they_say one (row ∷ rows) (x ∷ xs) [] are says = absurd says
they_say one (row ∷ rows) (x ∷ xs) (y ∷ ys) are says =
    ap₂ (λ (z : Option CodeRow) (zs : List (Option CodeRow)). z ∷ zs) (one_say one row x y are.0 says.0)
    (they_say one rows xs ys are.1 says.1)

-- ---- a field

pub some_lines : SharpOrNot → OnePlace → (raster : RasterSize) (field : List ℕ)
    → (lines : List ℕ) × SaysLines raster field lines
some_lines sharp one raster field =
    let says = rows_say sharp one (looked_at raster (whole_parts raster.width field)) in
    let found = take 20 (found_from raster.first says.0) in
    (lines_of raster.width found, record { found = found; are = (says.0, says.1, refl); lines = refl })

pub one_list : OneCode → (raster : RasterSize) (field a b : List ℕ) → SaysLines raster field a
    → SaysLines raster field b → a ≡ b
one_list one raster field a b first second =
    let says = they_say one (looked_at raster (whole_parts raster.width field)) first.are.0 second.are.0 first.are.1
    second.are.1 in
    let same = ap (λ (s : List (Option CodeRow)). take 20 (found_from raster.first s)) says in
    let found = first.are.2 ∙ (same ∙ sym second.are.2) in
    first.lines ∙ (ap (lines_of raster.width) found ∙ sym second.lines)
