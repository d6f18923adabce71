-- With one more row of a field there is one more that is looked at, or none.
use Rattle.std.proofs.Common.{◌≡◌, ℕ, suc, ◌+◌, ◌-◌, ◌<◌, ◌≤◌, ◌⊎◌, inl, inr, List, [], ◌∷◌, ◌++◌, length, take, drop}
use Rattle.std.proofs.Common.{refl, ap, sym, subst, ◌∙◌, arith}
use Rattle.std.proofs.Common.{length-append, length-drop}
use Rattle.std.specs.Prelude.{Option, Some, None}
use Rattle.std.specs.List.{AllZip}
use Rattle.std.proofs.lemmas.List.{drop-append-le, drop_all, take-append-le, take_all}
use Rattle.luma_row.specs.declared.row.CodeRow.{CodeRow}
use Rattle.luma_field.specs.declared.found.FoundRow.{FoundRow}
use Rattle.luma_field.specs.KeptReader.{IsLooked}
use Rattle.luma_field.specs.Raster.{RasterSize}
use Rattle.luma_field.specs.Rows.{found_from, looked_at, AreFoundIn, Says}
use Rattle.luma_field.proofs.FirstTwenty.{cut_twice}

-- ---- which rows are looked at

looked_before : (raster : RasterSize) (rows : List (List ℕ)) (row : List ℕ) → length rows < raster.first
    → looked_at raster (rows ++ row ∷ []) ≡ looked_at raster rows
looked_before raster rows row h =
    let l = length-append rows (row ∷ []) in
    ap (take raster.rows) (drop_all raster.first (rows ++ row ∷ []) (omega (arith, l))
    ∙ sym (drop_all raster.first rows (omega arith)))

looked_behind : (raster : RasterSize) (rows : List (List ℕ)) (row : List ℕ) → raster.first + raster.rows ≤ length rows
    → looked_at raster (rows ++ row ∷ []) ≡ looked_at raster rows
looked_behind raster rows row h =
    let l = length-drop raster.first rows in
    ap (take raster.rows) (drop-append-le raster.first rows (row ∷ []) (omega arith))
    ∙ take-append-le raster.rows (drop raster.first rows) (row ∷ []) (omega (arith, l))

looked_within : (raster : RasterSize) (rows : List (List ℕ)) (row : List ℕ) → IsLooked raster (length rows)
    → looked_at raster (rows ++ row ∷ []) ≡ looked_at raster rows ++ row ∷ []
looked_within raster rows row h =
    let first = h.0 in
    let last = h.1 in
    let behind = drop raster.first rows in
    let l = length-drop raster.first rows in
    let more = length-append behind (row ∷ []) in
    ap (take raster.rows) (drop-append-le raster.first rows (row ∷ []) first)
    ∙ (take_all raster.rows (behind ++ row ∷ []) (omega (arith, l, more, first, last))
    ∙ ap (λ (xs : List (List ℕ)). xs ++ row ∷ []) (sym (take_all raster.rows behind (omega (arith, l, first, last)))))

length-looked : (raster : RasterSize) (rows : List (List ℕ)) → IsLooked raster (length rows)
    → length (looked_at raster rows) ≡ length rows - raster.first
length-looked raster rows h =
    let first = h.0 in
    let last = h.1 in
    let l = length-drop raster.first rows in
    ap length (take_all raster.rows (drop raster.first rows) (omega (arith, l, first, last))) ∙ l

-- ---- what they say

one_said : (rows : List (List ℕ)) (says : List (Option CodeRow)) (row : List ℕ) (say : Option CodeRow)
    → AllZip Says rows says
    → Says row say → AllZip Says (rows ++ row ∷ []) (says ++ say ∷ [])
one_said [] [] row say all is = (is, tt)
one_said [] (s ∷ says) row say all is = absurd all
one_said (r ∷ rows) [] row say all is = absurd all
one_said (r ∷ rows) (s ∷ says) row say all is = (all.0, one_said rows says row say all.1 is)

length-said : (rows : List (List ℕ)) (says : List (Option CodeRow)) → AllZip Says rows says → length says ≡ length rows
length-said [] [] all = refl
length-said [] (s ∷ says) all = absurd all
length-said (r ∷ rows) [] all = absurd all
length-said (r ∷ rows) (s ∷ says) all = let l = length-said rows says all.1 in omega (arith, l)

one_found : (number : ℕ) (says : List (Option CodeRow)) (say : Option CodeRow)
    → found_from number (says ++ say ∷ []) ≡ found_from number says ++ found_from (number + length says) (say ∷ [])
unfolding found_from
one_found number [] say = let e : number ≡ number + 0 = omega arith in ap (λ (n : ℕ). found_from n (say ∷ [])) e
one_found number (None ∷ says) say =
    let e : number + 1 + length says ≡ number + suc (length says) = omega arith in
    one_found (number + 1) says say
    ∙ ap (λ (n : ℕ). found_from (number + 1) says ++ found_from n (say ∷ [])) e
one_found number (Some code ∷ says) say =
    let e : number + 1 + length says ≡ number + suc (length says) = omega arith in
    let here : FoundRow = record { number = number; row = code } in
    ap (λ (xs : List FoundRow). here ∷ xs) (one_found (number + 1) says say
    ∙ ap (λ (n : ℕ). found_from (number + 1) says ++ found_from n (say ∷ [])) e)

-- ---- one more row

pub row_looked : (raster : RasterSize) (rows : List (List ℕ)) (row : List ℕ) (say : Option CodeRow) (number : ℕ)
    (found new : List FoundRow) → AreFoundIn raster rows found → number ≡ length rows → IsLooked raster number
    → Says row say
    → new ≡ take 20 (found ++ found_from number (say ∷ [])) → AreFoundIn raster (rows ++ row ∷ []) new
row_looked raster rows row say number found new are count looked is keeps =
    let says = are.0 in
    let here : IsLooked raster (length rows) = subst (IsLooked raster) count looked in
    let within = looked_within raster rows row here in
    let first = here.0 in
    let long = length-said (looked_at raster rows) says are.1 in
    let few = length-looked raster rows here in
    let place : raster.first + length says ≡ number = omega (arith, long, few, first, count) in
    let one = found_from number (say ∷ []) in
    let more : found_from raster.first (says ++ say ∷ []) ≡ found_from raster.first says ++ one =
    one_found raster.first says say ∙ ap (λ (n : ℕ). found_from raster.first says ++ found_from n (say ∷ [])) place in (
      says ++ say ∷ [],
      subst (λ (xs : List (List ℕ)). AllZip Says xs (says ++ say ∷ [])) (sym within)
          (one_said (looked_at raster rows) says row say are.1 is),
      keeps ∙ (ap (λ (xs : List FoundRow). take 20 (xs ++ one)) are.2
          ∙ (cut_twice 20 (found_from raster.first says) one ∙ ap (take 20) (sym more))),
    )

not_looked : (raster : RasterSize) (number : ℕ) → ¬ IsLooked raster number
    → (number < raster.first) ⊎ (raster.first + raster.rows ≤ number)
not_looked raster number h =
    let cases : (number < raster.first) ⊎ (raster.first ≤ number) = grind arith in
    elim cases [
      | inl before ↦ inl before
      | inr behind ↦
          let others : (number < raster.first + raster.rows) ⊎ (raster.first + raster.rows ≤ number) = grind arith in
          elim others [ inl inside ↦ absurd (h (behind, inside)) | inr past ↦ inr past ]
    ]

pub row_passed : (raster : RasterSize) (rows : List (List ℕ)) (row : List ℕ) (number : ℕ) (found new : List FoundRow)
    → AreFoundIn raster rows found → number ≡ length rows → ¬ IsLooked raster number → new ≡ found
    → AreFoundIn raster (rows ++ row ∷ []) new
row_passed raster rows row number found new are count passed same =
    let as_before : looked_at raster (rows ++ row ∷ []) ≡ looked_at raster rows =
    elim (not_looked raster number passed) [
      | inl before ↦ looked_before raster rows row (omega (arith, count, before))
      | inr behind ↦ looked_behind raster rows row (omega (arith, count, behind))
    ] in (
      are.0,
      subst (λ (xs : List (List ℕ)). AllZip Says xs are.0) (sym as_before) are.1,
      same ∙ are.2,
    )

-- before the first row
pub no_rows : (raster : RasterSize) → AreFoundIn raster [] []
unfolding found_from
no_rows raster =
    let none : looked_at raster [] ≡ [] =
    ap (take raster.rows) (drop_all raster.first [] (omega arith)) ∙ take_all raster.rows [] (omega arith) in
    ([], subst (λ (xs : List (List ℕ)). AllZip Says xs []) (sym none) tt, refl)
