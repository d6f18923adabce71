-- With a row more a field goes on, or it is whole.
use Rattle.std.proofs.Common.{◌≡◌, ℕ, suc, ◌+◌, ◌*◌, ◌<◌, ◌≤◌, ◌⊎◌, inl, inr, List, [], ◌∷◌, ◌++◌, length, take, ap}
use Rattle.std.proofs.Common.{refl, sym, subst, ◌∙◌, mul_comm, arith, length-append}
use Rattle.std.specs.Prelude.{Option}
use Rattle.std.specs.List.{concat, All}
use Rattle.std.proofs.Math.Nat.{mul-le-mul_right}
use Rattle.std.proofs.lemmas.List.{append-nil}
use Rattle.std.proofs.lemmas.List.Elements.{All-nil, All-push}
use Rattle.std.proofs.lemmas.List.Folds.{concat-append}
use Rattle.luma_row.specs.declared.row.CodeRow.{CodeRow}
use Rattle.luma_field.specs.declared.found.FoundRow.{FoundRow}
use Rattle.luma_field.specs.KeptReader.{FieldReading, IsLooked, StandsFor}
use Rattle.luma_field.specs.Field.{lines_of}
use Rattle.luma_field.specs.Parts.{whole_parts}
use Rattle.luma_field.specs.Raster.{size_of, RasterSize}
use Rattle.luma_field.specs.Rows.{found_from, AreFoundIn, Says, SaysLines}
use Rattle.luma_field.proofs.PartsJoined.{length-joined, whole_of_joined}
use Rattle.luma_field.proofs.RowByRow.{no_rows, row_looked, row_passed}

-- ---- the rows, with one more

looked_or_not : (raster : RasterSize) (number : ℕ) → IsLooked raster number ⊎ (¬ IsLooked raster number)
looked_or_not raster number =
    let low : (raster.first ≤ number) ⊎ (number < raster.first) = grind arith in
    let high : (number < raster.first + raster.rows) ⊎ (raster.first + raster.rows ≤ number) = grind arith in
    elim low [
      | inr before ↦ inr (λ is. let a = is.0 in absurd (omega (arith, a, before)))
      | inl behind ↦ elim high [
        | inl inside ↦ inl (behind, inside)
        | inr past ↦ inr (λ is. let a = is.1 in absurd (omega (arith, a, past)))
      ]
    ]

-- the code of a row that is looked at is kept
pub record KeepsIt (s : FieldReading) (row : List ℕ) (found : List FoundRow) : Type 0 where
  pub wide : length row ≡ s.raster.width
  pub looked : IsLooked s.raster s.number → (say : Option CodeRow) × Says row say
      × (found ≡ take 20 (s.found ++ found_from s.number (say ∷ [])))
  pub passed : ¬ IsLooked s.raster s.number → found ≡ s.found

record RowsWith (s : FieldReading) (part row : List ℕ) (kept : List FoundRow) (rows : List (List ℕ)) : Type 0 where
  wide : All (λ row. length row ≡ s.raster.width) rows
  number : s.number + 1 ≡ length rows
  found : AreFoundIn s.raster rows kept
  are : part ++ row ≡ concat rows
  long : length (part ++ row) ≡ (s.number + 1) * s.raster.width

one_more : (s : FieldReading) (part row : List ℕ) (found : List FoundRow) (stands : StandsFor s part)
    → KeepsIt s row found → RowsWith s part row found (stands.rows ++ row ∷ [])
one_more s part row found stands keeps =
    let rows = stands.rows in
    let wide = All-push (λ (row : List ℕ). length row ≡ s.raster.width) rows row stands.wide keeps.wide in
    let number : s.number + 1 ≡ length (rows ++ row ∷ []) =
    omega (arith, stands.number, length-append rows (row ∷ [])) in
    let are : part ++ row ≡ concat (rows ++ row ∷ []) =
    ap (λ (l : List ℕ). l ++ row) stands.are
    ∙ ap (λ (l : List ℕ). concat rows ++ l) (sym (append-nil row)) ∙ sym (concat-append rows (row ∷ [])) in
    record {
      wide = wide;
      number = number;
      found = elim (looked_or_not s.raster s.number) [
        | inl looked ↦
            let kept = keeps.looked looked in
            row_looked s.raster rows row kept.0 s.number s.found found stands.found stands.number looked kept.1 kept.2
        | inr passed ↦
            row_passed s.raster rows row s.number s.found found stands.found stands.number passed (keeps.passed passed)
      ];
      are = are;
      long = ap length are ∙ length-joined s.raster.width (rows ++ row ∷ []) wide
          ∙ ap (λ (n : ℕ). n * s.raster.width) (sym number);
    }

-- ---- the field goes on, or it ends

room_for_one : (width height number : ℕ) → number < height → number * width + width ≤ width * height
room_for_one width height number less =
    let next : suc number ≤ height = omega (arith, less) in
    let m = mul-le-mul_right width next in
    let turned = mul_comm height width in
    omega (arith, m, turned)

-- before the first row
pub no_row : (raster : RasterSize) → 0 < raster.width → 0 < raster.height
    → StandsFor (record { raster = raster; number = 0; found = [] }) []
no_row raster some high =
    let room = room_for_one raster.width raster.height 0 high in
    record {
      rows = [];
      wide = All-nil (λ (row : List ℕ). length row ≡ raster.width);
      number = refl;
      found = no_rows raster;
      are = refl;
      few = omega (arith, room, some);
      room = omega (arith, room);
    }

pub field_goes_on : (s : FieldReading) (found : List FoundRow) (part row : List ℕ) → KeepsIt s row found
    → 0 < s.raster.width → s.number + 1 < s.raster.height → StandsFor s part
    → StandsFor (record { raster = s.raster; number = s.number + 1; found = found }) (part ++ row)
field_goes_on s found part row keeps some more stands =
    let grown = one_more s part row found stands keeps in
    let room = room_for_one s.raster.width s.raster.height (s.number + 1) more in
    record {
      rows = stands.rows ++ row ∷ [];
      wide = grown.wide;
      number = grown.number;
      found = grown.found;
      are = grown.are;
      few = omega (arith, grown.long, room, some);
      room = omega (arith, grown.long, room);
    }

pub field_is_whole : (s : FieldReading) (found : List FoundRow) (part row said : List ℕ) → KeepsIt s row found
    → 0 < s.raster.width → s.number + 1 ≡ s.raster.height → said ≡ lines_of s.raster.width found → StandsFor s part
    → (length (part ++ row) ≡ size_of s.raster) × SaysLines s.raster (part ++ row) said
    × StandsFor (record { raster = s.raster; number = 0; found = [] }) []
field_is_whole s found part row said keeps some last is stands =
    let grown = one_more s part row found stands keeps in
    let rows = stands.rows ++ row ∷ [] in
    let width = s.raster.width in
    let apart : whole_parts width (part ++ row) ≡ rows =
    ap (whole_parts width) (grown.are ∙ sym (append-nil (concat rows))) ∙ whole_of_joined width rows [] grown.wide some in (
      grown.long ∙ ap (λ (n : ℕ). n * width) last ∙ mul_comm s.raster.height width,
      record {
        found = found;
        are = subst (λ (rs : List (List ℕ)). AreFoundIn s.raster rs found) (sym apart) grown.found;
        lines = is;
      },
      no_row s.raster some (omega (arith, last)),
    )
