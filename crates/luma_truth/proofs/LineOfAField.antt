-- A row that is among the first 20 that are looked at is among the first 20 that carry code, if it carries any; and so
-- is its line among the first 20 lines, since each row before it has one at most.
use Rattle.std.proofs.Common.{◌≡◌, ℕ, zero, suc, ◌+◌, ◌<◌, ◌≤◌, Bool, true, false, cond, List}
use Rattle.std.proofs.Common.{[], ◌∷◌, ◌++◌, length, take, Option, Some, None}
use Rattle.std.proofs.Common.{refl, ap, subst, ◌∙◌, append_assoc, length-append, arith}
use Rattle.std.specs.List.{flat_map, AllZip}
use Rattle.std.proofs.lemmas.Grind.{flat_map-append}
use Rattle.std.proofs.lemmas.List.Concat.{flat_map-cons}
use Rattle.luma_row.specs.declared.levels.Levels.{Levels}
use Rattle.luma_row.specs.declared.place.Place.{Place}
use Rattle.luma_row.specs.declared.row.CodeRow.{CodeRow}
use Rattle.luma_row.specs.Levels.{number_of, says_bits}
use Rattle.luma_row.specs.Light.{IsRow}
use Rattle.luma_row.specs.Row.{IsCode, LiesAt}
use Rattle.luma_field.specs.declared.found.FoundRow.{FoundRow}
use Rattle.luma_field.specs.Field.{line_of, line_of_pair, line_of_row, pairs}
use Rattle.luma_field.specs.Parts.{whole_parts}
use Rattle.luma_field.specs.Raster.{RasterSize}
use Rattle.luma_field.specs.Rows.{found_from, looked_at, Says, SaysLines}
use Rattle.luma_truth.specs.Drawing.{Drawing, IsDrawn}
use Rattle.luma_truth.specs.Inside.{HasMargin, LiesInside}
use Rattle.luma_truth.proofs.CleanDrawing.{carries_its_word}

-- what is said of a row in the midst of others
pub record SaidOf (row : List ℕ) (before : ℕ) (says : List (Option CodeRow)) : Type 0 where
  pub first : List (Option CodeRow)
  pub say : Option CodeRow
  pub rest : List (Option CodeRow)
  pub are : says ≡ first ++ (say ∷ rest)
  pub said : Says row say
  pub long : length first ≡ before

said_of : (row : List ℕ) (before behind : List (List ℕ)) (says : List (Option CodeRow))
    → AllZip Says (before ++ (row ∷ behind)) says → SaidOf row (length before) says
said_of row [] behind [] said = absurd said
said_of row [] behind (say ∷ says) said =
    record { first = []; say = say; rest = says; are = refl; said = said.0; long = refl }
said_of row (other ∷ before) behind [] said = absurd said
said_of row (other ∷ before) behind (say ∷ says) said =
    let more = said_of row before behind says said.1 in
    record {
      first = say ∷ more.first;
      say = more.say;
      rest = more.rest;
      are = ap (λ (list : List (Option CodeRow)). say ∷ list) more.are;
      said = more.said;
      long = ap (λ (n : ℕ). suc n) more.long;
    }

-- it is found behind those before it
found_behind : (number : ℕ) (first : List (Option CodeRow)) (code : CodeRow) (rest : List (Option CodeRow))
    → (n : ℕ) × (more : List FoundRow) × (found_from number (first ++ (Some code ∷ rest))
    ≡ found_from number first ++ (record { number = n; row = code } ∷ more))
unfolding found_from
found_behind number [] code rest = (number, found_from (number + 1) rest, refl)
found_behind number (None ∷ first) code rest = found_behind (number + 1) first code rest
found_behind number (Some other ∷ first) code rest =
    let more = found_behind (number + 1) first code rest in
    (more.0, more.1, ap (λ (list : List FoundRow). record { number = number; row = other } ∷ list) more.2)

few_found : (number : ℕ) (first : List (Option CodeRow)) → length (found_from number first) ≤ length first
unfolding found_from
few_found number [] = omega arith
few_found number (None ∷ first) = let few = few_found (number + 1) first in omega (arith, few)
few_found number (Some other ∷ first) = let few = few_found (number + 1) first in omega (arith, few)

-- one in the front of a list is in its first n
take_front : {X : Type 0} (n : ℕ) (first : List X) (x : X) (rest : List X) → length first < n
    → (more : List X) × (take n (first ++ (x ∷ rest)) ≡ first ++ (x ∷ more))
take_front zero first x rest h = absurd (omega arith)
take_front (suc n) [] x rest h = (take n rest, refl)
take_front {X} (suc n) (y ∷ first) x rest h =
    let more = take_front n first x rest (omega arith) in
    (more.0, ap (λ (list : List X). y ∷ list) more.1)

-- a row has one line at most
one_at_most : (is_said : Bool) (bits : ℕ) → length (cond is_said (bits ∷ []) []) ≤ 1
one_at_most true bits = omega arith
one_at_most false bits = omega arith

few_lines : (rows : List FoundRow) → length (flat_map line_of_row rows) ≤ length rows
few_lines [] = omega arith
few_lines (found ∷ rows) =
    let one = one_at_most (says_bits found.row.levels) (number_of found.row.levels) in
    let more = few_lines rows in
    let both = length-append (line_of_row found) (flat_map line_of_row rows) in
    let e = ap length (flat_map-cons line_of_row found rows) in
    omega (arith, one, more, both, e)

line_is : (levels : Levels) (word : ℕ) → says_bits levels ≡ true → number_of levels ≡ word → line_of levels ≡ word ∷ []
line_is levels word said is =
    ap (λ (b : Bool). cond b (number_of levels ∷ []) []) said ∙ ap (λ (n : ℕ). n ∷ []) is

-- the lines of some rows, one of which says this word
lines_with : (width word n : ℕ) (code : CodeRow) (first more : List FoundRow) → length first < 20
    → says_bits code.levels ≡ true → number_of code.levels ≡ word → (lines : List ℕ)
    → (before rest : List ℕ) × (take 20 (flat_map line_of_row (first ++ (record { number = n; row = code } ∷ more))
    ++ lines) ≡ before ++ (word ∷ rest))
lines_with width word n code first more few said is lines =
    let found : FoundRow = record { number = n; row = code } in
    let of_row : line_of_row found ≡ word ∷ [] = line_is code.levels word said is in
    let split = flat_map-append line_of_row first (found ∷ more) in
    let own = flat_map-cons line_of_row found more in
    let here : flat_map line_of_row (found ∷ more) ≡ word ∷ flat_map line_of_row more =
    own ∙ ap (λ (list : List ℕ). list ++ flat_map line_of_row more) of_row in
    let all : flat_map line_of_row (first ++ (found ∷ more)) ++ lines
    ≡ flat_map line_of_row first ++ (word ∷ (flat_map line_of_row more ++ lines)) =
    ap (λ (list : List ℕ). list ++ lines) (split ∙ ap (λ (list : List ℕ). flat_map line_of_row first ++ list) here)
    ∙ append_assoc (flat_map line_of_row first) (word ∷ flat_map line_of_row more) lines in
    let short = few_lines first in
    let front = take_front 20 (flat_map line_of_row first) word (flat_map line_of_row more ++ lines)
    (omega (arith, short, few)) in
    (flat_map line_of_row first, front.0, ap (λ (list : List ℕ). take 20 list) all ∙ front.1)

-- one code a row
abbrev pub OneCode : Type 0
OneCode = (row : List ℕ) (a b : CodeRow) → IsCode row a → IsCode row b → a ≡ b

some_code : OneCode → (row : List ℕ) (say : Option CodeRow) (code : CodeRow) → Says row say → IsCode row code
    → say ≡ Some code
some_code one row None code said is = absurd (said code is)
some_code one row (Some other) code said is = ap (λ (c : CodeRow). Some c) (one row other code said is)

pub has_the_line_of : OneCode → (word : ℕ) (raster : RasterSize) (field lines row : List ℕ)
    (before behind : List (List ℕ)) (code : CodeRow) → IsCode row code → says_bits code.levels ≡ true
    → number_of code.levels ≡ word → looked_at raster (whole_parts raster.width field) ≡ before ++ (row ∷ behind)
    → length before < 20 → SaysLines raster field lines → (first rest : List ℕ) × (lines ≡ first ++ (word ∷ rest))
has_the_line_of one word raster field lines row before behind code is says_it number looked few said =
    let says = said.are.0 in
    let zipped = subst (λ (rows : List (List ℕ)). AllZip Says rows says) looked said.are.1 in
    let of_row = said_of row before behind says zipped in
    let some = some_code one row of_row.say code of_row.said is in
    let all : says ≡ of_row.first ++ (Some code ∷ of_row.rest) =
    of_row.are ∙ ap (λ (say : Option CodeRow). of_row.first ++ (say ∷ of_row.rest)) some in
    let found = found_behind raster.first of_row.first code of_row.rest in
    let long = few_found raster.first of_row.first in
    let early : length (found_from raster.first of_row.first) < 20 = omega (arith, long, of_row.long, few) in
    let front = take_front 20 (found_from raster.first of_row.first) (record { number = found.0; row = code }) found.1
    early in
    let found_is : said.found ≡ found_from raster.first of_row.first
    ++ (record { number = found.0; row = code } ∷ front.0) =
    said.are.2 ∙ (ap (λ (list : List (Option CodeRow)). take 20 (found_from raster.first list)) all
    ∙ (ap (λ (list : List FoundRow). take 20 list) found.2 ∙ front.1)) in
    let lines_are = lines_with raster.width word found.0 code (found_from raster.first of_row.first) front.0
    early says_it number (flat_map (line_of_pair raster.width) (pairs said.found)) in (
      lines_are.0,
      lines_are.1,
      said.lines ∙ (ap (λ (list : List FoundRow). take 20 (flat_map line_of_row list
          ++ flat_map (line_of_pair raster.width) (pairs said.found))) found_is ∙ lines_are.2),
    )

pub has_its_line : OneCode → (drawing : Drawing) (raster : RasterSize) (field lines row : List ℕ)
    (before behind : List (List ℕ)) (place : Place) → IsRow row → IsDrawn drawing row → LiesAt row place
    → LiesInside drawing place → HasMargin drawing place
    → looked_at raster (whole_parts raster.width field) ≡ before ++ (row ∷ behind) → length before < 20
    → SaysLines raster field lines → (first rest : List ℕ) × (lines ≡ first ++ (drawing.word ∷ rest))
has_its_line one drawing raster field lines row before behind place row_is is lies inside enough looked few said =
    let code = carries_its_word drawing row place row_is is lies inside enough in
    has_the_line_of one drawing.word raster field lines row before behind code.0 code.1 code.3 code.4 looked few said
