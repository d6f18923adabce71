-- Two rows give the line of both as one where they belong together, and else none.
use Rattle.std.proofs.Common.{◌≡◌, ℕ, true, false, [], refl, ap}
use Rattle.luma_row.specs.declared.levels.Levels.{Levels}
use Rattle.luma_row.specs.Levels.{joined}
use Rattle.luma_field.specs.declared.found.FoundRow.{FoundRow}
use Rattle.luma_field.specs.Field.{belong, line_of, line_of_two}

pub they_belong : (width : ℕ) (a b : FoundRow) (levels : Levels) → belong width a b ≡ true
    → levels ≡ joined a.row.levels b.row.levels → line_of levels ≡ line_of_two width a b
unfolding line_of_two
they_belong width a b levels is same = rw is (ap line_of same)

pub they_do_not : (width : ℕ) (a b : FoundRow) → belong width a b ≡ false → [] ≡ line_of_two width a b
unfolding line_of_two
they_do_not width a b not = rw not refl
