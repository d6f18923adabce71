-- Rows that keep to the labels of a count: one more, and what it says of each of them.
use Rattle.std.proofs.Common.{◌≡◌, ℕ, zero, suc, List, [], ◌∷◌, ◌++◌, Some, None, map, ap, subst}
use Rattle.std.specs.Prelude.{slice_get}
use Rattle.std.specs.declared.option.Option.{Option}
use Rattle.tc_address.specs.declared.count.Count.{Count}
use Rattle.chase_core.specs.Trace.{Row, IsRowOf, AreRowsOf}
use Rattle.chase_script.specs.declared.row.ScriptRow.{ScriptRow}
use Rattle.chase_script.specs.Script.{IsRowFor}
use Rattle.chase_script.specs.Answer.{AreRowsFor}
use Rattle.chase_script.specs.TraceText.{row_of}

pub one_row_more : (count : Count) (rows : List ScriptRow) (row : ScriptRow) → AreRowsFor count rows
    → IsRowFor count row
    → AreRowsFor count (rows ++ row ∷ [])
unfolding AreRowsFor
one_row_more count [] row all one = (one, tt)
one_row_more count (first ∷ rows) row all one = (all.0, one_row_more count rows row all.1 one)

-- the row that was found, or another
abbrev or_else : Row → Option Row → Row
or_else other None = other
or_else other (Some row) = row

-- each one that is found is a row of the closed loop
pub row_of_the_day : (count : Count) (rows : List ScriptRow) (i : ℕ) (row : Row) → AreRowsFor count rows
    → slice_get (map row_of rows) i ≡ Some row → IsRowOf count row
unfolding AreRowsFor
row_of_the_day count [] i row all e = cc
row_of_the_day count (first ∷ rows) zero row all e =
    subst (λ (r : Row). IsRowOf count r) (ap (or_else (row_of first)) e) all.0.master
row_of_the_day count (first ∷ rows) (suc i) row all e = row_of_the_day count rows i row all.1 e

pub rows_of_the_day : (count : Count) (rows : List ScriptRow) → AreRowsFor count rows
    → AreRowsOf count (map row_of rows)
rows_of_the_day count rows all = λ i row e. row_of_the_day count rows i row all e
