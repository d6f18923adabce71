-- A record of five fields is the row of these, and each other record is refused for the number of its fields.
use Rattle.std.proofs.Common.{◌≡◌, ℕ, zero, suc, ◌≤◌, arith, List, [], ◌∷◌, length, Some, None, ap, ◌∙◌}
use Rattle.std.specs.declared.option.Option.{Option}
use Rattle.csv.specs.Records.{field_at}
use Rattle.tc_address.specs.declared.count.Count.{Count}
use Rattle.chase_script.specs.Script.{Field, row_in}
use Rattle.chase_script.specs.KeptRow.{row_of_fields}

-- what is at a place, or something else
abbrev or_else : Field → Option Field → Field
or_else other None = other
or_else other (Some field) = field

-- the fields that were got
pub record Got (fields : List Field) (a b c d e : Field) : Type 0 where
  pub first : field_at fields 0 ≡ Some a
  pub second : field_at fields 1 ≡ Some b
  pub third : field_at fields 2 ≡ Some c
  pub fourth : field_at fields 3 ≡ Some d
  pub fifth : field_at fields 4 ≡ Some e

pub five_fields : (count : Count) (fields : List Field) (a b c d e : Field) → length fields ≡ 5 → Got fields a b c d e
    → row_in count fields ≡ row_of_fields count a b c d e
unfolding field_at
five_fields count [] a b c d e five got = cc
five_fields count (v ∷ []) a b c d e five got = cc
five_fields count (v ∷ w ∷ []) a b c d e five got = cc
five_fields count (v ∷ w ∷ x ∷ []) a b c d e five got = cc
five_fields count (v ∷ w ∷ x ∷ y ∷ []) a b c d e five got = cc
five_fields count (v ∷ w ∷ x ∷ y ∷ z ∷ []) a b c d e five got =
    ap (λ (f : Field). row_of_fields count f w x y z) (ap (or_else v) got.first)
    ∙ ap (λ (f : Field). row_of_fields count a f x y z) (ap (or_else w) got.second)
    ∙ ap (λ (f : Field). row_of_fields count a b f y z) (ap (or_else x) got.third)
    ∙ ap (λ (f : Field). row_of_fields count a b c f z) (ap (or_else y) got.fourth)
    ∙ ap (λ (f : Field). row_of_fields count a b c d f) (ap (or_else z) got.fifth)
five_fields count (v ∷ w ∷ x ∷ y ∷ z ∷ u ∷ more) a b c d e five got = cc

-- a field is there at each place below their number
pub no_field : (fields : List Field) (i : ℕ) → field_at fields i ≡ None → length fields ≤ i
unfolding field_at
no_field [] i none = omega arith
no_field (f ∷ fields) zero none = cc
no_field (f ∷ fields) (suc i) none = let fewer = no_field fields i none in omega (arith, fewer)
