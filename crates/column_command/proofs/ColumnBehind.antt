-- The column behind so many others: it is in the first field, or behind fewer of the rest.
use Rattle.std.proofs.Common.{◌≡◌, ℕ, zero, suc, ◌+◌, ◌-◌, ◌==◌, ◌<◌, ◌≤◌, List, [], ◌∷◌, ◌++◌, Some, None}
use Rattle.std.proofs.Common.{ap, arith, drop, if◌then◌else◌, length, refl, slice_get, take, ◌∙◌}
use Rattle.std.specs.List.{position_or_len}
use Rattle.column_command.proofs.FirstField.{parted_first}
use Rattle.label_columns.specs.Columns.{column_of, columns_in, columns_of, ends_field}
use Rattle.label_columns.specs.Parts.{parted}
use Rattle.label_columns.specs.declared.columns.Parting.{Parting}

-- the columns of a line's fields
abbrev pub columns_from : Parting → List ℕ → List (List ℕ)
columns_from parting fields = columns_of parting (parted (ends_field parting) fields)

-- those of the first field come first
columns_first : (parting : Parting) (fields : List ℕ) (k : ℕ) → 0 < length fields
    → k ≡ position_or_len (ends_field parting) fields
    → columns_from parting fields
    ≡ (if columns_in parting (take k fields) == 0 then [] else column_of (take k fields) ∷ [])
    ++ columns_from parting (drop (k + 1) fields)
unfolding columns_of
columns_first parting fields k some is =
    rw is (ap (columns_of parting) (parted_first (ends_field parting) fields some))

behind_them : (c n : ℕ) (column : List ℕ) (others : List (List ℕ)) → c ≤ 1 → c ≤ n
    → slice_get ((if c == 0 then [] else column ∷ []) ++ others) n ≡ slice_get others (n - c)
behind_them zero n column others few past = (let same : n - 0 ≡ n = omega arith in rw same refl)
behind_them (suc zero) zero column others few past = absurd (omega (arith, past))
behind_them (suc zero) (suc n) column others few past =
    (let same : suc n - suc zero ≡ n = omega arith in rw same refl)
behind_them (suc (suc c)) n column others few past = absurd (omega (arith, few))

among_them : (c n : ℕ) (column : List ℕ) (others : List (List ℕ)) → c ≤ 1 → n < c
    → slice_get ((if c == 0 then [] else column ∷ []) ++ others) n ≡ Some column
among_them zero n column others few within = absurd (omega (arith, within))
among_them (suc zero) n column others few within = (let none : n ≡ 0 = omega (arith, within) in rw none refl)
among_them (suc (suc c)) n column others few within = absurd (omega (arith, few))

pub none_behind : (parting : Parting) (n : ℕ) → slice_get (columns_from parting []) n ≡ None
unfolding columns_of parted
none_behind parting zero = refl
none_behind parting (suc n) = refl

pub further_on : (parting : Parting) (fields : List ℕ) (k n : ℕ) → 0 < length fields
    → k ≡ position_or_len (ends_field parting) fields → columns_in parting (take k fields) ≤ 1
    → columns_in parting (take k fields) ≤ n
    → slice_get (columns_from parting fields) n
    ≡ slice_get (columns_from parting (drop (k + 1) fields)) (n - columns_in parting (take k fields))
further_on parting fields k n some is few past =
    ap (λ (l : List (List ℕ)). slice_get l n) (columns_first parting fields k some is)
    ∙ behind_them (columns_in parting (take k fields)) n (column_of (take k fields)) _ few past

pub in_this_field : (parting : Parting) (fields : List ℕ) (k n : ℕ) → 0 < length fields
    → k ≡ position_or_len (ends_field parting) fields → columns_in parting (take k fields) ≤ 1
    → n < columns_in parting (take k fields)
    → slice_get (columns_from parting fields) n ≡ Some (column_of (take k fields))
in_this_field parting fields k n some is few within =
    ap (λ (l : List (List ℕ)). slice_get l n) (columns_first parting fields k some is)
    ∙ among_them (columns_in parting (take k fields)) n (column_of (take k fields)) _ few within
