use Rattle.std.proofs.Common.{◌+◌, ◌-◌, ◌≡◌, ◌≤◌, ◌<◌, ◌∙◌, ℕ, List, ap, ap₂, arith, drop, length, length-drop}
use Rattle.std.proofs.Common.{slice_get, sym}
use Rattle.std.proofs.Common.{take}
use Rattle.std.specs.Prelude.{option_and_then}
use Rattle.std.specs.declared.option.Option.{Option}
use Rattle.std.proofs.lemmas.List.{drop_all, take_rest}
use Rattle.column_command.proofs.ColumnBehind.{columns_from, further_on, in_this_field, none_behind}
use Rattle.column_command.proofs.FieldByField.{next_drop}
use Rattle.label_columns.specs.Columns.{columns_in}
use Rattle.tc_address.specs.Spelling.{label_in}
use Rattle.column_command.proofs.lengths.label_behind.Goals as goal

-- a field was passed
pub fields-preserved : goal.fields-preserved
fields-preserved c =
    let i = c.fields.invariant in
    let fields = c.args.fields.now in
    let parting = c.args.parting in
    let at = c.fields.at in
    let k = c.field_length.result in
    let behind = drop at fields in
    let most : at + k ≤ length fields = omega (arith, c.field_length.ensures.most, i.within, length-drop at fields) in
    let long : at + k - at ≡ k = omega arith in
    let k_is = rw (take_rest fields at) at c.field_length.ensures.value in
    let here : c.columns_in-here.result ≡ columns_in parting (take k behind) =
    rw long at c.columns_in-here.ensures.value in
    let some : 0 < length behind = omega (arith, c.fields-test.true, length-drop at fields) in
    let few : columns_in parting (take k behind) ≤ 1 = rw here at c.columns_in-here.ensures.most in
    let past : columns_in parting (take k behind) ≤ c.fields.left = omega (arith, here, c.if-left-here.false) in
    record {
      within = omega (arith, c.min-at.ensures);
      same = i.same ∙ further_on parting behind k c.fields.left some k_is few past
          ∙ ap₂ (λ (l : List ℕ) (n : ℕ). slice_get (columns_from parting l) (c.fields.left - n))
          (next_drop fields at k c.min-at.result most c.min-at.ensures) (sym here);
    }

-- the column is in this field
pub returns-then-left-here-clause-value : goal.returns-then-left-here-clause-value
returns-then-left-here-clause-value c =
    let i = c.fields.invariant in
    let fields = c.args.fields.now in
    let parting = c.args.parting in
    let at = c.fields.at in
    let k = c.field_length.result in
    let behind = drop at fields in
    let long : at + k - at ≡ k = omega arith in
    let k_is = rw (take_rest fields at) at c.field_length.ensures.value in
    let here : c.columns_in-here.result ≡ columns_in parting (take k behind) =
    rw long at c.columns_in-here.ensures.value in
    let some : 0 < length behind = omega (arith, c.fields-test.true, length-drop at fields) in
    let few : columns_in parting (take k behind) ≤ 1 = rw here at c.columns_in-here.ensures.most in
    let within : c.fields.left < columns_in parting (take k behind) = omega (arith, here, c.if-left-here.true) in
    let said = rw long at c.label_in_field.ensures.value in
    said ∙ sym (ap (λ (o : Option (List ℕ)). option_and_then (label_in c.args.count) o)
    (i.same ∙ in_this_field parting behind k c.fields.left some k_is few within))

-- there are too few columns
pub returns-clause-value : goal.returns-clause-value
returns-clause-value c =
    let i = c.fields.invariant in
    let fields = c.args.fields.now in
    let parting = c.args.parting in
    let none = drop_all c.fields.at fields (omega (arith, c.fields-test.false)) in
    sym (ap (λ (o : Option (List ℕ)). option_and_then (label_in c.args.count) o)
    (i.same ∙ ap (λ (l : List ℕ). slice_get (columns_from parting l) c.fields.left) none
    ∙ none_behind parting c.fields.left))
