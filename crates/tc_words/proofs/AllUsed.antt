-- Each command has a line of usage, since the word of each form has one.
use Rattle.std.proofs.Common.{◌≡◌, true, Some, None, Err, refl}
use Rattle.std.specs.declared.option.Option.{Option}
use Rattle.std.specs.List.{find, list_all}
use Rattle.std.specs.Str.{bytes_eq}
use Rattle.std.proofs.lemmas.Bool.{and_parts}
use Rattle.std.proofs.lemmas.Slice.Eq.{bytes_eq-Decides}
use Rattle.forms.specs.Form.{Row, form_of, forms, is_form_of}
use Rattle.forms.specs.Named.{task_by, task_of}
use Rattle.tc_job.specs.declared.fault.WordsFault.TheVariants as faults
use Rattle.tc_words.specs.Usages.{HaveUsages, has_usage, is_known}
use Rattle.tc_words.proofs.AllTold.{found}

each_has : list_all (λ (row : Row). has_usage row.0) forms ≡ true
unfolding forms
each_has = refl

pub each_is_used : HaveUsages
unfolding task_of form_of
each_is_used command words known = go (find (is_form_of command words) forms) refl known
  where
    go : (o : Option Row) → find (is_form_of command words) forms ≡ o
        → is_known (elim o [ None ↦ Err faults.Command | Some form ↦ task_by form words ]) ≡ true
        → has_usage command ≡ true
    go None at known = absurd cc
    go (Some form) at known =
        let is = found (is_form_of command words) (λ (row : Row). has_usage row.0) forms form each_has at in
        let same = (bytes_eq-Decides command form.0).0 (and_parts (bytes_eq command form.0) _ is.0).0 in
        rw same is.1
