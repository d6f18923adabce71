-- A column that is moved on and back is the same: the text of a label, and a step that is undone.
use Rattle.std.proofs.Common.{◌≡◌, List, ℕ, Some, ap, ap₂, sym, ◌∙◌}
use Rattle.std.specs.Prelude.{ℤ, pos, ◌+ℤ◌, option_map}
use Rattle.column_command.proofs.OneColumn.{answered_label}
use Rattle.label_columns.specs.Columns.{answer_to}
use Rattle.label_lines.specs.Answer.{answer}
use Rattle.label_lines.specs.Timebase.{count_of}
use Rattle.label_lines.specs.declared.timebase.Timebase.{Timebase}
use Rattle.label_lines.specs.declared.way.Way.{Way}
use Rattle.tc_address.specs.Label.{Address, IsLabel}
use Rattle.tc_address.specs.Numbering.{step}
use Rattle.tc_address.specs.Spelling.{label_in, text_of}
use Rattle.tc_address.specs.declared.count.Count.{Count}

-- what the laws of labels say of texts and of steps
pub record BackLaws : Type 0 where
  pub label : (base : Timebase) (text : List ℕ) (a : Address) → label_in (count_of base) text ≡ Some a → IsLabel a
  pub read : (a : Address) → IsLabel a → label_in a.count (text_of a) ≡ Some a
  pub only : (c : Count) (text : List ℕ) (a : Address) → label_in c text ≡ Some a
      → (text ≡ text_of a) × (a.count ≡ c)
  pub stepped : (a : Address) (steps : ℤ) → ((step a steps).count ≡ a.count) × IsLabel (step a steps)
  pub none : (a : Address) → IsLabel a → step a (pos 0) ≡ a
  pub sum : (a : Address) (j k : ℤ) → step (step a j) k ≡ step a (j +ℤ k)

pub comes_back : BackLaws → (base : Timebase) (way back : Way) (j k : ℤ) (column put : List ℕ)
    → ((a : Address) → answer base way a ≡ text_of (step a j))
    → ((a : Address) → answer base back a ≡ text_of (step a k)) → j +ℤ k ≡ pos 0
    → answer_to base way column ≡ Some put → answer_to base back put ≡ Some column
unfolding answer_to
comes_back laws base way back j k column put on off undone is =
    let (a, said, same) = answered_label base way column put is in
    let its = laws.only (count_of base) column a said in
    let label = laws.label base column a said in
    let there = laws.stepped a j in
    let b = step a j in
    let put_is : put ≡ text_of b = sym same ∙ on a in
    let read : label_in (count_of base) put ≡ Some b =
    ap₂ label_in (sym (there.0 ∙ its.1)) put_is ∙ laws.read b there.1 in
    let back_is : answer base back b ≡ column =
    off b ∙ ap text_of (laws.sum a j k ∙ ap (step a) undone ∙ laws.none a label) ∙ sym its.0 in
    ap (option_map (answer base back)) read ∙ ap (λ (l : List ℕ). Some l) back_is
