-- A label has one number in its day and one text, so the promise of each names one line.
use Rattle.std.proofs.Common.{◌≡◌, ℕ, List, ◌++◌, Some, sym, ◌∙◌, ap, slice_get}
use Rattle.std.specs.Prelude.{codes}
use Rattle.tc_address.specs.declared.count.Count.{Count}
use Rattle.tc_address.specs.Label.{Address, IsLabel, labels}
use Rattle.tc_address.specs.Numbering.{number_of}
use Rattle.tc_address.specs.Spelling.{label_in, text_of}
use Rattle.made_commands.specs.Labels.{NamesTheLabel, NumbersTheLabel, number_line}

abbrev pub HaveNumbers : Type 0
HaveNumbers = (c : Count) (n : ℕ) (a : Address) → slice_get (labels c) n ≡ Some a
    → (number_of a ≡ n) × (a.count ≡ c) × IsLabel a

abbrev pub HaveTexts : Type 0
HaveTexts = (c : Count) (text : List ℕ) (a : Address) → label_in c text ≡ Some a → (text ≡ text_of a) × (a.count ≡ c)

pub one_number : HaveNumbers → (label : Address) (a b : List ℕ) → NumbersTheLabel label a → NumbersTheLabel label b
    → a ≡ b
one_number have label a b p q =
    let first = (have label.count p.number label p.place).0 in
    let second = (have label.count q.number label q.place).0 in
    p.are ∙ ap number_line (sym first ∙ second) ∙ sym q.are

pub one_text : HaveTexts → (label : Address) (a b : List ℕ) → NamesTheLabel label a → NamesTheLabel label b → a ≡ b
one_text have label a b p q =
    let first = (have label.count p.text label p.read).0 in
    let second = (have label.count q.text label q.read).0 in
    p.are ∙ ap (λ (text : List ℕ). text ++ codes "\n") (first ∙ sym second) ∙ sym q.are
