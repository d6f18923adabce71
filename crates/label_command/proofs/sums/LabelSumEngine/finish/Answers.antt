use Rattle.std.proofs.Common.{◌++◌, ◌+◌, List, ℕ, ap, ap₂, refl, sym, ◌∙◌}
use Rattle.label_command.specs.Sums.{sum_line, sum_of}
use Rattle.label_lines.specs.Timebase.{count_of}
use Rattle.label_text.specs.declared.reader.LineRead.TheVariants as said
use Rattle.label_text.specs.LabelText.{labels_of}
use Rattle.label_command.proofs.SumsGrow.{ends_so, with_last}
use Rattle.label_command.proofs.sums.LabelSumEngine.finish.Goals as goal

-- the label of the last line was added, and the line of the sum was written
pub returns-in-Label-clause-ends : goal.returns-in-Label-clause-ends
returns-in-Label-clause-ends g c = λ bytes written stands.
    let s = c.args.self.now in
    let label = c.in-Label.label in
    let is = sym c.finish.ensures.said ∙ c.in-Label.is in (
      sum_line (count_of s.base) (sum_of (labels_of s.base bytes)),
      rw (c.deref.ensures.0 ∙ c.sum_line.ensures
          ∙ ap₂ sum_line c.count-count.ensures (ap (λ (n : ℕ). s.sum + n) (c.from.ensures ∙ c.number.ensures.before)
          ∙ with_last s bytes written stands label is)) at c.write.ensures,
      ends_so s bytes written stands (said.Label label) is refl,
      ap (λ (l : List ℕ). l ++ sum_line (count_of s.base) (sum_of (labels_of s.base bytes))) stands.none,
    )
