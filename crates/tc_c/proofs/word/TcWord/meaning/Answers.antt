use Rattle.std.proofs.Common.{◌≡◌, ℕ, true, Some, ap, ap₂, subst, ◌∙◌, arith}
use Rattle.tc_bits.specs.declared.flags.Flags.{Flags}
use Rattle.tc_bits.specs.Fields.{agrees, field_values}
use Rattle.tc_c.proofs.OneWord.{means_read, one_word}
use Rattle.tc_c.proofs.word.TcWord.meaning.Goals as goal

-- the numbers mean what was read of them, and one word at most
pub returns-clause-only : goal.returns-clause-only
returns-clause-only c = λ word says.
    let label = c.in_ok-label.label in
    let are = c.in-Ok.ensures.reads
    ∙ ap₂ (λ (f : Flags) (u : ℕ). field_values label f u) c.flags_of.ensures c.new.ensures in
    let means = means_read c.args.self.now label c.in-Ok.fields c.in_ok-label.ensures.means (omega arith) are
    (subst (λ (f : Flags). agrees label.count f.drop_frame ≡ true) c.flags_of.ensures c.in-Ok.ensures.agrees) in
    ap Some (one_word c.args.self.now _ word means says)
