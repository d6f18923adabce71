use Rattle.std.proofs.Common.{refl, sym, ◌∙◌}
use Rattle.vitc_reader.proofs.SameWord.{parts_same, same_have_parts}
use Rattle.vitc_reader.proofs.field.is_same.Goals as goal

pub returns-then-eq : goal.returns-then-eq
returns-then-eq c = let h = c.if-eq.ensures in (λ t. parts_same c.args.one.now c.args.other.now (sym h), λ e. refl)

pub returns-else-eq : goal.returns-else-eq
returns-else-eq c = let h = c.if-eq.ensures in
    (λ t. absurd cc, λ e. h ∙ same_have_parts c.args.one.now c.args.other.now e)
