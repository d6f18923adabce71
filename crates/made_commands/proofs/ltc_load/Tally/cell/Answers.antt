use Rattle.std.proofs.Common.{◌++◌, ◌∷◌, [], ℕ, List, ap, subst, sym, append_assoc, ◌∙◌}
use Rattle.biphase.specs.declared.cell.Cell.{Cell}
use Rattle.biphase.specs.Chain.{intervals_of}
use Rattle.made_commands.specs.KeptLoad.{HasRead}
use Rattle.made_commands.proofs.ltc_load.Tally.cell.Goals as goal

-- one half and then the other
pub returns-in-One-clause-reads : goal.returns-in-One-clause-reads
returns-in-One-clause-reads c = λ intervals read.
    let first = c.in-One.first ∷ [] in
    let last = c.in-One.second ∷ [] in
    subst (λ (l : List ℕ). HasRead c.interval-in-One-2.new.self l)
    (append_assoc intervals first last ∙ ap (λ (cell : Cell). intervals ++ intervals_of cell) (sym c.in-One.is))
    (c.interval-in-One-2.ensures.reads (intervals ++ first) (c.interval-in-One.ensures.reads intervals read))
