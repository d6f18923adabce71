use Rattle.std.proofs.Common.{◌≡◌, ◌∙◌, None, sym, ap}
use Rattle.made_commands.specs.KeptLines.{rest_of_lines}
use Rattle.made_commands.proofs.MadeLinesInPieces.{no_frame_left}
use Rattle.made_commands.proofs.vitc_make.UnmadeLinesMaker.give.Goals as goal

-- the header was given, and no frame is left
pub returns-then-self-eq0-clause-all : goal.returns-then-self-eq0-clause-all
returns-then-self-eq0-clause-all c = λ _.
    let s = c.self.inside in
    let none : s.header ≡ None = sym c.take.ensures.value ∙ c.in_default.is in
    sym (ap rest_of_lines c.self.view_is) ∙ no_frame_left s.header s.length s.label s.frames none c.if-self-eq0.true
