use Rattle.std.proofs.Common.{◌≡◌, None}
use Rattle.made_commands.proofs.MadeInPieces.{nothing_left}
use Rattle.made_commands.proofs.ltc_make.UnmadeRecordingMaker.give.Goals as goal

-- the header was given, and no frame is left
pub returns-then-self-eq0-clause-all : goal.returns-then-self-eq0-clause-all
returns-then-self-eq0-clause-all c = λ _.
    let s = c.args.self.now in
    let none : s.header ≡ None = cc in
    nothing_left s.header s.shaper s.direction s.label s.frames none c.if-self-eq0.true
