use Rattle.std.proofs.Common.{◌≡◌, take, rules}
use Rattle.quarter_frame.specs.StandsFor.{written, next_half}
use Rattle.quarter_frame.proofs.OneFrameMore.{after_frame}
use Rattle.quarter_frame.proofs.writer.QuarterWriter.frame.Goals as goal

pub returns-then-joined-clause-stands : goal.returns-then-joined-clause-stands
returns-then-joined-clause-stands c = λ frames stands.
    let bytes : take c.go_on.result c.go_on.new.room ≡ written c.args.self.now c.args.frame.now = search rules in
    let next : c.go_on.new.self ≡ next_half c.args.self.now c.args.frame.now = search rules in
    after_frame c.args.self.now _ frames c.args.frame.now _ stands bytes next

pub returns-in-Invented-clause-stands : goal.returns-in-Invented-clause-stands
returns-in-Invented-clause-stands c = λ frames stands.
    let bytes : take c.go_on-in-Invented.result c.go_on-in-Invented.new.room ≡ written c.args.self.now c.args.frame.now
    = search rules in
    let next : c.go_on-in-Invented.new.self ≡ next_half c.args.self.now c.args.frame.now = search rules in
    after_frame c.args.self.now _ frames c.args.frame.now _ stands bytes next
