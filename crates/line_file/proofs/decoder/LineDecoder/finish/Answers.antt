use Rattle.std.proofs.Common.{subst, sym, ◌∙◌}
use Rattle.line_file.specs.StandsFor.{Decoding, StandsFor}
use Rattle.line_file.proofs.DecoderMore.{may_end, no_end}
use Rattle.line_file.proofs.decoder.LineDecoder.finish.Goals as goal

-- behind the header and each field it may end
pub returns-then-is_some-clause-ok : goal.returns-then-is_some-clause-ok
returns-then-is_some-clause-ok c = λ bytes answers stands.
    let d = c.self.inside in
    let s = subst (λ (x : Decoding). StandsFor x bytes answers) (sym c.self.view_is) stands in
    may_end d.header d.place d.fields bytes answers (sym c.is_some.ensures ∙ c.if-is_some.true) s

-- before the header it may not
pub returns-else-is_some-clause-err : goal.returns-else-is_some-clause-err
returns-else-is_some-clause-err c = λ bytes answers stands.
    let d = c.self.inside in
    let s = subst (λ (x : Decoding). StandsFor x bytes answers) (sym c.self.view_is) stands in
    no_end d.header d.place d.fields bytes answers (sym c.is_some.ensures ∙ c.if-is_some.false) s
