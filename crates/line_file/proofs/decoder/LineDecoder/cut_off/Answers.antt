use Rattle.std.proofs.Common.{subst, sym}
use Rattle.line_file.specs.StandsFor.{Decoding, IsCut, StandsFor}
use Rattle.line_file.proofs.DecoderMore.{cut_end}
use Rattle.line_file.proofs.decoder.LineDecoder.cut_off.Goals as goal

-- inside a header or a field
pub returns : goal.returns
returns c = λ cut front answers stands.
    let d = c.self.inside in
    let s = subst (λ (x : Decoding). StandsFor x front answers) (sym c.self.view_is) stands in
    let is = subst (λ (x : Decoding). IsCut x c.args.bytes.now) (sym c.self.view_is) cut in
    cut_end d.header d.place d.fields front c.args.bytes.now answers is.some is.short s
