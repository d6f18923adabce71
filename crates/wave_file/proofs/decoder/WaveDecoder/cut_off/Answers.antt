use Rattle.std.proofs.Common.{arith, sym, subst, ◌∙◌, length, false}
use Rattle.std.proofs.lemmas.Bool.{and_left, ne_eqb}
use Rattle.wave_file.specs.StandsFor.{Decoding, IsCut, StandsFor, may_end_before}
use Rattle.wave_file.proofs.Answered.{ends_at}
use Rattle.wave_file.proofs.decoder.WaveDecoder.cut_off.Goals as goal

-- inside a piece
pub returns : goal.returns
returns c = λ cut front samples stands.
    let d = c.self.inside in
    let bytes = c.args.bytes.now in
    let s = subst (λ (x : Decoding). StandsFor x front samples) (sym c.self.view_is) stands in
    let is = subst (λ (x : Decoding). IsCut x bytes) (sym c.self.view_is) cut in
    rw (← c.self.view_is)
    (ends_at d.asked d.notes d.place d.stage front bytes samples false c.self.invariant.stage is.few is.within
    (and_left _ _ (ne_eqb (length bytes) 0 (λ e. omega (arith, e, is.some)))) s)
