use Rattle.std.proofs.Common.{subst, sym}
use Rattle.wave_file.specs.StandsFor.{Decoding, StandsFor}
use Rattle.wave_file.proofs.Answered.{stage_taken, told_taken}
use Rattle.wave_file.proofs.decoder.WaveDecoder.format.Goals as goal

-- the format of data that have begun is taken
pub returns-clause-taken : goal.returns-clause-taken
returns-clause-taken c =
    let d = c.self.inside in
    rw (← c.self.view_is, c.format_at.ensures) (stage_taken d.asked d.place d.stage c.self.invariant.stage)

-- within the limit the bytes say what their file says
pub returns-clause-told : goal.returns-clause-told
returns-clause-told c = λ bytes samples stands.
    let d = c.self.inside in
    let s = subst (λ (x : Decoding). StandsFor x bytes samples) (sym c.self.view_is) stands in
    rw (← c.self.view_is, c.format_at.ensures)
    (told_taken d.asked d.notes d.place d.stage bytes samples c.self.invariant.stage c.self.invariant.wait
    c.self.invariant.within s)
