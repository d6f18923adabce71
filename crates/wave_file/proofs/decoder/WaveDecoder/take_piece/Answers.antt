use Rattle.std.proofs.Common.{◌+◌, ◌≤◌, refl, sym, subst, ◌∙◌, length, take}
use Rattle.tc_io.specs.Verdict.{refused}
use Rattle.wave_file.specs.declared.stage.TheConstants.{MAX_BYTES}
use Rattle.wave_file.specs.Stage.{width_of}
use Rattle.wave_file.specs.StandsFor.{Decoding, StandsFor}
use Rattle.wave_file.proofs.Decoding.{piece_added}
use Rattle.wave_file.proofs.Answered.{told_piece, told_bad}
use Rattle.wave_file.proofs.decoder.WaveDecoder.take_piece.Goals as goal

pub returns-in-Next-clause-takes : goal.returns-in-Next-clause-takes
returns-in-Next-clause-takes c = λ room.
    let d = c.self.inside in
    let st = c.in-Next.ensures in
    let whole = subst (λ (x : Decoding). width_of x.stage ≤ length c.args.bytes.now) (sym c.self.view_is)
    c.requires.whole in
    rw (← c.self.view_is, c.width_of-count.ensures) (
      piece_added d.asked d.notes c.in-Next.notes d.place d.stage c.in-Next.stage c.args.bytes.now (width_of d.stage)
          c.self.invariant.wait whole (rw c.width_of-count.ensures at st.0),
      st.2 ∙ sym st.1,
    )

pub returns-in-Begin-clause-takes : goal.returns-in-Begin-clause-takes
returns-in-Begin-clause-takes c = λ room.
    let d = c.self.inside in
    let st = c.in-Begin.ensures in
    let whole = subst (λ (x : Decoding). width_of x.stage ≤ length c.args.bytes.now) (sym c.self.view_is)
    c.requires.whole in
    rw (← c.self.view_is, c.width_of-count.ensures) (
      piece_added d.asked d.notes d.notes d.place d.stage c.in-Begin.stage c.args.bytes.now (width_of d.stage)
          c.self.invariant.wait whole (rw c.width_of-count.ensures at st.0),
      st.1,
      st.2,
    )

pub returns-in-Fault-clause-stops : goal.returns-in-Fault-clause-stops
returns-in-Fault-clause-stops c = λ front samples stands more.
    let d = c.self.inside in
    let st = c.in-Fault.ensures in
    let bytes = c.args.bytes.now in
    let s = subst (λ (x : Decoding). StandsFor x front samples) (sym c.self.view_is) stands in
    let whole = subst (λ (x : Decoding). width_of x.stage ≤ length bytes) (sym c.self.view_is) c.requires.whole in
    let within = subst (λ (x : Decoding). x.place + width_of x.stage ≤ MAX_BYTES)
    (sym c.self.view_is) c.requires.within in
    rw (← c.self.view_is)
    (told_piece d.asked d.notes d.place d.stage bytes front more (width_of d.stage) samples
    (refused c.in-Fault.fault) whole within refl
    (told_bad d.asked d.notes d.place d.stage (take (width_of d.stage) bytes) c.in-Fault.fault st.0
    (rw c.width_of-count.ensures at st.1)) s)
