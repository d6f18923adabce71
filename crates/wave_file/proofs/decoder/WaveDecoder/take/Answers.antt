use Rattle.std.proofs.Common.{refl, sym, arith, subst}
use Rattle.wave_file.specs.StandsFor.{Decoding, StandsFor}
use Rattle.wave_file.proofs.Answered.{few_wanted, told_few, told_limit}
use Rattle.wave_file.proofs.Decoding.{passed_added, taken_whole}
use Rattle.wave_file.proofs.decoder.WaveDecoder.take.Goals as goal

-- a byte too many
pub returns-then-length-bytes-clause-stops : goal.returns-then-length-bytes-clause-stops
returns-then-length-bytes-clause-stops c = λ front samples stands more.
    let d = c.self.inside in
    let s = subst (λ (x : Decoding). StandsFor x front samples) (sym c.self.view_is) stands in
    let length = c.within-length.ensures in
    let within = c.self.invariant.within in
    let over = c.if-length-bytes.true in
    rw (← c.self.view_is) (told_limit d.asked d.notes d.place d.stage c.args.bytes.now front more c.within-length.result
    samples c.self.invariant.stage (omega (arith, c.if-length-width_of.true, c.width_of.ensures))
    (omega (arith, length, within, over)) (omega (arith, over)) s)

-- fewer than the next piece has
pub returns-then-length-width_of-clause-takes : goal.returns-then-length-width_of-clause-takes
returns-then-length-width_of-clause-takes c =
    let d = c.self.inside in
    let all = c.if-length-bytes.false in
    let less = c.if-length-width_of.true in
    let width = c.width_of.ensures in
    let most = few_wanted d.asked d.place d.stage c.self.invariant.stage in
    rw (← c.self.view_is) (
      refl,
      record {
        some = omega (arith, c.requires.some);
        few = omega (arith, all, less, width);
        within = omega (arith, c.within-length.ensures, all, c.self.invariant.within);
      },
      omega (arith, all, less, width, most),
    )

pub returns-then-length-width_of-clause-stops : goal.returns-then-length-width_of-clause-stops
returns-then-length-width_of-clause-stops c = λ front samples stands.
    let d = c.self.inside in
    let s = subst (λ (x : Decoding). StandsFor x front samples) (sym c.self.view_is) stands in
    let length = c.within-length.ensures in
    let all = c.if-length-bytes.false in
    rw (← c.self.view_is) (told_few d.asked d.notes d.place d.stage front c.args.bytes.now samples
    c.self.invariant.stage (omega (arith, all, c.if-length-width_of.true, c.width_of.ensures))
    (omega (arith, length, all, c.self.invariant.within)) s)

-- bytes that are passed over
pub invariant_of-self : goal.invariant_of-self
invariant_of-self c =
    let p = c.in-Passed.ensures.0 in
    record {
      least = c.self.invariant.least;
      most = c.self.invariant.most;
      notes = c.self.invariant.notes;
      stage = p.stays c.self.inside.asked c.self.inside.place c.self.invariant.stage;
      wait = p.wait;
      within = omega (arith, p.within, c.within-length.ensures, c.self.invariant.within);
    }

pub returns-in-Passed-clause-takes : goal.returns-in-Passed-clause-takes
returns-in-Passed-clause-takes c =
    let d = c.self.inside in
    let p = c.in-Passed.ensures.0 in
    rw (← c.self.view_is) (
      passed_added d.asked d.notes d.place d.stage c.in-Passed.stage c.args.bytes.now c.within-length.result
          c.in-Passed.count p (omega (arith, c.within-length.ensures)),
      p.format,
    )

-- a piece
pub returns-in-Piece-clause-takes : goal.returns-in-Piece-clause-takes
returns-in-Piece-clause-takes c = c.take_piece.ensures.takes _
