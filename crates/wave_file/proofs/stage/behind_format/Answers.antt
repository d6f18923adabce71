use Rattle.std.proofs.Common.{refl, sym, ◌∙◌}
use Rattle.wave_file.proofs.Pieces.{format_brings, format_refuses, chunk_wait}
use Rattle.wave_file.proofs.stage.behind_format.Goals as goal

pub returns-in-Err : goal.returns-in-Err
returns-in-Err c = (
  refl,
  λ more. format_refuses c.args.asked c.args.notes.now c.args.place c.args.size c.args.piece.now more c.in-Err.fault
      c.requires.piece (sym c.format_in.ensures.value ∙ c.in-Err.is),
)

pub returns-in-Ok : goal.returns-in-Ok
returns-in-Ok c = rw c.padded.ensures (
  record {
    noted = λ _. c.in-Ok.ensures.taken;
    is = tt;
    wait = chunk_wait _;
    says = λ more. format_brings c.args.asked c.args.notes.now c.args.place c.args.size c.args.piece.now more
        c.in-Ok.format
        c.requires.piece (sym c.format_in.ensures.value ∙ c.in-Ok.is);
  },
  refl,
  refl,
)
