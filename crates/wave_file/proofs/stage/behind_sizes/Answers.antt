use Rattle.std.proofs.Common.{refl}
use Rattle.wave_file.proofs.Pieces.{sizes_bring, chunk_wait}
use Rattle.wave_file.proofs.stage.behind_sizes.Goals as goal

pub returns : goal.returns
returns c = λ asked place.
    rw (c.padded.ensures, c.long_size_in.ensures) (
      record {
        noted = λ h. h;
        is = tt;
        wait = chunk_wait _;
        says = λ more. sizes_bring asked c.args.notes.now place c.args.size c.args.piece.now more c.requires.piece
            c.requires.least;
      },
      refl,
      refl,
    )
