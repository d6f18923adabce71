use Rattle.std.proofs.Common.{◌≤◌, ◌+◌, length, refl, sym, arith, ap, ◌∙◌}
use Rattle.std.specs.Prelude.{Ok, Err}
use Rattle.wave_file.specs.declared.chunk.Chunk.TheVariants as chunk
use Rattle.wave_file.proofs.Blocks.{at_data, data_kept}
use Rattle.wave_file.proofs.Pieces.{head_brings, chunk_wait}
use Rattle.wave_file.proofs.stage.behind_head.Goals as goal

pub returns-in-Err : goal.returns-in-Err
returns-in-Err c = let asked = c.args.asked in (
  refl,
  λ more. head_brings asked c.args.notes.now c.args.place c.args.piece.now more (Err c.in-Err.fault)
      c.requires.piece (sym (rw (c.read_u32.ensures, c.size_in.ensures) at c.chunk_of.ensures.value) ∙ c.in-Err.is),
)

pub returns-in-Ok-Data : goal.returns-in-Ok-Data
returns-in-Ok-Data c =
    let asked = c.args.asked in
    let noted = c.requires.noted in
    let format = c.in-Ok-Data.format in
    let extent = c.in-Ok-Data.extent in
    let there = rw c.in-Ok-Data.field-0-is at (c.in-Ok-Data.ensures.chunk asked c.requires.noted) in
    let k = data_kept asked (c.args.place + length c.args.piece.now) format extent asked.most_samples there
    c.requires.asked.few in
    rw c.data_stage.ensures (
      record {
        noted = λ h. h;
        is = k.is;
        wait = k.wait;
        says = λ more. head_brings asked c.args.notes.now c.args.place c.args.piece.now more
            (Ok (chunk.Data format extent)) c.requires.piece
            (sym (rw (c.read_u32.ensures, c.size_in.ensures) at c.chunk_of.ensures.value) ∙ c.in-Ok-Data.is
            ∙ ap Ok c.in-Ok-Data.field-0-is)
            ∙ sym (at_data asked c.args.notes.now _ format extent asked.most_samples more);
      },
      refl,
      k.format_is,
    )

pub returns-in-Ok-Format : goal.returns-in-Ok-Format
returns-in-Ok-Format c = let asked = c.args.asked in (
  record {
    noted = λ h. h;
    is = rw c.in-Ok-Format.field-0-is at (c.in-Ok-Format.ensures.chunk asked c.requires.noted);
    wait = let least : 16 ≤ c.in-Ok-Format.size =
        rw c.in-Ok-Format.field-0-is at (c.in-Ok-Format.ensures.chunk asked c.requires.noted) in omega (arith, least);
    says = λ more. rw c.requires.piece
        (head_brings asked c.args.notes.now c.args.place c.args.piece.now more (Ok (chunk.Format c.in-Ok-Format.size))
        c.requires.piece
        (sym (rw (c.read_u32.ensures, c.size_in.ensures) at c.chunk_of.ensures.value) ∙ c.in-Ok-Format.is
        ∙ ap Ok c.in-Ok-Format.field-0-is));
  },
  refl,
  refl,
)

pub returns-in-Ok-Sizes : goal.returns-in-Ok-Sizes
returns-in-Ok-Sizes c = let asked = c.args.asked in (
  record {
    noted = λ h. h;
    is = rw c.in-Ok-Sizes.field-0-is at (c.in-Ok-Sizes.ensures.chunk asked c.requires.noted);
    wait = omega arith;
    says = λ more. rw c.requires.piece
        (head_brings asked c.args.notes.now c.args.place c.args.piece.now more (Ok (chunk.Sizes c.in-Ok-Sizes.size))
        c.requires.piece
        (sym (rw (c.read_u32.ensures, c.size_in.ensures) at c.chunk_of.ensures.value) ∙ c.in-Ok-Sizes.is
        ∙ ap Ok c.in-Ok-Sizes.field-0-is));
  },
  refl,
  refl,
)

pub returns-in-Ok-Other : goal.returns-in-Ok-Other
returns-in-Ok-Other c =
    let asked = c.args.asked in
    let noted = c.requires.noted in
    rw c.padded.ensures (
      record {
        noted = λ h. h;
        is = tt;
        wait = chunk_wait _;
        says = λ more. rw c.requires.piece
            (head_brings asked c.args.notes.now c.args.place c.args.piece.now more (Ok (chunk.Other c.in-Ok-Other.size))
            c.requires.piece
            (sym (rw (c.read_u32.ensures, c.size_in.ensures) at c.chunk_of.ensures.value) ∙ c.in-Ok-Other.is
            ∙ ap Ok c.in-Ok-Other.field-0-is));
      },
      refl,
      refl,
    )
