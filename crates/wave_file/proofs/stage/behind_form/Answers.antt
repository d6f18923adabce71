use Rattle.std.proofs.Common.{◌∙◌, refl, sym, ap, arith, rules, Bool, List, ℕ}
use Rattle.std.specs.Prelude.{Option}
use Rattle.byteorder.specs.Endian.{big_number}
use Rattle.wave_file.specs.Chunk.{form_of}
use Rattle.wave_file.specs.Wave.{behind_form}
use Rattle.wave_file.proofs.Pieces.{piece_whole}
use Rattle.wave_file.proofs.stage.behind_form.Goals as goal

pub returns-in-None : goal.returns-in-None
returns-in-None c = λ asked notes. (
  refl,
  λ more. piece_whole 4 (λ (letters rest : List ℕ). behind_form asked (form_of (big_number 4 letters)) rest)
      c.args.piece.now more c.requires
      ∙ ap (λ (form : Option Bool). behind_form asked form more) (sym (rw c.read_u32.ensures at c.form_of.ensures) ∙
      c.in-None.is),
)

pub returns-in-Some : goal.returns-in-Some
returns-in-Some c = λ asked notes. (
  record {
    noted = search rules;
    is = omega (arith, c.requires);
    wait = omega arith;
    says = λ more. piece_whole 4 (λ (letters rest : List ℕ). behind_form asked (form_of (big_number 4 letters)) rest)
        c.args.piece.now more c.requires
        ∙ ap (λ (form : Option Bool). behind_form asked form more) (sym (rw c.read_u32.ensures at c.form_of.ensures) ∙
        c.in-Some.is);
  },
  refl,
  refl,
)
