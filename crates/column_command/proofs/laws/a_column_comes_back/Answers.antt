use Rattle.std.proofs.Common.{arith, refl}
use Rattle.std.specs.Prelude.{neg_ℤ, pos}
use Rattle.std.proofs.lemmas.Int.{ints}
use Rattle.column_command.proofs.ComesBack.{BackLaws, comes_back}
use Rattle.label_lines.specs.declared.way.Way.TheVariants.{Minus, Plus}
use Rattle.column_command.proofs.laws.a_column_comes_back.Goals as goal

pub returns : goal.returns
returns c =
    let laws : BackLaws = record {
      label = λ base text a said. (c.texts_and_answers_are_lines.ensures.text base text a said).0;
      read = c.a_text_is_read_as_its_label.ensures.read;
      only = c.a_text_is_read_as_its_label.ensures.only;
      stepped = c.a_step_moves_the_number.ensures.label;
      none = c.steps_add_up.ensures.none;
      sum = c.steps_add_up.ensures.sum;
    } in
    record {
      on = λ base steps column put.
          comes_back laws base (Plus steps) (Minus steps) (pos steps) (neg_ℤ (pos steps)) column put (λ a. refl)
          (λ a. refl) (omega (arith, ints));
      back = λ base steps column put.
          comes_back laws base (Minus steps) (Plus steps) (neg_ℤ (pos steps)) (pos steps) column put (λ a. refl)
          (λ a. refl) (omega (arith, ints));
    }
