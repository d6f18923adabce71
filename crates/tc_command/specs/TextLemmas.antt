-- A command that reads nothing and writes a text is a command as any other. No promise speaks of this lemma.
use Rattle.std.proofs.Common.{ℕ, List, [], ◌++◌, refl, sym, ◌∙◌, ap, inr}
use Rattle.tc_command.specs.Command.{IsCommand}
use Rattle.tc_command.specs.Meaning.{writes}

pub text_is_command : (text : List ℕ) → IsCommand (writes text)
text_is_command text = record {
  first = record {
    part = λ front more a b one all. (b, ap (λ l. l ++ b) (sym one));
    output = λ front more a b one all. (b, ap (λ l. l ++ b) (sym one));
    stays = λ front more spent. spent;
    limit = λ front more a b spent one all. absurd spent;
  };
  some_part = λ bytes. ([], refl);
  some_output = λ input is. (text, (refl, refl));
  one_part = λ bytes a b one all. one ∙ sym all;
  one_output = λ input a b one all. one.1 ∙ sym all.1;
  fault = λ front rest f e. absurd cc;
  limit = λ front rest e. absurd cc;
  fault_unspent = λ front rest f e spent. spent;
  limit_unspent = λ front rest e spent. spent;
  ends = λ bytes f e. absurd cc;
  idle = λ e all. inr ((λ spent. spent), refl);
  idle_part = λ e bytes a b one all. (b, ap (λ l. l ++ b) (sym one));
  idle_output = λ e bytes a b one all. one.1 ∙ sym all.1;
}
