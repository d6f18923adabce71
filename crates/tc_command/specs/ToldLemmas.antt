-- What is claimed of a command that promises no more than its meaning, or than what names its text, is lawful, and what
-- names its text is kept. No promise speaks of these lemmas, which the crates of the commands cite.
use Rattle.std.proofs.Common.{◌≡◌, ℕ, List, sym, subst}
use Rattle.tc_command.specs.Command.{IsCommand}
use Rattle.tc_command.specs.TextLemmas.{text_is_command}
use Rattle.tc_command.specs.Meaning.{Meaning, writes}
use Rattle.tc_command.specs.Told.{IsLawful, KeepsPromise, told_by_meaning, told_made, told_text}

pub meaning_is_lawful : (m : Meaning) → IsCommand m → ((input : List ℕ) → ¬ m.spent input)
    → IsLawful (told_by_meaning m)
meaning_is_lawful m laws never = record {
  command = laws;
  pinned = laws.one_output;
  unlimited = λ none input. never input;
}

pub text_is_lawful : (text : List ℕ) → IsLawful (told_text text)
text_is_lawful text = meaning_is_lawful (writes text) (text_is_command text) (λ input spent. spent)

-- and of one that promises of its text what names it
pub made_is_lawful : (text : List ℕ) (promise : List ℕ → Type 0) → ((a b : List ℕ) → promise a → promise b → a ≡ b)
    → IsLawful (told_made text promise)
made_is_lawful text promise one = record {
  command = text_is_command text;
  pinned = λ pulled. one;
  unlimited = λ none input spent. spent;
}

pub made_is_kept : (text : List ℕ) (promise : List ℕ → Type 0) → promise text → KeepsPromise (told_made text promise)
made_is_kept text promise is = λ pulled written are input output. subst promise (sym output.1) is
