use Rattle.std.proofs.Common.{◌≡◌, ◌∙◌, ap, subst, sym}
use Rattle.std.specs.Option.{is_some}
use Rattle.direction_reader.specs.declared.counting.Counting.{Counting}
use Rattle.direction_reader.specs.CountedStep.{released}
use Rattle.direction_reader.specs.CountedTold.{told_without, undecided}
use Rattle.direction_reader.specs.FirmStep.{firm_listed}
use Rattle.direction_reader.proofs.CountedSlots.{none_of, other_first, some_latest, word_first, GivesTwo}
use Rattle.direction_reader.proofs.counting.Counting.hear.Goals as goal

-- of two events of a window the first is a word
pub returns-then-is_word-clause-brings : goal.returns-then-is_word-clause-brings
returns-then-is_word-clause-brings c = λ n s held is.
    let a = c.in-Some-Some.first in
    let b = c.in-Some-Some.second in
    let gives : GivesTwo c.args.self.now a b c.take-one.result.held c.take-one.result.own c.take-two.result.held
    c.take-two.result.own = record {
      held = c.take-one.ensures.held;
      own_is = c.take-one.ensures.own;
      next = subst (λ (d : Counting). firm_listed c.take-two.result.held ≡ released d.held b)
          c.take-one.ensures.heard c.take-two.ensures.held;
      other_is = subst (λ (d : Counting). firm_listed c.take-two.result.own ≡ told_without (undecided d.word b) b)
          c.take-one.ensures.heard c.take-two.ensures.own;
    } in
    rw (c.told_of-then-is_word.ensures, c.or_other.ensures) (word_first n s c.args.self.now a b _ _ _ _ gives held
    (some_latest n s c.args.events.first a c.in-Some-Some.is-0 is.first)
    (some_latest n s c.args.events.second b c.in-Some-Some.is-1 is.second)
    (sym (c.if-is_word.ensures ∙ ap is_some c.heard_of.ensures)))

-- it is none
pub returns-else-is_word-clause-brings : goal.returns-else-is_word-clause-brings
returns-else-is_word-clause-brings c = λ n s held is.
    let a = c.in-Some-Some.first in
    let b = c.in-Some-Some.second in
    let gives : GivesTwo c.args.self.now a b c.take-one.result.held c.take-one.result.own c.take-two.result.held
    c.take-two.result.own = record {
      held = c.take-one.ensures.held;
      own_is = c.take-one.ensures.own;
      next = subst (λ (d : Counting). firm_listed c.take-two.result.held ≡ released d.held b)
          c.take-one.ensures.heard c.take-two.ensures.held;
      other_is = subst (λ (d : Counting). firm_listed c.take-two.result.own ≡ told_without (undecided d.word b) b)
          c.take-one.ensures.heard c.take-two.ensures.own;
    } in
    rw c.told_of-else-is_word.ensures (other_first n s c.args.self.now a b _ _ _ _ gives held
    (some_latest n s c.args.events.first a c.in-Some-Some.is-0 is.first)
    (some_latest n s c.args.events.second b c.in-Some-Some.is-1 is.second)
    (none_of _ (c.if-is_word.ensures ∙ ap is_some c.heard_of.ensures)))

-- one event comes
pub returns-in-Some-None-clause-brings : goal.returns-in-Some-None-clause-brings
returns-in-Some-None-clause-brings c = λ n s held is.
    c.hear_one-in-Some-None.ensures.brings n s held
    (some_latest n s c.args.events.first c.in-Some-None.event c.in-Some-None.is-0 is.first)

pub returns-in-None-Some-clause-brings : goal.returns-in-None-Some-clause-brings
returns-in-None-Some-clause-brings c = λ n s held is.
    c.hear_one.ensures.brings n s held
    (some_latest n s c.args.events.second c.in-None-Some.event c.in-None-Some.is-1 is.second)
