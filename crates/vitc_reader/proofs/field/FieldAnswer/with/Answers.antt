use Rattle.vitc_reader.proofs.AnswerGrows.{first_word, no_word, same_word, agreed_still, other_word, conflict_whatever}
use Rattle.vitc_reader.proofs.field.FieldAnswer.with.Goals as goal

pub returns-in-Nothing-Ok : goal.returns-in-Nothing-Ok
returns-in-Nothing-Ok c = rw (c.in-Nothing-Ok.is-0, c.in-Nothing-Ok.is-1)
    (λ before a. first_word before c.in-Nothing-Ok.field-0-0 c.in-Nothing-Ok.word a)

pub returns-then-is_same : goal.returns-then-is_same
returns-then-is_same c = rw (c.in-Agreed-Ok.is-0, c.in-Agreed-Ok.is-1) (λ before a.
    same_word before c.in-Agreed-Ok.first c.in-Agreed-Ok.word (c.is_same.ensures.0 c.if-is_same.true) a)

pub returns-else-is_same : goal.returns-else-is_same
returns-else-is_same c = rw (c.in-Agreed-Ok.is-0, c.in-Agreed-Ok.is-1) (λ before a.
    other_word before c.in-Agreed-Ok.first c.in-Agreed-Ok.word
    (λ same. let t = c.is_same.ensures.1 same in let f = c.if-is_same.false in absurd cc) a)

pub returns-in_default : goal.returns-in_default
returns-in_default c = rw (c.in_default.is-0, c.in_default.is-1)
    (λ before a. no_word before c.in_default.field-0-0 c.in_default.field-0-1 a)

pub returns-in_default-2 : goal.returns-in_default-2
returns-in_default-2 c = rw (c.in_default.is-0, c.in_default.is-1)
    (λ before a. agreed_still before c.in_default.field-0-0 c.in_default.field-0-1 a)

-- a conflict stays, whatever the line says
pub returns-in_default-3 : goal.returns-in_default-3
returns-in_default-3 c =
    rw c.in_default.is-0 (λ before a. conflict_whatever before c.in_default.field-0-0 c.in_default.field-1-0 c.args.said
    a)
