use Rattle.std.proofs.Common.{◌∙◌, ap, ap₂, inl}
use Rattle.forms.specs.Named.{task_of}
use Rattle.tc_words.specs.Words.{without_dashes}
use Rattle.tc_words.proofs.words.without_dashes.Goals as goal

-- the words are the command and the values that were read
pub returns-in-Ok-clause-answer : goal.returns-in-Ok-clause-answer
returns-in-Ok-clause-answer c =
    let read = c.task_of.ensures ∙ ap₂ task_of c.command.ensures c.values.ensures in
    inl (read ∙ ap without_dashes c.in-Ok.ensures)
