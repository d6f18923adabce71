use Rattle.std.proofs.Common.{append_assoc}
use Rattle.std.specs.Prelude.{codes}
use Rattle.line_file.specs.Texts.{word_text}
use Rattle.line_file.proofs.Pushed.{four}
use Rattle.line_file.proofs.texts.push_answer.Goals as goal

-- a word behind its name
pub returns-in-Agreed-clause-items : goal.returns-in-Agreed-clause-items
returns-in-Agreed-clause-items c =
    rw (c.push_word.ensures.items, c.push_bytes.ensures.items, c.in-Agreed.is)
    (append_assoc c.args.line.now.items (codes " word ") (word_text c.in-Agreed.word))

-- and two words
pub returns-in-Conflict-clause-items : goal.returns-in-Conflict-clause-items
returns-in-Conflict-clause-items c =
    rw (
      c.push_word-in-Conflict-2.ensures.items,
      c.push_bytes-in-Conflict-2.ensures.items,
      c.push_word-in-Conflict.ensures.items,
      c.push_bytes-in-Conflict.ensures.items,
      c.in-Conflict.is,
    ) (four c.args.line.now.items (codes " conflict ") (word_text c.in-Conflict.word) (codes " and ")
    (word_text c.in-Conflict.other))
