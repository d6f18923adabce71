use Rattle.std.specs.Prelude.{codes}
use Rattle.tc_address.specs.Spelling.{text_of}
use Rattle.line_text.specs.Line.{flag_digit, flags_text, user_text}
use Rattle.line_file.proofs.Pushed.{seven}
use Rattle.line_file.proofs.texts.push_word.Goals as goal

-- seven texts, one after another
pub returns-clause-items : goal.returns-clause-items
returns-clause-items c =
    let w = c.args.word.now in
    rw (
      c.push_flag.ensures.items,
      c.push_bytes-4.ensures.items,
      c.push_flags.ensures.items,
      c.push_bytes-3.ensures.items,
      c.push_hexadecimal.ensures.items,
      c.push_bytes-2.ensures.items,
      c.push_bytes.ensures.items,
      c.flags.ensures.value,
      c.groups.ensures.value,
      c.user.ensures.value,
      c.text.ensures,
      c.label.ensures.value,
    ) (seven c.args.line.now.items (text_of w.fields.label) (codes " user ") (user_text w.fields.user)
    (codes " flags ") (flags_text w.fields.flags) (codes " mark ")
    (flag_digit w.field_mark))
