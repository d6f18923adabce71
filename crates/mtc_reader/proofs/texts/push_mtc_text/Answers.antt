use Rattle.std.proofs.Common.{◌≡◌, ◌++◌, ◌∙◌, ap, append_assoc, codes}
use Rattle.tc_address.specs.Spelling.{text_of}
use Rattle.line_text.specs.Line.{direction_name}
use Rattle.mtc_reader.specs.Texts.{at_byte}
use Rattle.mtc_reader.proofs.PushedInTurn.{three_pushes}
use Rattle.mtc_reader.proofs.texts.push_mtc_text.Goals as goal

pub returns-in-Full : goal.returns-in-Full
returns-in-Full c = rw (
  c.push_place.ensures,
  c.push_bytes-in-Full.ensures.items,
  c.text.ensures,
  c.push_bytes.ensures.items,
  c.in-Full.is,
) (simp append_assoc)

pub returns-in-Quarter : goal.returns-in-Quarter
returns-in-Quarter c =
    let old = c.args.line.now.items in
    let words = codes "quarter " ++ direction_name c.in-Quarter.direction ++ codes " " in
    let label = text_of c.in-Quarter.label in
    let place = at_byte c.in-Quarter.place in
    let second : c.push_bytes-in-Quarter.new.text.items ≡ c.push_quarter.new.line.items ++ label =
    c.push_bytes-in-Quarter.ensures.items ∙ ap (λ l. c.push_quarter.new.line.items ++ l) c.text-in-Quarter.ensures in
    rw c.in-Quarter.is (three_pushes old _ _ _ words label place c.push_quarter.ensures.items second
    c.push_place-in-Quarter.ensures
    ∙ ap (λ l. old ++ l) (simp append_assoc))

pub returns-in-RefusedFull : goal.returns-in-RefusedFull
returns-in-RefusedFull c = rw (
  c.push_place-in-RefusedFull.ensures,
  c.push_bytes-in-RefusedFull-2.ensures.items,
  c.as_bytes.ensures.value,
  c.fault_name.ensures,
  c.push_bytes-in-RefusedFull.ensures.items,
  c.in-RefusedFull.is,
) (simp append_assoc)
