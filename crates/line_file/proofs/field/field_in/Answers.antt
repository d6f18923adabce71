use Rattle.std.proofs.Common.{◌≡◌, ◌+◌, ◌*◌, length, drop, refl, sym, ap, ◌∙◌}
use Rattle.std.proofs.lemmas.List.{take_rest}
use Rattle.line_file.specs.KeptFront.{line_of}
use Rattle.line_file.specs.LineFile.{line_at, whole}
use Rattle.line_file.proofs.PieceByPiece.{by_lines, no_lines, no_last, lines_short, lines_bad, last_again, last_more}
use Rattle.line_file.proofs.PieceByPiece.{some_bytes}
use Rattle.line_file.proofs.RunsInBytes.{line_count}
use Rattle.line_file.proofs.field.field_in.Goals.{then-stands_again, else-stands_again+in-Whole}
use Rattle.line_file.proofs.field.field_in.Goals as goal

pub lines-init : goal.lines-init
lines-init c =
    let bytes = c.args.bytes.now in
    no_last c.args.header.now _ c.args.place bytes c.new-reader.result
    (no_lines c.args.header.now _ c.args.place bytes c.new-reader.result
    (some_bytes bytes c.is_empty.result c.is_empty.ensures c.if-is_empty.false)
    c.new-reader.ensures.none c.new-reader.ensures.same.0 c.new-reader.ensures.same.1)

-- the next line is not there
pub returns-in-Short : goal.returns-in-Short
returns-in-Short c =
    let bytes = c.args.bytes.now in
    let width = c.lines.width in
    let line = ap (line_at (c.args.place + width)) (sym (take_rest bytes width)) ∙ sym c.in-Short.ensures.front in
    by_lines c.args.place bytes _ (some_bytes bytes c.is_empty.result c.is_empty.ensures c.if-is_empty.false)
    c.if-count-gt-MAX_LINES.false
    (lines_short c.args.header.now _ c.args.place bytes c.lines._line width c.lines.reader c.lines.invariant.far
    c.lines-test.true line)

-- a piece of the next line fails its test
pub returns-in-Fault : goal.returns-in-Fault
returns-in-Fault c =
    let bytes = c.args.bytes.now in
    let width = c.lines.width in
    let line = ap (line_at (c.args.place + width)) (sym (take_rest bytes width)) ∙ sym c.in-Fault.ensures.front in
    by_lines c.args.place bytes _ (some_bytes bytes c.is_empty.result c.is_empty.ensures c.if-is_empty.false)
    c.if-count-gt-MAX_LINES.false
    (lines_bad c.args.header.now _ c.args.place bytes c.lines._line width c.lines.reader c.in-Fault.fault
    c.lines.invariant.far c.lines-test.true line)

-- one line more: the one before again, or the next that was read
pub lines-preserved : goal.lines-preserved
lines-preserved c =
    let header = c.args.header.now in
    let bytes = c.args.bytes.now in
    let width = c.lines.width in
    elim c.if-stands_again.branch [
      | then-stands_again w ↦ rw (w.reader-is, w.width-is, w.last-is)
          (last_again header _ c.args.place bytes c.lines._line width c.lines.last
          c.lines.reader c.lines.invariant
          c.lines-test.true (c.stands_again.ensures.some w.if-stands_again.true)
          (c.stands_again.ensures.again w.if-stands_again.true)
          (c.a_line_again_changes_nothing.ensures c.lines.reader))
      | else-stands_again+in-Whole w ↦
          let rest = drop width bytes in
          let runs = line_of rest in
          let line : line_at (c.args.place + width) rest ≡ whole runs =
          rw (take_rest bytes width) at (sym w.in-Whole.ensures.front) in
          let said = rw (take_rest bytes width) at
          (w.in-Whole.ensures.next refl c.lines.invariant.far.lines c.lines.invariant.far.said) in
          let count = line_count (c.args.place + width) width bytes runs line in
          let last : w.line_width-last.result ≡ 1 + 2 * length runs = w.line_width-last.ensures
          ∙ ap (λ n. 1 + 2 * n) (sym count) in
          rw (w.reader-is, w.width-is, w.last-is, last)
          (last_more header _ c.args.place bytes c.lines._line width c.lines.reader w.line_in.new.reader runs
          c.lines.invariant.far c.lines-test.true line said w.line_in.ensures.same.0 w.line_in.ensures.same.1)
    ]
