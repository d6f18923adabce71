use Rattle.std.proofs.Common.{◌∙◌, sym, drop, length-drop, arith}
use Rattle.label_lines.proofs.HowFar.{fits_no_more, fits_one_more, no_form, no_line}
use Rattle.label_lines.proofs.forms.fitting.Goals as goal

-- a byte more fits
pub bytes-preserved : goal.bytes-preserved
bytes-preserved c =
    let more = fits_one_more c.args.form.now c.args.line.now c.bytes.at c.bytes-test.true c.if-at-line.true
    (sym c.may_stand.ensures ∙ c.if-may_stand.true) in
    record { all = omega (arith, c.bytes.invariant.all, more); form = omega arith; line = omega arith }

-- the next one does not
pub returns-else-may_stand-clause-count : goal.returns-else-may_stand-clause-count
returns-else-may_stand-clause-count c =
    let none = fits_no_more c.args.form.now c.args.line.now c.bytes.at c.bytes-test.true c.if-at-line.true
    (sym c.may_stand.ensures ∙ c.if-may_stand.false) in
    omega (arith, c.bytes.invariant.all, none)

-- none is left of the line
pub returns-else-at-line-clause-count : goal.returns-else-at-line-clause-count
returns-else-at-line-clause-count c =
    let none = no_line (drop c.bytes.at c.args.form.now) (drop c.bytes.at c.args.line.now)
    (omega (arith, length-drop c.bytes.at c.args.line.now, c.if-at-line.false)) in
    omega (arith, c.bytes.invariant.all, none)

-- none is left of the form
pub returns-after-bytes-clause-count : goal.returns-after-bytes-clause-count
returns-after-bytes-clause-count c =
    let none = no_form (drop c.bytes.at c.args.form.now) (drop c.bytes.at c.args.line.now)
    (omega (arith, length-drop c.bytes.at c.args.form.now, c.bytes-test.false)) in
    omega (arith, c.bytes.invariant.all, none)
