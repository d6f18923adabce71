use Rattle.std.proofs.Common.{◌≡◌, ◌∙◌, sym, ap, take, arith}
use Rattle.label_columns.specs.Columns.{up_to_last}
use Rattle.label_columns.proofs.HowFar.{last_of_all, nothing_left, one_back}
use Rattle.label_columns.proofs.fields.up_to_last.Goals as goal

-- one blank less
pub blanks-preserved : goal.blanks-preserved
blanks-preserved c =
    let blank = sym c.is_blank.ensures ∙ c.if-is_blank.true in
    record {
      all = c.blanks.invariant.all ∙ one_back c.args.bytes.now c.blanks.end (omega (arith, c.blanks-test.true))
          c.blanks.invariant.within blank;
      within = omega (arith, c.blanks.invariant.within);
    }

-- another byte comes last
pub returns-else-is_blank-clause-value : goal.returns-else-is_blank-clause-value
returns-else-is_blank-clause-value c =
    let other = sym c.is_blank.ensures ∙ c.if-is_blank.false in
    sym (c.blanks.invariant.all ∙ last_of_all c.args.bytes.now c.blanks.end (omega (arith, c.blanks-test.true))
    c.blanks.invariant.within other)

-- there are blanks alone
pub returns-after-blanks-clause-value : goal.returns-after-blanks-clause-value
returns-after-blanks-clause-value c =
    let none : c.blanks.end ≡ 0 = omega (arith, c.blanks-test.false) in
    none ∙ sym (c.blanks.invariant.all ∙ ap (λ n. up_to_last (take n c.args.bytes.now)) none
    ∙ nothing_left c.args.bytes.now)
