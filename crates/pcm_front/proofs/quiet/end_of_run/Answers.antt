use Rattle.std.specs.Int.{w16}
use Rattle.std.proofs.Common.{FitsSigned, rules, ◌≡◌, ◌+◌, ◌<◌, ◌≤◌, ◌∙◌, pos, true, false, length, get_or, ap, sym}
use Rattle.std.proofs.Common.{arith, to_z-of_z}
use Rattle.std.proofs.lemmas.List.Sums.{prefix_len-drop_yes, prefix_len-drop_no, prefix_len-drop_all}
use Rattle.pcm_front.specs.Quiet.{lies_in}
use Rattle.pcm_front.proofs.RunEnds.{ends, goes_on, no_longer}
use Rattle.pcm_front.proofs.quiet.end_of_run.Goals as goal

pub overflow_add-end : goal.overflow_add-end
overflow_add-end g c =
    let xs = g.S.Samples.list c.args.samples.now in
    let within : c.many.end + 32 ≤ length xs =
    omega (arith, c.many-test.true, c.count-count.ensures, c.many.invariant.within) in
    let few = no_longer (lies_in c.args.band) xs c.many.end 32 within c.run_in-run.result c.run_in-run.ensures in
    omega (arith, few, within, c.count-count.ensures, c.count-count.type_inv)

-- the run ends here
pub returns-then-run-lt-LANES-clause-value : goal.returns-then-run-lt-LANES-clause-value
returns-then-run-lt-LANES-clause-value g c =
    let xs = g.S.Samples.list c.args.samples.now in
    let within : c.many.end + 32 ≤ length xs =
    omega (arith, c.many-test.true, c.count-count.ensures, c.many.invariant.within) in
    let e = ends (lies_in c.args.band) xs c.many.end 32 within c.run_in-run.result c.run_in-run.ensures
    c.if-run-lt-LANES.true in
    omega (arith, e, c.many.invariant.so_far)

-- it goes on
pub many-preserved : goal.many-preserved
many-preserved g c =
    let xs = g.S.Samples.list c.args.samples.now in
    let within : c.many.end + 32 ≤ length xs =
    omega (arith, c.many-test.true, c.count-count.ensures, c.many.invariant.within) in
    let few = no_longer (lies_in c.args.band) xs c.many.end 32 within c.run_in-run.result c.run_in-run.ensures in
    record {
      within = omega (arith, few, within);
      so_far = c.many.invariant.so_far ∙ goes_on (lies_in c.args.band) xs c.many.end 32 within c.run_in-run.result
          c.run_in-run.ensures c.if-run-lt-LANES.false;
    }

-- one more sample lies in the band
pub each-preserved : goal.each-preserved
each-preserved g c =
    let xs = g.S.Samples.list c.args.samples.now in
    let in_band = lies_in c.args.band in
    let inside : c.each.end < length xs = omega (arith, c.each-test.true, c.count-count.ensures) in
    let fits : FitsSigned w16 c.at.result = search rules in
    let yes : in_band (get_or xs c.each.end (pos 0)) ≡ true =
    ap in_band (sym c.at.ensures) ∙ sym (rw (to_z-of_z fits) at c.holds.ensures) ∙ c.if-holds.true in
    let more = prefix_len-drop_yes in_band xs c.each.end (pos 0) inside yes in
    record {
      within = omega (arith, inside);
      so_far = omega (arith, c.each.invariant.so_far, more);
    }

-- a sample lies outside it
pub returns-else-holds-clause-value : goal.returns-else-holds-clause-value
returns-else-holds-clause-value g c =
    let xs = g.S.Samples.list c.args.samples.now in
    let in_band = lies_in c.args.band in
    let inside : c.each.end < length xs = omega (arith, c.each-test.true, c.count-count.ensures) in
    let fits : FitsSigned w16 c.at.result = search rules in
    let no : in_band (get_or xs c.each.end (pos 0)) ≡ false =
    ap in_band (sym c.at.ensures) ∙ sym (rw (to_z-of_z fits) at c.holds.ensures) ∙ c.if-holds.false in
    let none = prefix_len-drop_no in_band xs c.each.end (pos 0) inside no in
    omega (arith, c.each.invariant.so_far, none)

-- no sample is left
pub returns-after-each-clause-value : goal.returns-after-each-clause-value
returns-after-each-clause-value g c =
    let xs = g.S.Samples.list c.args.samples.now in
    let end : length xs ≤ c.each.end = omega (arith, c.each-test.false, c.count-count.ensures) in
    let none = prefix_len-drop_all (lies_in c.args.band) xs c.each.end end in
    omega (arith, c.each.invariant.so_far, none)
