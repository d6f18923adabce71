use Rattle.std.specs.Int.{w16}
use Rattle.std.proofs.Common.{FitsSigned, rules, ◌+◌, ◌≤◌, ◌∙◌, length, ap, arith, to_z-of_z}
use Rattle.std.specs.Prelude.{unsigned_abs}
use Rattle.pcm_front.specs.Sizes.{lowered}
use Rattle.pcm_front.proofs.RaisedLevels.{one_more}
use Rattle.pcm_front.proofs.level.Level.over.Goals as goal

-- some samples more, one after another
pub many-preserved : goal.many-preserved
many-preserved g c =
    let xs = g.S.Samples.list c.args.samples.now in
    let start = c.args.self in
    let at = c.args.at in
    let place = c.many.place in
    let i = c.many.invariant in
    let size = rw c.sizes_at-sizes.ensures at c.from.ensures in
    let second_size = rw c.sizes_at-sizes.ensures at c.from-in-many.ensures in
    let third_size = rw c.sizes_at-sizes.ensures at c.from-in-many-2.ensures in
    let fourth_size = rw c.sizes_at-sizes.ensures at c.from-in-many-3.ensures in
    let inside : place + 4 ≤ length xs = omega (arith, c.many-test.true, i.within, c.requires.within) in
    let first = one_more start (lowered c.many.level) (lowered c.grown.result) xs at place
    (place + 1) c.from.result i.order
    (omega (arith, inside)) (omega arith) size i.so_far c.grown.ensures.value in
    let second = one_more start _ (lowered c.grown-in-many.result) xs at (place + 1) (place + 2) c.from-in-many.result
    (omega (arith, i.order)) (omega (arith, inside)) (omega arith) second_size first c.grown-in-many.ensures.value in
    let third = one_more start _ (lowered c.grown-in-many-2.result) xs at (place + 2)
    (place + 3) c.from-in-many-2.result
    (omega (arith, i.order)) (omega (arith, inside)) (omega arith) third_size second c.grown-in-many-2.ensures.value in
    let fourth = one_more start _ (lowered c.grown-level.result) xs at (place + 3) (place + 4) c.from-in-many-3.result
    (omega (arith, i.order)) (omega (arith, inside)) (omega arith) fourth_size third c.grown-level.ensures.value in
    record {
      range = c.grown-level.ensures.range;
      order = omega (arith, i.order);
      within = omega (arith, c.many-test.true, i.within);
      so_far = fourth;
    }

-- one sample more
pub each-preserved : goal.each-preserved
each-preserved g c =
    let xs = g.S.Samples.list c.args.samples.now in
    let place = c.each.place in
    let i = c.each.invariant in
    let fits : FitsSigned w16 c.at.result = search rules in
    let size = c.unsigned_abs.ensures.value in
    record {
      range = c.grown-level-in-each.ensures.range;
      order = omega (arith, i.order);
      within = omega (arith, c.each-test.true);
      so_far = one_more c.args.self (lowered c.each.level) (lowered c.grown-level-in-each.result) xs c.args.at place
          (place + 1) (c.from-in-each.result + 1_023) i.order (omega (arith, c.each-test.true, c.requires.within))
          (omega arith)
          (ap (λ n. n + 1_023) (c.from-in-each.ensures ∙ rw (to_z-of_z fits) at size ∙ ap unsigned_abs c.at.ensures))
          i.so_far c.grown-level-in-each.ensures.value;
    }
