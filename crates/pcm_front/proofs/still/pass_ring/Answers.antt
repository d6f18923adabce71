use Rattle.std.specs.Int.{w16, w32}
use Rattle.std.proofs.Common.{FitsSigned, rules, ◌≡◌, ◌<◌, ◌≤◌, ◌+ℤ◌, [], ◌∷◌, ◌++◌, length, true, ap, refl, sym, ◌∙◌}
use Rattle.std.proofs.Common.{arith, to_z-of_z}
use Rattle.pcm_front.specs.Level.{least_of}
use Rattle.pcm_front.specs.Side.{side_of, stays}
use Rattle.pcm_front.specs.State.{window_of}
use Rattle.pcm_front.specs.Sums.{total}
use Rattle.pcm_front.proofs.Ring.{kept-within}
use Rattle.pcm_front.proofs.StillSums.{none_passed, one_passed}
use Rattle.pcm_front.proofs.Windows.{total-push}
use Rattle.pcm_front.proofs.still.pass_ring.Goals as goal

pub summed-sum-requires : goal.summed-sum-requires
summed-sum-requires g c =
    let now = c.samples.now in
    let fits : FitsSigned w32 now.sum = search rules in
    rw (to_z-of_z fits) (kept-within now.smooth c.samples.ring now.oldest now.sum c.samples.invariant.ring)

pub samples-init : goal.samples-init
samples-init g c = record {
  order = omega arith;
  within = c.requires.place;
  before = c.requires.before;
  level = c.requires.level;
  smooth = refl;
  ring = c.requires.ring;
  passes = λ state is. none_passed state c.args.side c.args.threshold c.args.from.before c.args.from.level
      (window_of c.args.turn.smooth c.args.ring.now c.args.turn.oldest) (g.S.Samples.list c.args.samples.now)
      c.args.from.end is;
}

-- one more with which the sound stays on its side
pub samples-preserved : goal.samples-preserved
samples-preserved g c =
    let i = c.samples.invariant in
    let xs = g.S.Samples.list c.args.samples.now in
    let from = c.args.from in
    let passed = c.samples.passed in
    let now = c.samples.now in
    let sample = c.at-sample.result in
    let sum = c.summed-sum.result in
    let inside : passed.end < length xs = omega (arith, c.samples-test.true, sym c.count-count.ensures) in
    let fits : FitsSigned w32 sum = search rules in
    let fits_too : FitsSigned w16 sample = search rules in
    let fits_kept : FitsSigned w32 now.sum = search rules in
    let window = window_of now.smooth c.samples.ring now.oldest in
    let put = c.put-now.result in
    let value : sum ≡ total (window.kept ++ sample ∷ []) =
    (rw (to_z-of_z fits_kept, to_z-of_z fits_too) at c.summed-sum.ensures.value) ∙ ap (λ t. t +ℤ sample) i.ring.sum_is
    ∙ sym (total-push window.kept sample) in
    let some : 1 ≤ least_of c.args.threshold = rw c.least-least.ensures.value at c.least-least.ensures.least in
    let still : stays c.args.side (side_of (least_of c.args.threshold) sum) ≡ true =
    ap (λ t. stays c.args.side (side_of t sum)) (sym c.least-least.ensures.value)
    ∙ sym (rw (to_z-of_z fits) at c.stays.ensures) ∙ c.if-not-stays.false in
    record {
      order = omega (arith, i.order);
      within = omega (arith, inside);
      before = rw (to_z-of_z fits) c.summed-sum.ensures.size;
      level = c.next_level-level.ensures.range;
      smooth = c.put-now.ensures.smooth ∙ i.smooth;
      ring = c.put-now.ensures.ring;
      passes = λ state is. rw (to_z-of_z fits)
          (one_passed state c.args.side c.args.threshold from.before passed.before from.level passed.level
          c.next_level-level.result (window_of c.args.turn.smooth c.args.ring.now c.args.turn.oldest) window
          (window_of put.smooth c.put-now.new.ring put.oldest) xs from.end passed.end sample sum is i.order inside
          c.at-sample.ensures
          i.ring.window.least value some still (rw (to_z-of_z fits) at c.next_level-level.ensures.value)
          (rw (to_z-of_z fits_too) at c.put-now.ensures.window)
          (i.passes state is));
    }
