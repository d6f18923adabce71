use Rattle.std.proofs.Common.{rules, ◌≡◌, ◌+◌, ◌*◌, ◌^◌, ◌≤◌, ◌+ℤ◌, FitsSigned, to_z-of_z, ap, ap₂, sym, subst, ◌∙◌}
use Rattle.std.proofs.Common.{arith, refl}
use Rattle.std.specs.Int.{w64}
use Rattle.std.specs.Prelude.{unsigned_abs}
use Rattle.std.proofs.lemmas.Int.{fits_signed_from_abs}
use Rattle.path_front.specs.Latest.{sound_ago}
use Rattle.path_front.proofs.LatestSound.{more_squares, more_sum, no_steps, square_within, still_within}
use Rattle.path_front.proofs.latest.Latest.sums.Goals as goal

pub loop-place-init : goal.loop-place-init
loop-place-init c = record {
  sum = λ sounds stand. sym no_steps;
  squares = λ sounds stand. refl;
  size = omega arith;
  squares_size = omega arith;
}

pub loop-place-preserved : goal.loop-place-preserved
loop-place-preserved c =
    let l = c.loop-place in
    let n = c.ago-sound.result in
    let a : FitsSigned w64 n = search rules in
    let size = rw l.sum-is at l.invariant.size in
    let value = rw l.sum-is at l.invariant.sum in
    let within = still_within l.sum n l.place size c.ago-sound.ensures.size in
    let f : FitsSigned w64 (l.sum +ℤ n) =
    fits_signed_from_abs w64 (l.sum +ℤ n) (omega
    (arith, within, l.auto.place-end, c.requires.many, c.loop-place-test.true)) in
    let size_is : c.unsigned_abs-size.result ≡ unsigned_abs (sound_ago c.args.self.now (c.args.ago + l.place)) =
    (rw (to_z-of_z a) at c.unsigned_abs-size.ensures.value) ∙ ap unsigned_abs c.ago-sound.ensures.value in
    let small : c.unsigned_abs-size.result ≤ 2 ^ 15 =
    subst (λ n. n ≤ 2 ^ 15) (sym (rw (to_z-of_z a) at c.unsigned_abs-size.ensures.value)) c.ago-sound.ensures.size in
    let square = square_within c.unsigned_abs-size.result small in
    let squares_size = l.invariant.squares_size in
    rw (l.sum-is, to_z-of_z a, to_z-of_z f) (record {
      sum = λ sounds stand. ap₂ ◌+ℤ◌ (value sounds stand) c.ago-sound.ensures.value
          ∙ sym (more_sum c.args.self.now sounds c.args.ago l.place stand (omega
          (arith, c.requires.within, c.loop-place-test.true)));
      squares = λ sounds stand. ap₂ (λ s n. s + n * n) (l.invariant.squares sounds stand) size_is
          ∙ sym (more_squares c.args.self.now sounds c.args.ago l.place stand (omega
          (arith, c.requires.within, c.loop-place-test.true)));
      size = within;
      squares_size = omega (arith, square, squares_size);
    })
