use Rattle.std.specs.Int.{w16, w32}
use Rattle.std.proofs.Common.{FitsSigned, rules, ◌≡◌, ◌+ℤ◌, ◌-ℤ◌, pos, get_or, ap, arith, to_z-of_z}
use Rattle.pcm_front.specs.Level.{HasSixteenBits}
use Rattle.pcm_front.proofs.Ring.{kept-within, pushed, written}
use Rattle.pcm_front.proofs.window.Turn.put.Goals as goal

pub moved-sum-requires : goal.moved-sum-requires
moved-sum-requires c =
    let fits : FitsSigned w32 c.args.self.sum = search rules in
    rw (to_z-of_z fits) (kept-within c.args.self.smooth c.args.ring.now c.args.self.oldest c.args.self.sum
    c.requires.ring)

pub returns-clause-ring : goal.returns-clause-ring
returns-clause-ring c =
    let t = c.args.self in
    let ring = c.args.ring.now in
    let fits : FitsSigned w32 t.sum = search rules in
    let fits_too : FitsSigned w16 c.args.sample = search rules in
    let fits_now : FitsSigned w32 c.moved-sum.result = search rules in
    let fits_left : FitsSigned w16 (get_or ring t.oldest (pos 0)) = search rules in
    let bits : HasSixteenBits c.args.sample = search rules in
    let e : c.moved-sum.result ≡ (t.sum +ℤ c.args.sample) -ℤ get_or ring t.oldest (pos 0) =
    rw (to_z-of_z fits, to_z-of_z fits_too, to_z-of_z fits_left) at c.moved-sum.ensures in
    rw (to_z-of_z fits_too, to_z-of_z fits_now)
    (pushed t.smooth ring t.oldest c.place_after-oldest.result t.sum c.moved-sum.result c.args.sample
    c.requires.ring c.requires.more c.told-ring bits c.place_after-oldest.ensures e)

pub returns-clause-window : goal.returns-clause-window
returns-clause-window c =
    let t = c.args.self in
    let within = c.requires.ring.place c.requires.more in
    let fits_too : FitsSigned w16 c.args.sample = search rules in
    rw (to_z-of_z fits_too, c.place_after-oldest.ensures) (ap (λ kept. record { smooth = t.smooth; kept = kept })
    (written t.smooth c.args.ring.now t.oldest c.args.sample (omega (arith, within))
    (omega (arith, c.told-ring, c.requires.ring.window.most))))
