use Rattle.std.proofs.Common.{rules, ◌+◌, ◌-◌, ◌*◌, ◌/◌, ◌^◌, ◌+ℤ◌, FitsSigned, to_z-of_z, ap, ap₂}
use Rattle.std.proofs.Common.{sym, ◌∙◌}
use Rattle.std.proofs.Common.{arith}
use Rattle.std.specs.Int.{w64}
use Rattle.std.specs.Prelude.{unsigned_abs}
use Rattle.std.proofs.lemmas.Int.{fits_signed_from_abs}
use Rattle.std.proofs.lemmas.List.Sums.{sum_by-append}
use Rattle.cell_path.specs.Path.{signed}
use Rattle.path_front.specs.Latest.{part}
use Rattle.path_front.proofs.GroupNext.{size_of_sum}
use Rattle.path_front.proofs.LatestSound.{total-append}
use Rattle.path_front.proofs.measured.measure_half.Goals as goal

pub returns-clause-value : goal.returns-clause-value
returns-clause-value c = λ sounds stand.
    let a = c.args in
    let n = a.length / 2 in
    let short = part a.shorter_ago n sounds in
    let long = part a.longer_ago (a.length - n) sounds in
    let x = c.sums-short.result.sum in
    let y = c.longer_sums-long.result.sum in
    let p : FitsSigned w64 x = search rules in
    let q : FitsSigned w64 y = search rules in
    let r : FitsSigned w64 c.signed.result = search rules in
    let within = size_of_sum x y (n * 2 ^ 15) ((a.length - n) * 2 ^ 15) c.sums-short.ensures.size
    c.longer_sums-long.ensures.size in
    let f : FitsSigned w64 (x +ℤ y) =
    fits_signed_from_abs w64 (x +ℤ y) (omega (arith, within, c.requires.length)) in
    let value = rw (to_z-of_z p, to_z-of_z q, to_z-of_z f) at c.signed.ensures.value in
    let sums = ap₂ ◌+ℤ◌ (c.sums-short.ensures.sum sounds stand) (c.longer_sums-long.ensures.sum sounds stand)
    ∙ sym (total-append short long) in
    let squares = ap₂ ◌+◌ (c.sums-short.ensures.squares sounds stand) (c.longer_sums-long.ensures.squares sounds stand)
    ∙ sym (sum_by-append (λ sound. unsigned_abs sound * unsigned_abs sound) short long) in
    rw (to_z-of_z r) (ap₂ (λ s t. record { sum = s; squares = t }) (value ∙ ap (signed a.sign) sums) squares)
