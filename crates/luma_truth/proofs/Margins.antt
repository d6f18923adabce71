-- What a longer core has more of swing is more than what it has more of noise.
use Rattle.std.proofs.Common.{ℕ, ◌+◌, ◌*◌, ◌≤◌, ap, arith}
use Rattle.std.proofs.Math.Nat.{mul-le-mul_left}
use Rattle.luma_truth.specs.Inside.{IsEnough}
use Rattle.luma_truth.proofs.Rest.{rest_of}

pub twentieth_is_borne : (swing noise core : ℕ) → 85 ≤ core → 10 * noise ≤ swing → IsEnough swing noise core
twentieth_is_borne swing noise core long quiet =
    let m = mul-le-mul_left (2 * core + 3) quiet in
    let n = mul-le-mul_left swing long in
    omega (arith, m, n)

pub rounding_is_borne : (swing core : ℕ) → 85 ≤ core → 5 ≤ swing → IsEnough swing 1 core
rounding_is_borne swing core long some =
    let extra = rest_of 85 core long in
    let m = mul-le-mul_left extra.0 some in
    let product = ap (λ (w : ℕ). swing * w) extra.1 in
    omega (arith, m, product, extra.1)
