use Rattle.std.proofs.Common.{ℤ, List, IfSome, ◌-◌, ◌≡◌, ◌≤◌, ◌*◌, ◌++◌, take, length, subst, ap, sym, ◌∙◌}
use Rattle.std.proofs.Common.{mul-le-mul_left, arith}
use Rattle.pcm_front.specs.Distance.{distances_by}
use Rattle.pcm_front.specs.Samples.{samples_of}
use Rattle.pcm_front.specs.StandsFor.{settings_of, StandsFor}
use Rattle.pcm_front.proofs.InBytes.{length_samples_of, take-samples_of}
use Rattle.pcm_front.proofs.slicer.Slicer.run.Goals as goal

pub up_to_distance-count-requires : goal.up_to_distance-count-requires
up_to_distance-count-requires c =
    let f = c.args.self.now.finder.fineness in
    let bytes = c.args.bytes.now in
    let fewer : f * length (samples_of bytes) ≤ f * length bytes =
    mul-le-mul_left f (omega (arith, length_samples_of bytes)) in
    omega (arith, fewer, c.requires)

pub overflow_mul-result : goal.overflow_mul-result
overflow_mul-result c = let within = c.up_to_distance-count.ensures.within in
    omega (arith, within, length_samples_of c.args.bytes.now, c.type_inv.bytes)

pub returns-clause-within : goal.returns-clause-within
returns-clause-within c = omega (arith, c.up_to_distance-count.ensures.within, length_samples_of c.args.bytes.now)

pub returns-clause-some : goal.returns-clause-some
returns-clause-some c = λ two.
    let one = c.up_to_distance-count.ensures.some (omega (arith, two, length_samples_of c.args.bytes.now)) in
    omega (arith, one)

pub returns-clause-stands : goal.returns-clause-stands
returns-clause-stands c = λ front stands.
    let e = c.up_to_distance-count.ensures in
    rw (sym (take-samples_of c.up_to_distance-count.result.0 c.args.bytes.now e.within)) (e.runs.stands front stands)

pub returns-clause-distances : goal.returns-clause-distances
returns-clause-distances c = λ front stands.
    let e = c.up_to_distance-count.ensures in
    rw (sym (take-samples_of c.up_to_distance-count.result.0 c.args.bytes.now e.within)) (e.runs.brings front stands)

-- the bytes of all samples, but for one that is left over
pub returns-clause-all : goal.returns-clause-all
returns-clause-all c =
    λ none. omega (arith, c.up_to_distance-count.ensures.all none, length_samples_of c.args.bytes.now)

pub returns-clause-last : goal.returns-clause-last
returns-clause-last c =
    let e = c.up_to_distance-count.ensures in
    let bytes = c.args.bytes.now in
    let count = c.up_to_distance-count.result.0 in
    let s = settings_of c.args.self.now in
    let two : 2 * (count - 1) ≡ 2 * count - 2 = omega arith in
    let same : take (count - 1) (samples_of bytes) ≡ samples_of (take (2 * count - 2) bytes) =
    take-samples_of (count - 1) bytes (omega (arith, e.within)) ∙ ap (λ n. samples_of (take n bytes)) two in
    subst (λ (l : List ℤ). IfSome c.up_to_distance-count.result.1
    (λ distance. (front : List ℤ) → StandsFor c.args.self.now front
    → distances_by s (front ++ l) ≡ distances_by s front)) same e.last
