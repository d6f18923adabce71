-- The samples of bytes, each of them in its place.
use Rattle.std.proofs.Common.{◌≡◌, ℕ, zero, suc, ◌+◌, ◌-◌, ◌*◌, ◌/◌, ◌<◌, ◌≤◌, pos, List, [], ◌∷◌, length, take, drop}
use Rattle.std.proofs.Common.{get_or, refl, ap, sym, ◌∙◌, arith}
use Rattle.std.proofs.lemmas.List.{drop-drop, take_rest}
use Rattle.pcm_front.specs.Samples.{sample_in, samples_of}

pub length_samples_of : (bytes : List ℕ) → length (samples_of bytes) ≡ length bytes / 2
unfolding samples_of
length_samples_of [] = refl
length_samples_of (low ∷ []) = refl
length_samples_of (low ∷ high ∷ more) = let rest = length_samples_of more in omega (arith, rest)

-- the sample in a place
pub sample-at : (place : ℕ) (bytes : List ℕ) → place < length (samples_of bytes)
    → get_or (samples_of bytes) place (pos 0) ≡ sample_in (drop (2 * place) bytes)
unfolding samples_of
sample-at place [] within = absurd (omega arith)
sample-at place (low ∷ []) within = absurd (omega arith)
sample-at zero (low ∷ high ∷ more) within = refl
sample-at (suc place) (low ∷ high ∷ more) within =
    let two : 2 * suc place ≡ suc (suc (2 * place)) = omega arith in
    sample-at place more (omega arith) ∙ ap (λ n. sample_in (drop n (low ∷ high ∷ more))) (sym two)

-- the first samples
pub take-samples_of : (count : ℕ) (bytes : List ℕ) → count ≤ length (samples_of bytes)
    → take count (samples_of bytes) ≡ samples_of (take (2 * count) bytes)
unfolding samples_of
take-samples_of zero bytes within = refl
take-samples_of (suc count) [] within = absurd (omega arith)
take-samples_of (suc count) (low ∷ []) within = absurd (omega arith)
take-samples_of (suc count) (low ∷ high ∷ more) within =
    let two : 2 * suc count ≡ suc (suc (2 * count)) = omega arith in
    ap (λ l. sample_in (low ∷ high ∷ []) ∷ l) (take-samples_of count more (omega arith))
    ∙ ap (λ n. samples_of (take n (low ∷ high ∷ more))) (sym two)

-- a sample lies in its bytes
pub place_in : (place : ℕ) (bytes : List ℕ) → place < length (samples_of bytes) → 2 * place + 2 ≤ length bytes
place_in place bytes within = omega (arith, within, length_samples_of bytes)

-- a part of a part
pub twice : (place : ℕ) (bytes : List ℕ) →
    take (length (take (length bytes - place) (drop place bytes)) - place)
    (drop place (take (length bytes - place) (drop place bytes)))
    ≡ drop (2 * place) bytes
twice place bytes =
    let two : place + place ≡ 2 * place = omega arith in
    take_rest (take (length bytes - place) (drop place bytes)) place ∙ ap (drop place) (take_rest bytes place)
    ∙ drop-drop place place bytes
    ∙ ap (λ n. drop n bytes) two
