-- The crossings of some samples are those up to a place, those in some places from there, and those behind.
use Rattle.std.proofs.Common.{◌≡◌, ℕ, zero, suc, ◌+◌, ◌-◌, ◌≤◌, Bool, ℤ, List, ◌∷◌, ◌++◌, length, map, ap}
use Rattle.std.proofs.Common.{◌∙◌, arith}
use Rattle.std.specs.List.{filter, range_with_len}
use Rattle.std.proofs.lemmas.List.{map-append}
use Rattle.std.proofs.lemmas.List.Elements.{filter-append}
use Rattle.pcm_front.specs.declared.threshold.Threshold.{Threshold}
use Rattle.pcm_front.specs.Crossing.{is_crossing, moment, moments}
use Rattle.tape_sound.specs.Margin.{moments_in}

range_parts : (a k l : ℕ) → range_with_len a (k + l) ≡ range_with_len a k ++ range_with_len (a + k) l
range_parts a zero l =
    let none : zero + l ≡ l = omega arith in
    let same : a ≡ a + zero = omega arith in
    ap (range_with_len a) none ∙ ap (λ (b : ℕ). range_with_len b l) same
range_parts a (suc k) l =
    let more : suc k + l ≡ suc (k + l) = omega arith in
    let same : (a + 1) + k ≡ a + suc k = omega arith in
    ap (range_with_len a) more
    ∙ ap (λ (r : List ℕ). a ∷ r) (range_parts (a + 1) k l
    ∙ ap (λ (b : ℕ). range_with_len (a + 1) k ++ range_with_len b l) same)

-- the moments of two ranges of places
moments_join : (f : ℕ) (threshold : Threshold) (sound : List ℤ) (a k l : ℕ)
    → moments_in f threshold sound a (k + l)
    ≡ moments_in f threshold sound a k ++ moments_in f threshold sound (a + k) l
moments_join f threshold sound a k l =
    let crosses : ℕ → Bool = is_crossing threshold sound in
    let at : ℕ → ℕ = moment f threshold sound in
    ap (λ (places : List ℕ). map at (filter crosses places)) (range_parts a k l)
    ∙ ap (map at) (filter-append crosses (range_with_len a k) (range_with_len (a + k) l))
    ∙ map-append at (filter crosses (range_with_len a k)) (filter crosses (range_with_len (a + k) l))

pub parts : (f : ℕ) (threshold : Threshold) (sound : List ℤ) (a k : ℕ) → a + k ≤ length sound
    → moments f threshold sound
    ≡ moments_in f threshold sound 0 a ++ (moments_in f threshold sound a k
    ++ moments_in f threshold sound (a + k) (length sound - (a + k)))
parts f threshold sound a k room =
    let rest : ℕ = length sound - (a + k) in
    let whole : length sound ≡ a + (k + rest) = omega (arith, room) in
    let from_there : zero + a ≡ a = omega arith in
    ap (moments_in f threshold sound 0) whole
    ∙ moments_join f threshold sound 0 a (k + rest)
    ∙ ap (λ (l : List ℕ). moments_in f threshold sound 0 a ++ l)
    (ap (λ (b : ℕ). moments_in f threshold sound b (k + rest)) from_there
    ∙ moments_join f threshold sound a k rest)
