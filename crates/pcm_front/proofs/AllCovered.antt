-- The intervals of samples add up to the ticks from the first moment, or from tick 0, to the last one, and to the whole
-- pieces that have passed behind it.
use Rattle.std.proofs.Common.{◌≡◌, ℕ, zero, suc, ◌+◌, ◌-◌, ◌*◌, ◌/◌, ◌<◌, ◌≤◌, ℤ, List, [], ◌∷◌, replicate, sum}
use Rattle.std.proofs.Common.{refl, sym, ap₂, ◌∙◌, suc-mul, arith}
use Rattle.std.specs.List.{flat_map, All}
use Rattle.std.proofs.Math.Nat.{div-mul-le_self, lt-div-mul-add}
use Rattle.std.proofs.lemmas.List.Elements.{All-head, All-tail}
use Rattle.std.proofs.lemmas.List.Sums.{sum_by-append, sum_by-cons}
use Rattle.pcm_front.specs.declared.pace.Pace.{Pace}
use Rattle.pcm_front.specs.declared.pace.Pace.TheVariants.{Ended, Passing}
use Rattle.pcm_front.specs.declared.start.Start.{Start}
use Rattle.pcm_front.specs.declared.start.Start.TheVariants.{Crossing, Tick}
use Rattle.pcm_front.specs.declared.threshold.Threshold.{Threshold}
use Rattle.pcm_front.specs.Covered.{covered, last_of, moments_by, TellTheCrossings}
use Rattle.pcm_front.specs.Crossing.{moments}
use Rattle.pcm_front.specs.Distance.{distances_by, gaps, gaps_after, pieces_in}
use Rattle.pcm_front.specs.Level.{least_of}
use Rattle.pcm_front.specs.Pace.{begun, begun_in, intervals_at, longest, passed_by, IsPace}
use Rattle.pcm_front.specs.Settings.{Settings}
use Rattle.pcm_front.specs.Sums.{sums}
use Rattle.pcm_front.proofs.InPieces.{sum-pieces_in}
use Rattle.pcm_front.proofs.Polarity.{intervals_over}
use Rattle.pcm_front.proofs.Rising.{sliced-some}
use Rattle.pcm_front.proofs.TurnByTurn.{crossings_cross, crossings_turn}

-- the pieces of distances add up to the distances
sum_of_pieces : (n : ℕ) → 1 ≤ n → (ds : List ℕ) → All (λ (d : ℕ). 1 ≤ d) ds → sum (flat_map (pieces_in n) ds) ≡ sum ds
sum_of_pieces n some [] all = refl
sum_of_pieces n some (d ∷ ds) all =
    sum_by-append (λ (k : ℕ). k) (pieces_in n d) (flat_map (pieces_in n) ds)
    ∙ ap₂ (λ (a b : ℕ). a + b) (sum-pieces_in n d some (All-head (λ (x : ℕ). 1 ≤ x) d ds all))
    (sum_of_pieces n some ds (All-tail (λ (x : ℕ). 1 ≤ x) d ds all))
    ∙ sym (sum_by-cons (λ (k : ℕ). k) d ds)

-- distances that are some lead from a moment to the last one
gaps_lead : (x : ℕ) (ms : List ℕ) → All (λ (d : ℕ). 1 ≤ d) (gaps_after x ms) → x + sum (gaps_after x ms) ≡ last_of x ms
gaps_lead x [] all = omega arith
gaps_lead x (m ∷ ms) all =
    let one : 1 ≤ m - x = All-head (λ (d : ℕ). 1 ≤ d) (m - x) (gaps_after m ms) all in
    let rest = gaps_lead m ms (All-tail (λ (d : ℕ). 1 ≤ d) (m - x) (gaps_after m ms) all) in
    let all_of = sum_by-cons (λ (k : ℕ). k) (m - x) (gaps_after m ms) in
    omega (arith, one, rest, all_of)

gaps_cover : (ms : List ℕ) → All (λ (d : ℕ). 1 ≤ d) (gaps ms) → sum (gaps ms) ≡ covered Crossing ms
gaps_cover [] all = refl
gaps_cover (m ∷ ms) all = let leads = gaps_lead m ms all in omega (arith, leads)

distances_cover : (start : Start) (fineness smooth : ℕ) (threshold : Threshold) (samples : List ℤ)
    → let s : Settings = record { fineness = fineness; threshold = threshold; smooth = smooth; start = start } in
    All (λ (d : ℕ). 1 ≤ d) (distances_by s samples)
    → sum (distances_by s samples) ≡ covered start (moments_by s samples)
distances_cover Crossing fineness smooth threshold samples all =
    gaps_cover (moments fineness threshold (sums smooth samples)) all
distances_cover Tick fineness smooth threshold samples all =
    let leads = gaps_lead 0 (moments fineness threshold (sums smooth samples)) all in omega (arith, leads)

sum_of_same : (n x : ℕ) → sum (replicate n x) ≡ n * x
sum_of_same zero x = omega arith
sum_of_same (suc n) x =
    let more = sum_by-cons (λ (k : ℕ). k) x (replicate n x) in
    let rest = sum_of_same n x in
    let one = suc-mul n x in
    omega (arith, more, rest, one)

-- all of them
intervals_cover : (pace : Pace) (s : Settings) (samples : List ℤ) → IsPace pace → 1 ≤ s.fineness
    → sum (intervals_at pace s samples)
    ≡ covered s.start (moments_by s samples) + begun_in pace (passed_by s samples) * longest pace
intervals_cover pace s samples is some =
    let all = sliced-some s samples some in
    let pieces = flat_map (pieces_in (longest pace)) (distances_by s samples) in
    sum_by-append (λ (k : ℕ). k) pieces (begun pace (passed_by s samples))
    ∙ ap₂ (λ (a b : ℕ). a + b) (sum_of_pieces (longest pace) is.0 (distances_by s samples) all
    ∙ distances_cover s.start s.fineness s.smooth s.threshold samples all)
    (sum_of_same (begun_in pace (passed_by s samples)) (longest pace))

-- without pieces that pass, and with them
ended : (pace : Pace) (s : Settings) (samples : List ℤ) → IsPace pace → 1 ≤ s.fineness → pace ≡ Ended
    → sum (intervals_at pace s samples) ≡ covered s.start (moments_by s samples)
ended Ended s samples is some e = let all = intervals_cover Ended s samples is some in omega (arith, all)
ended (Passing length) s samples is some e = absurd cc

-- the whole pieces of what has passed, but for less than one
passing : (pace : Pace) (s : Settings) (samples : List ℤ) → IsPace pace → 1 ≤ s.fineness → (length : ℕ)
    → pace ≡ Passing length → let ticks = covered s.start (moments_by s samples) in let passed = passed_by s samples in
    (ticks ≤ sum (intervals_at pace s samples)) × (sum (intervals_at pace s samples) ≤ ticks + passed)
    × (ticks + passed < sum (intervals_at pace s samples) + length)
passing Ended s samples is some length e = absurd cc
passing (Passing n) s samples is some length e =
    let same : n ≡ length = cc in
    let all = intervals_cover (Passing n) s samples is some in
    let below = div-mul-le_self (passed_by s samples) n in
    let above : passed_by s samples < passed_by s samples / n * n + n = lt-div-mul-add (omega (arith, is)) in
    (omega (arith, all), omega (arith, all, below), omega (arith, all, above, same))

pub tell_the_crossings : (pace : Pace) (s : Settings) (samples : List ℤ) → IsPace pace → 1 ≤ s.fineness
    → 1 ≤ least_of s.threshold → TellTheCrossings pace s samples
tell_the_crossings pace s samples is some least = record {
  cross = crossings_cross s.threshold (sums s.smooth samples);
  turn = crossings_turn s.threshold (sums s.smooth samples);
  ended = ended pace s samples is some;
  passing = passing pace s samples is some;
  polarity = intervals_over pace s samples least;
}
