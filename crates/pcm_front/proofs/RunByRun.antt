-- Runs of samples on alternating sides have a crossing at the first sample of each run but the first one.
use Rattle.std.proofs.Common.{◌≡◌, ℕ, suc, ◌+◌, ◌-◌, ◌*◌, ◌≤◌, true, false, cond, ℤ, pos, neg_ℤ, int_le, List, []}
use Rattle.std.proofs.Common.{◌∷◌, ◌++◌, length, map, Some}
use Rattle.std.proofs.Common.{None, refl, ap, ap₂, subst, sym, ◌∙◌, append-nil, append_assoc, add-one, mul-add, one-mul}
use Rattle.std.proofs.Common.{arith}
use Rattle.std.specs.List.{AllByRecursion}
use Rattle.std.specs.Option.{option_or}
use Rattle.std.proofs.lemmas.Int.{ints}
use Rattle.std.proofs.lemmas.List.{get_or_push, get_or_append_left, length_push, length-append, map-append}
use Rattle.std.proofs.Math.IntN.{neg_ℤ-neg_ℤ}
use Rattle.pcm_front.specs.declared.side.Side.{Side}
use Rattle.pcm_front.specs.declared.side.Side.TheVariants.{High, Low}
use Rattle.pcm_front.specs.declared.threshold.Threshold.TheVariants.{Fixed}
use Rattle.pcm_front.specs.Side.{sample_at, side_of, side_at, side_after, other_side, differs}
use Rattle.pcm_front.specs.Crossing.{is_crossing, tick_in_step, tick_to, tick_at, moment, moments}
use Rattle.pcm_front.specs.Distance.{gaps, gaps_after, distances}
use Rattle.pcm_front.specs.Runs.{LiesOn, IsOfSize, Alternate, joined}
use Rattle.pcm_front.proofs.OneMore.{side_after-front, same_tick, moments-more}
use Rattle.pcm_front.proofs.Rounding.{tick_to-within}

-- a rule for samples on a side, by which each crossing has the same tick
record Rule (f t c : ℕ) (fits : Side → ℤ → Type 0) : Type 0 where
  on_side : (side : Side) (s : ℤ) → fits side s → side_of t s ≡ Some side
  tick : (side : Side) (a b : ℤ) → fits side a → fits (other_side side) b → tick_to (Some (other_side side)) f t a b ≡ c

-- samples that end on a side, with the moments that they have
record Ends (f t : ℕ) (fits : Side → ℤ → Type 0) (xs : List ℤ) (side : Side) (ms : List ℕ) : Type 0 where
  some : 1 ≤ length xs
  side_is : side_after (Fixed t) xs (length xs) ≡ Some side
  last : fits side (sample_at xs (length xs - 1))
  moments_are : moments f (Fixed t) xs ≡ ms

-- one sample more, on a side
pushed : (f t c : ℕ) (fits : Side → ℤ → Type 0) (xs : List ℤ) (side next : Side) (ms : List ℕ) (s : ℤ)
    → Rule f t c fits →
    Ends f t fits xs side ms → fits next s →
    Ends f t fits (xs ++ s ∷ []) next
    (ms ++ cond (differs (Some side) (Some next)) (moment f (Fixed t) (xs ++ s ∷ []) (length xs) ∷ []) [])
pushed f t c fits xs side next ms s rule ends fit =
    let n : ℕ = length xs in
    let long : length (xs ++ s ∷ []) ≡ suc n = length_push xs s ∙ add-one n in
    let here : sample_at (xs ++ s ∷ []) n ≡ s = get_or_push xs s (pos 0) n refl in
    let side_here : side_at (Fixed t) (xs ++ s ∷ []) n ≡ Some next = ap (side_of t) here ∙ rule.on_side next s fit in
    let before : side_after (Fixed t) (xs ++ s ∷ []) n ≡ Some side =
    side_after-front (Fixed t) xs (s ∷ []) n (omega arith) ∙ ends.side_is in
    let crosses : is_crossing (Fixed t) (xs ++ s ∷ []) n ≡ differs (Some side) (Some next) =
    ap₂ differs before side_here in
    let last_place : length (xs ++ s ∷ []) - 1 ≡ n = omega (arith, long) in
    record {
      some = omega (arith, long);
      side_is = ap (side_after (Fixed t) (xs ++ s ∷ [])) long
          ∙ ap (λ o. option_or o (side_after (Fixed t) (xs ++ s ∷ []) n)) side_here;
      last = subst (fits next) (sym here ∙ ap (sample_at (xs ++ s ∷ [])) (sym last_place)) fit;
      moments_are = moments-more f (Fixed t) xs s
          ∙ ap₂ (λ all b. all ++ cond b (moment f (Fixed t) (xs ++ s ∷ []) n ∷ []) []) ends.moments_are crosses;
    }

differs_not : (side : Side) → differs (Some side) (Some side) ≡ false
differs_not High = refl
differs_not Low = refl

differs_other : (side : Side) → differs (Some side) (Some (other_side side)) ≡ true
differs_other High = refl
differs_other Low = refl

-- on the same side, there is no crossing
pushed_same : (f t c : ℕ) (fits : Side → ℤ → Type 0) (xs : List ℤ) (side : Side) (ms : List ℕ) (s : ℤ)
    → Rule f t c fits →
    Ends f t fits xs side ms → fits side s → Ends f t fits (xs ++ s ∷ []) side ms
pushed_same f t c fits xs side ms s rule ends fit =
    let all : ms ++ cond (differs (Some side) (Some side)) (moment f (Fixed t) (xs ++ s ∷ []) (length xs) ∷ []) []
    ≡ ms =
    ap (λ b. ms ++ cond b (moment f (Fixed t) (xs ++ s ∷ []) (length xs) ∷ []) []) (differs_not side) ∙ append-nil ms in
    subst (Ends f t fits (xs ++ s ∷ []) side) all (pushed f t c fits xs side side ms s rule ends fit)

-- on the other side, there is one
pushed_other : (f t c : ℕ) (fits : Side → ℤ → Type 0) (xs : List ℤ) (side : Side) (ms : List ℕ) (s : ℤ)
    → Rule f t c fits →
    Ends f t fits xs side ms → fits (other_side side) s →
    Ends f t fits (xs ++ s ∷ []) (other_side side) (ms ++ (f * (length xs - 1) + c) ∷ [])
pushed_other f t c fits xs side ms s rule ends fit =
    let n : ℕ = length xs in
    let here : sample_at (xs ++ s ∷ []) n ≡ s = get_or_push xs s (pos 0) n refl in
    let before : sample_at (xs ++ s ∷ []) (n - 1) ≡ sample_at xs (n - 1) =
    get_or_append_left xs (s ∷ []) (pos 0) (n - 1) (omega (arith, ends.some)) in
    let tick : tick_at f (Fixed t) (xs ++ s ∷ []) n ≡ c =
    same_tick f _ (Some (other_side side)) t t _ _ (sample_at xs (n - 1)) s
    (ap (side_of t) here ∙ rule.on_side (other_side side) s fit) refl before here
    ∙ rule.tick side (sample_at xs (n - 1)) s ends.last fit in
    let all : ms ++ cond (differs (Some side) (Some (other_side side))) (moment f (Fixed t) (xs ++ s ∷ []) n ∷ []) []
    ≡ ms ++ (f * (n - 1) + c) ∷ [] =
    ap (λ b. ms ++ cond b (moment f (Fixed t) (xs ++ s ∷ []) n ∷ []) []) (differs_other side)
    ∙ ap (λ tick. ms ++ (f * (n - 1) + tick) ∷ []) tick in
    subst (Ends f t fits (xs ++ s ∷ []) (other_side side)) all
    (pushed f t c fits xs side (other_side side) ms s rule ends fit)

-- the rest of a run
run_same : (f t c : ℕ) (fits : Side → ℤ → Type 0) (xs : List ℤ) (side : Side) (ms : List ℕ) (run : List ℤ)
    → Rule f t c fits →
    Ends f t fits xs side ms → AllByRecursion (fits side) run → Ends f t fits (xs ++ run) side ms
run_same f t c fits xs side ms [] rule ends all = subst (λ ys. Ends f t fits ys side ms) (sym (append-nil xs)) ends
run_same f t c fits xs side ms (s ∷ run) rule ends all =
    subst (λ ys. Ends f t fits ys side ms) (append_assoc xs (s ∷ []) run)
    (run_same f t c fits (xs ++ s ∷ []) side ms run rule (pushed_same f t c fits xs side ms s rule ends all.0) all.1)

-- the moments at which runs of such lengths begin, the first in a place
abbrev starts : ℕ → ℕ → ℕ → List ℕ → List ℕ
starts f c n [] = []
starts f c n (k ∷ ks) = (f * (n - 1) + c) ∷ starts f c (n + k) ks

runs_on : (f t c : ℕ) (fits : Side → ℤ → Type 0) (xs : List ℤ) (side : Side) (ms : List ℕ) (runs : List (List ℤ))
    → Rule f t c fits →
    Ends f t fits xs side ms → Alternate fits (other_side side) runs →
    moments f (Fixed t) (xs ++ joined runs) ≡ ms ++ starts f c (length xs) (map length runs)
runs_on f t c fits xs side ms [] rule ends turns = ap (moments f (Fixed t)) (append-nil xs) ∙ ends.moments_are
    ∙ sym (append-nil ms)
runs_on f t c fits xs side ms ([] ∷ runs) rule ends turns = absurd (omega (arith, turns.0))
runs_on f t c fits xs side ms ((s ∷ run) ∷ runs) rule ends turns =
    let n : ℕ = length xs in
    let m : ℕ = f * (n - 1) + c in
    let begun = pushed_other f t c fits xs side ms s rule ends turns.1.0 in
    let run_ends = run_same f t c fits (xs ++ s ∷ []) (other_side side) (ms ++ m ∷ []) run rule begun turns.1.1 in
    let more = runs_on f t c fits ((xs ++ s ∷ []) ++ run) (other_side side) (ms ++ m ∷ []) runs rule run_ends turns.2 in
    let samples : ((xs ++ s ∷ []) ++ run) ++ joined runs ≡ xs ++ ((s ∷ run) ++ joined runs) =
    append_assoc (xs ++ s ∷ []) run (joined runs) ∙ append_assoc xs (s ∷ []) (run ++ joined runs) in
    let long : length ((xs ++ s ∷ []) ++ run) ≡ n + suc (length run) =
    length-append (xs ++ s ∷ []) run ∙ omega (arith, length_push xs s) in
    ap (moments f (Fixed t)) (sym samples) ∙ more ∙ append_assoc ms (m ∷ []) _
    ∙ ap (λ k. ms ++ (m ∷ starts f c k (map length runs))) long

-- from one start to the next, a run's length in ticks
one_run : (f c n k : ℕ) → 1 ≤ n → (f * ((n + k) - 1) + c) - (f * (n - 1) + c) ≡ f * k
one_run f c n k h =
    let place : (n + k) - 1 ≡ (n - 1) + k = omega arith in
    let product : f * ((n + k) - 1) ≡ f * (n - 1) + f * k = rw place (mul-add f (n - 1) k) in
    omega arith

gaps_after-starts : (f c n k : ℕ) (ks : List ℕ) (l : ℕ) → 1 ≤ n →
    gaps_after (f * (n - 1) + c) (starts f c (n + k) (ks ++ l ∷ [])) ≡ f * k ∷ map (λ j. f * j) ks
gaps_after-starts f c n k [] l h = ap (λ d. d ∷ []) (one_run f c n k h)
gaps_after-starts f c n k (j ∷ js) l h =
    ap₂ (λ d more. d ∷ more) (one_run f c n k h) (gaps_after-starts f c (n + k) j js l (omega arith))

gaps-starts : (f c n : ℕ) (ks : List ℕ) (l : ℕ) → 1 ≤ n → gaps (starts f c n (ks ++ l ∷ [])) ≡ map (λ j. f * j) ks
gaps-starts f c n [] l h = refl
gaps-starts f c n (k ∷ ks) l h = gaps_after-starts f c n k ks l h

-- one sample has no crossing
first_ends : (f t c : ℕ) (fits : Side → ℤ → Type 0) (side : Side) (s : ℤ) → Rule f t c fits → fits side s
    → Ends f t fits (s ∷ []) side []
first_ends f t c fits side s rule fit = record {
  some = omega arith;
  side_is = ap (λ o. option_or o None) (rule.on_side side s fit);
  last = fit;
  moments_are = refl;
}

distances_of_runs : (f t c : ℕ) (fits : Side → ℤ → Type 0) (side : Side) (first : List ℤ) (runs : List (List ℤ))
    (last : List ℤ) →
    Rule f t c fits → Alternate fits side (first ∷ (runs ++ last ∷ [])) →
    distances f (Fixed t) (joined (first ∷ (runs ++ last ∷ []))) ≡ map (λ k. f * k) (map length runs)
distances_of_runs f t c fits side [] runs last rule turns = absurd (omega (arith, turns.0))
distances_of_runs f t c fits side (s ∷ run) runs last rule turns =
    let begun = first_ends f t c fits side s rule turns.1.0 in
    let ends = run_same f t c fits (s ∷ []) side [] run rule begun turns.1.1 in
    let all = runs_on f t c fits (s ∷ run) side [] (runs ++ last ∷ []) rule ends turns.2 in
    let lengths : map length (runs ++ last ∷ []) ≡ map length runs ++ length last ∷ [] =
    map-append length runs (last ∷ []) in
    ap gaps (all ∙ ap (starts f c (suc (length run))) lengths) ∙ gaps-starts f c (suc (length run)) (map length runs)
    (length last) (omega arith)

ones : (ks : List ℕ) → map (λ k. 1 * k) ks ≡ ks
ones [] = refl
ones (k ∷ ks) = ap₂ (λ j more. j ∷ more) (one-mul k) (ones ks)

-- in whole samples, runs are sliced into their lengths
pub whole_runs : (t : ℕ) (side : Side) (first : List ℤ) (runs : List (List ℤ)) (last : List ℤ) →
    Alternate (LiesOn t) side (first ∷ (runs ++ last ∷ [])) →
    distances 1 (Fixed t) (joined (first ∷ (runs ++ last ∷ []))) ≡ map length runs
whole_runs t side first runs last turns =
    let rule : Rule 1 t 1 (LiesOn t) = record {
      on_side = λ side s lies. lies;
      tick = λ side a b lies lies_too. let within = tick_to-within (other_side side) 1 t a b (omega arith) lies_too in
          omega (arith, within.0, within.1);
    } in
    distances_of_runs 1 t 1 (LiesOn t) side first runs last rule turns ∙ ones (map length runs)

size_on_side : (t h : ℕ) (side : Side) (s : ℤ) → 1 ≤ t → t ≤ h → IsOfSize h side s → side_of t s ≡ Some side
size_on_side t h High s some above is =
    let high : int_le (pos t) (pos h) ≡ true = grind (arith, ints) in
    rw (is, high) refl
size_on_side t h Low s some above is =
    let not_high : int_le (pos t) (neg_ℤ (pos h)) ≡ false = grind (arith, ints) in
    let low : int_le (neg_ℤ (pos h)) (neg_ℤ (pos t)) ≡ true = grind (arith, ints) in
    rw (is, not_high, low) refl

size_tick : (f t h : ℕ) (side : Side) (a b : ℤ) → IsOfSize h side a → IsOfSize h (other_side side) b →
    tick_to (Some (other_side side)) f t a b ≡ tick_in_step f t (neg_ℤ (pos h)) (pos h)
size_tick f t h High a b is is_too = rw (is, is_too, neg_ℤ-neg_ℤ (pos h)) refl
size_tick f t h Low a b is is_too = rw (is, is_too) refl

map_twice : (f : ℕ) (runs : List (List ℤ)) → map (λ k. f * k) (map length runs) ≡ map (λ run. f * length run) runs
map_twice f [] = refl
map_twice f (run ∷ runs) = ap (λ more. (f * length run) ∷ more) (map_twice f runs)

-- runs of samples of one size are sliced into their lengths in ticks
pub runs_of_size : (f t h : ℕ) (side : Side) (first : List ℤ) (runs : List (List ℤ)) (last : List ℤ) → 1 ≤ t → t ≤ h →
    Alternate (IsOfSize h) side (first ∷ (runs ++ last ∷ [])) →
    distances f (Fixed t) (joined (first ∷ (runs ++ last ∷ []))) ≡ map (λ run. f * length run) runs
runs_of_size f t h side first runs last some above turns =
    let rule : Rule f t (tick_in_step f t (neg_ℤ (pos h)) (pos h)) (IsOfSize h) = record {
      on_side = λ side s is. size_on_side t h side s some above is;
      tick = λ side a b is is_too. size_tick f t h side a b is is_too;
    } in
    distances_of_runs f t (tick_in_step f t (neg_ℤ (pos h)) (pos h)) (IsOfSize h) side first runs last rule turns
    ∙ map_twice f runs
