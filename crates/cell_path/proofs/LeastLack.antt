-- Of the best paths to the latest steps one lacks least, and it is the best of the unfinished.
use Rattle.std.proofs.Common.{◌≡◌, ℕ, zero, suc, ◌+◌, ◌-◌, ◌%◌, ◌^◌, ◌<◌, ◌≤◌, ◌⊎◌, inl, inr, ℤ, pos, ◌+ℤ◌, ◌-ℤ◌, ◌≤ℤ◌}
use Rattle.std.proofs.Common.{◌<ℤ◌, unsigned_abs, List, [], ◌∷◌, length, drop, get_or, refl, ap, ap₂, subst, sym, ◌∙◌}
use Rattle.std.proofs.Common.{arith}
use Rattle.std.proofs.lemmas.Int.{ints}
use Rattle.cell_path.specs.declared.cell.Cell.{Cell}
use Rattle.cell_path.specs.declared.cell.Step.{Step}
use Rattle.cell_path.specs.declared.four.Four.{Four}
use Rattle.cell_path.specs.declared.lengths.TheConstants.{LENGTHS}
use Rattle.cell_path.specs.Best.{IsBestOfAll}
use Rattle.cell_path.specs.Four.{at_step, low, AreNear}
use Rattle.cell_path.specs.Kept.{lack_ago, place_ago, IsNext, LacksState}
use Rattle.cell_path.specs.Path.{score, IsPath}
use Rattle.cell_path.specs.Scores.{AreSteps, IsStep}
use Rattle.cell_path.specs.StandsFor.{steps_at, HasLack, IsBestAt, LacksStandFor}
use Rattle.cell_path.specs.Trying.{LacksLeast}
use Rattle.cell_path.specs.Unfinished.{lack, sum_of_sizes, IsBestUnfinished, LacksLess}
use Rattle.cell_path.proofs.Lowest.{at_each_step, low-plus, low_small}
use Rattle.cell_path.proofs.NearLacks.{near_lacks, size-within, sizes-cons, sizes-nil}
use Rattle.cell_path.proofs.NearScores.{not_less}
use Rattle.cell_path.proofs.NextStep.{place_apart, place_before, place_since}
use Rattle.cell_path.proofs.OneDecision.{one_of_all}

-- ---- trying one after another

-- so far one of the latest `most` steps was found
abbrev pub LeastSoFar : LacksState → ℕ → ℕ → Type 0
LeastSoFar lacks most ago = (ago < most)
    × ((steps : List Step) → 2_048 ≤ length steps → AreSteps steps → LacksStandFor lacks steps
    → LacksLeast steps most ago)

abbrev lack_of : List Step → List Cell → ℤ
lack_of steps path = lack LENGTHS steps path

-- to one step there is one best path
alike : (steps : List Step) (ago other : ℕ) (path others : List Cell) → ago ≡ other
    → IsBestOfAll LENGTHS (drop ago steps) path → IsBestOfAll LENGTHS (drop other steps) others
    → LacksLess (lack_of (drop ago steps) path) ago (lack_of (drop other steps) others) other
alike steps ago other path others same best like =
    let here : IsBestOfAll LENGTHS (drop other steps) path =
    subst (λ n. IsBestOfAll LENGTHS (drop n steps) path) same best in
    let one = one_of_all (drop other steps) path others here like in
    inr (ap₂ (λ n p. lack_of (drop n steps) p) same one, omega (arith, same))

pub first_least : (lacks : LacksState) → LeastSoFar lacks 1 0
first_least lacks = (
  omega arith,
  λ steps long are stand other path others within best like.
      alike steps 0 other path others (omega (arith, within)) best like,
)

-- what lacks less than that which lacked least so far lacks least
pub less_than : (x y z : ℤ) (n ago other : ℕ) → x <ℤ y → LacksLess y ago z other → LacksLess x n z other
less_than x y z n ago other less (inl more) = inl (omega (arith, ints))
less_than x y z n ago other less (inr same) = inl (omega (arith, ints, same.0))

pub least_comes : (lacks : LacksState) (n ago : ℕ) → n < 96
    → ((x y : ℤ) → lack_ago lacks n ≡ low x → lack_ago lacks ago ≡ low y → AreNear x y → x <ℤ y)
    → LeastSoFar lacks n ago → LeastSoFar lacks (n + 1) n
least_comes lacks n ago few less so_far = (
  omega arith,
  λ steps long are stand other path others within best like.
      let before = so_far.0 in
      let a = stand.each n few (omega (arith, few, long)) in
      let b = stand.each ago (omega (arith, before, few)) (omega (arith, before, few, long)) in
      let near = near_lacks steps n ago a.path b.path are few (omega (arith, before, few)) long a.is_best b.is_best in
      let is = less (lack_of (drop n steps) a.path) (lack_of (drop ago steps) b.path) a.kept_is b.kept_is near in
      let same = one_of_all (drop n steps) a.path path a.is_best best in
      let cases : (other < n) ⊎ (n ≡ other) = grind (arith, within) in
      elim cases [
        | inl earlier ↦
            let last = so_far.1 steps long are stand other b.path others earlier b.is_best like in
            subst (λ p. LacksLess (lack_of (drop n steps) p) n (lack_of (drop other steps) others) other) same
            (less_than (lack_of (drop n steps) a.path) (lack_of (drop ago steps) b.path)
            (lack_of (drop other steps) others) n ago other is last)
        | inr here ↦ alike steps n other path others here best like
      ],
)

pub not_more : (x y : ℤ) (ago other : ℕ) → x ≤ℤ y → ago ≤ other → LacksLess x ago y other
not_more x y ago other most order =
    let cases : (x <ℤ y) ⊎ (x ≡ y) = grind (arith, ints, most) in
    elim cases [ inl less ↦ inl less | inr same ↦ inr (same, order) ]

pub least_stays : (lacks : LacksState) (n ago : ℕ) → n < 96
    → ((x y : ℤ) → lack_ago lacks n ≡ low x → lack_ago lacks ago ≡ low y → AreNear x y → y ≤ℤ x)
    → LeastSoFar lacks n ago → LeastSoFar lacks (n + 1) ago
least_stays lacks n ago few not_less_is so_far = (
  omega (arith, so_far.0),
  λ steps long are stand other path others within best like.
      let before = so_far.0 in
      let a = stand.each n few (omega (arith, few, long)) in
      let b = stand.each ago (omega (arith, before, few)) (omega (arith, before, few, long)) in
      let near = near_lacks steps n ago a.path b.path are few (omega (arith, before, few)) long a.is_best b.is_best in
      let is = not_less_is (lack_of (drop n steps) a.path) (lack_of (drop ago steps) b.path) a.kept_is b.kept_is near
      in
      let same = one_of_all (drop ago steps) b.path path b.is_best best in
      let cases : (other < n) ⊎ (n ≡ other) = grind (arith, within) in
      elim cases [
        | inl earlier ↦ so_far.1 steps long are stand other path others earlier best like
        | inr here ↦
            let there : IsBestOfAll LENGTHS (drop n steps) others =
            subst (λ k. IsBestOfAll LENGTHS (drop k steps) others) (sym here) like in
            let one = one_of_all (drop n steps) a.path others a.is_best there in
            let mine = not_more (lack_of (drop ago steps) b.path) (lack_of (drop n steps) a.path) ago n is
            (omega (arith, before)) in
            subst (λ k. LacksLess (lack_of (drop ago steps) path) ago (lack_of (drop k steps) others) k) here
            (subst (λ p. LacksLess (lack_of (drop ago steps) path) ago (lack_of (drop n steps) p) n) one
            (subst (λ p. LacksLess (lack_of (drop ago steps) p) ago (lack_of (drop n steps) a.path) n) same mine))
      ],
)

-- ---- the best of the unfinished

-- each path lacks as much as the best one that ends there, or more
pub lacks_more : (steps : List Step) (best other : List Cell) → IsBestOfAll LENGTHS steps best
    → IsPath LENGTHS steps other → lack LENGTHS steps best ≤ℤ lack LENGTHS steps other
lacks_more steps best other is path =
    let low = not_less (score LENGTHS steps best) (score LENGTHS steps other) best other (is.wins other path) in
    omega (arith, ints, low)

pub no_more_than : (x y z : ℤ) (ago other : ℕ) → LacksLess x ago y other → y ≤ℤ z → LacksLess x ago z other
no_more_than x y z ago other (inl less) most = inl (omega (arith, ints))
no_more_than x y z ago other (inr same) most =
    not_more x z ago other (omega (arith, ints, same.0, most)) same.1

pub best_unfinished : (lacks : LacksState) (steps : List Step) (ago : ℕ) (path : List Cell) → ago < 96
    → 2_048 ≤ length steps → LacksStandFor lacks steps → LacksLeast steps 96 ago
    → IsBestOfAll LENGTHS (drop ago steps) path → IsBestUnfinished LENGTHS steps ago path
best_unfinished lacks steps ago path few long stand least best = record {
  latest = few;
  within = omega (arith, few, long);
  is_best = best;
  wins = λ other others is.
      let there = stand.each other is.latest is.within in
      no_more_than (lack_of (drop ago steps) path) (lack_of (drop other steps) there.path)
      (lack_of (drop other steps) others) ago other (least other path there.path is.latest best there.is_best)
      (lacks_more (drop other steps) there.path others there.is_best is.is_path);
}

-- ---- four steps more

-- the sum of the sizes with one step more
one_more_size : (sum : ℕ) (step : Step) (steps : List Step) → IsStep step → sum ≡ low (pos (sum_of_sizes steps))
    → (sum + unsigned_abs step.sound) % 2 ^ 32 ≡ low (pos (sum_of_sizes (step ∷ steps)))
one_more_size sum step steps is sum_is =
    let few = size-within step is in
    let e = sizes-cons step steps in
    let both : pos (sum_of_sizes steps) +ℤ pos (unsigned_abs step.sound) ≡ pos (sum_of_sizes (step ∷ steps)) =
    omega (arith, ints, e) in
    ap (λ s. (s + unsigned_abs step.sound) % 2 ^ 32) sum_is
    ∙ ap (λ n. (low (pos (sum_of_sizes steps)) + n) % 2 ^ 32) (low_small (unsigned_abs step.sound) (omega (arith, few)))
    ∙ low-plus (pos (sum_of_sizes steps)) (pos (unsigned_abs step.sound)) ∙ ap low both

-- what is kept at one of the four
here_lacks : (all : List Step) (best : Four) (sizes lacks : List ℕ) (step : ℕ) → IsBestAt all best step
    → at_step sizes step ≡ low (pos (sum_of_sizes (steps_at step all)))
    → ((x y : ℤ) → at_step sizes step ≡ low x → at_step best.numbers step ≡ low y
    → at_step lacks step ≡ low (x -ℤ y))
    → HasLack (steps_at step all) (at_step lacks step)
here_lacks all best sizes lacks step is sizes_are minus = record {
  path = is.is.path;
  is_best = is.is.is_best;
  kept_is = minus (pos (sum_of_sizes (steps_at step all))) is.number sizes_are is.kept
      ∙ ap (λ y. low (pos (sum_of_sizes (steps_at step all)) -ℤ y)) is.is.number_is;
}

-- the ring has what is lacking at the four, and at those before
record AreFed (old new : LacksState) (all steps : List Step) (lacks : List ℕ) : Type 0 where
  next : IsNext old.next
  here : (step : ℕ) → step < 4 → get_or new.ring (old.next + step) 0 ≡ at_step lacks step
  others : (place : ℕ) → place < 128 → (place < old.next) ⊎ (old.next + 4 ≤ place)
      → get_or new.ring place 0 ≡ get_or old.ring place 0
  each : (step : ℕ) → step < 4 → HasLack (steps_at step all) (at_step lacks step)

fed_here : (old new : LacksState) (all steps : List Step) (lacks : List ℕ) (step ago : ℕ)
    → AreFed old new all steps lacks → step < 4 → ago ≡ 3 - step
    → HasLack (drop ago all) (get_or new.ring (place_ago ((old.next + 4) % 128) ago) 0)
fed_here old new all steps lacks step ago are within ago_is =
    let e : get_or new.ring (place_ago ((old.next + 4) % 128) (3 - step)) 0 ≡ at_step lacks step =
    ap (λ n. get_or new.ring n 0) (place_since old.next step are.next within) ∙ are.here step within in
    subst (λ a. HasLack (drop a all) (get_or new.ring (place_ago ((old.next + 4) % 128) a) 0)) (sym ago_is)
    (subst (HasLack (steps_at step all)) (sym e) (are.each step within))

fed_by : (old new : LacksState) (a b c d : Step) (steps : List Step) (lacks : List ℕ) (ago : ℕ)
    → AreFed old new (d ∷ c ∷ b ∷ a ∷ steps) steps lacks → LacksStandFor old steps → ago < 96
    → ago < length (d ∷ c ∷ b ∷ a ∷ steps)
    → HasLack (drop ago (d ∷ c ∷ b ∷ a ∷ steps)) (get_or new.ring (place_ago ((old.next + 4) % 128) ago) 0)
fed_by old new a b c d steps lacks zero are stand few within =
    fed_here old new (d ∷ c ∷ b ∷ a ∷ steps) steps lacks 3 0 are (omega arith) refl
fed_by old new a b c d steps lacks (suc zero) are stand few within =
    fed_here old new (d ∷ c ∷ b ∷ a ∷ steps) steps lacks 2 1 are (omega arith) refl
fed_by old new a b c d steps lacks (suc (suc zero)) are stand few within =
    fed_here old new (d ∷ c ∷ b ∷ a ∷ steps) steps lacks 1 2 are (omega arith) refl
fed_by old new a b c d steps lacks (suc (suc (suc zero))) are stand few within =
    fed_here old new (d ∷ c ∷ b ∷ a ∷ steps) steps lacks 0 3 are (omega arith) refl
fed_by old new a b c d steps lacks (suc (suc (suc (suc ago)))) are stand few within =
    let at : place_ago ((old.next + 4) % 128) (suc (suc (suc (suc ago)))) ≡ place_ago old.next ago =
    place_before old.next (suc (suc (suc (suc ago)))) are.next (omega arith) (omega (arith, few))
    ∙ ap (place_ago old.next) (let f : suc (suc (suc (suc ago))) - 4 ≡ ago = omega arith in f) in
    let same = ap (λ n. get_or new.ring n 0) at
    ∙ are.others (place_ago old.next ago) (omega arith) (place_apart old.next ago are.next (omega (arith, few))) in
    subst (HasLack (drop ago steps)) (sym same) (stand.each ago (omega (arith, few)) (omega (arith, within)))

pub lacks_fed : (old new : LacksState) (a b c d : Step) (steps : List Step) (best : Four) (sizes lacks : List ℕ)
    → IsNext old.next → new.next ≡ (old.next + 4) % 128 → new.sizes ≡ at_step sizes 3
    → at_step sizes 0 ≡ (old.sizes + unsigned_abs a.sound) % 2 ^ 32
    → at_step sizes 1 ≡ (at_step sizes 0 + unsigned_abs b.sound) % 2 ^ 32
    → at_step sizes 2 ≡ (at_step sizes 1 + unsigned_abs c.sound) % 2 ^ 32
    → at_step sizes 3 ≡ (at_step sizes 2 + unsigned_abs d.sound) % 2 ^ 32
    → ((step : ℕ) (x y : ℤ) → step < 4 → at_step sizes step ≡ low x → at_step best.numbers step ≡ low y
    → at_step lacks step ≡ low (x -ℤ y))
    → ((step : ℕ) → step < 4 → get_or new.ring (old.next + step) 0 ≡ at_step lacks step)
    → ((place : ℕ) → place < 128 → (place < old.next) ⊎ (old.next + 4 ≤ place)
    → get_or new.ring place 0 ≡ get_or old.ring place 0)
    → AreSteps (d ∷ c ∷ b ∷ a ∷ [])
    → ((step : ℕ) → step < 4 → IsBestAt (d ∷ c ∷ b ∷ a ∷ steps) best step)
    → LacksStandFor old steps → LacksStandFor new (d ∷ c ∷ b ∷ a ∷ steps)
lacks_fed old new a b c d steps best sizes lacks next new_next new_sizes p q r s minus here others are best_is stand =
    let all = d ∷ c ∷ b ∷ a ∷ steps in
    let one = p ∙ one_more_size old.sizes a steps are.1.1.1.0 stand.sizes in
    let two = q ∙ one_more_size (at_step sizes 0) b (a ∷ steps) are.1.1.0 one in
    let three = r ∙ one_more_size (at_step sizes 1) c (b ∷ a ∷ steps) are.1.0 two in
    let four = s ∙ one_more_size (at_step sizes 2) d (c ∷ b ∷ a ∷ steps) are.0 three in
    let fed : AreFed old new all steps lacks = record {
      next = next;
      here = here;
      others = others;
      each = λ step within. here_lacks all best sizes lacks step (best_is step within)
          (at_each_step (λ k. at_step sizes k ≡ low (pos (sum_of_sizes (steps_at k all)))) one two three four step
          within)
          (λ x y. minus step x y within);
    } in
    record {
      sizes = new_sizes ∙ four;
      each = λ ago few within. subst (λ n. HasLack (drop ago all) (get_or new.ring (place_ago n ago) 0)) (sym new_next)
          (fed_by old new a b c d steps lacks ago fed stand few within);
    }

-- ---- before the first step

none_is : low (pos 0) ≡ 0
none_is = sym (low_small 0 (omega arith))

pub no_lacks : (lacks : LacksState) → lacks.sizes ≡ 0 → LacksStandFor lacks []
no_lacks lacks none = record {
  sizes = none ∙ sym none_is ∙ ap (λ n. low (pos n)) (sym sizes-nil);
  each = λ ago few within. absurd (omega (arith, within));
}
