-- What goes over wherever another does, and reaches the side no later, has gone over as often at each moment: to go
-- over k times the
-- one needs k sides in turn, and the other has met them.
use Rattle.std.proofs.Common.{◌≡◌, ℕ, zero, suc, ◌+◌, ◌-◌, ◌*◌, ◌<◌, ◌≤◌, Bool, true, false, cond, List, [], ◌∷◌, ◌++◌}
use Rattle.std.proofs.Common.{refl, ap, subst, append_assoc, mul-le-mul_left, arith}
use Rattle.std.specs.List.{AllByRecursion}
use Rattle.pcm_front.specs.declared.side.Side.{Side}
use Rattle.pcm_front.specs.Side.{other_side}
use Rattle.tape_sound.specs.Margin.{turns_by, ComeBehind}

-- the one is on a side, and the other, which is ahead by these turns, on this one
abbrev IsAhead : List ℕ → Side → Side → Type 0
IsAhead [] side ahead = ahead ≡ side
IsAhead (m ∷ ms) side ahead = IsAhead ms (other_side side) ahead

ahead_more : (ms : List ℕ) (m : ℕ) (side ahead : Side) → IsAhead ms side ahead
    → IsAhead (ms ++ m ∷ []) side (other_side ahead)
ahead_more [] m side ahead is = ap other_side is
ahead_more (l ∷ ms) m side ahead is = ahead_more ms m (other_side side) ahead is

all_push : (most : ℕ) (us : List ℕ) (m : ℕ) → AllByRecursion (λ u. u ≤ most) us → m ≤ most
    → AllByRecursion (λ u. u ≤ most) (us ++ m ∷ [])
all_push most [] m all small = (small, tt)
all_push most (u ∷ us) m all small = (all.0, all_push most us m all.1 small)

all_less : (less most : ℕ) (us : List ℕ) → less ≤ most → AllByRecursion (λ u. u ≤ less) us
    → AllByRecursion (λ u. u ≤ most) us
all_less less most [] more all = tt
all_less less most (u ∷ us) more all = (omega (arith, all.0, more), all_less less most us more all.1)

-- each of them goes over at a moment in the step to the place, and the other one wherever the one does, and no later
pub record Leads (f from n : ℕ) (goes over : ℕ → Side → Bool) (at by : ℕ → Side → ℕ) : Type 0 where
  pub too : (i : ℕ) → from ≤ i → i < n → (side : Side) → goes i side ≡ true → over i side ≡ true
  pub later : (i : ℕ) → from ≤ i → i < n → (side : Side) → goes i side ≡ true → by i side ≤ at i side
  pub least : (i : ℕ) → from ≤ i → i < n → (side : Side) → goes i side ≡ true → f * (i - 1) ≤ at i side
  pub most : (i : ℕ) → from ≤ i → i < n → (side : Side) → over i side ≡ true → by i side ≤ f * (i + 1 - 1)

module _ (f from n : ℕ) (goes over : ℕ → Side → Bool) (at by : ℕ → Side → ℕ) (leads : Leads f from n goes over at by)
  where
    abbrev AreEarly : ℕ → List ℕ → Type 0
    AreEarly a us = AllByRecursion (λ m. m ≤ f * (a - 1)) us

    later_bound : (a : ℕ) → f * (a - 1) ≤ f * (a + 1 - 1)
    later_bound a = mul-le-mul_left f (omega arith)

    step : (a : ℕ) → from ≤ a → a < n → (side ahead : Side) (b c : Bool) → goes a (other_side side) ≡ b
        → over a (other_side ahead) ≡ c
        → (rest : Side → List ℕ) (rest_too : Side → List ℕ)
        → ((s t : Side) (vs : List ℕ) → AreEarly (a + 1) vs → IsAhead vs s t → ComeBehind (rest s) (vs ++ rest_too t))
        → (us : List ℕ) → AreEarly a us → IsAhead us side ahead
        → ComeBehind (cond b (at a (other_side side) ∷ rest (other_side side)) (rest side))
        (us ++ cond c (by a (other_side ahead) ∷ rest_too (other_side ahead)) (rest_too ahead))
    step a first below side ahead false false is is_too rest rest_too more us early stand =
        more side ahead us (all_less _ _ us (later_bound a) early) stand
    step a first below side ahead false true is is_too rest rest_too more us early stand =
        let m = by a (other_side ahead) in
        let goes_on = more side (other_side ahead) (us ++ m ∷ [])
        (all_push _ us m (all_less _ _ us (later_bound a) early) (leads.most a first below (other_side ahead) is_too))
        (ahead_more us m side ahead stand) in
        subst (λ (l : List ℕ). ComeBehind (rest side) l) (append_assoc us (m ∷ []) (rest_too (other_side ahead)))
        goes_on
    step a first below side ahead true false is is_too rest rest_too more [] early stand =
        let same : over a (other_side ahead) ≡ over a (other_side side) =
        ap (λ (s : Side). over a (other_side s)) stand in
        let goes_too = leads.too a first below (other_side side) is in absurd (cc)
    step a first below side ahead true false is is_too rest rest_too more (m ∷ us) early stand = (
      let least = leads.least a first below (other_side side) is in omega (arith, early.0, least),
      more (other_side side) ahead us (all_less _ _ us (later_bound a) early.1) stand,
    )
    step a first below side ahead true true is is_too rest rest_too more [] early stand = (
      let same : by a (other_side ahead) ≡ by a (other_side side) = ap (λ (s : Side). by a (other_side s)) stand in
          let later = leads.later a first below (other_side side) is in omega (arith, same, later),
      more (other_side side) (other_side ahead) [] tt (ap other_side stand),
    )
    step a first below side ahead true true is is_too rest rest_too more (m ∷ us) early stand =
        let l = by a (other_side ahead) in
        let goes_on = more (other_side side) (other_side ahead) (us ++ l ∷ [])
        (all_push _ us l (all_less _ _ us (later_bound a) early.1) (leads.most a first below (other_side ahead) is_too))
        (ahead_more us l (other_side side) ahead stand) in (
          let least = leads.least a first below (other_side side) is in omega (arith, early.0, least),
          subst (λ (all : List ℕ). ComeBehind (rest (other_side side)) all)
              (append_assoc us (l ∷ []) (rest_too (other_side ahead))) goes_on,
        )

    steps : (a k : ℕ) → from ≤ a → a + k ≤ n → (side ahead : Side) (us : List ℕ) → AreEarly a us → IsAhead us side ahead
        → ComeBehind (turns_by goes at side a k) (us ++ turns_by over by ahead a k)
    steps a zero first within side ahead us early stand = tt
    steps a (suc k) first within side ahead us early stand =
        step a first (omega (arith, within)) side ahead (goes a (other_side side)) (over a (other_side ahead)) refl refl
        (λ s. turns_by goes at s (a + 1) k) (λ t. turns_by over by t (a + 1) k)
        (λ s t vs early_too stand_too. steps (a + 1) k (omega (arith, first)) (omega (arith, within)) s t vs early_too
        stand_too)
        us early stand

    pub turns_behind : (a k : ℕ) → from ≤ a → a + k ≤ n → (side : Side)
        → ComeBehind (turns_by goes at side a k) (turns_by over by side a k)
    turns_behind a k first within side = steps a k first within side side [] tt refl
