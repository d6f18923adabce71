-- A half is not taken for the second half of the damage before it.
use Rattle.std.proofs.Common.{◌≡◌, ℕ, zero, suc, ◌+◌, ◌-◌, ◌<◌, List, [], ◌∷◌, length, drop}
use Rattle.std.proofs.Common.{◌⊎◌, inl, inr}
use Rattle.std.proofs.Common.{ap, subst, sym, ◌∙◌, arith, length-append}
use Rattle.std.proofs.Math.Seq.{drop-nil}
use Rattle.std.proofs.lemmas.List.{drop_at}
use Rattle.std.proofs.lemmas.Grind.{flat_map-append}
use Rattle.biphase.specs.declared.profile.Profile.{Profile}
use Rattle.biphase.specs.declared.profile.Profile.TheVariants.{Normal, Worn, Rough}
use Rattle.biphase.specs.declared.cell.Cell.{Cell}
use Rattle.biphase.specs.declared.cell.Cell.TheVariants.{Zero, One}
use Rattle.biphase.specs.Pair.{AreUnequal}
use Rattle.biphase.specs.Latest.{Latest}
use Rattle.biphase.specs.Tolerance.{LooksAtLast, kept_next}
use Rattle.biphase.specs.Tolerance.{length_of, AreHalves, IsFirstHalf}
use Rattle.biphase.specs.Chain.{intervals_of, flat, kept_after, IsCell, IsChain, Follow}
use Rattle.biphase.specs.Chain.{IsChainAfter}
use Rattle.biphase.specs.KindLemmas.{zeros_equal, halves_equal}
use Rattle.biphase.specs.ToleranceLemmas.{behind_zero, last_next}
use Rattle.biphase.specs.Zeros.{IsZeroAt}
use Rattle.biphase.specs.ChainLemmas.{has_intervals}

-- ---- a half is not taken for the second half of the damage before it

-- the last interval of a chain is its last cell, or the second half of it
abbrev pub EndsIn : Profile → ℕ → ℕ → Type 0
EndsIn profile c a = (c ≡ a) ⊎ ((h : ℕ) × AreHalves profile h a × (c ≡ h + a))

pub last_interval : (profile : Profile) (c : Latest) (cell : Cell) (cells : List Cell) (k a : ℕ)
    → c.last ≡ length_of cell
    → IsCell profile cell
    → Follow profile c cells → drop k (flat (cell ∷ cells)) ≡ a ∷ []
    → EndsIn profile (kept_after profile c cells).last a
last_interval profile c (Zero x) [] zero a at is chain there = let same : x ≡ a = cc in inl (at ∙ same)
last_interval profile c (Zero x) [] (suc k) a at is chain there =
    absurd (omega (arith, ap length there, ap length (drop-nil {A = ℕ} k)))
last_interval profile c (Zero x) (next ∷ more) zero a at is chain there =
    absurd (omega (arith, has_intervals next, ap length there, length-append (intervals_of next) (flat more)))
last_interval profile c (Zero x) (next ∷ more) (suc k) a at is chain there =
    last_interval profile (kept_next profile c (length_of next)) next more k a
    (last_next profile c (length_of next)) chain.0 chain.2 there
last_interval profile c (One x y) cells zero a at is chain there = absurd (omega (arith, ap length there))
last_interval profile c (One x y) [] (suc zero) a at is chain there =
    let same : y ≡ a = cc in
    inr (x, subst (λ v. AreHalves profile x v) same is.2, at ∙ ap (λ v. x + v) same)
last_interval profile c (One x y) [] (suc (suc k)) a at is chain there =
    absurd (omega (arith, ap length there, ap length (drop-nil {A = ℕ} k)))
last_interval profile c (One x y) (next ∷ more) (suc zero) a at is chain there =
    absurd (omega (arith, has_intervals next, ap length there, length-append (intervals_of next) (flat more)))
last_interval profile c (One x y) (next ∷ more) (suc (suc k)) a at is chain there =
    last_interval profile (kept_next profile c (length_of next)) next more k a
    (last_next profile c (length_of next)) chain.0 chain.2 there

-- behind a last interval the greater one of an unequal pair is no first half
no_half_zero : (profile : Profile) → LooksAtLast profile → (c : Latest) (a b : ℕ) → c.last ≡ a → AreUnequal profile a b
    → a < b
    → IsFirstHalf profile c b → ⊥
no_half_zero Normal looks c a b same unequal rises half = omega arith
no_half_zero Worn looks c a b same unequal rises half = omega arith
no_half_zero Rough looks c a b same unequal rises half = absurd looks

no_half_one : (profile : Profile) → LooksAtLast profile → (c : Latest) (h a b : ℕ) → c.last ≡ h + a
    → AreHalves profile h a
    → AreUnequal profile a b → a < b → IsFirstHalf profile c b → ⊥
no_half_one Normal looks c h a b same halves unequal rises half = omega arith
no_half_one Worn looks c h a b same halves unequal rises half = omega arith
no_half_one Rough looks c h a b same halves unequal rises half = absurd looks

pub no_half : (profile : Profile) → LooksAtLast profile → (c : Latest) (a b : ℕ) → EndsIn profile c.last a
    → AreUnequal profile a b → a < b
    → IsFirstHalf profile c b → ⊥
no_half profile looks c a b (inl same) unequal rises half = no_half_zero profile looks c a b same unequal rises half
no_half profile looks c a b (inr (h, halves, same)) unequal rises half =
    no_half_one profile looks c h a b same halves unequal rises half

-- in a chain no unequal pair follows a zero and a half
zero_half_after : (profile : Profile) → LooksAtLast profile → (a b d : ℕ) (rest : List ℕ) (after : List Cell)
    → IsChainAfter profile a after
    → flat after ≡ b ∷ d ∷ rest → AreUnequal profile a b → AreUnequal profile b d → ⊥
zero_half_after profile looks a b d rest [] chain there first second = absurd (omega (arith, ap length there))
zero_half_after profile looks a b d rest (Zero x ∷ after) chain there first second =
    let same : x ≡ b = cc in first.0 (rw (← same) (zeros_equal profile looks a x chain.1))
zero_half_after profile looks a b d rest (One x y ∷ after) chain there first second =
    let same : x ≡ b = cc in
    let too : y ≡ d = cc in
    second.0 (rw (← same, ← too) (halves_equal profile looks x y chain.0.2))

pub zero_half_half : (profile : Profile) → LooksAtLast profile → (cells : List Cell) (k a b d : ℕ) (rest : List ℕ)
    → IsChain profile cells → IsZeroAt cells k a
    → drop k (flat cells) ≡ a ∷ b ∷ d ∷ rest → AreUnequal profile a b → AreUnequal profile b d → ⊥
zero_half_half profile looks cells k a b d rest chain is there first second =
    let behind : a ∷ flat is.after ≡ a ∷ b ∷ d ∷ rest =
    sym (drop_at (flat is.before) (a ∷ flat is.after) k is.place)
    ∙ ap (drop k) (sym (flat_map-append intervals_of is.before (Zero a ∷ is.after)))
    ∙ ap (λ (cs : List Cell). drop k (flat cs)) (sym is.are) ∙ there in
    let after : flat is.after ≡ b ∷ d ∷ rest = cc in
    zero_half_after profile looks a b d rest is.after
    (behind_zero profile is.before is.after a (subst (IsChain profile) is.are chain)).1 after first second
